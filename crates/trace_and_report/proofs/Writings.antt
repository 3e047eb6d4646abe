-- Logs and groups that are written one after the other.
use Rattle.std.proofs.Common.{◌≡◌, ◌∙◌, ℕ, List, [], ◌∷◌, ◌++◌, append_assoc, append-nil, map, refl, ap, sym, subst}
use Rattle.std.proofs.lemmas.List.{map-append}
use Rattle.script_tree.specs.declared.operation.Object.{Object}
use Rattle.script_tree.specs.declared.path.Path.{Path}
use Rattle.wire.specs.Files.{record_spelling}
use Rattle.period.specs.declared.report.LogEntry.{LogEntry}
use Rattle.report_format.specs.Operations.{IsObject}
use Rattle.report_format.specs.Reports.{report_format}
use Rattle.report_format.specs.Spelled.{Spelled, spelled, log_with}
use Rattle.report_format.specs.declared.format.ReportRecord.TheVariants as it
use Rattle.trace_and_report.specs.Draft.{spelled_log}
use Rattle.trace_and_report.specs.Grouped.{HaveMembers}
use Rattle.trace_and_report.specs.Widths.{Each, IsWide, IsWideGroup}
use Rattle.trace_and_report.specs.Written.{AreAdded, group_record, log_record, HasSpellings}
use Rattle.trace_and_report.proofs.Allowed.{numbers_allowed}
use Rattle.trace_and_report.proofs.Reports.{none_added, one_added}

-- Some of these logs are written, and those that are left are the others.
pub record AreUnderWay (gs : List (Object × List LogEntry)) (left : List (Object × Spelled)) (old new : List ℕ) : Type 0 where
  pub done : List (Object × List LogEntry)
  pub others : List (Object × List LogEntry)
  pub all : gs ≡ done ++ others
  pub are : left ≡ map spelled_log others
  pub may : Each HasSpellings others
  pub added : AreAdded (map log_record done) old new

pub begin : (gs : List (Object × List LogEntry)) (left all : List (Object × Spelled)) (bytes : List ℕ) → left ≡ all
    → all ≡ map spelled_log gs → Each HasSpellings gs
    → AreUnderWay gs left bytes bytes
begin gs left all bytes same are may = record { done = []; others = gs; all = refl; are = same ∙ are; may = may; added = none_added bytes }

head_is : (a b : Object × Spelled) (xs ys : List (Object × Spelled)) → a ∷ xs ≡ b ∷ ys → a ≡ b
head_is a b xs ys e = cc

rest_is : (a b : Object × Spelled) (xs ys : List (Object × Spelled)) → a ∷ xs ≡ b ∷ ys → xs ≡ ys
rest_is a b xs ys e = cc

pub goes_on : (gs : List (Object × List LogEntry)) (object : Object) (entries : Spelled) (left : List (Object × Spelled)) (old mid new : List ℕ)
    → AreUnderWay gs ((object, entries) ∷ left) old mid → IsObject object → IsWide entries.count
    → ((es : List LogEntry) → entries ≡ spelled es → new ≡ mid ++ record_spelling report_format (it.Log (log_with object es)))
    → AreUnderWay gs left old new
goes_on gs object entries left old mid new under may wide adds = by under.others refl
  where
    by : (others : List (Object × List LogEntry)) → under.others ≡ others → AreUnderWay gs left old new
    by [] is = absurd (no_log (under.are ∙ ap (map spelled_log) is))
      where
        no_log : (object, entries) ∷ left ≡ [] → ⊥
        no_log e = cc
    by (g ∷ others) is =
        let are : (object, entries) ∷ left ≡ spelled_log g ∷ map spelled_log others = under.are ∙ ap (map spelled_log) is in
        let here : (object, entries) ≡ spelled_log g = head_is (object, entries) (spelled_log g) left (map spelled_log others) are in
        let named : object ≡ g.0 = ap (λ (p : Object × Spelled). p.0) here in
        let logged : entries ≡ spelled g.1 = ap (λ (p : Object × Spelled). p.1) here in
        let spellings : Each HasSpellings (g ∷ others) = subst (Each HasSpellings) is under.may in
        record {
          done = under.done ++ g ∷ [];
          others = others;
          all = under.all ∙ ap (λ hs. under.done ++ hs) is ∙ sym (append_assoc under.done (g ∷ []) others);
          are = rest_is (object, entries) (spelled_log g) left (map spelled_log others) are;
          may = spellings.1;
          added =
              subst (λ rs. AreAdded rs old new) (sym (map-append log_record under.done (g ∷ [])))
              (one_added (map log_record under.done) (log_record g) old mid new under.added
              (adds g.1 logged ∙ ap (λ o. mid ++ record_spelling report_format (it.Log (log_with o g.1))) named)
              (subst IsObject named may, (subst (λ (s : Spelled). IsWide s.count) logged wide, spellings.0)));
        }

no_others : (hs : List (Object × List LogEntry)) → map spelled_log hs ≡ [] → hs ≡ []
no_others [] e = refl
no_others (h ∷ hs) e = absurd (cc)

pub ends : (gs : List (Object × List LogEntry)) (left : List (Object × Spelled)) (old new : List ℕ)
    → AreUnderWay gs left old new → left ≡ [] → AreAdded (map log_record gs) old new
ends gs left old new under none = subst (λ hs. AreAdded (map log_record hs) old new) (sym (under.all ∙ ap (λ hs. under.done ++ hs) (no_others under.others (sym under.are ∙ none)) ∙ append-nil under.done)) under.added

-- ---- groups

-- Some of these groups are written, and these are left, each with a member.
pub record AreGroupsUnderWay (all left : List (Path × List ℕ)) (old new : List ℕ) : Type 0 where
  pub done : List (Path × List ℕ)
  pub whole : all ≡ done ++ left
  pub have : HaveMembers left
  pub added : AreAdded (map group_record done) old new

pub groups_begin : (all left : List (Path × List ℕ)) (bytes : List ℕ) → left ≡ all → HaveMembers all → AreGroupsUnderWay all left bytes bytes
groups_begin all left bytes is have = record { done = []; whole = sym is; have = subst HaveMembers (sym is) have; added = none_added bytes }

pub group_goes_on : (all left : List (Path × List ℕ)) (path : Path) (rids group : List ℕ) (old mid new : List ℕ)
    → AreGroupsUnderWay all ((path, rids) ∷ left) old mid
    → group ≡ rids → IsWideGroup group → new ≡ mid ++ record_spelling report_format (it.Group group) → AreGroupsUnderWay all left old new
group_goes_on all left path rids group old mid new under is wide more = record {
  done = under.done ++ (path, group) ∷ [];
  whole = under.whole ∙ ap (λ g. under.done ++ (path, g) ∷ left) (sym is) ∙ sym (append_assoc under.done ((path, group) ∷ []) left);
  have = under.have.1;
  added =
      subst (λ rs. AreAdded rs old new) (sym (map-append group_record under.done ((path, group) ∷ [])))
      (one_added (map group_record under.done) (it.Group group) old mid new under.added more (wide.0, (wide.1.0, numbers_allowed group wide.1.1)));
}

pub groups_end : (all left : List (Path × List ℕ)) (old new : List ℕ) → AreGroupsUnderWay all left old new → left ≡ [] → AreAdded (map group_record all) old new
groups_end all left old new under none =
    subst (λ gs. AreAdded (map group_record gs) old new) (sym (under.whole ∙ ap (λ gs. under.done ++ gs) none ∙ append-nil under.done)) under.added
