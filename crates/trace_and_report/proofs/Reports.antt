-- The files of what a draft keeps.
use Rattle.std.proofs.Common.{◌≡◌, ◌∙◌, ℕ, ◌+◌, ◌<◌, add-one, Bool, true, false, cond, List, [], ◌∷◌, ◌++◌, length, take, get_or, append_assoc, append-nil, map, Option, Some, None, refl, ap, sym, subst}
use Rattle.std.specs.Prelude.{filter_map}
use Rattle.std.specs.List.{cons_option}
use Rattle.std.proofs.lemmas.List.{length-map, map-append}
use Rattle.std.proofs.Math.Seq.{take-suc}
use Rattle.basis.specs.Lists.{firsts}
use Rattle.script_tree.specs.Objects.{is_same}
use Rattle.script_tree.specs.declared.operation.Object.{Object}
use Rattle.script_tree.specs.declared.path.Path.{Path}
use Rattle.wire.specs.Files.{file_spelling, record_spelling, records_spelling}
use Rattle.period.specs.declared.report.Count.{Count}
use Rattle.period.specs.declared.report.Log.{Log}
use Rattle.period.specs.declared.report.LogEntry.{LogEntry}
use Rattle.report_format.specs.Parts.{AllAllowed}
use Rattle.report_format.specs.Reports.{any_record_field, count_field, entry_field, group_field, log_field, records_of, report_format, IsRecord, IsSpellable}
use Rattle.report_format.specs.declared.format.ReportRecord.{ReportRecord}
use Rattle.report_format.specs.declared.format.ReportRecord.TheVariants as it
use Rattle.history.specs.Names.{Named, came, did, went}
use Rattle.script_tree.specs.Paths.{same_path}
use Rattle.history.specs.ReportOf.{did_in, count_in, object_in, entry_in, log_in, path_in, member_in, report_in}
use Rattle.trace_and_report.specs.Draft.{IsOfNames, HasSpelling, arrival_in, counted, count_at, entry_of}
use Rattle.trace_and_report.specs.Grouped.{groups_in, grouped, HaveMembers}
use Rattle.trace_and_report.specs.Widths.{Each, IsWideCount}
use Rattle.trace_and_report.specs.Written.{AreAdded, count_records, group_record, log_record, HasSpellings}
use Rattle.trace_and_report.specs.declared.draft.Draft.{Draft}
use Rattle.trace_and_report.proofs.Alike.{paths_laws}
use Rattle.trace_and_report.proofs.Drafts.{file_append, records_append, taken_in, path_taken, member_taken}
use Rattle.trace_and_report.proofs.Groupings.{grouped_have}

-- ---- records behind others

AllAllowed-append : (xs ys : List ReportRecord) → AllAllowed any_record_field xs → AllAllowed any_record_field ys → AllAllowed any_record_field (xs ++ ys)
AllAllowed-append [] ys p q = q
AllAllowed-append (x ∷ xs) ys p q = (p.0, AllAllowed-append xs ys p.1 q)

pub none_added : (bytes : List ℕ) → AreAdded [] bytes bytes
none_added bytes = record { behind = sym (append-nil bytes); allowed = tt }

pub one_added : (rs : List ReportRecord) (r : ReportRecord) (old mid new : List ℕ) → AreAdded rs old mid
    → new ≡ mid ++ record_spelling report_format r → IsRecord r → AreAdded (rs ++ r ∷ []) old new
one_added rs r old mid new added is allowed = record {
  behind =
      is ∙ ap (λ bs. bs ++ record_spelling report_format r) added.behind
      ∙ append_assoc old (records_spelling report_format rs) (record_spelling report_format r)
      ∙ ap (λ bs. old ++ (records_spelling report_format rs ++ bs)) (sym (append-nil (record_spelling report_format r)))
      ∙ ap (λ bs. old ++ bs) (sym (records_append report_format rs (r ∷ [])));
  allowed = AllAllowed-append rs (r ∷ []) added.allowed (allowed, tt);
}

pub counts_more : (operations : List (Option ℕ)) (arrived : List ℕ) (i n : ℕ) (old mid new : List ℕ)
    → AreAdded (count_records operations (take i arrived)) old mid
    → i < length arrived → n ≡ counted operations (get_or arrived i 0) → IsWideCount (record { rid = get_or arrived i 0; operations = n })
    → new ≡ mid ++ record_spelling report_format (it.Count (record { rid = get_or arrived i 0; operations = n }))
    → AreAdded (count_records operations (take (i + 1) arrived)) old new
counts_more operations arrived i n old mid new added inside is wide more =
    let rid : ℕ = get_or arrived i 0 in
    let count : Count = record { rid = rid; operations = n } in
    let next : take (i + 1) arrived ≡ take i arrived ++ rid ∷ [] = ap (λ k. take k arrived) (add-one i) ∙ take-suc arrived i 0 inside in
    let so : it.Count count ≡ it.Count (count_at operations rid) = ap (λ k. it.Count (record { rid = rid; operations = k })) is in
    let all : count_records operations (take i arrived) ++ it.Count count ∷ [] ≡ count_records operations (take (i + 1) arrived)
    = ap (λ r. count_records operations (take i arrived) ++ r ∷ []) so
    ∙ sym (map-append _ (take i arrived) (rid ∷ [])) ∙ sym (ap (count_records operations) next) in
    subst (λ rs. AreAdded rs old new) all (one_added (count_records operations (take i arrived)) (it.Count count) old mid new added more wide)

-- ---- what is allowed of the records of a kind

counts_allowed : (cs : List Count) → AllAllowed any_record_field (map it.Count cs) → AllAllowed count_field cs
counts_allowed [] p = tt
counts_allowed (c ∷ cs) p = (p.0, counts_allowed cs p.1)

logs_allowed : (ls : List Log) → AllAllowed any_record_field (map it.Log ls) → AllAllowed log_field ls
logs_allowed [] p = tt
logs_allowed (l ∷ ls) p = (p.0, logs_allowed ls p.1)

groups_allowed : (gs : List (List ℕ)) → AllAllowed any_record_field (map it.Group gs) → AllAllowed group_field gs
groups_allowed [] p = tt
groups_allowed (g ∷ gs) p = (p.0, groups_allowed gs p.1)

-- ---- the parts of a report

pub mapped : {A B C : Type 0} (f : B → C) (g : A → B) (xs : List A) → map f (map g xs) ≡ map (λ x. f (g x)) xs
mapped f g [] = refl
mapped f g (x ∷ xs) = ap (λ ys. f (g x) ∷ ys) (mapped f g xs)

pub counts_so : (whole names : List Named) (operations : List (Option ℕ)) → ((r : ℕ) → counted operations r ≡ length (filter_map (did_in r) whole))
    → map (count_at operations) (filter_map arrival_in names) ≡ filter_map (count_in whole) names
counts_so whole [] operations is = refl
counts_so whole (came r request ∷ names) operations is = λ i. record { rid = r; operations = is r i } ∷ counts_so whole names operations is i
counts_so whole (did r k op choice ∷ names) operations is = counts_so whole names operations is
counts_so whole (went r response path ∷ names) operations is = counts_so whole names operations is

counts_are : (names : List Named) (draft : Draft) → IsOfNames names draft
    → count_records draft.operations.items draft.arrived.items ≡ map it.Count (report_in names).counts
counts_are names draft of =
    sym (mapped it.Count (count_at draft.operations.items) draft.arrived.items)
    ∙ ap (λ rs. map it.Count (map (count_at draft.operations.items) rs)) of.arrived
    ∙ ap (map it.Count) (counts_so names names draft.operations.items of.operations)

abbrev pub logs_of : List Named → List (Object × List LogEntry)
logs_of names = grouped is_same object_in entry_in names

logs_are : (names : List Named) → map log_record (logs_of names) ≡ map it.Log (report_in names).logs
logs_are names =
    let objects : List Object = firsts is_same (filter_map object_in names) in
    mapped log_record (λ o. (o, filter_map (entry_in o) names)) objects ∙ sym (mapped it.Log (λ o. record { object = o; entries = log_in names o }) objects)

groups_are : (names : List Named) (draft : Draft) → IsOfNames names draft
    → map group_record (groups_in draft.groups) ≡ map it.Group (report_in names).groups
groups_are names draft of =
    let paths : List Path = firsts same_path (filter_map path_in names) in
    ap (map group_record) of.groups ∙ mapped group_record (λ p. (p, filter_map (member_in p) names)) paths
    ∙ sym (mapped it.Group (λ p. filter_map (member_in p) names) paths)

pub have_members : (names : List Named) (draft : Draft) → IsOfNames names draft → HaveMembers (groups_in draft.groups)
have_members names draft of =
    subst HaveMembers (sym of.groups) (grouped_have same_path taken_in path_in member_in paths_laws path_taken member_taken names)

pub as_many_groups : (names : List Named) (draft : Draft) → IsOfNames names draft → length (groups_in draft.groups) ≡ length (report_in names).groups
as_many_groups names draft of =
    let paths : List Path = firsts same_path (filter_map path_in names) in
    ap length of.groups ∙ length-map paths _ ∙ sym (length-map paths _)

-- ---- the entries of each log may be spelled

entries_spelled : (o : Object) (names : List Named) → Each HasSpelling names → AllAllowed entry_field (filter_map (entry_in o) names)
entries_spelled o [] each = tt
entries_spelled o (came r request ∷ names) each = entries_spelled o names each.1
entries_spelled o (did r k op choice ∷ names) each = by (is_same o op.object) (filter_map (entry_in o) names) (entries_spelled o names each.1)
  where
    by : (b : Bool) (es : List LogEntry) → AllAllowed entry_field es → AllAllowed entry_field (cons_option (cond b (Some (entry_of r k op choice)) None) es)
    by true es rest = (each.0, rest)
    by false es rest = rest
entries_spelled o (went r response path ∷ names) each = entries_spelled o names each.1

all_spelled : (names : List Named) (objects : List Object) → Each HasSpelling names → Each HasSpellings (map (λ o. (o, filter_map (entry_in o) names)) objects)
all_spelled names [] each = tt
all_spelled names (o ∷ objects) each = (entries_spelled o names each, all_spelled names objects each)

pub logs_spelled : (names : List Named) → Each HasSpelling names → Each HasSpellings (logs_of names)
logs_spelled names each = all_spelled names (firsts is_same (filter_map object_in names)) each

-- ---- the whole

-- The bytes, with counts, logs and groups behind one another, are the file of the report; and it may be spelled.
pub record IsWhole (names : List Named) (bytes : List ℕ) : Type 0 where
  pub file : bytes ≡ file_spelling report_format (records_of (report_in names))
  pub spellable : IsSpellable (report_in names)

pub whole : (names : List Named) (draft : Draft) (first counts logs groups : List ℕ) → IsOfNames names draft → first ≡ file_spelling report_format []
    → AreAdded (count_records draft.operations.items draft.arrived.items) first counts → AreAdded (map log_record (logs_of names)) counts logs
    → AreAdded (map group_record (groups_in draft.groups)) logs groups → IsWhole names groups
whole names draft first counts logs groups of is added_counts added_logs added_groups =
    let cs : List ReportRecord = map it.Count (report_in names).counts in
    let ls : List ReportRecord = map it.Log (report_in names).logs in
    let gs : List ReportRecord = map it.Group (report_in names).groups in
    let c : AreAdded cs first counts = subst (λ rs. AreAdded rs first counts) (counts_are names draft of) added_counts in
    let l : AreAdded ls counts logs = subst (λ rs. AreAdded rs counts logs) (logs_are names) added_logs in
    let g : AreAdded gs logs groups = subst (λ rs. AreAdded rs logs groups) (groups_are names draft of) added_groups in
    record {
      file =
          g.behind ∙ ap (λ bs. bs ++ records_spelling report_format gs)
          (l.behind ∙ ap (λ bs. bs ++ records_spelling report_format ls)
          (c.behind ∙ ap (λ bs. bs ++ records_spelling report_format cs) is))
          ∙ sym (file_append report_format (cs ++ ls) gs
          ∙ ap (λ bs. bs ++ records_spelling report_format gs)
          (file_append report_format cs ls ∙ ap (λ bs. bs ++ records_spelling report_format ls)
          (file_append report_format [] cs)))
          ∙ ap (file_spelling report_format) (append_assoc cs ls gs);
      spellable = record {
        counts = counts_allowed (report_in names).counts c.allowed;
        logs = logs_allowed (report_in names).logs l.allowed;
        groups = groups_allowed (report_in names).groups g.allowed;
      };
    }
