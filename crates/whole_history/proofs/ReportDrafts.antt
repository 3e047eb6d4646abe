-- The parts of a report, with one name more; and the report of them.
use Rattle.std.proofs.Common.{◌≡◌, ◌∙◌, ℕ, ◌+◌, ◌<◌, add-one, add-zero, List, [], ◌∷◌, ◌++◌, length, length-append, take, get_or, append_assoc, append-nil, map, Option, ap, sym, subst}
use Rattle.std.specs.Prelude.{filter_map, nat_eq}
use Rattle.std.specs.List.{cons_option}
use Rattle.std.proofs.lemmas.List.{map-append}
use Rattle.std.proofs.Math.Seq.{take-suc}
use Rattle.basis.specs.Lists.{firsts}
use Rattle.script_tree.specs.Objects.{is_same}
use Rattle.script_tree.specs.Paths.{same_path}
use Rattle.script_tree.specs.Requests.{Request}
use Rattle.script_tree.specs.declared.operation.Act.{Act}
use Rattle.script_tree.specs.declared.operation.Choice.{Choice}
use Rattle.script_tree.specs.declared.operation.Object.{Object}
use Rattle.script_tree.specs.declared.operation.Op.{Op}
use Rattle.script_tree.specs.declared.path.Path.{Path}
use Rattle.script_tree.specs.declared.request.Response.{Response}
use Rattle.period.specs.declared.report.Count.{Count}
use Rattle.period.specs.declared.report.Log.{Log}
use Rattle.period.specs.declared.report.LogEntry.{LogEntry}
use Rattle.history.specs.Names.{Named, came, did, went}
use Rattle.history.specs.ReportOf.{did_in, object_in, entry_in, path_in, member_in, report_in}
use Rattle.trace_and_report.specs.Draft.{arrival_in, counted, count_at, entry_of, one_more_of}
use Rattle.trace_and_report.specs.Grouped.{groups_in, and_member, HaveMembers}
use Rattle.trace_and_report.proofs.Alike.{objects_laws, paths_laws}
use Rattle.trace_and_report.proofs.Drafts.{counted_more, used_in, object_used, entry_used, taken_in, path_taken, member_taken}
use Rattle.trace_and_report.proofs.Groupings.{and_member_if, filter_map_more, grouped_more, grouped_have}
use Rattle.trace_and_report.proofs.Reports.{counts_so, mapped}
use Rattle.whole_history.specs.Drafts.{IsReportDraft, log_of, members_of}
use Rattle.whole_history.specs.declared.reports.ReportDraft.{ReportDraft}

-- ---- one name more

goes_on : (names : List Named) (named : Named) (old new : ReportDraft) → IsReportDraft names old
    → new.arrived.items ≡ old.arrived.items ++ cons_option (arrival_in named) []
    → ((r : ℕ) → counted new.operations.items r ≡ counted old.operations.items r + length (cons_option (did_in r named) []))
    → groups_in new.logs ≡ and_member_if is_same (used_in named) (groups_in old.logs)
    → groups_in new.groups ≡ and_member_if same_path (taken_in named) (groups_in old.groups)
    → IsReportDraft (names ++ named ∷ []) new
goes_on names named old new is arrived operations logs groups = record {
  arrived = arrived ∙ ap (λ rs. rs ++ cons_option (arrival_in named) []) is.arrived ∙ sym (filter_map_more arrival_in names named);
  operations = λ r.
      operations r ∙ ap (λ n. n + length (cons_option (did_in r named) [])) (is.operations r)
      ∙ sym (length-append (filter_map (did_in r) names) (cons_option (did_in r named) [])) ∙ sym (ap length (filter_map_more (did_in r) names named));
  logs =
      logs ∙ ap (and_member_if is_same (used_in named)) is.logs
      ∙ sym (grouped_more is_same used_in object_in entry_in objects_laws object_used entry_used names named);
  groups =
      groups ∙ ap (and_member_if same_path (taken_in named)) is.groups
      ∙ sym (grouped_more same_path taken_in path_in member_in paths_laws path_taken member_taken names named);
}

pub arrives : (names : List Named) (old new : ReportDraft) (rid : ℕ) (request : Request) → IsReportDraft names old
    → new.arrived.items ≡ old.arrived.items ++ rid ∷ [] → new.operations ≡ old.operations → new.logs ≡ old.logs → new.groups ≡ old.groups
    → IsReportDraft (names ++ came rid request ∷ []) new
arrives names old new rid request is arrived operations logs groups =
    goes_on names (came rid request) old new is arrived (λ r. ap (λ ns. counted ns.items r) operations ∙ sym (add-zero (counted old.operations.items r)))
    (ap groups_in logs) (ap groups_in groups)

pub acts : (names : List Named) (old new : ReportDraft) (rid number : ℕ) (op : Op) (choice : Choice) → IsReportDraft names old
    → new.arrived ≡ old.arrived → ((r : ℕ) → counted new.operations.items r ≡ one_more_of rid (counted old.operations.items) r)
    → groups_in new.logs ≡ and_member is_same op.object (entry_of rid number op choice) (groups_in old.logs) → new.groups ≡ old.groups
    → IsReportDraft (names ++ did rid number op choice ∷ []) new
acts names old new rid number op choice is arrived operations logs groups =
    goes_on names (did rid number op choice) old new is (ap (λ rs. rs.items) arrived ∙ sym (append-nil old.arrived.items))
    (λ r. operations r ∙ counted_more (nat_eq r rid) (counted old.operations.items r) number) logs (ap groups_in groups)

pub departs : (names : List Named) (old new : ReportDraft) (rid : ℕ) (response : Response) (path : Path) → IsReportDraft names old
    → new.arrived ≡ old.arrived → new.operations ≡ old.operations → new.logs ≡ old.logs
    → groups_in new.groups ≡ and_member same_path path rid (groups_in old.groups)
    → IsReportDraft (names ++ went rid response path ∷ []) new
departs names old new rid response path is arrived operations logs groups =
    goes_on names (went rid response path) old new is (ap (λ rs. rs.items) arrived ∙ sym (append-nil old.arrived.items))
    (λ r. ap (λ ns. counted ns.items r) operations ∙ sym (add-zero (counted old.operations.items r))) (ap groups_in logs) groups

-- what is copied of an operation is its entry
pub same_entry : (rid number : ℕ) (choice : Choice) (object : Object) (act : Act) (op : Op)
    (logs : List (Object × List LogEntry)) → object ≡ op.object → act ≡ op.act
    → and_member is_same object (record { rid = rid; number = number; act = act; choice = choice }) logs
    ≡ and_member is_same op.object (entry_of rid number op choice) logs
same_entry rid number choice object act op logs same_object same_act =
    λ i. and_member is_same (same_object i) (record { rid = rid; number = number; act = same_act i; choice = choice }) logs

-- ---- the report

pub have_members : (names : List Named) (draft : ReportDraft) → IsReportDraft names draft → HaveMembers (groups_in draft.groups)
have_members names draft of =
    subst HaveMembers (sym of.groups) (grouped_have same_path taken_in path_in member_in paths_laws path_taken member_taken names)

pub report_is : (names : List Named) (draft : ReportDraft) (counts : List Count) (logs : List Log) (groups : List (List ℕ)) → IsReportDraft names draft
    → counts ≡ map (count_at draft.operations.items) draft.arrived.items → logs ≡ map log_of (groups_in draft.logs)
    → groups ≡ map members_of (groups_in draft.groups)
    → record { counts = counts; logs = logs; groups = groups } ≡ report_in names
report_is names draft counts logs groups is counts_are logs_are groups_are =
    let objects : List Object = firsts is_same (filter_map object_in names) in
    let paths : List Path = firsts same_path (filter_map path_in names) in
    let all_counts : counts ≡ (report_in names).counts =
    counts_are ∙ ap (map (count_at draft.operations.items)) is.arrived ∙ counts_so names names draft.operations.items is.operations in
    let all_logs : logs ≡ (report_in names).logs = logs_are ∙ ap (map log_of) is.logs ∙ mapped log_of (λ o. (o, filter_map (entry_in o) names)) objects in
    let all_groups : groups ≡ (report_in names).groups = groups_are ∙ ap (map members_of) is.groups ∙ mapped members_of (λ p. (p, filter_map (member_in p) names)) paths in
    λ i. record { counts = all_counts i; logs = all_logs i; groups = all_groups i }

-- ---- parts made one after the other

pub counts_more : (operations : List (Option ℕ)) (arrived : List ℕ) (i n : ℕ) (old new : List Count) → old ≡ map (count_at operations) (take i arrived)
    → i < length arrived → n ≡ counted operations (get_or arrived i 0) → new ≡ old ++ record { rid = get_or arrived i 0; operations = n } ∷ []
    → new ≡ map (count_at operations) (take (i + 1) arrived)
counts_more operations arrived i n old new was inside is more =
    let rid : ℕ = get_or arrived i 0 in
    let next : take (i + 1) arrived ≡ take i arrived ++ rid ∷ [] = ap (λ k. take k arrived) (add-one i) ∙ take-suc arrived i 0 inside in
    more ∙ (λ j. was j ++ record { rid = rid; operations = is j } ∷ []) ∙ sym (map-append (count_at operations) (take i arrived) (rid ∷ []))
    ∙ sym (ap (map (count_at operations)) next)

-- Of these, some are made, and these are left.
pub record AreMade {A B : Type 0} (f : A → B) (all left : List A) (made : List B) : Type 0 where
  pub whole : made ++ map f left ≡ map f all

pub none_made : {A B : Type 0} (f : A → B) (all left : List A) (made : List B) → made ≡ [] → left ≡ all → AreMade f all left made
none_made f all left made none is = record { whole = ap (λ bs. bs ++ map f left) none ∙ ap (map f) is }

pub one_made : {A B : Type 0} (f : A → B) (all left : List A) (a : A) (b : B) (old new : List B) → AreMade f all (a ∷ left) old → b ≡ f a → new ≡ old ++ b ∷ []
    → AreMade f all left new
one_made f all left a b old new under is more = record {
  whole =
      ap (λ bs. bs ++ map f left) more ∙ append_assoc old (b ∷ []) (map f left) ∙ ap (λ x. old ++ x ∷ map f left) is ∙ under.whole;
}

pub all_made : {A B : Type 0} (f : A → B) (all left : List A) (made : List B) → AreMade f all left made → left ≡ [] → made ≡ map f all
all_made f all left made under none = sym (append-nil made) ∙ sym (ap (λ xs. made ++ map f xs) none) ∙ under.whole

-- The same of groups, of which each that is left has a member.
pub record AreGroupsMade (all left : List (Path × List ℕ)) (made : List (List ℕ)) : Type 0 where
  pub are_made : AreMade members_of all left made
  pub have : HaveMembers left
