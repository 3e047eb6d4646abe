-- What a draft keeps, one name after the other.
use Rattle.std.proofs.Common.{◌≡◌, ◌≢◌, ◌∙◌, ◌⊎◌, inl, inr, unwrap_or, ℕ, ◌+◌, Bool, true, false, cond, List, [], ◌∷◌, ◌++◌, length, length-append, append-nil, append_assoc, add-zero, map, Option, Some, None, Result, Ok, Err, refl, ap, sym, subst}
use Rattle.std.specs.Prelude.{filter_map, option_map, nat_eq, OnOk}
use Rattle.std.proofs.lemmas.Bool.Decides.{eqb_tells}
use Rattle.std.specs.Cmp.{nat_eq_equiv}
use Rattle.std.specs.List.{cons_option}
use Rattle.std.specs.declared.alloc.AllocError.{AllocError}
use Rattle.script_tree.specs.Objects.{is_same}
use Rattle.script_tree.specs.Programs.{Program}
use Rattle.script_tree.specs.Fit.{declares_store, table_widths}
use Rattle.script_tree.specs.Requests.{Request, IsRequestWithinLimits}
use Rattle.script_tree.specs.declared.operation.Choice.{Choice}
use Rattle.script_tree.specs.declared.operation.Object.{Object}
use Rattle.script_tree.specs.declared.operation.Op.{Op}
use Rattle.script_tree.specs.declared.path.Path.{Path}
use Rattle.script_tree.specs.declared.request.Response.{Response}
use Rattle.period.specs.declared.trace.TraceEvent.{TraceEvent}
use Rattle.period.specs.declared.trace.TraceEvent.TheVariants.{Asked, Answered}
use Rattle.script_fit.specs.FitsOperation.{FitsOperation}
use Rattle.wire.specs.Files.{Format, file_spelling, record_spelling, records_spelling}
use Rattle.trace_format.specs.Events.{trace_format, IsResponse}
use Rattle.period.specs.declared.report.LogEntry.{LogEntry}
use Rattle.report_format.specs.Reports.{entry_field}
use Rattle.history.specs.Names.{Named, came, did, went}
use Rattle.script_tree.specs.Paths.{same_path}
use Rattle.history.specs.ReportOf.{did_in, object_in, entry_in, path_in, member_in}
use Rattle.history.specs.Seats.{at_seat, seated}
use Rattle.history.specs.TraceOf.{event_in, trace_in}
use Rattle.trace_and_report.specs.Draft.{IsOfNames, HasSpelling, arrival_in, counted, entry_of, one_more_of, spelled_log}
use Rattle.trace_and_report.specs.Grouped.{entries_in, groups_in, and_member}
use Rattle.trace_and_report.specs.Widths.{Each, IsWide, IsWideEntry}
use Rattle.trace_and_report.specs.declared.draft.Draft.{Draft}
use Rattle.trace_and_report.proofs.Alike.{objects_laws, paths_laws}
use Rattle.trace_and_report.proofs.Allowed.{act_allowed}
use Rattle.trace_and_report.proofs.Groupings.{and_member_if, member_of, filter_map_more, grouped_more}

-- of an operation, its object and its entry
abbrev pub used_in : Named → Option (Object × LogEntry)
used_in (came r request) = None
used_in (did r k op choice) = Some (op.object, entry_of r k op choice)
used_in (went r response path) = None

pub object_used : (n : Named) → object_in n ≡ option_map (λ p. p.0) (used_in n)
object_used (came r request) = refl
object_used (did r k op choice) = refl
object_used (went r response path) = refl

pub entry_used : (o : Object) (n : Named) → entry_in o n ≡ member_of is_same o (used_in n)
entry_used o (came r request) = refl
entry_used o (did r k op choice) = refl
entry_used o (went r response path) = refl

-- of a departure, its path and the request's id
abbrev pub taken_in : Named → Option (Path × ℕ)
taken_in (came r request) = None
taken_in (did r k op choice) = None
taken_in (went r response path) = Some (path, r)

pub path_taken : (n : Named) → path_in n ≡ option_map (λ p. p.0) (taken_in n)
path_taken (came r request) = refl
path_taken (did r k op choice) = refl
path_taken (went r response path) = refl

pub member_taken : (p : Path) (n : Named) → member_in p n ≡ member_of same_path p (taken_in n)
member_taken p (came r request) = refl
member_taken p (did r k op choice) = refl
member_taken p (went r response path) = refl

-- ---- bytes

pub records_append : {A : Type 0} (f : Format A) (xs ys : List A) → records_spelling f (xs ++ ys) ≡ records_spelling f xs ++ records_spelling f ys
records_append f [] ys = refl
records_append f (x ∷ xs) ys =
    ap (λ bs. record_spelling f x ++ bs) (records_append f xs ys) ∙ sym (append_assoc (record_spelling f x) (records_spelling f xs) (records_spelling f ys))

pub file_append : {A : Type 0} (f : Format A) (xs ys : List A) → file_spelling f (xs ++ ys) ≡ file_spelling f xs ++ records_spelling f ys
file_append f xs ys =
    ap (λ bs. f.magic ++ bs) (records_append f xs ys) ∙ sym (append_assoc f.magic (records_spelling f xs) (records_spelling f ys))

pub trace_more : (names : List Named) (named : Named) (old new : List ℕ) → old ≡ file_spelling trace_format (trace_in names)
    → new ≡ old ++ records_spelling trace_format (cons_option (event_in named) []) → new ≡ file_spelling trace_format (trace_in (names ++ named ∷ []))
trace_more names named old new is more =
    let events : List TraceEvent = cons_option (event_in named) [] in
    more ∙ ap (λ bs. bs ++ records_spelling trace_format events) is ∙ sym (file_append trace_format (trace_in names) events)
    ∙ sym (ap (file_spelling trace_format) (filter_map_more event_in names named))

-- ---- one name more

pub each_more : {A : Type 0} (is : A → Type 0) (xs : List A) (x : A) → Each is xs → is x → Each is (xs ++ x ∷ [])
each_more is [] x each here = (here, tt)
each_more is (y ∷ ys) x each here = (each.0, each_more is ys x each.1 here)

-- what a name more makes of what is kept
record Follows (named : Named) (old new : Draft) : Type 0 where
  trace : new.trace.items ≡ old.trace.items ++ records_spelling trace_format (cons_option (event_in named) [])
  arrived : new.arrived.items ≡ old.arrived.items ++ cons_option (arrival_in named) []
  operations : (r : ℕ) → counted new.operations.items r ≡ counted old.operations.items r + length (cons_option (did_in r named) [])
  logs :
      (gs : List (Object × List LogEntry)) → entries_in old.logs ≡ map spelled_log gs
      → entries_in new.logs ≡ map spelled_log (and_member_if is_same (used_in named) gs)
  groups : groups_in new.groups ≡ and_member_if same_path (taken_in named) (groups_in old.groups)
  spelling : HasSpelling named

goes_on : (names : List Named) (named : Named) (old new : Draft) → IsOfNames names old → Follows named old new → IsOfNames (names ++ named ∷ []) new
goes_on names named old new is of = record {
  trace = trace_more names named old.trace.items new.trace.items is.trace of.trace;
  arrived = of.arrived ∙ ap (λ rs. rs ++ cons_option (arrival_in named) []) is.arrived ∙ sym (filter_map_more arrival_in names named);
  operations = λ r.
      of.operations r ∙ ap (λ n. n + length (cons_option (did_in r named) [])) (is.operations r)
      ∙ sym (length-append (filter_map (did_in r) names) (cons_option (did_in r named) [])) ∙ sym (ap length (filter_map_more (did_in r) names named));
  logs =
      of.logs _ is.logs
      ∙ ap (map spelled_log) (sym (grouped_more is_same used_in object_in entry_in objects_laws object_used entry_used names named));
  groups = of.groups ∙ ap (and_member_if same_path (taken_in named)) is.groups
      ∙ sym (grouped_more same_path taken_in path_in member_in paths_laws path_taken member_taken names named);
  spellings = each_more HasSpelling names named is.spellings of.spelling;
}

one_record : (old new : List ℕ) (e : TraceEvent) → new ≡ old ++ record_spelling trace_format e → new ≡ old ++ records_spelling trace_format (e ∷ [])
one_record old new e is = is ∙ ap (λ bs. old ++ bs) (sym (append-nil (record_spelling trace_format e)))

pub arrives : (names : List Named) (old new : Draft) (rid : ℕ) (request : Request) → IsOfNames names old
    → new.trace.items ≡ old.trace.items ++ record_spelling trace_format (Asked rid request) → new.arrived.items ≡ old.arrived.items ++ rid ∷ []
    → new.operations ≡ old.operations → new.logs ≡ old.logs → new.groups ≡ old.groups → IsWide rid → IsRequestWithinLimits request
    → IsOfNames (names ++ came rid request ∷ []) new
arrives names old new rid request is trace arrived operations logs groups wide short =
    goes_on names (came rid request) old new is (record {
      trace = one_record old.trace.items new.trace.items (Asked rid request) trace;
      arrived = arrived;
      operations = λ r. ap (λ ns. counted ns.items r) operations ∙ sym (add-zero (counted old.operations.items r));
      logs = λ gs so. ap entries_in logs ∙ so;
      groups = ap groups_in groups;
      spelling = (wide, short);
    })

pub counted_more : (b : Bool) (n k : ℕ) → cond b (n + 1) n ≡ n + length (cons_option (cond b (Some k) None) [])
counted_more true n k = refl
counted_more false n k = sym (add-zero n)

pub acts : (names : List Named) (old new : Draft) (rid number : ℕ) (op : Op) (choice : Choice) → IsOfNames names old
    → new.trace ≡ old.trace → new.arrived ≡ old.arrived → ((r : ℕ) → counted new.operations.items r ≡ one_more_of rid (counted old.operations.items) r)
    → ((gs : List (Object × List LogEntry)) → entries_in old.logs ≡ map spelled_log gs
    → entries_in new.logs ≡ map spelled_log (and_member is_same op.object (entry_of rid number op choice) gs))
    → new.groups ≡ old.groups → entry_field.allows (entry_of rid number op choice)
    → IsOfNames (names ++ did rid number op choice ∷ []) new
acts names old new rid number op choice is trace arrived operations logs groups allowed =
    goes_on names (did rid number op choice) old new is (record {
      trace = ap (λ bs. bs.items) trace ∙ sym (append-nil old.trace.items);
      arrived = ap (λ rs. rs.items) arrived ∙ sym (append-nil old.arrived.items);
      operations = λ r. operations r ∙ counted_more (nat_eq r rid) (counted old.operations.items r) number;
      logs = logs;
      groups = ap groups_in groups;
      spelling = allowed;
    })

pub departs : (names : List Named) (old new : Draft) (rid : ℕ) (response : Response) (path : Path) → IsOfNames names old
    → new.trace.items ≡ old.trace.items ++ record_spelling trace_format (Answered rid response) → new.arrived ≡ old.arrived → new.operations ≡ old.operations
    → new.logs ≡ old.logs → groups_in new.groups ≡ and_member same_path path rid (groups_in old.groups) → IsWide rid → IsResponse response
    → IsOfNames (names ++ went rid response path ∷ []) new
departs names old new rid response path is trace arrived operations logs groups wide spelled =
    goes_on names (went rid response path) old new is (record {
      trace = one_record old.trace.items new.trace.items (Answered rid response) trace;
      arrived = ap (λ rs. rs.items) arrived ∙ sym (append-nil old.arrived.items);
      operations = λ r. ap (λ ns. counted ns.items r) operations ∙ sym (add-zero (counted old.operations.items r));
      logs = λ gs so. ap entries_in logs ∙ so;
      groups = groups;
      spelling = (wide, spelled);
    })

-- An operation that fits a program may be spelled, where it has its widths.
pub entry_allowed : (program : Program) (op : Op) (e : LogEntry) → FitsOperation program op → e.act ≡ op.act → IsWideEntry e → entry_field.allows e
entry_allowed program op e fits is (rid, number, act, choice) =
    let stores = declares_store program.declarations in
    let widths = table_widths program.declarations in
    (rid, (number, (act_allowed stores widths op.object e.act (subst (λ a. FitsOperation program (record { object = op.object; act = a })) (sym is) fits) act, choice)))

-- what holds where nothing failed
pub on_ok : {P Q : Type 0} (result : Result (Unit {0}) AllocError) → (P → Q) → OnOk result P → OnOk result Q
on_ok (Ok u) f p = f p
on_ok (Err e) f p = p

-- ---- counts

-- what is put for a request is what is counted of it, and all others are as before
pub counts_one : (old new : List (Option ℕ)) (rid more : ℕ) → at_seat new ≡ seated rid (Some more) (at_seat old) → more ≡ counted old rid + 1
    → (r : ℕ) → counted new r ≡ one_more_of rid (counted old) r
counts_one old new rid more put is r = ap (λ (f : ℕ → Option ℕ). unwrap_or (f r) 0) put ∙ by (eqb_tells rid r)
  where
    by : ((nat_eq rid r ≡ true) × (rid ≡ r)) ⊎ ((nat_eq rid r ≡ false) × (rid ≢ r))
        → unwrap_or (seated rid (Some more) (at_seat old) r) 0 ≡ one_more_of rid (counted old) r
    by (inl (here, same)) =
        ap (λ b. unwrap_or (cond b (Some more) (at_seat old r)) 0) here ∙ is ∙ ap (λ n. counted old n + 1) same
        ∙ sym (ap (λ b. cond b (counted old r + 1) (counted old r)) (nat_eq_equiv.symm r rid ∙ here))
    by (inr (apart, other)) =
        ap (λ b. unwrap_or (cond b (Some more) (at_seat old r)) 0) apart
        ∙ sym (ap (λ b. cond b (counted old r + 1) (counted old r)) (nat_eq_equiv.symm r rid ∙ apart))

-- the same of what is so for each that is given
pub on_ok_all : {X : Type 0} (A P : X → Type 0) (result : Result (Unit {0}) AllocError)
    → ((x : X) → A x → OnOk result (P x)) → OnOk result ((x : X) → A x → P x)
on_ok_all A P (Ok u) all = all
on_ok_all A P (Err e) all = tt
