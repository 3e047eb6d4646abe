-- The checks of counts, member by member.
use Rattle.std.proofs.Common.{◌≡◌, ◌∙◌, ◌+◌, ◌++◌, ℕ, suc, List, [], ◌∷◌, length, take, Option, Some, None, Bool, true, false, nat_eq, refl, ap, sym, arith}
use Rattle.std.specs.Prelude.{is_some, is_none}
use Rattle.std.specs.List.{list_any}
use Rattle.basis.specs.Lists.{nth, first_answer}
use Rattle.script_tree.specs.Requests.{Request}
use Rattle.period.specs.Traces.{request_of}
use Rattle.period.specs.declared.trace.TraceEvent.TheVariants.{Asked}
use Rattle.period.specs.declared.trace.TraceEvent.{TraceEvent}
use Rattle.period.specs.declared.report.Count.{Count}
use Rattle.period.specs.declared.report.Report.{Report}
use Rattle.audit_meaning.specs.Lists.{befores, befores_from, answer_if}
use Rattle.audit_meaning.specs.LogFaults.{second_count, count_of_no_request, request_without_count, if_without_count}
use Rattle.audit_meaning.specs.Spots.{operations_in}
use Rattle.audit_meaning.specs.declared.reason.Reason.{Reason}
use Rattle.audit_meaning.specs.declared.reason.Reason.TheVariants.{SecondCount, CountOfNoRequest, RequestWithoutCount}
use Rattle.audit_meaning.proofs.Places.{befores_at}
use Rattle.log_checker.proofs.Firsts.{NoneBelow, found, none_all, none_more, answers, silent}
use Rattle.log_checker.proofs.Tables.{counted_any}

abbrev pub if_second : List Count × Count → Option Reason
if_second b = answer_if (list_any (λ count. nat_eq count.rid b.1.rid) b.0) (SecondCount b.1.rid)

abbrev pub if_of_none : List TraceEvent → Count → Option Reason
if_of_none trace count = answer_if (is_none (request_of trace count.rid)) (CountOfNoRequest count.rid)

pub second_is : (report : Report) (i : ℕ) (c : Count) (o : Option ℕ) → NoneBelow if_second (befores report.counts) i → nth report.counts i ≡ Some c
    → o ≡ first_answer (operations_in c.rid) (take i report.counts) → is_some o ≡ true → second_count report ≡ Some (SecondCount c.rid)
unfolding second_count
second_is report i c o none at told some =
    found if_second (befores report.counts) i (take i report.counts, c) (SecondCount c.rid) none (befores_at report.counts i c at)
    (answers _ _ (sym (counted_any c.rid (take i report.counts)) ∙ ap is_some (sym told) ∙ some))

pub once_more : (report : Report) (i : ℕ) (c : Count) (o : Option ℕ) → NoneBelow if_second (befores report.counts) i → nth report.counts i ≡ Some c
    → o ≡ first_answer (operations_in c.rid) (take i report.counts) → is_some o ≡ false → NoneBelow if_second (befores report.counts) (i + 1)
once_more report i c o none at told some =
    none_more if_second (befores report.counts) i (take i report.counts, c) none (befores_at report.counts i c at)
    (silent _ _ (sym (counted_any c.rid (take i report.counts)) ∙ ap is_some (sym told) ∙ some))

befores_length : {A : Type 0} (past xs : List A) → length (befores_from past xs) ≡ length xs
befores_length past [] = refl
befores_length past (x ∷ xs) = ap suc (befores_length (past ++ x ∷ []) xs)

pub no_second : (report : Report) (n : ℕ) → n ≡ length report.counts → NoneBelow if_second (befores report.counts) n → second_count report ≡ None
unfolding second_count
no_second report n e none = none_all if_second (befores report.counts) (λ k x lt at. none k x (omega (arith, befores_length [] report.counts)) at)

pub befores_count : {A : Type 0} (xs : List A) → length (befores_from [] xs) ≡ length xs
befores_count xs = befores_length [] xs

pub of_none_is : (trace : List TraceEvent) (report : Report) (i : ℕ) (c : Count) (b : Bool) → NoneBelow (if_of_none trace) report.counts i
    → nth report.counts i ≡ Some c
    → b ≡ is_none (request_of trace c.rid) → b ≡ true → count_of_no_request trace report ≡ Some (CountOfNoRequest c.rid)
unfolding count_of_no_request
of_none_is trace report i c b none at told t = found (if_of_none trace) report.counts i c (CountOfNoRequest c.rid) none at (answers _ _ (sym told ∙ t))

pub counted_all : (trace : List TraceEvent) (report : Report) (n : ℕ) → n ≡ length report.counts → NoneBelow (if_of_none trace) report.counts n
    → count_of_no_request trace report ≡ None
unfolding count_of_no_request
counted_all trace report n e none = none_all (if_of_none trace) report.counts (λ k x lt at. none k x (omega arith) at)

pub of_none_more : (trace : List TraceEvent) (counts : List Count) (i : ℕ) (c : Count) (b : Bool) → NoneBelow (if_of_none trace) counts i
    → nth counts i ≡ Some c
    → b ≡ is_none (request_of trace c.rid) → b ≡ false → NoneBelow (if_of_none trace) counts (i + 1)
of_none_more trace counts i c b none at told t = none_more (if_of_none trace) counts i c none at (silent _ _ (sym told ∙ t))

-- ---- requests

pub without_is : (trace : List TraceEvent) (report : Report) (i r : ℕ) (q : Request) (o : Option ℕ) → NoneBelow (if_without_count report) trace i
    → nth trace i ≡ Some (Asked r q)
    → o ≡ first_answer (operations_in r) report.counts → is_none o ≡ true → request_without_count trace report ≡ Some (RequestWithoutCount r)
unfolding request_without_count
without_is trace report i r q o none at told t =
    found (if_without_count report) trace i (Asked r q) (RequestWithoutCount r) none at (answers _ _ (ap is_none (sym told) ∙ t))

pub without_more : (trace : List TraceEvent) (report : Report) (i r : ℕ) (q : Request) (o : Option ℕ) → NoneBelow (if_without_count report) trace i
    → nth trace i ≡ Some (Asked r q)
    → o ≡ first_answer (operations_in r) report.counts → is_none o ≡ false → NoneBelow (if_without_count report) trace (i + 1)
without_more trace report i r q o none at told t = none_more (if_without_count report) trace i (Asked r q) none at (silent _ _ (ap is_none (sym told) ∙ t))

pub without_none : (trace : List TraceEvent) (report : Report) (n : ℕ) → n ≡ length trace → NoneBelow (if_without_count report) trace n
    → request_without_count trace report ≡ None
unfolding request_without_count
without_none trace report n e none = none_all (if_without_count report) trace (λ k x lt at. none k x (omega arith) at)
