-- Objects of logs, one log after another.
use Rattle.std.proofs.Common.{◌≡◌, ◌∙◌, ◌+◌, ℕ, suc, List, length, take, Option, Some, None, Bool, true, false, ◌||◌, not, refl, ap, sym, arith}
use Rattle.std.specs.BTreeSet as sorted
use Rattle.std.specs.BTreeSet.{BTreeSet}
use Rattle.std.specs.List.{list_any}
use Rattle.std.proofs.lemmas.Bool.{not-false}
use denote.Ref.{Bor}
use Rattle.basis.specs.Lists.{nth}
use Rattle.script_tree.specs.Objects.{is_same}
use Rattle.script_tree.specs.declared.operation.Object.{Object}
use Rattle.script_tree.specs.declared.operation.Object.TheVariants.{Register, Store, Tables, Clock, Dice}
use Rattle.script_check.specs.Scopes.{holds}
use Rattle.script_check.proofs.Names.{by_text, set_grows, bytes_sym}
use Rattle.period.specs.declared.report.Log.{Log}
use Rattle.period.specs.declared.report.Report.{Report}
use Rattle.audit_meaning.specs.Lists.{befores, answer_if}
use Rattle.audit_meaning.specs.LogFaults.{second_log}
use Rattle.audit_meaning.specs.declared.reason.Reason.{Reason}
use Rattle.audit_meaning.specs.declared.reason.Reason.TheVariants.{SecondLog}
use Rattle.audit_meaning.proofs.Places.{befores_at}
use Rattle.audit_meaning.proofs.Filters.{take_more}
use Rattle.log_checker.specs.LogObjects.{has_object, Enters}
use Rattle.log_checker.specs.declared.log_objects.LogObjects.{LogObjects}
use Rattle.log_checker.proofs.CountFacts.{befores_count}
use Rattle.log_checker.proofs.Tests.{not_true, or_flip}
use Rattle.log_checker.proofs.Firsts.{NoneBelow, found, none_all, none_more, answers, silent, any_more}

pub register_entered : (old : LogObjects) (new : BTreeSet (Bor (List ℕ))) (text : Bor (List ℕ)) (object : Object) (name : List ℕ) → object ≡ Register name
    → text.now ≡ name → sorted.UpdatesBy by_text (by_text text) old.registers new true
    → Enters object old (record { registers = new; stores = old.stores; tables = old.tables; clock = old.clock; dice = old.dice })
register_entered old new text object name is at u o = go o ∙ ap (λ x. is_same x o || has_object old o) (ap Register at ∙ sym is)
  where
    go : (o : Object) → has_object (record { registers = new; stores = old.stores; tables = old.tables; clock = old.clock; dice = old.dice }) o ≡
        (is_same (Register text.now) o || has_object old o)
    go (Register x) = set_grows old.registers new text u x ∙ ap (λ b. b || holds old.registers x) (bytes_sym x text.now)
    go (Store s) = refl
    go Tables = refl
    go Clock = refl
    go Dice = refl

pub store_entered : (old : LogObjects) (new : BTreeSet (Bor (List ℕ))) (text : Bor (List ℕ)) (object : Object) (name : List ℕ) → object ≡ Store name
    → text.now ≡ name → sorted.UpdatesBy by_text (by_text text) old.stores new true
    → Enters object old (record { registers = old.registers; stores = new; tables = old.tables; clock = old.clock; dice = old.dice })
store_entered old new text object name is at u o = go o ∙ ap (λ x. is_same x o || has_object old o) (ap Store at ∙ sym is)
  where
    go : (o : Object) → has_object (record { registers = old.registers; stores = new; tables = old.tables; clock = old.clock; dice = old.dice }) o ≡
        (is_same (Store text.now) o || has_object old o)
    go (Store x) = set_grows old.stores new text u x ∙ ap (λ b. b || holds old.stores x) (bytes_sym x text.now)
    go (Register s) = refl
    go Tables = refl
    go Clock = refl
    go Dice = refl

abbrev pub if_second_log : List Log × Log → Option Reason
if_second_log b = answer_if (list_any (λ log. is_same log.object b.1.object) b.0) (SecondLog b.1.object)

-- the objects are those of the first logs
abbrev pub AreOf : List Log → LogObjects → Type 0
AreOf logs seen = (o : Object) → has_object seen o ≡ list_any (λ log. is_same log.object o) logs

pub more_of : (logs : List Log) (i : ℕ) (log : Log) (old new : LogObjects) → nth logs i ≡ Some log → AreOf (take i logs) old → Enters log.object old new
    → AreOf (take (i + 1) logs) new
more_of logs i log old new at of enters o =
    enters o
    ∙ ap (λ b. is_same log.object o || b) (of o)
    ∙ or_flip (is_same log.object o) (list_any (λ l. is_same l.object o) (take i logs))
    ∙ sym (any_more (λ l. is_same l.object o) (take i logs) log)
    ∙ ap (list_any (λ l. is_same l.object o)) (sym (take_more logs i log at) ∙ ap (λ n. take n logs) (let e : suc i ≡ i + 1 = omega arith in e))

pub twice_is : (report : Report) (i : ℕ) (log : Log) (seen : LogObjects) (b : Bool) → NoneBelow if_second_log (befores report.logs) i
    → nth report.logs i ≡ Some log → AreOf (take i report.logs) seen
    → b ≡ not (has_object seen log.object) → b ≡ false → second_log report ≡ Some (SecondLog log.object)
unfolding second_log
twice_is report i log seen b none at of is t =
    found if_second_log (befores report.logs) i (take i report.logs, log) (SecondLog log.object) none (befores_at report.logs i log at)
    (answers _ _ (sym (of log.object) ∙ not-false _ (sym is ∙ t)))

pub twice_more : (report : Report) (i : ℕ) (log : Log) (seen : LogObjects) (b : Bool) → NoneBelow if_second_log (befores report.logs) i
    → nth report.logs i ≡ Some log → AreOf (take i report.logs) seen
    → b ≡ not (has_object seen log.object) → b ≡ true → NoneBelow if_second_log (befores report.logs) (i + 1)
twice_more report i log seen b none at of is t =
    none_more if_second_log (befores report.logs) i (take i report.logs, log) none (befores_at report.logs i log at)
    (silent _ _ (sym (of log.object) ∙ not_true _ (sym is ∙ t)))

pub no_twice : (report : Report) (n : ℕ) → n ≡ length report.logs → NoneBelow if_second_log (befores report.logs) n → second_log report ≡ None
unfolding second_log
no_twice report n e none = none_all if_second_log (befores report.logs) (λ k x lt at. none k x (omega (arith, befores_count report.logs)) at)
