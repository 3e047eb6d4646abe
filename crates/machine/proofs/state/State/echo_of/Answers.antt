use Rattle.std.proofs.Common.{ap, sym, subst, ◌∙◌, ◌+◌, Err}
use Rattle.std.proofs.lemmas.Result.{err_from_is_err_and}
use Rattle.script_meaning.specs.Evaluate.{print_value}
use Rattle.script_meaning.specs.Run.{after}
use Rattle.machine.specs.Does.{Leaves}
use Rattle.machine.specs.Gives.{progress_of}
use Rattle.machine.proofs.Parts.{stops_first, stops_leaves}
use Rattle.machine.proofs.state.State.echo_of.Goals as goal

pub returns-in_err-print_value-clause-does : goal.returns-in_err-print_value-clause-does
returns-in_err-print_value-clause-does c q functions next fs pc ops more =
    let m = c.args.self.now in
    let e = c.in_err-print_value.field-0.0 in
    let r = progress_of c.charge.new.self ops more in
    let there = record m { account = c.print_value.new.self } in
    let printing = print_value c.args.operand.now r in
    let w = err_from_is_err_and c.from_residual-in_err-print_value.result c.from_residual-in_err-print_value.ensures.1 in
    rw (w.1, w.2) (subst (λ o. Leaves (next fs (pc + 1)) ops more (Err e) there o)
    (sym (ap (λ o. after (after o (λ u. print_value c.args.operand.now)) (λ u. next fs (pc + 1) m.stack m.slots.items))
    (c.in_ok-charge.ensures.gives ops more)))
    (stops_leaves (next fs (pc + 1)) ops more there e (after printing (λ u. next fs (pc + 1) m.stack m.slots.items))
    (stops_first e (progress_of c.print_value.new.self ops more) printing
    (λ u. next fs (pc + 1) m.stack m.slots.items) (c.in_err-print_value.ensures.gives ops more))))

pub returns-clause-does : goal.returns-clause-does
returns-clause-does c q functions next fs pc ops more =
    let m = c.args.self.now in
    ap (λ o. after (after o (λ u. print_value c.args.operand.now)) (λ u. next fs (pc + 1) m.stack m.slots.items))
    (c.in_ok-charge.ensures.gives ops more)
    ∙ ap (λ o. after o (λ u. next fs (pc + 1) m.stack m.slots.items)) (c.in_ok-print_value.ensures.gives ops more)
