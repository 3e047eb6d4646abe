use Rattle.std.proofs.Common.{◌≡◌, ◌+◌, ◌∷◌, [], Ok, Err, drop, ap, sym, subst, ◌∙◌}
use Rattle.std.proofs.lemmas.Result.{err_from_is_err_and}
use Rattle.basis.specs.UnlessMemory.{Answers}
use Rattle.script_code.specs.CodeRun.{topmost, all_taken, all_filled}
use Rattle.script_meaning.specs.Evaluate.{issue_unless_fault}
use Rattle.script_meaning.specs.Operands.{transact_op}
use Rattle.script_meaning.specs.Run.{after}
use Rattle.machine.specs.Does.{Leaves}
use Rattle.machine.specs.Gives.{progress_of, stopped_by}
use Rattle.machine.proofs.Parts.{transact_issues, op_fails, stops_first, stops_leaves}
use Rattle.machine.proofs.Stacks.{as_many, as_deep}
use Rattle.machine.proofs.state.State.transact.Goals as goal

pub returns-in_err-op-clause-does : goal.returns-in_err-op-clause-does
returns-in_err-op-clause-does c q functions next fs pc ops more =
    let m = c.args.self.now in
    let st = m.stack in
    let vs = m.slots.items in
    let shapes = c.args.shapes.now in
    let ds = c.as_slice.result.now in
    let rest = c.take.new.self in
    let r = progress_of c.charge.new.self ops more in
    let values : topmost (all_taken shapes) st [] ≡ ds =
    sym (c.as_slice.ensures.value ∙ c.in_ok-values.ensures.values ∙ ap (λ n. topmost n st []) c.all_taken.ensures
    ∙ as_many (all_taken shapes) _ st [] c.take.ensures.fits) in
    let left : drop (all_taken shapes) st ≡ rest =
    sym (c.in_ok-values.ensures.left ∙ ap (λ n. drop n st) c.all_taken.ensures ∙ as_deep (all_taken shapes) _ st c.take.ensures.fits) in
    let step = transact_issues q functions next fs pc st rest vs ds shapes (progress_of m.account ops more) r values left (c.in_ok-charge.ensures.gives ops more) in
    let e = c.in_err-op.field-0.0 in
    let op = transact_op (all_filled shapes ds) in
    let there = record m { stack = rest; account = c.charge.new.self } in
    let w = err_from_is_err_and c.from_residual-in_err-op.result c.from_residual-in_err-op.ensures.1 in
    let fails = op_fails e op r (subst (λ a. Answers (λ x. x) a (Err e)) (ap transact_op c.in_ok-statements.ensures) c.in_err-op.ensures) in
    rw (w.1, w.2) (subst (λ o. Leaves (next fs (pc + 1)) ops more (Err (stopped_by e)) there o) (sym step)
    (stops_leaves (next fs (pc + 1)) ops more there (stopped_by e) (after (issue_unless_fault op r) (λ d. next fs (pc + 1) (d ∷ rest) vs))
    (stops_first (stopped_by e) r (issue_unless_fault op r) (λ d. next fs (pc + 1) (d ∷ rest) vs) fails)))

pub returns-clause-does : goal.returns-clause-does
returns-clause-does c q functions next fs pc ops more =
    let m = c.args.self.now in
    let st = m.stack in
    let vs = m.slots.items in
    let shapes = c.args.shapes.now in
    let ds = c.as_slice.result.now in
    let rest = c.take.new.self in
    let r = progress_of c.charge.new.self ops more in
    let values : topmost (all_taken shapes) st [] ≡ ds =
    sym (c.as_slice.ensures.value ∙ c.in_ok-values.ensures.values ∙ ap (λ n. topmost n st []) c.all_taken.ensures
    ∙ as_many (all_taken shapes) _ st [] c.take.ensures.fits) in
    let left : drop (all_taken shapes) st ≡ rest =
    sym (c.in_ok-values.ensures.left ∙ ap (λ n. drop n st) c.all_taken.ensures ∙ as_deep (all_taken shapes) _ st c.take.ensures.fits) in
    let step = transact_issues q functions next fs pc st rest vs ds shapes (progress_of m.account ops more) r values left (c.in_ok-charge.ensures.gives ops more) in
    let came : transact_op (all_filled shapes ds) ≡ Ok c.in_ok-op.op = ap transact_op (sym c.in_ok-statements.ensures) ∙ c.in_ok-op.ensures in
    subst (λ o. Leaves (next fs (pc + 1)) ops more c.issue.result c.issue.new.self o)
    (sym (step ∙ ap (λ a. after (issue_unless_fault a r) (λ d. next fs (pc + 1) (d ∷ rest) vs)) came)) (c.issue.ensures.does (next fs (pc + 1)) ops more)
