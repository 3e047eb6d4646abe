use Rattle.std.proofs.Common.{◌≡◌, [], ◌∷◌, ◌++◌, length, length-append, sym, subst, ap, ◌∙◌, arith}
use Rattle.std.specs.Prelude.{reverse}
use Rattle.std.proofs.lemmas.List.{reverse-append}
use Rattle.machine.proofs.Stacks.{IsTaking, takes_none, takes_one, takes_all, takes_what_is_there, no_items}
use Rattle.machine.proofs.stack.Stack.move_into.Goals as goal
use Rattle.machine.proofs.stack.Stack.move_into.Goals.{else-loop-alloc-test, then-loop-alloc-test+in_default}

pub loop-alloc-init : goal.loop-alloc-init
loop-alloc-init c = takes_none c.args.count c.args.self.now c.reserve.new.self.items
    (reverse c.self.inside.cells.items) (c.reserve.ensures.items ∙ c.clear.ensures.items) c.self.view_is

pub loop-alloc-preserved : goal.loop-alloc-preserved
loop-alloc-preserved c =
    let all = c.args.self.now in
    let taken = c.loop-alloc.values.items in
    let left = c.pop.new.self.items in
    let cells : reverse c.loop-alloc.self-inside.cells.items ≡ c.in-Some.cell ∷ reverse left = ap reverse c.in-Some.ensures.items ∙ reverse-append left (c.in-Some.cell ∷ []) in
    let value : c.in_ok-into_value.field-0 ≡ c.in-Some.cell = c.in_ok-into_value.ensures ∙ c.in_ok-into_operand.ensures in
    subst (λ l. IsTaking c.args.count all l (reverse left)) (sym (c.in_ok-push.ensures.items ∙ ap (λ v. taken ++ v ∷ []) value))
    (takes_one c.args.count all taken (reverse left) c.in-Some.cell
    (omega (arith, c.loop-alloc-test.true, c.len-in-loop-alloc.ensures, c.loop-alloc.values.ok.0))
    (subst (IsTaking c.args.count all taken) cells c.loop-alloc.invariant))

pub returns-clause-values : goal.returns-clause-values
returns-clause-values c =
    let all = c.args.self.now in
    let taken = c.loop-alloc.values.items in
    let left = reverse c.loop-alloc.self-inside.cells.items in
    c.reverse.ensures.items ∙
    elim c.loop-alloc-test.branch [
      | else-loop-alloc-test w ↦
          (takes_all c.args.count all taken left (omega (arith, w.loop-alloc-test.false, c.len-in-loop-alloc.ensures, c.loop-alloc.values.ok.0)) c.loop-alloc.invariant).0
      | then-loop-alloc-test+in_default w ↦
          (takes_what_is_there c.args.count all taken (subst (IsTaking c.args.count all taken) (ap reverse (no_items c.loop-alloc.self-inside.cells.items (omega (arith, w.in_default.ensures.cases.0, c.loop-alloc.self-inside.cells.ok.0)))) c.loop-alloc.invariant)).0
    ]

pub returns-clause-left : goal.returns-clause-left
returns-clause-left c =
    let all = c.args.self.now in
    let taken = c.loop-alloc.values.items in
    let left = reverse c.loop-alloc.self-inside.cells.items in
    elim c.loop-alloc-test.branch [
      | else-loop-alloc-test w ↦
          w.self-is ∙ (takes_all c.args.count all taken left (omega (arith, w.loop-alloc-test.false, c.len-in-loop-alloc.ensures, c.loop-alloc.values.ok.0)) c.loop-alloc.invariant).1
      | then-loop-alloc-test+in_default w ↦
          w.self-is ∙ ap reverse (no_items w.pop.new.self.items (omega (arith, w.in_default.ensures.cases.0, c.loop-alloc.self-inside.cells.ok.0, ap length w.in_default.ensures.items, length-append w.pop.new.self.items []))) ∙
          (takes_what_is_there c.args.count all taken (subst (IsTaking c.args.count all taken) (ap reverse (no_items c.loop-alloc.self-inside.cells.items (omega (arith, w.in_default.ensures.cases.0, c.loop-alloc.self-inside.cells.ok.0)))) c.loop-alloc.invariant)).1
    ]
