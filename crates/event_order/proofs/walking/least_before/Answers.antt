use Rattle.std.proofs.Common.{◌≡◌, ℕ, ◌-◌, get_or, true, Option, Some, sym, ◌∙◌, ap, subst, arith, refl, rules}
use Rattle.std.proofs.lemmas.Option.{slice_get_within, slice_get-get_or}
use Rattle.std.specs.List.{slice_get}
use Rattle.event_order.specs.declared.graph.Event.TheVariants.{Arrival}
use Rattle.event_order.specs.Cycle.{IsLeast, HoldsBack, considered}
use Rattle.event_order.proofs.Steps.{node_at, log_inside}
use Rattle.event_order.proofs.Walks.{departed_holds, no_log_holds, log_holds, later_above, marked_read}
use Rattle.event_order.proofs.walking.least_before.Goals as goal

pub bounds-departed-node : goal.bounds-departed-node
bounds-departed-node c =
    let g = c.args.graph.now in
    let node = c.index-node.result.now in
    let is = node_at g c.args.x node c.requires.inside c.index-node.ensures in
    let l = slice_get_within g.trace.items node.at (Arrival c.args.x) (c.requires.graph.arrives c.args.x node is c.if-node.true) in
    omega (arith, l)

pub returns-then-node : goal.returns-then-node
returns-then-node c =
    let g = c.args.graph.now in
    let x = c.args.x in
    let node = c.index-node.result.now in
    let is = node_at g x node c.requires.inside c.index-node.ensures in
    let l = slice_get_within g.trace.items node.at (Arrival x) (c.requires.graph.arrives x node is c.if-node.true) in
    let noted : slice_get c.args.departed.now node.at ≡ Some c.map.result = search (rules, slice_get-get_or) in
    departed_holds g _ c.requires.graph x node is c.requires.thin _ c.if-node.true
    (c.requires.departed node.at _ noted x node is c.if-node.true refl)

pub overflow_sub-x : goal.overflow_sub-x
overflow_sub-x c =
    let g = c.args.graph.now in
    let node = c.index-node.result.now in
    later_above g c.requires.graph c.args.x node (node_at g c.args.x node c.requires.inside c.index-node.ensures) c.if-node.false

pub consider-requires : goal.consider-requires
consider-requires c =
    let g = c.args.graph.now in
    let node = c.index-node.result.now in
    let is = node_at g c.args.x node c.requires.inside c.index-node.ensures in
    let l = log_inside g c.requires.graph c.args.x c.in-Some.y node is c.in-Some.is in
    omega (arith, l, c.requires.holds.marks_all)

pub returns-in-Some : goal.returns-in-Some
returns-in-Some c =
    let g = c.args.graph.now in
    let s = c.args.placing.now in
    let x = c.args.x in
    let y = c.in-Some.y in
    let node = c.index-node.result.now in
    let is = node_at g x node c.requires.inside c.index-node.ensures in
    let l = later_above g c.requires.graph x node is c.if-node.false in
    let k = log_inside g c.requires.graph x y node is c.in-Some.is in
    let both = c.consider.ensures ∙ ap (λ (o : Option ℕ). considered (get_or s.is_placed.items y true) o y) c.consider-before.ensures in
    subst (IsLeast (HoldsBack g s.order.items x)) (sym both)
    (log_holds g s.order.items c.requires.graph x node is y _ _ c.if-node.false c.in-Some.is l
    (marked_read g _ _ _ _ c.requires.holds (x - 1) true (omega (arith, c.requires.inside)))
    (marked_read g _ _ _ _ c.requires.holds y true k))

pub returns-in-None : goal.returns-in-None
returns-in-None c =
    let g = c.args.graph.now in
    let xs = c.args.placing.now.order.items in
    let x = c.args.x in
    let node = c.index-node.result.now in
    let is = node_at g x node c.requires.inside c.index-node.ensures in
    let l = later_above g c.requires.graph x node is c.if-node.false in
    subst (IsLeast (HoldsBack g xs x)) (sym c.consider-before.ensures)
    (no_log_holds g xs c.requires.graph x node is _ c.if-node.false c.in-None.is l
    (marked_read g _ _ _ _ c.requires.holds (x - 1) true (omega (arith, c.requires.inside))))
