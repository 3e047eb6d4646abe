use Rattle.std.proofs.Common.{◌≡◌, ℕ, ◌<◌, ◌++◌, ◌∷◌, [], length, drop, take, reverse, replicate, get_or, List, false, not, sym, ◌∙◌, ap, subst, arith, rules}
use Rattle.event_order.specs.Order.{has}
use Rattle.event_order.proofs.Paces.{Walking, next_left, next_inside, seen_read, paces_to, paces_closer, ends_nowhere, closes, starts, nothing_left}
use Rattle.event_order.proofs.Walks.{unmarked_left}
use Rattle.event_order.proofs.walking.find_cycle.Goals as goal

pub returns-then-is_none : goal.returns-then-is_none
returns-then-is_none c =
    nothing_left c.args.graph.now _ _ _ _ c.requires.holds c.least_left-next.result c.least_left-next.ensures
    (c.is_none.ensures ∙ ap not c.if-is_none.true)

pub loop-next-init : goal.loop-next-init
loop-next-init c =
    let g = c.args.graph.now in
    let xs = c.args.placing.now.order.items in
    let n : c.len.result ≡ length g.nodes.items = search rules in
    let none : c.in_ok-seen.seen.items ≡ replicate (length g.nodes.items) false =
    c.in_ok-seen.ensures.items_if_clones_equal (λ y h. h) ∙ ap (λ (n : ℕ). replicate n false) n in
    subst (λ (w : List ℕ). Walking g xs w c.in_ok-seen.seen.items c.least_left-next.result) (sym c.new-walk.ensures.items)
    (starts g xs c.in_ok-seen.seen.items c.least_left-next.result none
    (unmarked_left g _ _ _ _ c.requires.holds c.least_left-next.result c.least_left-next.ensures))

pub index-requires : goal.index-requires
index-requires c =
    let l = next_inside c.args.graph.now _ _ _ _ c.loop-next.invariant c.requires.graph c.in-Some.x c.in-Some.is in
    omega (arith, l)

pub place_of-start-requires : goal.place_of-start-requires
place_of-start-requires c =
    let g = c.args.graph.now in
    let there = seen_read g _ _ _ _ c.loop-next.invariant c.requires.graph c.in-Some.x _ c.in-Some.is c.index.ensures ∙ c.if-index.true in
    ap (λ (ns : List ℕ). has ns c.in-Some.x) c.deref.ensures.value ∙ there

pub returns-then-index : goal.returns-then-index
returns-then-index c =
    let g = c.args.graph.now in
    let walk = c.loop-next.walk.items in
    let start = c.place_of-start.result in
    let turned = c.turn.ensures.turned in
    let part = c.reverse.ensures.items ∙ ap (λ (ns : List ℕ). reverse ns) c.in_ok-cycle.ensures.tail in
    let inside = subst (λ (ns : List ℕ). start < length ns) c.deref.ensures.value c.place_of-start.ensures.inside in
    let there = subst (λ (ns : List ℕ). get_or ns start 0 ≡ c.in-Some.x) c.deref.ensures.value c.place_of-start.ensures.there in
    closes g _ walk _ _ c.loop-next.invariant c.in-Some.x start turned.0 c.turn.new.cycle.items c.in-Some.is inside there
    (turned.1 ∙ ap (λ (ns : List ℕ). drop turned.0 ns ++ take turned.0 ns) part)
    c.turn.ensures.least

pub index_mut-requires : goal.index_mut-requires
index_mut-requires c =
    let l = next_inside c.args.graph.now _ _ _ _ c.loop-next.invariant c.requires.graph c.in-Some.x c.in-Some.is in
    omega (arith, l)

pub least_before-next-requires-clause-inside : goal.least_before-next-requires-clause-inside
least_before-next-requires-clause-inside c =
    (next_left c.args.graph.now _ _ _ _ c.loop-next.invariant c.requires.graph c.in-Some.x c.in-Some.is).0

pub loop-next-preserved : goal.loop-next-preserved
loop-next-preserved c =
    let g = c.args.graph.now in
    let x = c.in-Some.x in
    let out = seen_read g _ _ _ _ c.loop-next.invariant c.requires.graph x _ c.in-Some.is c.index.ensures ∙ c.if-index.false in
    paces_to g _ _ _ _ c.loop-next.invariant c.requires.graph x _ _ (c.in_ok-push.ensures.items ∙ ap (λ (n : ℕ). c.loop-next.walk.items ++ n ∷ []) c.in_ok-narrow.ensures) c.in-Some.is out c.least_before-next.ensures

pub loop-next-smaller : goal.loop-next-smaller
loop-next-smaller c =
    paces_closer c.args.graph.now _ _ _ _ c.loop-next.invariant c.in-Some.x _ _ _
    (c.in_ok-push.ensures.items ∙ ap (λ (n : ℕ). c.loop-next.walk.items ++ n ∷ []) c.in_ok-narrow.ensures)
    (loop-next-preserved c)

pub returns : goal.returns
returns c = ends_nowhere c.args.graph.now _ _ _ _ c.loop-next.invariant c.in_default.is
