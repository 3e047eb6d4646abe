use Rattle.std.proofs.Common.{◌≡◌, ℕ, ◌<◌, ◌-◌, false, length, get_or, Some, None, refl, sym, ◌∙◌, ap, arith, true≢false}
use Rattle.std.proofs.lemmas.Option.{slice_get_within}
use Rattle.event_order.proofs.Steps.{tests_free, free_out, free_before, free_log, mark_read, node_got, same_node, log_inside}
use Rattle.event_order.proofs.placing.Placing.is_free.Goals as goal
use Rattle.event_order.proofs.placing.Placing.is_free.Goals.{then-node-via-then-node, then-node-via-else-node+then-index}
use Rattle.event_order.proofs.placing.Placing.is_free.Goals.{then-node-via-else-node+else-index+then-not-index}

pub returns-then-node : goal.returns-then-node
returns-then-node c = (
  λ t. absurd (true≢false (sym t)),
  λ found.
      let later = found.0 in
      let free = found.1 in
      let g = c.args.graph.now in
      let m = c.args.self.now.is_placed.items in
      let x = c.args.x in
      let node = c.in-Some.node.now in
      let holds = c.requires.holds in
      let is = node_got g x c.deref.result.now node c.deref.ensures.value c.in-Some.ensures.lookup.0 c.in-Some.ensures.lookup.1 in
      let not : node.is_arrival ≡ false = ap (λ n. n.is_arrival) (same_node g x node later.0 is later.1) ∙ later.2 in
      let l : x < length m = omega (arith, holds.marks_all, free.inside) in
      elim c.then-node.branch [
        | then-node-via-then-node w ↦ absurd (true≢false (sym w.if-node.true ∙ not))
        | then-node-via-else-node+then-index w ↦
            absurd (true≢false (sym w.if-index.true ∙ sym (mark_read m x w.index.result.now w.index.ensures l) ∙ free_out g _ m _ _ holds x free))
        | then-node-via-else-node+else-index+then-not-index w ↦
            let before = free_before g _ m _ _ c.requires.graph holds x node is not free in
            let mark = mark_read m (x - 1) w.index-else-index.result.now w.index-else-index.ensures (omega arith) in
            absurd (true≢false (sym before ∙ mark ∙ w.if-not-index.true))
      ],
)

pub index-requires-in-Some-log_before : goal.index-requires-in-Some-log_before
index-requires-in-Some-log_before c =
    let g = c.args.graph.now in
    let node = c.in-Some.node.now in
    let is = node_got g c.args.x c.deref.result.now node c.deref.ensures.value c.in-Some.ensures.lookup.0 c.in-Some.ensures.lookup.1 in
    let l = log_inside g c.requires.graph c.args.x c.in-Some-log_before.y node is c.in-Some-log_before.is in
    omega (arith, l, c.requires.holds.marks_all)

pub returns-in-Some-log_before : goal.returns-in-Some-log_before
returns-in-Some-log_before c =
    let g = c.args.graph.now in
    let m = c.args.self.now.is_placed.items in
    let x = c.args.x in
    let z = c.in-Some-log_before.y in
    let holds = c.requires.holds in
    let node = c.in-Some.node.now in
    let is = node_got g x c.deref.result.now node c.deref.ensures.value c.in-Some.ensures.lookup.0 c.in-Some.ensures.lookup.1 in
    let l : x < length m = omega (arith, holds.marks_all, slice_get_within g.nodes.items x node is) in
    let k : z < length m = omega (arith, holds.marks_all, log_inside g c.requires.graph x z node is c.in-Some-log_before.is) in
    let mark = mark_read m z c.index-in-Some-log_before.result.now c.index-in-Some-log_before.ensures k in (
      λ t. (
        (node, is, c.if-node.false),
        tests_free g _ m _ _ c.requires.graph holds x node is c.if-node.false
            (mark_read m x c.index.result.now c.index.ensures l ∙ c.if-index.false)
            (mark_read m (x - 1) c.index-else-index.result.now c.index-else-index.ensures (omega arith) ∙ c.if-not-index.false)
            (λ y e.
            let same : Some y ≡ Some z = sym e ∙ c.in-Some-log_before.is in
            let n : y ≡ z = cc in
            ap (λ (i : ℕ). get_or m i false) n ∙ mark ∙ t),
      ),
      λ found. sym mark ∙ free_log g _ m _ _ c.requires.graph holds x z node is c.in-Some-log_before.is found.1,
    )

pub returns-in-None : goal.returns-in-None
returns-in-None c =
    let g = c.args.graph.now in
    let m = c.args.self.now.is_placed.items in
    let x = c.args.x in
    let holds = c.requires.holds in
    let node = c.in-Some.node.now in
    let is = node_got g x c.deref.result.now node c.deref.ensures.value c.in-Some.ensures.lookup.0 c.in-Some.ensures.lookup.1 in
    let l : x < length m = omega (arith, holds.marks_all, slice_get_within g.nodes.items x node is) in (
      λ t. (
        (node, is, c.if-node.false),
        tests_free g _ m _ _ c.requires.graph holds x node is c.if-node.false
            (mark_read m x c.index.result.now c.index.ensures l ∙ c.if-index.false)
            (mark_read m (x - 1) c.index-else-index.result.now c.index-else-index.ensures (omega arith) ∙ c.if-not-index.false)
            (λ y e. let bad : None ≡ Some y = sym c.in-None.is ∙ e in cc),
      ),
      λ found. refl,
    )
