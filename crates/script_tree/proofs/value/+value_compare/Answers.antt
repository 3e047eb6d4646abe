use Rattle.std.proofs.Common.{◌≡◌, ◌≤◌, min, length, ◌∙◌, arith}
use Rattle.std.specs.Ordering.{nat_cmp}
use Rattle.script_tree.proofs.Ends.{lengths_decide}
use Rattle.script_tree.proofs.value.+value_compare.Goals as goal

pub Members::compare-returns : goal.Members::compare-returns
Members::compare-returns t c =
    let xs = c.self.inside.items in
    let ys = c.other.inside.items in
    let low : c.loop-i.i ≤ min (length xs.items) (length ys.items) = omega (arith, xs.ok.0, ys.ok.0) in
    let high : min (length xs.items) (length ys.items) ≤ c.loop-i.i = omega (arith, xs.ok.0, ys.ok.0) in
    let m : c.len-3.result ≡ length xs.items = c.len-3.ensures ∙ xs.ok.0 in
    let n : c.len-4.result ≡ length ys.items = c.len-4.ensures ∙ ys.ok.0 in
    c.cmp.ensures ∙ (λ i. nat_cmp (m i) (n i)) ∙ lengths_decide xs.items ys.items _ _ c.loop-i.i c.self.view_is c.other.view_is low high c.loop-i.invariant
