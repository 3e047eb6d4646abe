use Rattle.std.proofs.Common.{rules, ◌≡◌, ◌≤◌, ◌<◌, ◌+◌, ℕ, get_or, length, min, max, refl, subst}
use Rattle.multi_bodies.specs.BodiesOf.{AreReached}
use Rattle.multi_bodies.proofs.Bounds.{reached_more, within_more}
use Rattle.multi_bodies.proofs.bodies.bounds_of.Goals as goal

pub loop-len-preserved : goal.loop-len-preserved
loop-len-preserved c =
    let ns = c.args.lens.now in
    let k = c.loop-len.len-index in
    let b = c.loop-len.bounds in
    let x = get_or ns k 0 in
    let low : k < length ns = search rules in
    let least : min b.least x ≡ c.min.result = search rules in
    let most : max b.most x ≡ c.max.result = search rules in
    record {
      within = subst (λ n. (i : ℕ) → i < k + 1 → (n ≤ get_or ns i 0) × (get_or ns i 0 ≤ c.max.result)) least
          (subst (λ n. (i : ℕ) → i < k + 1 → (min b.least x ≤ get_or ns i 0) × (get_or ns i 0 ≤ n)) most
          (within_more ns k x b.least b.most refl c.loop-len.invariant.within));
      reached = subst (λ n. AreReached n c.max.result ns) least (subst (λ n. AreReached (min b.least x) n ns) most
          (reached_more ns k x b.least b.most refl low c.loop-len.invariant.reached));
    }
