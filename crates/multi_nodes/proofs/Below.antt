-- What holds of each number below one.
use Rattle.std.proofs.Common.{◌≡◌, ◌<◌, ◌+◌, ◌&&◌, ℕ, zero, suc, Bool, true, false, true≢false, refl, sym, ap, ◌∙◌, arith, below_more}
use Rattle.std.proofs.lemmas.Bool.{and_parts, and_from}
use Rattle.script_tree.specs.Datum.{Datum}
use Rattle.script_tree.specs.Alike.{same_datum}
use Rattle.multivalue.specs.Many.{Many, all}
use Rattle.multi_nodes.specs.Members.{all_below, is_shared}
use Rattle.group_laws.proofs.Same.{value_itself}

-- one more

pub below_each : (n : ℕ) (p : ℕ → Bool) → all_below n p ≡ true → (i : ℕ) → i < n → p i ≡ true
below_each zero p h i lt = absurd (omega (arith, lt))
below_each (suc n) p h i lt =
    let parts = and_parts (all_below n p) (p n) h in
    let more : i < n + 1 = omega (arith, lt) in
    below_more (λ j. p j ≡ true) n (below_each n p parts.0) parts.1 i more

pub each_below : (n : ℕ) (p : ℕ → Bool) → ((i : ℕ) → i < n → p i ≡ true) → all_below n p ≡ true
each_below zero p h = refl
each_below (suc n) p h = and_from (all_below n p) (p n) (each_below n p (λ i lt. h i (omega (arith, lt)))) (h n (omega arith))

pub some_not : (n : ℕ) (p : ℕ → Bool) (i : ℕ) → i < n → p i ≡ false → all_below n p ≡ false
some_not n p i lt h = by (all_below n p) refl
  where
    by : (b : Bool) → all_below n p ≡ b → b ≡ false
    by false e = refl
    by true e = sym (below_each n p e i lt) ∙ h

-- one is not so
pub below_not : (n : ℕ) (p : ℕ → Bool) → all_below n p ≡ false → (i : ℕ) × (i < n) × (p i ≡ false)
below_not zero p h = absurd (true≢false h)
below_not (suc n) p h = by (all_below n p) (p n) refl refl h (below_not n p)
  where
    by : (a b : Bool) → all_below n p ≡ a → p n ≡ b → (a && b) ≡ false → (all_below n p ≡ false → (i : ℕ) × (i < n) × (p i ≡ false))
        → (i : ℕ) × (i < suc n) × (p i ≡ false)
    by true true e f k fewer = absurd (true≢false k)
    by true false e f k fewer = (n, omega arith, f)
    by false b e f k fewer = let r = fewer e in (r.0, omega (arith, r.1), r.2)

-- one value is shared by all
pub one_shared : (m : Many) (d : Datum) (n : ℕ) → m ≡ all d → is_shared n m ≡ true
one_shared m d n e = ap (is_shared n) e ∙ each_below n (λ i. same_datum d d) (λ i lt. value_itself d)
