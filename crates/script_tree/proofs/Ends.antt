-- Where one of two lists has come to its end, the lengths decide.
use Rattle.std.proofs.Common.{◌≡◌, ◌≤◌, ◌<◌, ◌-◌, ℕ, min, length, drop, List, [], ◌∷◌, sym, ◌∙◌, arith}
use Rattle.std.specs.declared.cmp.Ordering.TheVariants.{Less, Equal, Greater}
use Rattle.std.specs.Ordering.{nat_cmp}
use Rattle.std.proofs.lemmas.Bool.Decides.{nat_tests}
use Rattle.std.proofs.lemmas.List.{length-drop}
use Rattle.script_tree.specs.Datum.{Datum, data_of}
use Rattle.script_tree.specs.Order.{compare_members}

equal : (m n : ℕ) → m ≡ n → Equal ≡ nat_cmp m n
equal m n h = grind (arith, nat_tests)

less : (m n : ℕ) → m < n → Less ≡ nat_cmp m n
less m n h = grind (arith, nat_tests)

greater : (m n : ℕ) → n < m → Greater ≡ nat_cmp m n
greater m n h = grind (arith, nat_tests)

tails : (p q : List Datum) (i m n : ℕ) → length p ≡ m - i → length q ≡ n - i → i ≤ m → i ≤ n → min m n ≤ i
    → compare_members (data_of p) (data_of q) ≡ nat_cmp m n
tails [] [] i m n a b c d e = equal m n (omega arith)
tails [] (y ∷ q) i m n a b c d e = less m n (omega arith)
tails (x ∷ p) [] i m n a b c d e = greater m n (omega arith)
tails (x ∷ p) (y ∷ q) i m n a b c d e = absurd (omega arith)

pub lengths_decide : (xs ys us vs : List Datum) (i : ℕ) → xs ≡ us → ys ≡ vs → i ≤ min (length xs) (length ys) → min (length xs) (length ys) ≤ i
    → compare_members (data_of (drop i xs)) (data_of (drop i ys)) ≡ compare_members (data_of xs) (data_of ys)
    → nat_cmp (length xs) (length ys) ≡ compare_members (data_of us) (data_of vs)
lengths_decide xs ys us vs i u v c e h =
    rw (← u, ← v) (sym (tails (drop i xs) (drop i ys) i (length xs) (length ys) (length-drop i xs) (length-drop i ys) (omega arith) (omega arith) e) ∙ h)
