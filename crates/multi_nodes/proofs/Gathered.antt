-- The answers of members one after the other.
use Rattle.std.proofs.Common.{◌≡◌, ◌<◌, ◌+◌, ℕ, List, [], ◌∷◌, ◌++◌, length, get_or, sym, ap, ◌∙◌, arith, below_more}
use Rattle.std.proofs.lemmas.List.{get_or_append_left}
use Rattle.std.proofs.Math.Seq.{get_or-append_seam}

-- one more, in a list
pub one_put : {X R : Type 0} (f : ℕ → R) (g : X → R) (xs ys : List X) (x d : X) (k : ℕ) → length xs ≡ k → ys ≡ xs ++ x ∷ []
    → ((i : ℕ) → i < k → f i ≡ g (get_or xs i d)) → f k ≡ g x → (i : ℕ) → i < k + 1 → f i ≡ g (get_or ys i d)
one_put f g xs ys x d k len is h e = below_more (λ i. f i ≡ g (get_or ys i d)) k before last
  where
    before : (i : ℕ) → i < k → f i ≡ g (get_or ys i d)
    before i lt = h i lt ∙ ap g (sym (get_or_append_left xs (x ∷ []) d i (omega (arith, lt, len)))) ∙ ap (λ zs. g (get_or zs i d)) (sym is)

    last : f k ≡ g (get_or ys k d)
    last = e ∙ ap g (sym (get_or-append_seam xs x [] d)) ∙ ap (λ n. g (get_or (xs ++ x ∷ []) n d)) len ∙ ap (λ zs. g (get_or zs k d)) (sym is)
