-- The space behind the last token becomes an LF.
use Rattle.std.proofs.Common.{◌≡◌, ◌≤◌, ◌<◌, ◌-◌, ◌+◌, ℕ, suc, List, [], ◌∷◌, ◌++◌, length, set, refl, ap, ◌∙◌, arith, length-append}
use Rattle.std.proofs.lemmas.List.{set-append_right}
use Rattle.script_tokens.specs.Kinds.{Kind}
use Rattle.script_print.specs.Prints.{printed, spaced, joined}

set_behind : (xs ys : List ℕ) (i : ℕ) → i ≡ length xs + length ys - 1 → 0 < length ys → set (xs ++ ys) i 10 ≡ xs ++ set ys (length ys - 1) 10
set_behind xs ys i is some =
    let q : i - length xs ≡ length ys - 1 = omega arith in
    set-append_right xs ys (length xs) i 10 refl (omega arith) ∙ ap (λ j. xs ++ set ys j 10) q

set_last : (y : ℕ) (ys : List ℕ) → 0 < length ys → set (y ∷ ys) (length (y ∷ ys) - 1) 10 ≡ y ∷ set ys (length ys - 1) 10
set_last y ys some = let q : length (y ∷ ys) - 1 ≡ suc (length ys - 1) = omega arith in rw q refl

token_ends : (x rest : List ℕ) (y : ℕ) → set (x ++ y ∷ rest) (length (x ++ y ∷ rest) - 1) 10 ≡ x ++ set (y ∷ rest) (length (y ∷ rest) - 1) 10
token_ends x rest y = set_behind x (y ∷ rest) (length (x ++ y ∷ rest) - 1) (omega (arith, length-append x (y ∷ rest))) (omega arith)

some_bytes : (x rest : List ℕ) (y : ℕ) → 0 < length (x ++ y ∷ rest)
some_bytes x rest y = omega (arith, length-append x (y ∷ rest))

ended : (ks : List Kind) → set (spaced ks) (length (spaced ks) - 1) 10 ≡ joined ks
ended [] = refl
ended (k ∷ []) = token_ends (printed k) [] 32
ended (k ∷ j ∷ ks) =
    token_ends (printed k) (spaced (j ∷ ks)) 32
    ∙ ap (λ l. printed k ++ l) (set_last 32 (spaced (j ∷ ks)) (some_bytes (printed j) (spaced ks) 32) ∙ ap (λ l. 32 ∷ l) (ended (j ∷ ks)))

pub space_becomes_lf : (bytes : List ℕ) (last : ℕ) (ks : List Kind) → last ≡ length bytes - 1 → bytes ≡ spaced ks → set bytes last 10 ≡ joined ks
space_becomes_lf bytes last ks is p = rw (is, p) (ended ks)

pub none_printed : (bytes : List ℕ) (ks : List Kind) → length bytes ≤ 0 → bytes ≡ spaced ks → bytes ≡ joined ks
none_printed bytes [] none p = p
none_printed bytes (k ∷ ks) none p = absurd (omega (arith, ap length p, some_bytes (printed k) (spaced ks) 32))
