-- More than two words are never one name.
use Rattle.std.proofs.Common.{◌≡◌, ℕ, List, [], ◌∷◌, Option, Some, None, option_map, Bool, true, false, if◌then◌else◌, codes, refl, sym, map, length, ◌≤◌, arith}
use Rattle.std.specs.Str.{bytes_eq}
use Rattle.command_words.specs.Words.{is_option, names_in, in_one}

two_before : (a b : List ℕ) (o : Option (List (List ℕ))) → in_one (option_map (λ n. a ∷ n) (option_map (λ n. b ∷ n) o)) ≡ None
two_before a b None = refl
two_before a b (Some ns) = refl

second : (t u : Bool) (a b c : List ℕ) (l : List (List ℕ)) (o : Option (List (List ℕ)))
    → in_one (option_map (λ n. a ∷ n) (if t then Some (c ∷ l) else (if u then None else option_map (λ n. b ∷ n) o)))
    ≡ None
second true u a b c l o = refl
second false true a b c l o = refl
second false false a b c l o = two_before a b o

first : (t u : Bool) (a b c : List ℕ) (l : List (List ℕ))
    → in_one (if t then Some (b ∷ c ∷ l) else (if u then None else option_map (λ n. a ∷ n) (names_in (b ∷ c ∷ l))))
    ≡ None
first true u a b c l = refl
first false true a b c l = refl
first false false a b c l = second (bytes_eq b (codes "--")) (is_option b) a b c l (names_in (c ∷ l))

pub too_many : (a b c : List ℕ) (l : List (List ℕ)) → in_one (names_in (a ∷ b ∷ c ∷ l)) ≡ None
too_many a b c l = first (bytes_eq a (codes "--")) (is_option a) a b c l

pub many_words : {A : Type 0} (f : A → List ℕ) (ws : List A) → 3 ≤ length ws → None ≡ in_one (names_in (map f ws))
many_words f [] h = absurd (omega (arith, h))
many_words f (a ∷ []) h = absurd (omega (arith, h))
many_words f (a ∷ b ∷ []) h = absurd (omega (arith, h))
many_words f (a ∷ b ∷ c ∷ ws) h = sym (too_many (f a) (f b) (f c) (map f ws))
