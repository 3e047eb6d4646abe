-- The names among the words behind `check` and `replay`.
use Rattle.std.specs.Prelude.{ℕ, Bool, false, ◌==◌, if◌then◌else◌, List, [], ◌∷◌, Option, Some, None, option_map, codes}
use Rattle.std.specs.Str.{bytes_eq}

-- the names of replay's inputs
pub record ReplayNames : Type 0 where
  pub program : List ℕ
  pub state : List ℕ
  pub trace : List ℕ
  pub schedule : List ℕ

-- a dash (its code is 45) and more behind it
abbrev pub is_option : List ℕ → Bool
is_option [] = false
is_option (b ∷ []) = false
is_option (b ∷ c ∷ word) = b == 45

-- the names among words: no option may stand there; behind `--`, which is no name, each word is one
abbrev pub names_in : List (List ℕ) → Option (List (List ℕ))
names_in [] = Some []
names_in (word ∷ words) =
    if bytes_eq word (codes "--") then Some words
    else (if is_option word then None else option_map (λ names. word ∷ names) (names_in words))

-- the names, where they are four
abbrev pub four_names : List (List ℕ) → Option ReplayNames
four_names (p ∷ s ∷ t ∷ c ∷ []) = Some (record { program = p; state = s; trace = t; schedule = c })
four_names names = None

-- the names that were found, where they are four
abbrev pub in_four : Option (List (List ℕ)) → Option ReplayNames
in_four (Some names) = four_names names
in_four None = None

-- the name, where it is one alone
abbrev pub one_name : List (List ℕ) → Option (List ℕ)
one_name (name ∷ []) = Some name
one_name names = None

-- the name that was found, where it is one alone
abbrev pub in_one : Option (List (List ℕ)) → Option (List ℕ)
in_one (Some names) = one_name names
in_one None = None
