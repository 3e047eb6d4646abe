-- Fields that consist of others.
use Rattle.std.specs.Prelude.{◌≡◌, ℕ, ◌<◌, ◌^◌, List, [], ◌∷◌, ◌++◌, length}
use Rattle.std.specs.Int.{w32, to_be_bytes}
use Rattle.wire.specs.Spellings.{Field}
pub use Rattle.wire.proofs.Sequences.{pair_field}

-- two fields, one behind the other
abbrev pub both : {A B : Type 0} → Field A → Field B → Field (A × B)
both f g = pair_field f (λ x. g)

-- a field of things that are seen as others
abbrev pub seen_as : {A B : Type 0} → (B → A) → Field A → Field B
seen_as view field = record {
  allows = λ b. field.allows (view b);
  spelling = λ b. field.spelling (view b);
}

-- things of one kind, one behind the other
abbrev pub all_spelled : {A : Type 0} → Field A → List A → List ℕ
all_spelled field [] = []
all_spelled field (x ∷ xs) = field.spelling x ++ all_spelled field xs

-- Each of them may stand.
abbrev pub AllAllowed : {A : Type 0} → Field A → List A → Type 0
AllAllowed field [] = Unit {0}
AllAllowed field (x ∷ xs) = field.allows x × AllAllowed field xs

-- so many of them, one behind the other
abbrev pub row_field : {A : Type 0} → Field A → ℕ → Field (List A)
row_field field count = record {
  allows = λ xs. (length xs ≡ count) × AllAllowed field xs;
  spelling = λ xs. all_spelled field xs;
}

-- how many there are, and these
abbrev pub list_field : {A : Type 0} → Field A → Field (List A)
list_field field = record {
  allows = λ xs. (length xs < 2 ^ 32) × AllAllowed field xs;
  spelling = λ xs. to_be_bytes w32 (length xs) ++ all_spelled field xs;
}
