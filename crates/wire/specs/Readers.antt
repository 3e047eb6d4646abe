-- What a reader of fields answers where one is spelled.
use Rattle.std.specs.Prelude.{◌≡◌, ℕ, List, Result, Ok}
use Rattle.std.specs.Int.{w16, w32, w64}
use Rattle.wire.specs.declared.fault.Unreadable.{Unreadable}
use Rattle.wire.specs.Spellings.{Field, IsFieldAt, ReadsField, byte_field, number_field, integer_field, bytes_field, choice_field}

-- Where a field of the kind stands, whoever reads the place finds it, and the place behind it.
abbrev pub IsFound : {A : Type 0} → Field A → Type 0
IsFound {A} field =
    (bytes : List ℕ) (at : ℕ) (x : A) (next : ℕ) (result : Result (A × ℕ) Unreadable) →
    IsFieldAt field bytes at x next →
    ReadsField (λ y. y) field bytes at result → result ≡ Ok (x, next)

-- The fields of each kind are found.
pub record FindFields : Type 0 where
  pub bytes : IsFound byte_field
  pub numbers_16 : IsFound (number_field w16)
  pub numbers_32 : IsFound (number_field w32)
  pub numbers_64 : IsFound (number_field w64)
  pub integers : IsFound integer_field
  pub byte_strings : IsFound bytes_field
  pub choices : IsFound choice_field
