-- The fields of each kind are told apart by their spellings, and found where they are spelled.
use Rattle.std.proofs.Common.{ℕ, Result, Ok, Err, ap, ◌∙◌}
use Rattle.std.specs.Int.{w16, w32, w64}
use Rattle.wire.specs.Readers.{IsFound, FindFields}
use Rattle.wire.specs.Spellings.{Field, HasOneSpelling, AreToldApart, byte_field, number_field, integer_field, bytes_field, choice_field}
use Rattle.wire.specs.declared.fault.Unreadable.{Unreadable}
use Rattle.wire.proofs.OneSpelling.{byte_one, one_of_16, one_of_32, one_of_64, integer_one, bytes_one, choice_one}
use Rattle.wire.proofs.Spelled.{same_field}
use Rattle.wire.proofs.ValueSpellings.{value_one}

pub all_apart : AreToldApart
all_apart = record {
  bytes = byte_one;
  numbers_16 = one_of_16;
  numbers_32 = one_of_32;
  numbers_64 = one_of_64;
  integers = integer_one;
  byte_strings = bytes_one;
  choices = choice_one;
  values = value_one;
}

found : {A : Type 0} (field : Field A) → HasOneSpelling field → IsFound field
found {A} field one bytes at x next (Ok y) here reads =
    let same = same_field field one bytes at y.0 x y.1 next reads here in
    let pair : A → ℕ → Result (A × ℕ) Unreadable = λ a n. Ok (a, n) in
    ap (λ (a : A). pair a y.1) same.0 ∙ ap (pair x) same.1
found field one bytes at x next (Err fault) here reads = absurd (reads.1 x next here)

pub all_found : FindFields
all_found = record {
  bytes = found byte_field byte_one;
  numbers_16 = found (number_field w16) one_of_16;
  numbers_32 = found (number_field w32) one_of_32;
  numbers_64 = found (number_field w64) one_of_64;
  integers = found integer_field integer_one;
  byte_strings = found bytes_field bytes_one;
  choices = found choice_field choice_one;
}
