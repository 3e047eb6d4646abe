-- Fields read step by step: what stands at a place and the place behind it, or nothing.
use Rattle.std.specs.Prelude.{◌≡◌, ℕ, ◌+◌, ◌<◌, ◌==◌, ℤ, List, get_or, length, take, drop, slice_get, Option, Some, None, nat_le, if◌then◌else◌}
use Rattle.std.specs.Int.{Width, w32, w64, byte_len, from_be_bytes, cast_signed}
use Rattle.basis.specs.Options.{◌>>=◌}
use Rattle.script_tree.specs.declared.operation.Choice.{Choice}
use Rattle.script_tree.specs.declared.operation.Choice.TheVariants.{Nothing, Number}
use Rattle.wire.specs.Spellings.{Field, IsFieldAt}

abbrev pub IsBytes : List ℕ → Type 0
IsBytes bytes = (i : ℕ) → get_or bytes i 0 < 256

-- A reading function finds a field, and the place behind it, exactly where it is spelled.
pub record IsReader {A : Type 0} (field : Field A) (read : List ℕ → ℕ → Option (A × ℕ)) : Type 0 where
  pub found : (bytes : List ℕ) (at : ℕ) (x : A) (next : ℕ) → IsBytes bytes → read bytes at ≡ Some (x, next) → IsFieldAt field bytes at x next
  pub only : (bytes : List ℕ) (at : ℕ) (x : A) (next : ℕ) → IsFieldAt field bytes at x next → read bytes at ≡ Some (x, next)

abbrev pub byte_at : List ℕ → ℕ → Option (ℕ × ℕ)
byte_at bytes at = do
  byte ← slice_get bytes at
  Some (byte, at + 1)

-- a number of this width, its highest byte first
abbrev pub number_at : Width → List ℕ → ℕ → Option (ℕ × ℕ)
number_at w bytes at =
    if nat_le (at + byte_len w) (length bytes)
    then Some (from_be_bytes w (take (byte_len w) (drop at bytes)), at + byte_len w)
    else None

-- the same of 64 bits, as two's complement
abbrev pub integer_at : List ℕ → ℕ → Option (ℤ × ℕ)
integer_at bytes at = do
  number ← number_at w64 bytes at
  Some (cast_signed w64 number.0, number.1)

-- a length, then so many bytes; so is a record, whose payload these bytes are
abbrev pub bytes_at : List ℕ → ℕ → Option (List ℕ × ℕ)
bytes_at bytes at = do
  len ← number_at w32 bytes at
  if nat_le (len.1 + len.0) (length bytes) then Some (take len.0 (drop len.1 bytes), len.1 + len.0) else None

abbrev pub choice_at : List ℕ → ℕ → Option (Choice × ℕ)
choice_at bytes at = do
  tag ← byte_at bytes at
  if tag.0 == 0 then Some (Nothing, tag.1) else if tag.0 == 1 then number_choice_at bytes tag.1 else None
  where
    number_choice_at : List ℕ → ℕ → Option (Choice × ℕ)
    number_choice_at bytes at = do
      number ← integer_at bytes at
      Some (Number number.0, number.1)
