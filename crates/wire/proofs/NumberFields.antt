-- The reading functions of numbers and byte strings find what is spelled.
use Rattle.std.proofs.Common.{◌≡◌, ℕ, ◌+◌, ◌^◌, ◌<◌, ◌≤◌, ℤ, true, cond, leb, List, ◌++◌, length, take, drop, Option, Some, None, refl, sym, ap, subst, ◌∙◌, arith}
use Rattle.std.specs.Int.{Width, w16, w32, w64, byte_len, from_be_bytes, to_be_bytes, cast_signed, cast_unsigned}
use Rattle.std.specs.Int.RustNames.{FitsSigned}
use Rattle.std.proofs.lemmas.Bool.{leb-true, le-leb}
use Rattle.std.proofs.lemmas.Option.{cond_some}
use Rattle.std.proofs.lemmas.Int.{to_z-of_z, of_z-to_z}
use Rattle.std.proofs.lemmas.List.{take_at, drop-drop, length-append, length-drop, length-take, take-append-drop}
use Rattle.std.proofs.lemmas.Nat.{be_bytes_2, be_bytes_4, be_bytes_8, from_be_bytes-to_be_bytes_2, from_be_bytes-to_be_bytes_4, from_be_bytes-to_be_bytes_8}
use mir.ValLaws as laws
use borrow.Author.Differences.{fits_in, read_fits}
use Rattle.basis.proofs.Options.{bind_some, some_one}
use Rattle.wire.proofs.Readings.{number_at, integer_at, bytes_at}
use Rattle.wire.proofs.Readings.{IsBytes, IsReader}
use Rattle.wire.specs.Spellings.{IsSpelled, IsFieldAt, number_field, integer_field, integer_spelling, bytes_field, bytes_spelling}
use Rattle.wire.proofs.Spelled.{IsBytes-drop, IsBytes-take, joined, first_part, second_part, ends_inside}

-- a width whose numbers are spelled and read again
pub record IsWide (w : Width) : Type 0 where
  pub some : 0 < byte_len w
  pub len : (n : ℕ) → length (to_be_bytes w n) ≡ byte_len w
  pub back : (bytes : List ℕ) → length bytes ≡ byte_len w → IsBytes bytes → to_be_bytes w (from_be_bytes w bytes) ≡ bytes
  pub again : (n : ℕ) → n < 256 ^ byte_len w → from_be_bytes w (to_be_bytes w n) ≡ n
  pub below : (bytes : List ℕ) → IsBytes bytes → from_be_bytes w bytes < 256 ^ byte_len w

pub wide16 : IsWide w16
wide16 = record {
  some = omega arith;
  len = λ n. refl;
  back = λ bytes len fits. be_bytes_2 bytes _ len fits refl;
  again = λ n lt. from_be_bytes-to_be_bytes_2 n lt;
  below = λ bytes fits. omega (arith, fits 0, fits 1);
}

pub wide32 : IsWide w32
wide32 = record {
  some = omega arith;
  len = λ n. refl;
  back = λ bytes len fits. be_bytes_4 bytes _ len fits refl;
  again = λ n lt. from_be_bytes-to_be_bytes_4 n lt;
  below = λ bytes fits. omega (arith, fits 0, fits 1, fits 2, fits 3);
}

pub wide64 : IsWide w64
wide64 = record {
  some = omega arith;
  len = λ n. refl;
  back = λ bytes len fits. be_bytes_8 bytes _ len fits refl;
  again = λ n lt. from_be_bytes-to_be_bytes_8 n lt;
  below = λ bytes fits. omega (arith, fits 0, fits 1, fits 2, fits 3, fits 4, fits 5, fits 6, fits 7);
}

-- the bytes from a place up to another one that isn't behind the end
pub taken : (bytes : List ℕ) (at n : ℕ) → at + n ≤ length bytes → IsSpelled bytes at (take n (drop at bytes)) (at + n)
taken bytes at n within =
    let len : length (take n (drop at bytes)) ≡ n = omega (arith, length-take n (drop at bytes), length-drop at bytes) in
    record {
      spells = sym (take-append-drop n (drop at bytes)) ∙ ap (λ (x : List ℕ). take n (drop at bytes) ++ x) (drop-drop n at bytes);
      next_is = omega arith;
    }

pub number_found : (w : Width) → IsWide w → (bytes : List ℕ) (at n next : ℕ) → IsBytes bytes
    → number_at w bytes at ≡ Some (n, next) → IsFieldAt (number_field w) bytes at n next
number_found w wide bytes at n next fits e =
    let k = byte_len w in
    let found : ℕ × ℕ = (from_be_bytes w (take k (drop at bytes)), at + k) in
    let wanted : ℕ × ℕ = (n, next) in
    let g : (leb (at + k) (length bytes) ≡ true) × (found ≡ wanted) = cond_some (leb (at + k) (length bytes)) found wanted e in
    let within : at + k ≤ length bytes = leb-true _ _ g.0 in
    let n-is : from_be_bytes w (take k (drop at bytes)) ≡ n = ap (λ (p : ℕ × ℕ). p.0) g.1 in
    let next-is : at + k ≡ next = ap (λ (p : ℕ × ℕ). p.1) g.1 in
    let small : IsBytes (take k (drop at bytes)) = IsBytes-take k (drop at bytes) (IsBytes-drop at bytes fits) in
    let len : length (take k (drop at bytes)) ≡ k = omega (arith, length-take k (drop at bytes), length-drop at bytes) in
    let front : take k (drop at bytes) ≡ to_be_bytes w n = sym (wide.back (take k (drop at bytes)) len small) ∙ ap (to_be_bytes w) n-is in
    let Below : ℕ → Type 0 = λ m. m < 256 ^ k in
    let Front : List ℕ → Type 0 = λ x. IsSpelled bytes at x (at + k) in
    let Next : ℕ → Type 0 = λ m. IsSpelled bytes at (to_be_bytes w n) m in
    (subst Below n-is (wide.below (take k (drop at bytes)) small), subst Next next-is (subst Front front (taken bytes at k within)))

pub number_only : (w : Width) → IsWide w → (bytes : List ℕ) (at n next : ℕ) → IsFieldAt (number_field w) bytes at n next → number_at w bytes at ≡ Some (n, next)
number_only w wide bytes at n next (small, p) =
    let k = byte_len w in
    let len : length (to_be_bytes w n) ≡ k = wide.len n in
    let inside : (at < next) × (next ≤ length bytes) = ends_inside bytes (to_be_bytes w n) at next (omega (arith, len, wide.some)) p in
    let next-is : at + k ≡ next = omega (arith, p.next_is, len) in
    let within : leb (at + k) (length bytes) ≡ true = le-leb _ _ (omega (arith, inside.1, next-is)) in
    let front : take k (drop at bytes) ≡ to_be_bytes w n = ap (take k) p.spells ∙ take_at (to_be_bytes w n) (drop next bytes) k len in
    let value : from_be_bytes w (take k (drop at bytes)) ≡ n = ap (from_be_bytes w) front ∙ wide.again n small in
    let pair : ℕ → ℕ → Option (ℕ × ℕ) = λ a b. Some (a, b) in
    rw within (ap (λ m. pair m (at + k)) value ∙ ap (pair n) next-is)

pub number_reader : (w : Width) → IsWide w → IsReader (number_field w) (number_at w)
number_reader w wide = record { found = number_found w wide; only = number_only w wide }

-- ---- two's complement

pub integer_found : (bytes : List ℕ) (at : ℕ) (z : ℤ) (next : ℕ) → IsBytes bytes
    → integer_at bytes at ≡ Some (z, next) → IsFieldAt integer_field bytes at z next
integer_found bytes at z next fits e =
    let b = bind_some (number_at w64 bytes at) (λ number. Some (cast_signed w64 number.0, number.1)) (z, next) e in
    let made : ℤ × ℕ = (cast_signed w64 b.0.0, b.0.1) in
    let same : made ≡ (z, next) = some_one made (z, next) b.2 in
    let n = number_found w64 wide64 bytes at b.0.0 b.0.1 fits b.1 in
    let wide : FitsSigned w64 (cast_signed w64 b.0.0) = omega (arith, fits_in, read_fits w64 b.0.0) in
    let Here : List ℕ → Type 0 = λ s. IsSpelled bytes at s b.0.1 in
    let spelled : IsSpelled bytes at (integer_spelling made.0) b.0.1 = subst Here (sym (ap (to_be_bytes w64) (of_z-to_z w64 b.0.0 n.0))) n.1 in
    subst (λ (p : ℤ × ℕ). IsFieldAt integer_field bytes at p.0 p.1) same (wide, spelled)

pub integer_only : (bytes : List ℕ) (at : ℕ) (z : ℤ) (next : ℕ) → IsFieldAt integer_field bytes at z next → integer_at bytes at ≡ Some (z, next)
integer_only bytes at z next (wide, p) =
    let n : number_at w64 bytes at ≡ Some (cast_unsigned w64 z, next) = number_only w64 wide64 bytes at (cast_unsigned w64 z) next ((laws.of_z_fits w64 z wide).fits, p) in
    rw n (ap (λ (y : ℤ). Some (y, next)) (to_z-of_z w64 z wide))

pub integer_reader : IsReader integer_field integer_at
integer_reader = record { found = integer_found; only = integer_only }

-- ---- byte strings

pub bytes_found : (bytes : List ℕ) (at : ℕ) (x : List ℕ) (next : ℕ) → IsBytes bytes → bytes_at bytes at ≡ Some (x, next) → IsFieldAt bytes_field bytes at x next
bytes_found bytes at x next fits e =
    let rest : ℕ × ℕ → Option (List ℕ × ℕ) = λ len. cond (leb (len.1 + len.0) (length bytes)) (Some (take len.0 (drop len.1 bytes), len.1 + len.0)) None in
    let b = bind_some (number_at w32 bytes at) rest (x, next) e in
    let n : ℕ = b.0.0 in
    let start : ℕ = b.0.1 in
    let made : List ℕ × ℕ = (take n (drop start bytes), start + n) in
    let g = cond_some (leb (start + n) (length bytes)) made (x, next) b.2 in
    let within : start + n ≤ length bytes = leb-true _ _ g.0 in
    let len : length (take n (drop start bytes)) ≡ n = omega (arith, length-take n (drop start bytes), length-drop start bytes) in
    let first = number_found w32 wide32 bytes at n start fits b.1 in
    let both = joined bytes (to_be_bytes w32 n) (take n (drop start bytes)) at start (start + n) first.1 (taken bytes start n within) in
    let Len : ℕ → Type 0 = λ k. IsSpelled bytes at (to_be_bytes w32 k ++ take n (drop start bytes)) (start + n) in
    subst (λ (p : List ℕ × ℕ). IsFieldAt bytes_field bytes at p.0 p.1) g.1 (omega (arith, first.0, len), subst Len (sym len) both)

pub bytes_only : (bytes : List ℕ) (at : ℕ) (x : List ℕ) (next : ℕ) → IsFieldAt bytes_field bytes at x next → bytes_at bytes at ≡ Some (x, next)
bytes_only bytes at x next (small, p) =
    let inside = ends_inside bytes (bytes_spelling x) at next (omega (arith, length-append (to_be_bytes w32 (length x)) x)) p in
    let first = first_part bytes (to_be_bytes w32 (length x)) x at next p in
    let second = second_part bytes (to_be_bytes w32 (length x)) x at next p in
    let n : number_at w32 bytes at ≡ Some (length x, at + 4) = number_only w32 wide32 bytes at (length x) (at + 4) (small, first) in
    let next-is : (at + 4) + length x ≡ next = sym second.next_is in
    let within : leb ((at + 4) + length x) (length bytes) ≡ true = le-leb _ _ (omega (arith, inside.1, next-is)) in
    let front : take (length x) (drop (at + 4) bytes) ≡ x = ap (take (length x)) second.spells ∙ take_at x (drop next bytes) (length x) refl in
    let pair : List ℕ → ℕ → Option (List ℕ × ℕ) = λ a b. Some (a, b) in
    rw (n, within) (ap (λ a. pair a ((at + 4) + length x)) front ∙ ap (pair x) next-is)

pub bytes_reader : IsReader bytes_field bytes_at
bytes_reader = record { found = bytes_found; only = bytes_only }
