-- One record more of a file whose places are kept.
use Rattle.std.proofs.Common.{◌≡◌, ◌∙◌, ℕ, zero, suc, ◌+◌, ◌<◌, List, [], ◌∷◌, ◌++◌, length, map, take, drop, get_or, Some, append_assoc, inl, inr, ap, sym, refl, subst, arith}
use Rattle.std.proofs.lemmas.Bool.{cases_lt}
use Rattle.std.proofs.Math.Seq.{get_or-append_seam}
use Rattle.std.proofs.lemmas.List.{take_at, length-append, map-append, get_or_append_left}
use Rattle.std.proofs.lemmas.Nat.{from_be_bytes-to_be_bytes_4}
use Rattle.std.specs.Int.{w32, from_be_bytes, to_be_bytes}
use Rattle.basis.specs.Lists.{nth}
use Rattle.wire.specs.Files.{Format, record_field}
use Rattle.wire.specs.Recorded.{payload_at, payloads_at, StandAt}
use Rattle.wire.specs.Spellings.{IsFieldAt, bytes_field}
use Rattle.wire.proofs.Spelled.{rest_behind}

-- what is spelled at a place is the payload there
pub payload_is : (bytes : List ℕ) (at : ℕ) (p : List ℕ) (next : ℕ) → IsFieldAt bytes_field bytes at p next → payload_at bytes at ≡ p
payload_is bytes at p next (small, s) =
    let len : List ℕ = to_be_bytes w32 (length p) in
    let rest : List ℕ = p ++ drop next bytes in
    let front : drop at bytes ≡ len ++ rest = s.spells ∙ append_assoc len p (drop next bytes) in
    let four : length len ≡ 4 = omega arith in
    let number : from_be_bytes w32 (take 4 (drop at bytes)) ≡ length p = ap (λ b. from_be_bytes w32 (take 4 b)) front ∙ ap (from_be_bytes w32) (take_at len rest 4 four) ∙ from_be_bytes-to_be_bytes_4 (length p) small in
    let behind : drop (at + 4) bytes ≡ rest = rest_behind bytes len rest at front in
    rw (number, behind) (take_at p (drop next bytes) (length p) refl)

-- one place more
pub places_more : (bytes places : List ℕ) (at next : ℕ) (p : List ℕ) → StandAt bytes places
    → IsFieldAt bytes_field bytes at p next → StandAt bytes (places ++ at ∷ [])
places_more bytes places at next p stand here i lt =
    let Here : ℕ → Type 0 = λ place. (n : ℕ) × IsFieldAt bytes_field bytes place (payload_at bytes place) n in
    elim (cases_lt i (length places)) [
      | inl before ↦ subst Here (sym (get_or_append_left places (at ∷ []) 0 i before)) (stand i before)
      | inr past ↦
          let last : length places ≡ i = omega (arith, past, lt, length-append places (at ∷ [])) in
          let is : get_or (places ++ at ∷ []) i 0 ≡ at = ap (λ k. get_or (places ++ at ∷ []) k 0) (sym last) ∙ get_or-append_seam places at [] 0 in
          subst Here (sym is) (next, subst (λ q. IsFieldAt bytes_field bytes at q next) (sym (payload_is bytes at p next here)) here)
    ]

-- and one payload more
pub payloads_more : {A : Type 0} (format : Format A) (bytes places : List ℕ) (items : List A) (at next : ℕ) (x : A)
    → payloads_at bytes places ≡ map format.payload items
    → IsFieldAt (record_field format items) bytes at x next → payloads_at bytes (places ++ at ∷ []) ≡ map format.payload (items ++ x ∷ [])
payloads_more format bytes places items at next x so_far here =
    map-append (payload_at bytes) places (at ∷ [])
    ∙ ap (λ ps. ps ++ payload_at bytes at ∷ []) so_far
    ∙ ap (λ p. map format.payload items ++ p ∷ []) (payload_is bytes at (format.payload x) next (here.0.1, here.1))
    ∙ sym (map-append format.payload items (x ∷ []))

pub stands_more : {A : Type 0} (format : Format A) (bytes places : List ℕ) (items : List A) (at next : ℕ) (x : A) → StandAt bytes places
    → IsFieldAt (record_field format items) bytes at x next → StandAt bytes (places ++ at ∷ [])
stands_more format bytes places items at next x stand here = places_more bytes places at next (format.payload x) stand (here.0.1, here.1)

-- the payload of a place
pub payload_there : (bytes places : List ℕ) (i : ℕ) → i < length places → nth (payloads_at bytes places) i ≡ Some (payload_at bytes (get_or places i 0))
payload_there bytes [] i lt = absurd (omega (arith, lt))
payload_there bytes (at ∷ places) zero lt = refl
payload_there bytes (at ∷ places) (suc i) lt = payload_there bytes places i (omega (arith, lt))
