-- A byte and a choice are found where they are spelled.
use Rattle.std.proofs.Common.{◌<◌, get_or, ◌≡◌, ℕ, zero, suc, ◌+◌, Bool, true, false, cond, eqb, List, [], ◌∷◌, ◌++◌, drop, Option, Some, None, refl, sym, ap, subst, ◌∙◌, arith, inl, inr, ◌⊎◌}
use Rattle.std.specs.Prelude.{slice_get}
use Rattle.std.proofs.lemmas.Bool.{eqb-true}
use Rattle.script_tree.specs.declared.operation.Choice.{Choice}
use Rattle.script_tree.specs.declared.operation.Choice.TheVariants.{Nothing, Number}
use Rattle.basis.proofs.Options.{bind_some, some_one}
use Rattle.basis.specs.Options.{◌>>=◌}
use Rattle.wire.proofs.Readings.{byte_at, integer_at, choice_at}
use Rattle.wire.proofs.Readings.{IsBytes, IsReader}
use Rattle.wire.specs.Spellings.{byte_field, IsSpelled, IsFieldAt, NoneIsAt, choice_field, integer_spelling}
use Rattle.wire.proofs.Spelled.{joined, first_part, second_part}
use Rattle.wire.proofs.NumberFields.{integer_found, integer_only}

at_list : (bytes : List ℕ) (at b : ℕ) → slice_get bytes at ≡ Some b → drop at bytes ≡ b ∷ drop (suc at) bytes
at_list [] at b e = absurd (cc)
at_list (x ∷ xs) zero b e = ap (λ y. y ∷ xs) (some_one x b e)
at_list (x ∷ xs) (suc at) b e = at_list xs at b e

from_list : (bytes : List ℕ) (at b : ℕ) (rest : List ℕ) → drop at bytes ≡ b ∷ rest → slice_get bytes at ≡ Some b
from_list [] zero b rest e = absurd (cc)
from_list [] (suc at) b rest e = absurd (cc)
from_list (x ∷ xs) zero b rest e = let one : x ≡ b = cc in ap (λ y. Some y) one
from_list (x ∷ xs) (suc at) b rest e = from_list xs at b rest e

-- one byte stands at a place
pub byte_found : (bytes : List ℕ) (at b next : ℕ) → byte_at bytes at ≡ Some (b, next) → IsSpelled bytes at (b ∷ []) next
byte_found bytes at b next e =
    let o = bind_some (slice_get bytes at) (λ byte. Some (byte, at + 1)) (b, next) e in
    let found : ℕ × ℕ = (o.0, at + 1) in
    let same : found ≡ (b, next) = some_one found (b, next) o.2 in
    let one : suc at ≡ at + 1 = omega arith in
    let front : drop at bytes ≡ o.0 ∷ drop (at + 1) bytes = at_list bytes at o.0 o.1 ∙ ap (λ (n : ℕ). o.0 ∷ drop n bytes) one in
    subst (λ (p : ℕ × ℕ). IsSpelled bytes at (p.0 ∷ []) p.1) same (record { spells = front; next_is = refl })

pub byte_only : (bytes : List ℕ) (at b : ℕ) (rest : List ℕ) (next : ℕ) → IsSpelled bytes at (b ∷ rest) next → byte_at bytes at ≡ Some (b, at + 1)
byte_only bytes at b rest next p = rw (from_list bytes at b (rest ++ drop next bytes) p.spells) refl

at_get : (bytes : List ℕ) (at b : ℕ) → slice_get bytes at ≡ Some b → get_or bytes at 0 ≡ b
at_get [] at b e = absurd (cc)
at_get (x ∷ xs) zero b e = some_one x b e
at_get (x ∷ xs) (suc at) b e = at_get xs at b e

small_byte : (bytes : List ℕ) (at b next : ℕ) → IsBytes bytes → byte_at bytes at ≡ Some (b, next) → b < 256
small_byte bytes at b next fits e =
    let o = bind_some (slice_get bytes at) (λ byte. Some (byte, at + 1)) (b, next) e in
    let found : ℕ × ℕ = (o.0, at + 1) in
    let same : o.0 ≡ b = ap (λ (p : ℕ × ℕ). p.0) (some_one found (b, next) o.2) in
    let Small : ℕ → Type 0 = λ x. x < 256 in
    subst Small (at_get bytes at o.0 o.1 ∙ same) (fits at)

ends_behind : (bytes : List ℕ) (at b next : ℕ) → IsSpelled bytes at (b ∷ []) next → byte_at bytes at ≡ Some (b, next)
ends_behind bytes at b next p =
    let ends : at + 1 ≡ next = sym p.next_is in
    byte_only bytes at b [] next p ∙ ap (λ (n : ℕ). Some (b, n)) ends

pub byte_reader : IsReader byte_field byte_at
byte_reader = record {
  found = λ bytes at b next fits e. (small_byte bytes at b next fits e, byte_found bytes at b next e);
  only = λ bytes at b next p. ends_behind bytes at b next p.1;
}

-- what stands behind its first byte
pub behind_byte : (bytes : List ℕ) (at b : ℕ) (rest : List ℕ) (next : ℕ) → IsSpelled bytes at (b ∷ rest) next → IsSpelled bytes (at + 1) rest next
behind_byte bytes at b rest next p = second_part bytes (b ∷ []) rest at next p

-- by the way that a test went
pub chosen : {A : Type 0} (b : Bool) (x y z : A) → cond b x y ≡ z → ((b ≡ true) × (x ≡ z)) ⊎ ((b ≡ false) × (y ≡ z))
chosen true x y z e = inl (refl, e)
chosen false x y z e = inr (refl, e)

choice_found : (bytes : List ℕ) (at : ℕ) (c : Choice) (next : ℕ) → IsBytes bytes → choice_at bytes at ≡ Some (c, next) → IsFieldAt choice_field bytes at c next
choice_found bytes at c next fits e =
    let numbered : ℕ → Option (Choice × ℕ) = λ place. integer_at bytes place >>= λ number. Some (Number number.0, number.1) in
    let o = bind_some (byte_at bytes at) (λ tag. cond (eqb tag.0 0) (Some (Nothing, tag.1)) (cond (eqb tag.0 1) (numbered tag.1) None)) (c, next) e in
    let tag : ℕ = o.0.0 in
    let behind : ℕ = o.0.1 in
    let first = byte_found bytes at tag behind o.1 in
    let Is : Choice × ℕ → Type 0 = λ p. IsFieldAt choice_field bytes at p.0 p.1 in
    elim (chosen (eqb tag 0) (Some (Nothing, behind)) (cond (eqb tag 1) (numbered behind) None) (Some (c, next)) o.2) [
      | inl p ↦
          let found : Choice × ℕ = (Nothing, behind) in
          let Tag : ℕ → Type 0 = λ t. IsSpelled bytes at (t ∷ []) behind in
          subst Is (some_one found (c, next) p.1) (tt, subst Tag (eqb-true _ _ p.0) first)
      | inr p ↦
          elim (chosen (eqb tag 1) (numbered behind) None (Some (c, next)) p.1) [
            | inl q ↦
                let n = bind_some (integer_at bytes behind) (λ number. Some (Number number.0, number.1)) (c, next) q.1 in
                let found : Choice × ℕ = (Number n.0.0, n.0.1) in
                let number = integer_found bytes behind n.0.0 n.0.1 fits n.1 in
                let Tag : ℕ → Type 0 = λ t. IsSpelled bytes at (t ∷ []) behind in
                let both = joined bytes (1 ∷ []) (integer_spelling n.0.0) at behind n.0.1 (subst Tag (eqb-true _ _ q.0) first) number.1 in
                subst Is (some_one found (c, next) n.2) (number.0, both)
            | inr q ↦ absurd (let e : None ≡ Some (c, next) = q.1 in cc)
          ]
    ]

choice_only : (bytes : List ℕ) (at : ℕ) (c : Choice) (next : ℕ) → IsFieldAt choice_field bytes at c next → choice_at bytes at ≡ Some (c, next)
choice_only bytes at Nothing next (wide, p) =
    let ends : at + 1 ≡ next = sym p.next_is in
    rw (byte_only bytes at 0 [] next p) (ap (λ (n : ℕ). Some (Nothing, n)) ends)
choice_only bytes at (Number z) next (wide, p) =
    let number : integer_at bytes (at + 1) ≡ Some (z, next) = integer_only bytes (at + 1) z next (wide, behind_byte bytes at 1 (integer_spelling z) next p) in
    rw (byte_only bytes at 1 (integer_spelling z) next p, number) refl

pub choice_reader : IsReader choice_field choice_at
choice_reader = record { found = choice_found; only = choice_only }

-- a choice begins with a byte
pub no_choice : (bytes : List ℕ) (at : ℕ) → NoneIsAt byte_field bytes at → NoneIsAt choice_field bytes at
no_choice bytes at none Nothing next (wide, p) = none 0 (at + 1) (omega arith, first_part bytes (0 ∷ []) [] at next p)
no_choice bytes at none (Number n) next (wide, p) = none 1 (at + 1) (omega arith, first_part bytes (1 ∷ []) (integer_spelling n) at next p)
