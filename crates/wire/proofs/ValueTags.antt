-- A value stands where its first byte stands and, behind it, the rest.
use Rattle.std.proofs.Common.{◌≡◌, ℕ, ◌+◌, ◌<◌, ◌≤◌, ◌^◌, ℤ, true, false, List, [], ◌∷◌, length, Result, Ok, Err, refl, sym, ap, subst, ◌∙◌, arith}
use Rattle.std.specs.Prelude.{IsErrAnd}
use Rattle.std.specs.Int.{w64, cast_signed, cast_unsigned}
use Rattle.std.proofs.lemmas.Int.{to_z-of_z}
use Rattle.script_tree.specs.Datum.{Datum, null, bool, number, text, list, Data, size, nesting}
use Rattle.wire.specs.Spellings.{IsSpelled, IsFieldAt, NoneIsAt, byte_field, integer_field, bytes_field, value_spelling, HasWideNumbers}
use Rattle.wire.specs.ValueReadings.{tag_of, tail_of, IsBounded, IsWithinRoom, HasTail, LacksValue, LacksTail, GivesValue, GivesTail}
use Rattle.basis.specs.declared.or_memory.OrMemory.{OrMemory}
use Rattle.basis.specs.declared.or_memory.OrMemory.TheVariants.{Memory, Other}
use Rattle.wire.specs.declared.fault.Unreadable.{Unreadable}
use Rattle.wire.specs.declared.value_reading.Part.{Part}
use Rattle.script_tree.specs.declared.limits.TheConstants.{MOST_VALUE_SIZE}
use Rattle.wire.proofs.Spelled.{joined, first_part, second_part, same_field}
use Rattle.wire.proofs.OneSpelling.{byte_one, bytes_one}
use Rattle.wire.proofs.ValueSizes.{size_some}

by_tag : (d : Datum) → value_spelling d ≡ tag_of d ∷ tail_of d
by_tag null = refl
by_tag (bool false) = refl
by_tag (bool true) = refl
by_tag (number n) = refl
by_tag (text bytes) = refl
by_tag (list ds) = refl

pub tag_small : (d : Datum) → tag_of d ≤ 5
tag_small null = omega arith
tag_small (bool false) = omega arith
tag_small (bool true) = omega arith
tag_small (number n) = omega arith
tag_small (text bytes) = omega arith
tag_small (list ds) = omega arith

-- behind a byte stands what is left of a value that begins with it
at_tag : (bytes : List ℕ) (at tag next : ℕ) (d : Datum) (end' : ℕ) → IsFieldAt byte_field bytes at tag next
    → IsSpelled bytes at (value_spelling d) end' → (tag ≡ tag_of d) × IsSpelled bytes next (tail_of d) end'
at_tag bytes at tag next d end' here p =
    let small : tag_of d < 256 = omega (arith, tag_small d) in
    let Whole : List ℕ → Type 0 = λ s. IsSpelled bytes at s end' in
    let q = subst Whole (by_tag d) p in
    let first = first_part bytes (tag_of d ∷ []) (tail_of d) at end' q in
    let same = same_field byte_field byte_one bytes at tag (tag_of d) next (at + 1) here (small, first) in
    let Behind : ℕ → Type 0 = λ n. IsSpelled bytes n (tail_of d) end' in
    (same.0, subst Behind (sym same.1) (second_part bytes (tag_of d ∷ []) (tail_of d) at end' q))

from_tag : (bytes : List ℕ) (at tag next : ℕ) (d : Datum) (end' : ℕ) → IsFieldAt byte_field bytes at tag next
    → tag ≡ tag_of d → IsSpelled bytes next (tail_of d) end' → IsSpelled bytes at (value_spelling d) end'
from_tag bytes at tag next d end' here same p =
    let Tag : ℕ → Type 0 = λ t. IsSpelled bytes at (t ∷ []) next in
    let Whole : List ℕ → Type 0 = λ s. IsSpelled bytes at s end' in
    subst Whole (sym (by_tag d)) (joined bytes (tag_of d ∷ []) (tail_of d) at next end' (subst Tag same here.1) p)

-- what is read behind the tag is read at the tag
pub tail_gives : (bytes : List ℕ) (at tag t next depth room left : ℕ) (r : Result Part (OrMemory Unreadable))
    → IsFieldAt byte_field bytes at tag next → tag ≡ t → left + 1 ≡ room → GivesTail t depth (left + 1) bytes next r
    → GivesValue depth room bytes at r
tail_gives bytes at tag t next depth room left (Ok part) here same sum g =
    let Room : ℕ → Type 0 = λ n. IsWithinRoom depth n part in
    (from_tag bytes at tag next part.value part.next here (same ∙ g.0) g.1.0, subst Room sum g.1.1)
tail_gives bytes at tag t next depth room left (Err Memory) here same sum g = tt
tail_gives bytes at tag t next depth room left (Err (Other fault)) here same sum g =
    λ d end' bound p.
    let there = at_tag bytes at tag next d end' here p in
    let Room : ℕ → Type 0 = λ n. IsBounded depth n d in
    g d end' (sym same ∙ there.0) (subst Room (sym sum) bound) there.1

-- a value that is a tag alone
pub leaf_given : (bytes : List ℕ) (at tag next depth room left : ℕ) (d leaf : Datum)
    → IsFieldAt byte_field bytes at tag next → d ≡ leaf → tag ≡ tag_of leaf → left + 1 ≡ room → tail_of leaf ≡ []
    → size leaf ≡ 1 → nesting leaf ≡ 0 → HasWideNumbers leaf
    → GivesValue depth room bytes at (Ok (record { value = d; next = next; room = left }))
leaf_given bytes at tag next depth room left d leaf there is same sum tail one flat wide =
    let nothing : IsSpelled bytes next [] next = record { spells = refl; next_is = omega arith } in
    let Tail : List ℕ → Type 0 = λ s. IsSpelled bytes next s next in
    let here = from_tag bytes at tag next leaf next there same (subst Tail (sym tail) nothing) in
    let Given : Datum → Type 0 = λ x. GivesValue depth room bytes at (Ok (record { value = x; next = next; room = left })) in
    subst Given (sym is) (here, record { wide = wide; nested = omega arith; sized = omega arith })

pub no_room : (depth room : ℕ) (d : Datum) → room < 1 → IsBounded depth room d → ⊥
no_room depth room d none bound =
    let sized : size d ≤ room = bound.sized in
    omega (arith, size_some d)

-- where nothing is, the fault is right
pub value_fault : (depth room : ℕ) (bytes : List ℕ) (at : ℕ) (place : Unreadable)
    (r : Result Part (OrMemory Unreadable)) → IsErrAnd r (λ e. e ≡ Other place) → LacksValue depth room bytes at
    → GivesValue depth room bytes at r
value_fault depth room bytes at place (Ok part) e none = absurd e
value_fault depth room bytes at place (Err fault) e none =
    let P : OrMemory Unreadable → Type 0 = λ f. GivesValue depth room bytes at (Err f) in
    subst P (sym e) none

pub tail_fault : (tag depth room : ℕ) (bytes : List ℕ) (at : ℕ) (place : Unreadable)
    (r : Result Part (OrMemory Unreadable)) → IsErrAnd r (λ e. e ≡ Other place) → LacksTail tag depth room bytes at
    → GivesTail tag depth room bytes at r
tail_fault tag depth room bytes at place (Ok part) e none = absurd e
tail_fault tag depth room bytes at place (Err fault) e none =
    let P : OrMemory Unreadable → Type 0 = λ f. GivesTail tag depth room bytes at (Err f) in
    subst P (sym e) none

pub no_byte : (depth room : ℕ) (bytes : List ℕ) (at : ℕ) → NoneIsAt byte_field bytes at → LacksValue depth room bytes at
no_byte depth room bytes at none d next bound p =
    let small : tag_of d < 256 = omega (arith, tag_small d) in
    let Whole : List ℕ → Type 0 = λ s. IsSpelled bytes at s next in
    none (tag_of d) (at + 1) (small, first_part bytes (tag_of d ∷ []) (tail_of d) at next (subst Whole (by_tag d) p))

pub no_tag : (depth room : ℕ) (bytes : List ℕ) (at tag next : ℕ) → IsFieldAt byte_field bytes at tag next → 5 < tag → LacksValue depth room bytes at
no_tag depth room bytes at tag next here more d end' bound p =
    let same : tag ≡ tag_of d = (at_tag bytes at tag next d end' here p).0 in
    omega (arith, tag_small d)

-- ---- what has a tag

as_number : (d : Datum) → 3 ≡ tag_of d → (n : ℤ) × (d ≡ number n)
as_number (number n) e = (n, refl)
as_number null e = absurd (omega arith)
as_number (bool false) e = absurd (omega arith)
as_number (bool true) e = absurd (omega arith)
as_number (text bytes) e = absurd (omega arith)
as_number (list ds) e = absurd (omega arith)

as_text : (d : Datum) → 4 ≡ tag_of d → (bytes : List ℕ) × (d ≡ text bytes)
as_text (text bytes) e = (bytes, refl)
as_text null e = absurd (omega arith)
as_text (bool false) e = absurd (omega arith)
as_text (bool true) e = absurd (omega arith)
as_text (number n) e = absurd (omega arith)
as_text (list ds) e = absurd (omega arith)

pub as_list : (d : Datum) → 5 ≡ tag_of d → (ds : Data) × (d ≡ list ds)
as_list (list ds) e = (ds, refl)
as_list null e = absurd (omega arith)
as_list (bool false) e = absurd (omega arith)
as_list (bool true) e = absurd (omega arith)
as_list (number n) e = absurd (omega arith)
as_list (text bytes) e = absurd (omega arith)

-- ---- numbers

pub number_given : (bytes : List ℕ) (at : ℕ) (n : ℤ) (next depth room : ℕ) (d : Datum)
    → IsFieldAt integer_field bytes at n next → d ≡ number (cast_signed w64 (cast_unsigned w64 n))
    → HasTail 3 depth (room + 1) bytes at (record { value = d; next = next; room = room })
number_given bytes at n next depth room d here is =
    let same : number n ≡ d = sym (is ∙ ap number (to_z-of_z w64 n here.0)) in
    let Given : Datum → Type 0 = λ x. HasTail 3 depth (room + 1) bytes at (record { value = x; next = next; room = room }) in
    subst Given same (refl, (here.1, record { wide = here.0; nested = omega arith; sized = refl }))

pub no_number : (bytes : List ℕ) (at : ℕ) (depth room : ℕ) → NoneIsAt integer_field bytes at → LacksTail 3 depth room bytes at
no_number bytes at depth room none d next tag bound p =
    let n = as_number d tag in
    let P : Datum → Type 0 = λ x. IsBounded depth room x × IsSpelled bytes at (tail_of x) next in
    let here : P (number n.0) = subst P n.1 (bound, p) in
    none n.0 next (here.0.wide, here.1)

-- ---- texts

pub text_given : (bytes : List ℕ) (at : ℕ) (t : List ℕ) (next depth room left : ℕ) (d : Datum)
    → IsFieldAt bytes_field bytes at t next → left + length t ≡ room → d ≡ text t
    → HasTail 4 depth (room + 1) bytes at (record { value = d; next = next; room = left })
text_given bytes at t next depth room left d here sum is =
    let Given : Datum → Type 0 = λ x. HasTail 4 depth (room + 1) bytes at (record { value = x; next = next; room = left }) in
    subst Given (sym is) (refl, (here.1, record { wide = tt; nested = omega arith; sized = omega arith }))

text_there : (bytes : List ℕ) (at : ℕ) (depth room : ℕ) (d : Datum) (next : ℕ) → room ≤ MOST_VALUE_SIZE → 4 ≡ tag_of d
    → IsBounded depth (room + 1) d → IsSpelled bytes at (tail_of d) next
    → (t : List ℕ) × (IsFieldAt bytes_field bytes at t next × (length t ≤ room))
text_there bytes at depth room d next small tag bound p =
    let t = as_text d tag in
    let P : Datum → Type 0 = λ x. IsBounded depth (room + 1) x × IsSpelled bytes at (tail_of x) next in
    let here : P (text t.0) = subst P t.1 (bound, p) in
    let short : 1 + length t.0 ≤ room + 1 = here.0.sized in
    let len : length t.0 < 2 ^ 32 = omega arith in
    (t.0, ((len, here.1), omega arith))

pub no_text : (bytes : List ℕ) (at : ℕ) (depth room : ℕ) → room ≤ MOST_VALUE_SIZE → NoneIsAt bytes_field bytes at → LacksTail 4 depth (room + 1) bytes at
no_text bytes at depth room small none d next tag bound p =
    let there = text_there bytes at depth room d next small tag bound p in
    none there.0 next there.1.0

pub no_short_text : (bytes : List ℕ) (at : ℕ) (t : List ℕ) (next depth room : ℕ) → room ≤ MOST_VALUE_SIZE
    → IsFieldAt bytes_field bytes at t next → room < length t → LacksTail 4 depth (room + 1) bytes at
no_short_text bytes at t next depth room small here long d end' tag bound p =
    let there = text_there bytes at depth room d end' small tag bound p in
    let same : t ≡ there.0 = (same_field bytes_field bytes_one bytes at t there.0 next end' here there.1.0).0 in
    let short : length there.0 ≤ room = there.1.1 in
    let len : length t ≡ length there.0 = ap length same in
    omega arith
