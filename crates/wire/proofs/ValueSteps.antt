-- The values of a list, read one after another.
use Rattle.std.proofs.Common.{◌≡◌, ℕ, ◌+◌, ◌<◌, ◌≤◌, ◌^◌, List, [], ◌∷◌, ◌++◌, length, drop, Result, Ok, Err, refl, sym, ap, subst, ◌∙◌, append_assoc, arith}
use Rattle.std.proofs.lemmas.List.{append-nil}
use Rattle.std.specs.Int.{w32, to_be_bytes}
use Rattle.std.specs.Prelude.{IsErrAnd}
use Rattle.script_tree.specs.Datum.{Datum, Data, none, more, members, members-data_of, data_of, list, size, nesting, members_size, members_nesting}
use Rattle.script_tree.specs.declared.limits.TheConstants.{MOST_VALUE_SIZE}
use Rattle.wire.specs.Spellings.{IsSpelled, IsFieldAt, NoneIsAt, number_field, value_spelling, values_spelling, HasWideNumbers, HaveWideNumbers}
use Rattle.wire.specs.ValueReadings.{tag_of, tail_of, IsBounded, HasValue, HasTail, LacksValue, LacksTail, GivesValue, GivesTail}
use Rattle.basis.specs.declared.or_memory.OrMemory.{OrMemory}
use Rattle.basis.specs.declared.or_memory.OrMemory.TheVariants.{Memory, Other}
use Rattle.wire.specs.declared.fault.Unreadable.{Unreadable}
use Rattle.wire.specs.declared.value_reading.Part.{Part}
use Rattle.wire.proofs.Spelled.{joined, first_part, second_part, same_field}
use Rattle.wire.proofs.OneSpelling.{one_of_32}
use Rattle.wire.proofs.ValueSpellings.{value_apart, members_few}
use Rattle.wire.proofs.ValueTags.{as_list}

-- These values stand from a place to another one; what is left of the room, and their size, are the room.
pub record AreRead (depth room : ℕ) (bytes : List ℕ) (from : ℕ) (vs : List Datum) (to left : ℕ) : Type 0 where
  pub spelled : IsSpelled bytes from (values_spelling (data_of vs)) to
  pub wide : HaveWideNumbers (data_of vs)
  pub nested : members_nesting (data_of vs) ≤ depth
  pub sized : left + members_size (data_of vs) ≡ room

-- ---- one value more

values_push : (vs : List Datum) (v : Datum) → values_spelling (data_of (vs ++ v ∷ [])) ≡ values_spelling (data_of vs) ++ value_spelling v
values_push [] v = append-nil (value_spelling v)
values_push (x ∷ xs) v = ap (λ (s : List ℕ). value_spelling x ++ s) (values_push xs v)
    ∙ sym (append_assoc (value_spelling x) (values_spelling (data_of xs)) (value_spelling v))

size_push : (vs : List Datum) (v : Datum) → members_size (data_of (vs ++ v ∷ [])) ≡ members_size (data_of vs) + size v
size_push [] v = omega arith
size_push (x ∷ xs) v = omega (arith, size_push xs v)

nesting_push : (vs : List Datum) (v : Datum) (depth : ℕ) → members_nesting (data_of vs) ≤ depth → nesting v ≤ depth
    → members_nesting (data_of (vs ++ v ∷ [])) ≤ depth
nesting_push [] v depth p q = omega arith
nesting_push (x ∷ xs) v depth p q = let rest = nesting_push xs v depth (omega arith) q in omega arith

wide_push : (vs : List Datum) (v : Datum) → HaveWideNumbers (data_of vs) → HasWideNumbers v → HaveWideNumbers (data_of (vs ++ v ∷ []))
wide_push [] v p q = (q, tt)
wide_push (x ∷ xs) v p q = (p.0, wide_push xs v p.1 q)

pub one_read : (depth room : ℕ) (bytes : List ℕ) (from : ℕ) (vs : List Datum) (to left : ℕ) (part : Part)
    → AreRead depth room bytes from vs to left → HasValue depth left bytes to part
    → AreRead depth room bytes from (vs ++ part.value ∷ []) part.next part.room
one_read depth room bytes from vs to left part read (here, bound) =
    let Here : List ℕ → Type 0 = λ s. IsSpelled bytes from s part.next in
    let sum : part.room + size part.value ≡ left = bound.sized in
    let all : left + members_size (data_of vs) ≡ room = read.sized in
    record {
      spelled = subst Here (sym (values_push vs part.value))
          (joined bytes (values_spelling (data_of vs))
          (value_spelling part.value) from to part.next read.spelled here);
      wide = wide_push vs part.value read.wide bound.wide;
      nested = nesting_push vs part.value depth read.nested bound.nested;
      sized = omega (arith, size_push vs part.value);
    }

-- ---- the whole list

pub list_given : (bytes : List ℕ) (at count next depth below room : ℕ) (vs : List Datum) (to left : ℕ) (d : Datum)
    → IsFieldAt (number_field w32) bytes at count next → length vs ≡ count → below + 1 ≡ depth
    → AreRead below room bytes next vs to left → d ≡ list (data_of vs)
    → HasTail 5 depth (room + 1) bytes at (record { value = d; next = to; room = left })
list_given bytes at count next depth below room vs to left d here len under read is =
    let Count : ℕ → Type 0 = λ n. IsSpelled bytes at (to_be_bytes w32 n) next in
    let counted : length (members (data_of vs)) ≡ count = ap length (members-data_of vs) ∙ len in
    let both = joined bytes (to_be_bytes w32 (length (members (data_of vs)))) (values_spelling (data_of vs)) at next to (subst Count (sym counted) here.1) read.spelled in
    let nested : members_nesting (data_of vs) ≤ below = read.nested in
    let sized : left + members_size (data_of vs) ≡ room = read.sized in
    let Given : Datum → Type 0 = λ x. HasTail 5 depth (room + 1) bytes at (record { value = x; next = to; room = left }) in
    subst Given (sym is) (refl, (both, record { wide = read.wide; nested = omega arith; sized = omega arith }))

-- ---- no list

-- the list that stands behind its tag, if one does
pub record IsListThere (below room : ℕ) (bytes : List ℕ) (at : ℕ) (ds : Data) (end' : ℕ) : Type 0 where
  pub wide : HaveWideNumbers ds
  pub nested : members_nesting ds ≤ below
  pub sized : members_size ds ≤ room
  pub count : IsFieldAt (number_field w32) bytes at (length (members ds)) (at + 4)
  pub spelled : IsSpelled bytes (at + 4) (values_spelling ds) end'

list_there : (depth below room : ℕ) (bytes : List ℕ) (at : ℕ) (d : Datum) (end' : ℕ) → room ≤ MOST_VALUE_SIZE
    → below + 1 ≡ depth → 5 ≡ tag_of d → IsBounded depth (room + 1) d → IsSpelled bytes at (tail_of d) end'
    → (ds : Data) × IsListThere below room bytes at ds end'
list_there depth below room bytes at d end' small under tag bound p =
    let ds = as_list d tag in
    let P : Datum → Type 0 = λ x. IsBounded depth (room + 1) x × IsSpelled bytes at (tail_of x) end' in
    let here : P (list ds.0) = subst P ds.1 (bound, p) in
    let nested : 1 + members_nesting ds.0 ≤ depth = here.0.nested in
    let sized : 1 + members_size ds.0 ≤ room + 1 = here.0.sized in
    let few : length (members ds.0) < 2 ^ 32 = omega (arith, members_few ds.0) in
    let first = first_part bytes (to_be_bytes w32 (length (members ds.0))) (values_spelling ds.0) at end' here.1 in (
      ds.0,
      record {
        wide = here.0.wide;
        nested = omega arith;
        sized = omega arith;
        count = (few, first);
        spelled = second_part bytes (to_be_bytes w32 (length (members ds.0))) (values_spelling ds.0) at end' here.1;
      },
    )

pub no_depth : (depth room : ℕ) (bytes : List ℕ) (at : ℕ) → depth < 1 → LacksTail 5 depth room bytes at
no_depth depth room bytes at flat d end' tag bound p =
    let ds = as_list d tag in
    let P : Datum → Type 0 = λ x. IsBounded depth room x in
    let here : P (list ds.0) = subst P ds.1 bound in
    let nested : 1 + members_nesting ds.0 ≤ depth = here.nested in
    omega arith

pub no_count : (depth below room : ℕ) (bytes : List ℕ) (at : ℕ) → room ≤ MOST_VALUE_SIZE → below + 1 ≡ depth
    → NoneIsAt (number_field w32) bytes at → LacksTail 5 depth (room + 1) bytes at
no_count depth below room bytes at small under none' d end' tag bound p =
    let there = list_there depth below room bytes at d end' small under tag bound p in
    none' (length (members there.0)) (at + 4) there.1.count

-- a list with more members than were read has one where the next is missed
missing : (below left : ℕ) (bytes : List ℕ) (from : ℕ) (vs : List Datum) (to : ℕ) (ds : Data) (end' room : ℕ)
    → room ≤ MOST_VALUE_SIZE → IsSpelled bytes from (values_spelling (data_of vs)) to → HaveWideNumbers (data_of vs)
    → left + members_size (data_of vs) ≡ room → HaveWideNumbers ds → members_nesting ds ≤ below
    → members_size ds ≤ room → IsSpelled bytes from (values_spelling ds) end' → length vs < length (members ds)
    → LacksValue below left bytes to → ⊥
missing below left bytes from [] to none end' room small read wide sum wide' nested sized there fewer not = absurd (omega arith)
missing below left bytes from (v ∷ vs) to none end' room small read wide sum wide' nested sized there fewer not = absurd (omega arith)
missing below left bytes from [] to (more d ds) end' room small read wide sum wide' nested sized there fewer not =
    let same : from ≡ to = sym (omega (arith, read.next_is)) in
    let Here : ℕ → Type 0 = λ n. IsSpelled bytes n (value_spelling d) (from + length (value_spelling d)) in
    not d (from + length (value_spelling d)) (record { wide = wide'.0; nested = omega arith; sized = omega arith })
    (subst Here same (first_part bytes (value_spelling d) (values_spelling ds) from end' there))
missing below left bytes from (v ∷ vs) to (more d ds) end' room small read wide sum wide' nested sized there fewer not =
    let next : ℕ = from + length (value_spelling v) in
    let next' : ℕ = from + length (value_spelling d) in
    let first = first_part bytes (value_spelling v) (values_spelling (data_of vs)) from to read in
    let first' = first_part bytes (value_spelling d) (values_spelling ds) from end' there in
    let same : v ≡ d = (value_apart v d (drop next bytes) (drop next' bytes) (omega arith) (omega arith) wide.0 wide'.0 (sym first.spells ∙ first'.spells)).0 in
    let places : next' ≡ next = ap (λ (x : Datum). from + length (value_spelling x)) (sym same) in
    let sizes : size v ≡ size d = ap size same in
    let Here : ℕ → Type 0 = λ n. IsSpelled bytes n (values_spelling ds) end' in
    let rest = subst Here places (second_part bytes (value_spelling d) (values_spelling ds) from end' there) in
    missing below left bytes next vs to ds end' (left + members_size (data_of vs)) (omega arith)
    (second_part bytes (value_spelling v) (values_spelling (data_of vs)) from to read) wide.1 refl wide'.1
    (omega arith) (omega arith) rest (omega arith) not

no_member : (depth below room : ℕ) (bytes : List ℕ) (at count next : ℕ) (vs : List Datum) (to left : ℕ)
    → room ≤ MOST_VALUE_SIZE → below + 1 ≡ depth → IsFieldAt (number_field w32) bytes at count next
    → length vs < count → AreRead below room bytes next vs to left → LacksValue below left bytes to
    → LacksTail 5 depth (room + 1) bytes at
no_member depth below room bytes at count next vs to left small under here fewer read not d end' tag bound p =
    let there = list_there depth below room bytes at d end' small under tag bound p in
    let same = same_field (number_field w32) one_of_32 bytes at count (length (members there.0)) next (at + 4) here there.1.count in
    let Here : ℕ → Type 0 = λ n. IsSpelled bytes n (values_spelling there.0) end' in
    missing below left bytes next vs to there.0 end' room small read.spelled read.wide read.sized there.1.wide there.1.nested there.1.sized (subst Here (sym same.1) there.1.spelled) (omega (arith, same.0)) not

-- the fault of a member's reader is one of the list
fault_there : (depth below room : ℕ) (bytes : List ℕ) (at count next : ℕ) (vs : List Datum) (to left : ℕ)
    (fault : OrMemory Unreadable) → room ≤ MOST_VALUE_SIZE → below + 1 ≡ depth
    → IsFieldAt (number_field w32) bytes at count next → length vs < count → AreRead below room bytes next vs to left
    → GivesValue below left bytes to (Err fault) → GivesTail 5 depth (room + 1) bytes at (Err fault)
fault_there depth below room bytes at count next vs to left Memory small under here fewer read gives = tt
fault_there depth below room bytes at count next vs to left (Other fault) small under here fewer read gives =
    no_member depth below room bytes at count next vs to left small under here fewer read gives

pub member_fault : (depth below room : ℕ) (bytes : List ℕ) (at count next : ℕ) (vs : List Datum) (to left : ℕ)
    (fault : OrMemory Unreadable) (r : Result Part (OrMemory Unreadable)) → room ≤ MOST_VALUE_SIZE → below + 1 ≡ depth
    → IsFieldAt (number_field w32) bytes at count next → length vs < count → AreRead below room bytes next vs to left
    → GivesValue below left bytes to (Err fault) → IsErrAnd r (λ e. e ≡ fault)
    → GivesTail 5 depth (room + 1) bytes at r
member_fault depth below room bytes at count next vs to left fault (Ok part) small under here fewer read gives is = absurd is
member_fault depth below room bytes at count next vs to left fault (Err found) small under here fewer read gives is =
    let P : OrMemory Unreadable → Type 0 = λ f. GivesTail 5 depth (room + 1) bytes at (Err f) in
    subst P (sym is) (fault_there depth below room bytes at count next vs to left fault small under here fewer read gives)
