-- A file that is read piece by piece.
use Rattle.std.proofs.Common.{◌≡◌, Bool, true, if◌then◌else◌, ◌<◌, ◌≤◌, ◌+◌, ◌-◌, ℕ, List, ◌++◌, length, take, drop, Some, Option, Ok, Err, inl, refl, sym, ap, ◌∙◌, arith, length-drop}
use Rattle.std.proofs.lemmas.List.{take_all, length-take}
use Rattle.std.proofs.lemmas.List.{take-append-le}
use Rattle.std.proofs.Math.Seq.{take-add}
use Rattle.std.specs.FinMap.{get}
use Rattle.outside.specs.Files.{Files, IsReadFrom}
use Rattle.command_inputs.specs.Inputs.{Input, IsInput}
use Rattle.command_inputs.specs.declared.fault.InputFault.TheVariants.{TooLong}

pub chosen : {A : Type 0} (b : Bool) (x y z : A) → b ≡ true → x ≡ (if b then y else z) → x ≡ y
chosen b x y z e h = h ∙ ap (λ c. if c then y else z) e

some_same : (xs ys : List ℕ) → Some xs ≡ Some ys → xs ≡ ys
some_same xs ys e = cc

-- Where nothing more comes, what was read is the file.
pub whole : (files : Files) (name bytes old new : List ℕ) (at count : ℕ) → at ≡ length bytes → count ≡ 0 → 0 < length old
    → ((file : List ℕ) → get files name ≡ Some file → bytes ≡ take (length bytes) file)
    → IsReadFrom files name at old new count → get files name ≡ Some bytes
whole files name bytes old new at count place none some front r =
    let end : length r.bytes ≤ length bytes = omega (arith, r.end none some) in
    let all : take (length bytes) r.bytes ≡ r.bytes = take_all (length bytes) r.bytes end in
    r.there ∙ ap (λ l. Some l) (sym (front r.bytes r.there ∙ all))

-- What comes joins what was read.
pub more : (files : Files) (name bytes old new : List ℕ) (at count : ℕ) → at ≡ length bytes
    → ((file : List ℕ) → get files name ≡ Some file → bytes ≡ take (length bytes) file)
    → IsReadFrom files name at old new count
    → (file : List ℕ) → get files name ≡ Some file → bytes ++ take count new ≡ take (length bytes + count) file
more files name bytes old new at count place front r file there =
    let same : r.bytes ≡ file = some_same r.bytes file (sym r.there ∙ there) in
    let part : List ℕ = take count (drop at r.bytes) in
    let full : length part ≡ count = omega (arith, length-take count (drop at r.bytes), length-drop at r.bytes, r.within) in
    let given : take count new ≡ part =
    ap (take count) r.piece ∙ take-append-le count part (drop count old) (omega (arith, full)) ∙ take_all count part (omega (arith, full)) in
    (λ i. front file there i ++ given i)
    ∙ (λ i. take (length bytes) file ++ take count (drop (place i) (same i)))
    ∙ sym (take-add (length bytes) count file)

-- More came than fits.
pub longer : (files : Files) (name bytes old new : List ℕ) (at count limit : ℕ) → at ≡ length bytes → length bytes ≤ limit → limit - length bytes < count
    → IsReadFrom files name at old new count → (file : List ℕ) × (get files name ≡ Some file) × (limit < length file)
longer files name bytes old new at count limit place within over r = (r.bytes, r.there, omega (arith, r.within))

-- The file spells this thing.
pub is_spelled : {A : Type 0} (input : Input A) (file : Option (List ℕ)) (bytes : List ℕ) (x : A)
    → file ≡ Some bytes → length bytes ≤ input.most → input.spells bytes x → IsInput input file (Ok x)
is_spelled input file bytes x there within spelled = rw there (within, spelled)

-- The file is longer than its limit.
pub is_too_long : {A : Type 0} (input : Input A) (file : Option (List ℕ)) (bytes : List ℕ)
    → file ≡ Some bytes → input.most < length bytes → IsInput input file (Err (TooLong input.role))
is_too_long input file bytes there over = rw there (inl (over, refl))
