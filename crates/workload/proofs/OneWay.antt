-- That bytes are read in one way.
use Rattle.std.proofs.Common.{◌≡◌, ◌∙◌, ℕ, pos, Bool, List, [], ◌∷◌, map, Option, refl, ap}
use Rattle.serde_json.specs.Data as json
use Rattle.basis.proofs.Booleans.{true_false}
use Rattle.json_texts.proofs.Readings.{same_given, gives_shape}
use Rattle.workload.specs.Files.{Spells, HasFault}
use Rattle.workload.specs.declared.fault.WorkFault.{WorkFault}
use Rattle.workload.specs.declared.fault.WorkFault.TheVariants.{NotJson, OtherShape, BeyondLimit}

pub one_thing : {A : Type 0} (shape : json.Data → Option A) (is_within : A → Bool) (bytes : List ℕ) (x y : A)
    → Spells shape is_within bytes x → Spells shape is_within bytes y → x ≡ y
one_thing shape is_within bytes x y h k = same_given shape bytes x y h.0 k.0

pub thing_or_fault : {A : Type 0} (shape : json.Data → Option A) (is_within : A → Bool) (bytes : List ℕ) (x : A)
    (fault : WorkFault) → Spells shape is_within bytes x → HasFault shape is_within bytes fault → ⊥
thing_or_fault shape is_within bytes x NotJson h k = k h.0.0 h.0.1
thing_or_fault shape is_within bytes x OtherShape h k = gives_shape shape bytes x h.0 k
thing_or_fault shape is_within bytes x BeyondLimit h k = true_false (is_within x) h.1 (ap is_within (same_given shape bytes x k.0 h.0 k.1) ∙ k.2)

pub one_fault : {A : Type 0} (shape : json.Data → Option A) (is_within : A → Bool) (bytes : List ℕ)
    (fault other : WorkFault) → HasFault shape is_within bytes fault → HasFault shape is_within bytes other
    → fault ≡ other
one_fault shape is_within bytes NotJson NotJson h k = refl
one_fault shape is_within bytes NotJson OtherShape h k = absurd (h k.0 k.1)
one_fault shape is_within bytes NotJson BeyondLimit h k = absurd (h k.1.0 k.1.1)
one_fault shape is_within bytes OtherShape NotJson h k = absurd (k h.0 h.1)
one_fault shape is_within bytes OtherShape OtherShape h k = refl
one_fault shape is_within bytes OtherShape BeyondLimit h k = absurd (gives_shape shape bytes k.0 k.1 h)
one_fault shape is_within bytes BeyondLimit NotJson h k = absurd (k h.1.0 h.1.1)
one_fault shape is_within bytes BeyondLimit OtherShape h k = absurd (gives_shape shape bytes h.0 h.1 k)
one_fault shape is_within bytes BeyondLimit BeyondLimit h k = refl

-- the numbers of seats are those of one list
pub same_seats : (xs ys : List ℕ) → map pos xs ≡ map pos ys → xs ≡ ys
same_seats [] [] e = refl
same_seats [] (y ∷ ys) e = absurd cc
same_seats (x ∷ xs) [] e = absurd cc
same_seats (x ∷ xs) (y ∷ ys) e =
    let rest : map pos xs ≡ map pos ys = cc in
    let same = same_seats xs ys rest in cc
