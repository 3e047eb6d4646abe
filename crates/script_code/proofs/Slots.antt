-- Variables and their slots.
use Rattle.std.proofs.Common.{◌≡◌, ◌∙◌, ℕ, zero, suc, Bool, true, false, cond, List, [], ◌∷◌, ◌++◌, length, take, get_or, refl, ap, arith}
use Rattle.std.proofs.Math.ListN.{set}
use Rattle.std.specs.Str.{bytes_eq}
use Rattle.script_tree.specs.Datum as v
use Rattle.script_tree.specs.Datum.{Datum}
use Rattle.script_tree.specs.declared.syntax.name.Name.{Name}
use Rattle.script_meaning.specs.Variables.{Variables, value_in, declared, assigned, bound}
use Rattle.script_meaning.specs.declared.run.Variable.{Variable}
use Rattle.script_code.specs.Code.{Names, slot_of, texts}

abbrev pub values : Variables → List Datum
values [] = []
values (x ∷ xs) = x.value ∷ values xs

abbrev pub names : Variables → Names
names [] = []
names (x ∷ xs) = x.name ∷ names xs

slot_ways : (b : Bool) (d : Datum) (ds : List Datum) (p : ℕ) → get_or (d ∷ ds) (cond b 0 (suc p)) v.null ≡ cond b d (get_or ds p v.null)
slot_ways true d ds p = refl
slot_ways false d ds p = refl

-- the slot of a name has its value
pub slot_value : (x : List ℕ) (vs : Variables) → get_or (values vs) (slot_of (names vs) x) v.null ≡ value_in vs x
slot_value x [] = refl
slot_value x (u ∷ vs) = slot_ways (bytes_eq x u.name) u.value (values vs) (slot_of (names vs) x)
    ∙ ap (λ d. cond (bytes_eq x u.name) u.value d) (slot_value x vs)

pub values_declared : (vs : Variables) (x : List ℕ) (d : Datum) → values (declared vs x d) ≡ values vs ++ d ∷ []
values_declared [] x d = refl
values_declared (v ∷ vs) x d = ap (λ l. v.value ∷ l) (values_declared vs x d)

pub names_declared : (vs : Variables) (x : List ℕ) (d : Datum) → names (declared vs x d) ≡ names vs ++ x ∷ []
names_declared [] x d = refl
names_declared (v ∷ vs) x d = ap (λ l. v.name ∷ l) (names_declared vs x d)

pub values_take : (n : ℕ) (vs : Variables) → values (take n vs) ≡ take n (values vs)
values_take zero vs = refl
values_take (suc n) [] = refl
values_take (suc n) (v ∷ vs) = ap (λ l. v.value ∷ l) (values_take n vs)

pub names_take : (n : ℕ) (vs : Variables) → names (take n vs) ≡ take n (names vs)
names_take zero vs = refl
names_take (suc n) [] = refl
names_take (suc n) (v ∷ vs) = ap (λ l. v.name ∷ l) (names_take n vs)

pub names_length : (vs : Variables) → length vs ≡ length (names vs)
names_length [] = refl
names_length (v ∷ vs) = ap suc (names_length vs)

assigned_ways : (b : Bool) (d : Datum) (u : Variable) (vs us : Variables) (p : ℕ) → values us ≡ set (values vs) p d
    → values (cond b (record u { value = d } ∷ vs) (u ∷ us)) ≡ set (values (u ∷ vs)) (cond b 0 (suc p)) d
assigned_ways true d u vs us p h = refl
assigned_ways false d u vs us p h = ap (λ l. u.value ∷ l) h

pub values_assigned : (x : List ℕ) (d : Datum) (vs : Variables) → values (assigned vs x d) ≡ set (values vs) (slot_of (names vs) x) d
values_assigned x d [] = refl
values_assigned x d (u ∷ vs) = assigned_ways (bytes_eq x u.name) d u vs (assigned vs x d) (slot_of (names vs) x) (values_assigned x d vs)

names_ways : (b : Bool) (d : Datum) (u : Variable) (vs us : Variables) → names us ≡ names vs
    → names (cond b (record u { value = d } ∷ vs) (u ∷ us)) ≡ names (u ∷ vs)
names_ways true d u vs us h = refl
names_ways false d u vs us h = ap (λ l. u.name ∷ l) h

pub names_assigned : (x : List ℕ) (d : Datum) (vs : Variables) → names (assigned vs x d) ≡ names vs
names_assigned x d [] = refl
names_assigned x d (u ∷ vs) = names_ways (bytes_eq x u.name) d u vs (assigned vs x d) (names_assigned x d vs)

pub values_bound : (xs : List Name) (ds : List Datum) → length ds ≡ length xs → values (bound xs ds) ≡ ds
values_bound [] [] h = refl
values_bound [] (d ∷ ds) h = absurd (omega (arith, h))
values_bound (x ∷ xs) [] h = absurd (omega (arith, h))
values_bound (x ∷ xs) (d ∷ ds) h = ap (λ l. d ∷ l) (values_bound xs ds (omega (arith, h)))

pub names_bound : (xs : List Name) (ds : List Datum) → length ds ≡ length xs → names (bound xs ds) ≡ texts xs
names_bound [] [] h = refl
names_bound [] (d ∷ ds) h = absurd (omega (arith, h))
names_bound (x ∷ xs) [] h = absurd (omega (arith, h))
names_bound (x ∷ xs) (d ∷ ds) h = ap (λ l. x.text ∷ l) (names_bound xs ds (omega (arith, h)))

-- ---- values on the stack

-- these values on a stack, the last topmost
abbrev pub onto : List Datum → List Datum → List Datum
onto [] st = st
onto (d ∷ ds) st = onto ds (d ∷ st)

pub onto_more : (ds es st : List Datum) → onto (ds ++ es) st ≡ onto es (onto ds st)
onto_more [] es st = refl
onto_more (d ∷ ds) es st = onto_more ds es (d ∷ st)
