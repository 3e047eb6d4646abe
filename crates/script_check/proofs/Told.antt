-- What is told by name so far, and by the declarations that are left.
use Rattle.std.proofs.Common.{◌≡◌, ◌∙◌, ℕ, List, [], Bool, true, false, if◌then◌else◌, Option, Some, None, option_map, refl, sym, ap}
use Rattle.std.specs.BTreeMap.{BTreeMap}
use Rattle.std.specs.Cmp.Lexicographic.{slice_cmp}
use Rattle.std.specs.Map.{lookup}
use Rattle.std.specs.Ordering.{nat_cmp, is_eq}
use Rattle.std.specs.Str.{bytes_eq}
use denote.Ref.{Bor}
use Rattle.basis.specs.Lists.{or_else}
use Rattle.script_check.specs.Indexes.{at_text, Puts}

-- what the map has at a text, as it is seen, or else this
abbrev pub told : {A B : Type 0} → (A → B) → BTreeMap (Bor (List ℕ)) A → List ℕ → Option B → Option B
told view map x rest = or_else (option_map view (at_text map x)) rest

pub none_so_far : {A B : Type 0} (view : A → B) (map : BTreeMap (Bor (List ℕ)) A) (x : List ℕ) (rest : Option B)
    → map.entries ≡ [] → told view map x rest ≡ rest
unfolding or_else
none_so_far view map x rest empty = ap (λ es. or_else (option_map view (lookup (λ key. is_eq (slice_cmp nat_cmp x key.now)) es)) rest) empty

or_none : {A : Type 0} (o : Option A) → o ≡ or_else o None
unfolding or_else
or_none (Some a) = refl
or_none None = refl

pub none_left : {A B : Type 0} (view : A → B) (map : BTreeMap (Bor (List ℕ)) A) (x : List ℕ) → option_map view (at_text map x) ≡ told view map x None
none_left view map x = or_none (option_map view (at_text map x))

over : {A B : Type 0} (view : A → B) (o : Option A) (b : Bool) (a : A) (rest : Option B)
    → or_else (option_map view o) (if b then Some (view a) else rest) ≡ or_else (option_map view (or_else o (if b then Some a else None))) rest
unfolding or_else
over view (Some x) b a rest = refl
over view None true a rest = refl
over view None false a rest = refl

-- one more
pub one_more : {A B : Type 0} (view : A → B) (old new : BTreeMap (Bor (List ℕ)) A) (name : List ℕ) (a : A) (x : List ℕ) (rest : Option B)
    → Puts name a old new → told view old x (if bytes_eq x name then Some (view a) else rest) ≡ told view new x rest
one_more view old new name a x rest puts = over view (at_text old x) (bytes_eq x name) a rest ∙ ap (λ o. or_else (option_map view o) rest) (sym (puts x))
