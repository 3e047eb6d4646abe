-- The entries of pages so far, and those of the declarations that are left.
use Rattle.std.proofs.Common.{◌≡◌, ◌∙◌, ℕ, List, [], Bool, true, false, cond, if◌then◌else◌, Option, Some, None, option_map, is_some, refl, sym, ap}
use Rattle.std.specs.BTreeMap as tree
use Rattle.std.specs.BTreeMap.{BTreeMap}
use Rattle.std.specs.Cmp.Lexicographic.{slice_cmp}
use Rattle.std.specs.Map.{lookup}
use Rattle.std.specs.Ordering.{nat_cmp, is_eq}
use Rattle.std.specs.Str.{bytes_eq}
use Rattle.basis.specs.Lists.{or_else}
use Rattle.script_check.proofs.Names.{is_name, bytes_same}
use Rattle.script_code.specs.Code.{Entry}
use Rattle.script_code.specs.Translated.{at_path, entry_of, PutsPage}
use Rattle.script_code.specs.declared.translate.PageEntry.{PageEntry}

abbrev Pages : Type 0
Pages = BTreeMap (List ℕ) PageEntry

-- the entry that the map has at a path, or else this
abbrev pub told : Pages → List ℕ → Option Entry → Option Entry
told map x rest = or_else (option_map entry_of (at_path map x)) rest

pub none_so_far : (map : Pages) (x : List ℕ) (rest : Option Entry) → map.entries ≡ [] → told map x rest ≡ rest
unfolding or_else
none_so_far map x rest empty = ap (λ es. or_else (option_map entry_of (lookup (λ key. is_eq (slice_cmp nat_cmp x key)) es)) rest) empty

or_none : {A : Type 0} (o : Option A) → o ≡ or_else o None
unfolding or_else
or_none (Some a) = refl
or_none None = refl

pub none_left : (map : Pages) (x : List ℕ) → option_map entry_of (at_path map x) ≡ told map x None
none_left map x = or_none (option_map entry_of (at_path map x))

over : (o : Option PageEntry) (b : Bool) (a : PageEntry) (rest : Option Entry)
    → or_else (option_map entry_of o) (if b then Some (entry_of a) else rest) ≡ or_else (option_map entry_of (or_else o (if b then Some a else None))) rest
unfolding or_else
over (Some x) b a rest = refl
over None true a rest = refl
over None false a rest = refl

-- one more
pub one_more : (old new : Pages) (name : List ℕ) (a : PageEntry) (x : List ℕ) (rest : Option Entry)
    → PutsPage name a old new → told old x (if bytes_eq x name then Some (entry_of a) else rest) ≡ told new x rest
one_more old new name a x rest puts = over (at_path old x) (bytes_eq x name) a rest ∙ ap (λ o. or_else (option_map entry_of o) rest) (sym (puts x))

or_else_some : {A : Type 0} (o : Option A) (p : Option A) → is_some o ≡ true → o ≡ or_else o p
unfolding or_else
or_else_some (Some x) p e = refl
or_else_some None p e = cc

is_none : {A : Type 0} (o : Option A) (b : Bool) → b ≡ is_some o → b ≡ false → o ≡ None
is_none (Some x) b p q = cc
is_none None b p q = refl

put_at : (map : Pages) (x name : List ℕ) (v : PageEntry) (a b : Bool) → bytes_eq x name ≡ b → a ≡ b
    → at_path map name ≡ None → cond a (Some v) (at_path map x) ≡ or_else (at_path map x) (if b then Some v else None)
unfolding or_else
put_at map x name v true true e same none = rw (ap (at_path map) (bytes_same x name e) ∙ none) refl
put_at map x name v true false e same none = cc
put_at map x name v false true e same none = cc
put_at map x name v false false e same none = or_none (at_path map x)

pub puts_new : (map after : Pages) (name : List ℕ) (v : PageEntry) (known : Bool) → known ≡ is_some (at_path map name)
    → known ≡ false → tree.UpdatesBy (slice_cmp nat_cmp) (slice_cmp nat_cmp name) map after (Some v)
    → PutsPage name v map after
puts_new map after name v known told new u x =
    u.0 x ∙ put_at map x name v (is_eq (slice_cmp nat_cmp name x)) (bytes_eq x name) refl (is_name name x) (is_none (at_path map name) known told new)

kept_at : (map : Pages) (x name : List ℕ) (v : PageEntry) (b : Bool) → bytes_eq x name ≡ b
    → is_some (at_path map name) ≡ true → at_path map x ≡ or_else (at_path map x) (if b then Some v else None)
kept_at map x name v true e some = or_else_some (at_path map x) (Some v) (ap (λ t. is_some (at_path map t)) (bytes_same x name e) ∙ some)
kept_at map x name v false e some = or_none (at_path map x)

pub puts_none : (map : Pages) (name : List ℕ) (v : PageEntry) (known : Bool) → known ≡ is_some (at_path map name) → known ≡ true → PutsPage name v map map
puts_none map name v known told old x = kept_at map x name v (bytes_eq x name) refl (sym told ∙ old)
