-- Facts on stores.
use Rattle.std.proofs.Common.{◌≡◌, ◌∙◌, ℕ, List, [], ◌∷◌, Bool, true, false, ◌||◌, cond, Option, Some, None, is_some, unwrap_or, Result, Ok, Err, OnOk, OnErr, refl, sym, ap}
use Rattle.std.specs.BTreeMap.{BTreeMap, get}
use Rattle.std.specs.Cmp.Lexicographic.{slice_cmp}
use Rattle.std.specs.Ordering.{nat_cmp, is_eq}
use Rattle.std.specs.Str.{bytes_eq}
use Rattle.std.proofs.lemmas.Map.Text.{is_eq-slice_cmp}
use Rattle.std.proofs.lemmas.Slice.Eq.{bytes_eq-Decides}
use Rattle.script_tree.specs.Datum.{Datum}
use Rattle.script_tree.specs.Fit.{declares_store}
use Rattle.script_tree.specs.Objects.{with_key}
use Rattle.script_tree.specs.declared.syntax.declaration.Declaration.{Declaration}
use Rattle.script_tree.specs.declared.syntax.declaration.Declaration.TheVariants.{Store, Table, Function, Page}
use Rattle.script_tree.specs.declared.syntax.name.Name.{Name}
use Rattle.object_cells.specs.Cells.{Held, held, Changes}
use Rattle.object_cells.specs.Stores.{HeldByName, store_of, has_store, held_in, ChangesIn, IsDeclaredToo}
use Rattle.object_cells.proofs.CellFacts.{bytes_eq-sym}

-- ---- one store holds something else

-- The store of this name holds this now, and every other one what it held.
abbrev pub Replaces : List ℕ → Held → HeldByName → HeldByName → Type 0
Replaces name cells old new = (s : List ℕ) → store_of new s ≡ cond (bytes_eq name s) (Some cells) (store_of old s)

pub replaced : (name : List ℕ) (cells : Held) (m n : BTreeMap (List ℕ) Held)
    → ((q : List ℕ) → get (slice_cmp nat_cmp) n q
    ≡ cond (is_eq (slice_cmp nat_cmp name q)) (Some cells) (get (slice_cmp nat_cmp) m q))
    → Replaces name cells m.entries n.entries
replaced name cells m n u s = u s ∙ ap (λ b. cond b (Some cells) (store_of m.entries s)) (is_eq-slice_cmp name s)

pub changes_in : (name key : List ℕ) (d : Option Datum) (old new : HeldByName) (before after : Held)
    → store_of old name ≡ Some before → Changes key d before after → Replaces name after old new
    → ChangesIn name key d old new
changes_in name key d old new before after there changes replaces = record {
  same = λ s. ap is_some (replaces s) ∙ still_there s (bytes_eq name s) ((bytes_eq-Decides name s).0);
  held = λ s k. ap (λ o. held (unwrap_or o []) k) (replaces s) ∙ at_store s k (bytes_eq name s);
} where
  still_there : (s : List ℕ) (b : Bool) → (b ≡ true → name ≡ s) → is_some (cond b (Some after) (store_of old s)) ≡ has_store old s
  still_there s true is = sym (ap (has_store old) (sym (is refl)) ∙ ap is_some there)
  still_there s false is = refl

  at_store : (s k : List ℕ) (b : Bool) → held (unwrap_or (cond b (Some after) (store_of old s)) []) k
      ≡ cond b (with_key key d (held_in old name) k) (held_in old s k)
  at_store s k true = changes k ∙ ap (λ o. with_key key d (held (unwrap_or o [])) k) (sym there)
  at_store s k false = refl

-- ---- declarations

with_declared : (text s : List ℕ) (o : Option Held) → is_some (cond (bytes_eq text s) (Some []) o) ≡ ((bytes_eq s text || false) || is_some o)
with_declared text s o = ap (λ b. is_some (cond b (Some []) o)) (bytes_eq-sym text s) ∙ by_test (bytes_eq s text) where
  by_test : (b : Bool) → is_some (cond b (Some []) o) ≡ ((b || false) || is_some o)
  by_test true = refl
  by_test false = refl

still_nothing : (b : Bool) (o : Option Held) (k : List ℕ) → held (unwrap_or o []) k ≡ None → held (unwrap_or (cond b (Some []) o) []) k ≡ None
still_nothing true o k e = refl
still_nothing false o k e = e

pub declared_too : (d : Declaration) (at : ℕ) (name : Name) (text : List ℕ) (old new : HeldByName) → d ≡ Store at name
    → text ≡ name.text → Replaces text [] old new → IsDeclaredToo d old new
declared_too d at name text old new is same replaces = record {
  there = λ s. ap is_some (replaces s) ∙ with_declared text s (store_of old s)
      ∙ ap (λ t. (bytes_eq s t || false) || has_store old s) same
      ∙ ap (λ e. declares_store (e ∷ []) s || has_store old s) (sym is);
  empty = λ e s k. ap (λ o. held (unwrap_or o []) k) (replaces s) ∙ still_nothing (bytes_eq text s) (store_of old s) k (e s k);
}

or_moves : (a b c : Bool) → (b || ((a || false) || c)) ≡ ((a || b) || c)
or_moves true true c = refl
or_moves true false c = refl
or_moves false b c = refl

-- what is declared from a declaration on
pub declared_next : (d : Declaration) (ds : List Declaration) (s : List ℕ) (b : Bool)
    → (declares_store ds s || (declares_store (d ∷ []) s || b)) ≡ (declares_store (d ∷ ds) s || b)
declared_next (Store at name) ds s b = or_moves (bytes_eq s name.text) (declares_store ds s) b
declared_next (Table at name columns) ds s b = refl
declared_next (Function at name parameters body) ds s b = refl
declared_next (Page at path body) ds s b = refl

-- ---- results

pub OnOk-map : {T E : Type 0} {P Q : Type 0} (r : Result T E) → (P → Q) → OnOk r P → OnOk r Q
OnOk-map (Ok x) f p = f p
OnOk-map (Err e) f p = tt

pub OnErr-map : {T E : Type 0} {P Q : Type 0} (r : Result T E) → (P → Q) → OnErr r P → OnErr r Q
OnErr-map (Ok x) f p = tt
OnErr-map (Err e) f p = f p
