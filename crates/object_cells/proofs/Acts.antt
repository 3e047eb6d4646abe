-- What the calls change and give is what the acts are defined to change and give, whatever the choice.
use Rattle.std.proofs.Common.{◌≡◌, ◌∙◌, ℕ, List, Bool, true, false, if◌then◌else◌, Option, Some, None, refl, ap}
use Rattle.std.specs.Str.{bytes_eq}
use Rattle.script_tree.specs.Datum.{Datum}
use Rattle.script_tree.specs.Objects.{one, many, acted, or_null, with_key}
use Rattle.script_tree.specs.declared.operation.Act.TheVariants.{Read, Write, Get, Put, Remove}
use Rattle.script_tree.specs.declared.operation.Choice.{Choice}
use Rattle.object_cells.specs.Cells.{Held, held, Changes}
use Rattle.object_cells.specs.Stores.{HeldByName, held_in, ChangesIn}
use Rattle.object_cells.proofs.CellFacts.{bytes_eq-sym}

-- ---- registers

pub read_acts : (choice : Choice) (registers : Held) (name : List ℕ) → or_null (held registers name) ≡ (acted Read choice (one (held registers name))).1
unfolding acted
read_acts choice registers name = refl

pub write_acts : (choice : Choice) (name : List ℕ) (d : Datum) (old new : Held) → Changes name (Some d) old new
    → (x : List ℕ) → one (held new x) ≡ (if bytes_eq name x then (acted (Write d) choice (one (held old name))).0 else one (held old x))
unfolding acted
write_acts choice name d old new changes x =
    ap one (changes x) ∙ ap (λ b. one (if b then Some d else held old x)) (bytes_eq-sym x name) ∙ inside (bytes_eq name x) where
      inside : (b : Bool) → one (if b then Some d else held old x) ≡ (if b then one (Some d) else one (held old x))
      inside true = refl
      inside false = refl

-- ---- stores

pub get_acts : (choice : Choice) (stores : HeldByName) (store key : List ℕ)
    → or_null (held_in stores store key) ≡ (acted (Get key) choice (many (held_in stores store))).1
unfolding acted
get_acts choice stores store key = refl

-- what a store holds as one cell
changed_cell : (store key : List ℕ) (d : Option Datum) (old new : HeldByName) → ChangesIn store key d old new
    → (s : List ℕ) → many (held_in new s) ≡ (if bytes_eq store s then many (with_key key d (held_in old store)) else many (held_in old s))
changed_cell store key d old new changes s = (λ i. many (λ k. changes.held s k i)) ∙ inside (bytes_eq store s) where
  inside : (b : Bool) → many (λ k. if b then with_key key d (held_in old store) k else held_in old s k)
      ≡ (if b then many (with_key key d (held_in old store)) else many (held_in old s))
  inside true = refl
  inside false = refl

pub put_acts : (choice : Choice) (store key : List ℕ) (d : Datum) (old new : HeldByName) → ChangesIn store key (Some d) old new
    → (s : List ℕ) → many (held_in new s) ≡ (if bytes_eq store s then (acted (Put key d) choice (many (held_in old store))).0 else many (held_in old s))
unfolding acted
put_acts choice store key d old new changes = changed_cell store key (Some d) old new changes

pub remove_acts : (choice : Choice) (store key : List ℕ) (old new : HeldByName) → ChangesIn store key None old new
    → (s : List ℕ) → many (held_in new s) ≡ (if bytes_eq store s then (acted (Remove key) choice (many (held_in old store))).0 else many (held_in old s))
unfolding acted
remove_acts choice store key old new changes = changed_cell store key None old new changes
