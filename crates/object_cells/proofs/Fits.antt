-- Registers and stores that hold entries, and no other stores than those that are declared, fit a program.
use Rattle.std.proofs.Common.{◌≡◌, ℕ, List, [], Bool, true, false, cond, Option, Some, None, is_some, unwrap_or, refl, sym, subst}
use Rattle.std.specs.Str.{bytes_eq}
use Rattle.std.proofs.lemmas.Slice.Eq.{bytes_eq-Decides}
use Rattle.script_tree.specs.Datum.{Datum}
use Rattle.script_tree.specs.Fit.{IsEntry, IsStore, FitsObject}
use Rattle.script_tree.specs.Objects.{one, many, with_key}
use Rattle.script_tree.specs.Programs.{Program}
use Rattle.script_tree.specs.declared.operation.Object.TheVariants.{Register, Store}
use Rattle.object_cells.specs.Cells.{Held, held, HoldsEntries}
use Rattle.object_cells.specs.Stores.{HeldByName, has_store, store_of, held_in, HoldEntries, AreDeclared, AreEmpty, ChangesIn}

pub register_fits : (program : Program) (registers : Held) → HoldsEntries registers → (x : List ℕ) → FitsObject program (Register x) (one (held registers x))
register_fits program registers holds x = (held registers x, refl, holds x)

-- a store that isn't there holds nothing
nothing_held : (o : Option Held) (k : List ℕ) → is_some o ≡ false → held (unwrap_or o []) k ≡ None
nothing_held None k e = refl
nothing_held (Some cells) k e = cc

pub store_fits : (program : Program) (stores : HeldByName) → AreDeclared program.declarations stores → HoldEntries stores
    → (s : List ℕ) → FitsObject program (Store s) (many (held_in stores s))
store_fits program stores declared holds s = (held_in stores s, refl, subst (λ b. IsStore b (held_in stores s)) (declared s) (by_test (has_store stores s) refl)) where
  by_test : (b : Bool) → has_store stores s ≡ b → IsStore b (held_in stores s)
  by_test true e = holds s
  by_test false e = λ k. nothing_held (store_of stores s) k e

pub empty_hold : (stores : HeldByName) → AreEmpty stores → HoldEntries stores
empty_hold stores empty s k = subst (IsEntry k) (sym (empty s k)) tt

-- what a change leaves
pub still_hold : (store key : List ℕ) (d : Option Datum) (old new : HeldByName) → ChangesIn store key d old new
    → IsEntry key d → HoldEntries old → HoldEntries new
still_hold store key d old new changes entry holds s k = subst (IsEntry k) (sym (changes.held s k)) (at_store (bytes_eq store s)) where
  at_key : (b : Bool) → (b ≡ true → k ≡ key) → IsEntry k (cond b d (held_in old store k))
  at_key true is = subst (λ x. IsEntry x d) (sym (is refl)) entry
  at_key false is = holds store k

  at_store : (b : Bool) → IsEntry k (cond b (with_key key d (held_in old store) k) (held_in old s k))
  at_store true = at_key (bytes_eq k key) ((bytes_eq-Decides k key).0)
  at_store false = holds s k
