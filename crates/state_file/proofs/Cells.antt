-- Facts on what stores hold while they are filled.
use Rattle.std.proofs.Common.{◌≡◌, ◌∙◌, ℕ, List, [], ◌∷◌, Some, None, Bool, true, false, cond, unwrap_or, refl, ap, sym}
use Rattle.std.specs.Str.{bytes_eq}
use Rattle.std.proofs.lemmas.Slice.Eq.{bytes_eq-Decides}
use Rattle.object_cells.proofs.CellFacts.{bytes_eq-sym}
use Rattle.object_cells.specs.Stores.{HeldByName, held_in, ChangesIn}
use Rattle.script_tree.specs.Datum.{Datum}
use Rattle.json_texts.specs.Shapes.{Named}
use Rattle.state_file.specs.Givens.{Entry}
use Rattle.state_file.specs.Stored.{given_at, cell_at}

-- This store holds these entries, and every other one what it held.
abbrev pub Fills : List ℕ → List Entry → HeldByName → HeldByName → Type 0
Fills store entries old new = (s k : List ℕ) → held_in new s k ≡ cond (bytes_eq store s) (given_at entries k) (held_in old s k)

pub fills_nothing : (store : List ℕ) (stores : HeldByName) → ((k : List ℕ) → held_in stores store k ≡ None) → Fills store [] stores stores
fills_nothing store stores empty s k = by (bytes_eq store s) ((bytes_eq-Decides store s).0) where
  by : (b : Bool) → (b ≡ true → store ≡ s) → held_in stores s k ≡ cond b None (held_in stores s k)
  by true is = ap (λ t. held_in stores t k) (sym (is refl)) ∙ empty k
  by false is = refl

-- what the store itself holds
pub filled : (store : List ℕ) (entries : List Entry) (old new : HeldByName) → Fills store entries old new
    → (k : List ℕ) → held_in new store k ≡ given_at entries k
filled store entries old new fills k = fills store k ∙ ap (λ b. cond b (given_at entries k) (held_in old store k)) ((bytes_eq-Decides store store).1 refl)

pub fills_more : (store key : List ℕ) (d : Datum) (last : List Entry) (old mid new : HeldByName)
    → Fills store last old mid → ChangesIn store key (Some d) mid new → Fills store ((key, d) ∷ last) old new
fills_more store key d last old mid new fills changes s k = changes.held s k ∙ by (bytes_eq store s) refl where
  by : (b : Bool) → bytes_eq store s ≡ b → cond b (cond (bytes_eq k key) (Some d) (held_in mid store k))
      (held_in mid s k) ≡ cond b (cond (bytes_eq k key) (Some d) (given_at last k)) (held_in old s k)
  by true is = ap (λ o. cond (bytes_eq k key) (Some d) o) (filled store last old mid fills k)
  by false is = fills s k ∙ ap (λ b. cond b (given_at last k) (held_in old s k)) is

-- where the stores behind hold what is given, so do those with the next one
pub one_more : (store : List ℕ) (entries : List Entry) (last : List (Named (List Entry))) (old new : HeldByName)
    → ((s k : List ℕ) → held_in old s k ≡ cell_at last s k) → Fills store entries old new → (s k : List ℕ)
    → held_in new s k ≡ cell_at ((store, entries) ∷ last) s k
one_more store entries last old new before fills s k = fills s k ∙ ap (λ b. cond b (given_at entries k) (held_in old s k)) (bytes_eq-sym store s) ∙ by (bytes_eq s store) where
  by : (b : Bool) → cond b (given_at entries k) (held_in old s k) ≡ given_at (unwrap_or (cond b (Some entries) (given_at last s)) []) k
  by true = refl
  by false = before s k
