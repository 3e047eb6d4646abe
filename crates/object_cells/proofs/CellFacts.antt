-- Facts on what stands under keys.
use Rattle.std.proofs.Common.{◌≡◌, ◌∙◌, ℕ, List, [], ◌∷◌, Bool, true, false, cond, Option, Some, refl, sym, ap, subst}
use Rattle.std.specs.BTreeMap.{BTreeMap, get}
use Rattle.std.specs.Cmp.Lexicographic.{slice_cmp}
use Rattle.std.specs.List.{All}
use Rattle.std.specs.Ordering.{nat_cmp, is_eq}
use Rattle.std.specs.Str.{bytes_eq}
use Rattle.std.proofs.lemmas.Bool.Decides.{same_from_decides}
use Rattle.std.proofs.lemmas.List.Elements.{All-head, All-tail, All-weaker}
use Rattle.std.proofs.lemmas.Map.Text.{is_eq-slice_cmp}
use Rattle.std.proofs.lemmas.Slice.Eq.{bytes_eq-Decides}
use Rattle.script_tree.specs.Datum.{Datum}
use Rattle.script_tree.specs.Fit.{IsEntry}
use Rattle.object_cells.specs.Cells.{Held, held, HoldsEntries, AreEntries, Changes}

pub bytes_eq-sym : (x y : List ℕ) → bytes_eq x y ≡ bytes_eq y x
bytes_eq-sym x y = same_from_decides _ _ (bytes_eq-Decides x y) (λ p. sym ((bytes_eq-Decides y x).0 p), λ e. (bytes_eq-Decides y x).1 (sym e))

-- two keys that the order takes for one are one
pub one_key : (x y : List ℕ) → is_eq (slice_cmp nat_cmp x y) ≡ true → x ≡ y
one_key x y p = (bytes_eq-Decides x y).0 (sym (is_eq-slice_cmp x y) ∙ p)

-- what a map says after one key has something else
pub changed : (key : List ℕ) (d : Option Datum) (m n : BTreeMap (List ℕ) Datum)
    → ((q : List ℕ) → get (slice_cmp nat_cmp) n q
    ≡ cond (is_eq (slice_cmp nat_cmp key q)) d (get (slice_cmp nat_cmp) m q)) → Changes key d m.entries n.entries
changed key d m n u k = u k ∙ ap (λ b. cond b d (held m.entries k)) (is_eq-slice_cmp key k ∙ bytes_eq-sym key k)

-- what a key has is an entry after a change to one
pub still_entries : (key : List ℕ) (d : Option Datum) (old new : Held) → Changes key d old new → IsEntry key d → HoldsEntries old → HoldsEntries new
still_entries key d old new changes entry holds k = subst (IsEntry k) (sym (changes k)) (at_key (bytes_eq k key) ((bytes_eq-Decides k key).0)) where
  at_key : (b : Bool) → (b ≡ true → k ≡ key) → IsEntry k (cond b d (held old k))
  at_key true same = subst (λ x. IsEntry x d) (sym (same refl)) entry
  at_key false same = holds k

first_or_rest : (b : Bool) (k : List ℕ) (e : List ℕ × Datum) (o : Option Datum) → (b ≡ true → k ≡ e.0)
    → IsEntry e.0 (Some e.1) → IsEntry k o → IsEntry k (cond b (Some e.1) o)
first_or_rest true k e o same here there = subst (λ x. IsEntry x (Some e.1)) (sym (same refl)) here
first_or_rest false k e o same here there = there

-- what is one entry after the other holds entries
pub held_entries : (cells : Held) → AreEntries cells → HoldsEntries cells
held_entries [] each k = tt
held_entries (e ∷ es) each k =
    first_or_rest (is_eq (slice_cmp nat_cmp k e.0)) k e (held es k) (one_key k e.0)
    (All-head (λ x. IsEntry x.0 (Some x.1)) e es each)
    (held_entries es (All-tail (λ x. IsEntry x.0 (Some x.1)) e es each) k)

-- and the other way round
pub each_entry : (cells : Held) → HoldsEntries cells → All (λ e. held cells e.0 ≡ Some e.1) cells → AreEntries cells
each_entry cells holds found =
    All-weaker (λ e. held cells e.0 ≡ Some e.1) (λ e. IsEntry e.0 (Some e.1)) (λ e here. subst (IsEntry e.0) here (holds e.0)) cells found
