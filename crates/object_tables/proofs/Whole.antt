-- Only keys of changes that were noted have empty slots, and after settling none has.
use Rattle.std.proofs.Common.{◌≡◌, ◌<◌, ◌≤◌, ℕ, zero, suc, List, [], ◌∷◌, Option, Some, None, true, false, Bool, ◌&&◌, ◌||◌, ◌+◌, nat_eq, length, get_or, drop, refl, sym, ap, subst, ◌∙◌, arith}
use Rattle.std.proofs.lemmas.List.{drop_more, drop_all}
use Rattle.std.specs.Option.{is_some}
use Rattle.std.specs.declared.cmp.Ordering.{Ordering}
use Rattle.std.specs.declared.cmp.Ordering.TheVariants.{Less, Equal, Greater}
use Rattle.std.specs.Map.{keys_of}
use Rattle.std.specs.BTreeMap.{is_at}
use Rattle.std.specs.List.Sorted.{IsStrictlySortedBy}
use Rattle.std.proofs.lemmas.Map.Keys.{sorted_head, sorted_tail}
use Rattle.script_tree.specs.Transactions.{Row}
use Rattle.object_tables.specs.declared.undo_log.Undo.{Undo}
use Rattle.object_tables.specs.Slots.{Slot, Slots, by_bytes, slot_at, put, restored, settled, is_empty}
use Rattle.object_tables.specs.UndoLog.{slots_at, put_at, restored_at, settled_at, undone, is_noted, IsWholeBut, AreWholeBut, AreWhole}
use Rattle.object_tables.proofs.Insert.{IsBelow, below_too}

-- ---- booleans

or_right : (a b : Bool) → b ≡ true → (a || b) ≡ true
or_right true b h = refl
or_right false b h = h

or_more : (a b c : Bool) → (b ≡ true → c ≡ true) → (a || b) ≡ true → (a || c) ≡ true
or_more true b c f h = refl
or_more false b c f h = f h

or_turn : (a b c : Bool) → (b || (a || c)) ≡ true → ((a || b) || c) ≡ true
or_turn true b c h = refl
or_turn false true c h = refl
or_turn false false c h = h

or_none : (a : Bool) → (a || false) ≡ true → a ≡ true
or_none true h = refl
or_none false h = h

-- ---- one table

more : (may might : List ℕ → Bool) (es : Slots) → ((q : List ℕ) → may q ≡ true → might q ≡ true) → IsWholeBut may es → IsWholeBut might es
more may might [] f h = tt
more may might (e ∷ es) f h = (or_more (is_some e.1) (may e.0) (might e.0) (f e.0) h.0, more may might es f h.1)

before_restored : (k : List ℕ) (before : Option Slot) (may might : List ℕ → Bool) (es : Slots) → ((q : List ℕ) → may q ≡ true → might q ≡ true)
    → ((q : List ℕ) → is_at (by_bytes k) q ≡ true → might q ≡ true) → IsWholeBut may (restored k before es) → IsWholeBut might es
before_restored k before may might [] f g h = tt
before_restored k None may might (e ∷ es) f g h = by (is_at (by_bytes k) e.0) refl (before_restored k None may might es f g)
  where
    by : (b : Bool) → is_at (by_bytes k) e.0 ≡ b → (IsWholeBut may (restored k None es) → IsWholeBut might es) → IsWholeBut might (e ∷ es)
    by true p ih = (or_right (is_some e.1) (might e.0) (g e.0 p), more may might es f (rw p at h))
    by false p ih = let w : ((is_some e.1 || may e.0) ≡ true) × IsWholeBut may (restored k None es) = rw p at h in (or_more (is_some e.1) (may e.0) (might e.0) (f e.0) w.0, ih w.1)
before_restored k (Some s) may might (e ∷ es) f g h = by (is_at (by_bytes k) e.0) refl (before_restored k (Some s) may might es f g)
  where
    by : (b : Bool) → is_at (by_bytes k) e.0 ≡ b → (IsWholeBut may (restored k (Some s) es) → IsWholeBut might es) → IsWholeBut might (e ∷ es)
    by true p ih = let w : IsWholeBut may ((e.0, s) ∷ es) = rw p at h in (or_right (is_some e.1) (might e.0) (g e.0 p), more may might es f w.1)
    by false p ih = let w : IsWholeBut may (e ∷ restored k (Some s) es) = rw p at h in (or_more (is_some e.1) (may e.0) (might e.0) (f e.0) w.0, ih w.1)

-- the key isn't among others that are above it
above : (k : List ℕ) (may might : List ℕ → Bool) (es : Slots) → IsBelow k es
    → ((q : List ℕ) → may q ≡ true → (is_at (by_bytes k) q || might q) ≡ true) → IsWholeBut may es → IsWholeBut might es
above k may might [] b f h = tt
above k may might (e ∷ es) b f h =
    let g : may e.0 ≡ true → might e.0 ≡ true = λ m. rw b.0 at (f e.0 m) in
    (or_more (is_some e.1) (may e.0) (might e.0) g h.0, above k may might es b.1 f h.1)

settled_past : (k : List ℕ) (e : List ℕ × Slot) (es : Slots) → is_at (by_bytes k) e.0 ≡ false → settled k (e ∷ es) ≡ e ∷ settled k es
settled_past k e es p = by (is_empty (slot_at k es)) refl
  where
    by : (b : Bool) → is_empty (slot_at k es) ≡ b → settled k (e ∷ es) ≡ e ∷ settled k es
    by true h = rw p (rw h refl)
    by false h = rw p (rw h refl)

settled_here : (k q : List ℕ) (s : Slot) (es : Slots) (might : List ℕ → Bool) → by_bytes k q ≡ Equal
    → IsWholeBut might es → IsWholeBut might (settled k ((q, s) ∷ es))
settled_here k q None es might p h = rw p h
settled_here k q (Some row) es might p h = rw p (refl, h)

after_settled : (k : List ℕ) (may might : List ℕ → Bool) (es : Slots) → IsStrictlySortedBy by_bytes (keys_of es)
    → ((q : List ℕ) → may q ≡ true → (is_at (by_bytes k) q || might q) ≡ true) → IsWholeBut may es → IsWholeBut might (settled k es)
after_settled k may might [] o f h = tt
after_settled k may might (e ∷ es) o f h = by (by_bytes k e.0) refl (after_settled k may might es (sorted_tail by_bytes _ _ o) f h.1)
  where
    apart : is_at (by_bytes k) e.0 ≡ false → IsWholeBut might (settled k es) → IsWholeBut might (settled k (e ∷ es))
    apart p ih =
        let g : may e.0 ≡ true → might e.0 ≡ true = λ m. rw p at (f e.0 m) in
        rw (settled_past k e es p) (or_more (is_some e.1) (may e.0) (might e.0) g h.0, ih)

    by : (r : Ordering) → by_bytes k e.0 ≡ r → IsWholeBut might (settled k es) → IsWholeBut might (settled k (e ∷ es))
    by Less p ih = apart (rw p refl) ih
    by Equal p ih = settled_here k e.0 e.1 es might p (above k may might es (below_too k e.0 es p (sorted_head by_bytes e.0 (keys_of es) o)) f h.1)
    by Greater p ih = apart (rw p refl) ih

-- ---- all tables

all_more : (may might : ℕ → List ℕ → Bool) (ts : List Slots)
    → ((t : ℕ) (q : List ℕ) → may t q ≡ true → might t q ≡ true) → AreWholeBut may ts → AreWholeBut might ts
all_more may might [] f h = tt
all_more may might (es ∷ ts) f h = (more (may 0) (might 0) es (f 0) h.0, all_more (λ t. may (suc t)) (λ t. might (suc t)) ts (λ t. f (suc t)) h.1)

all_before : (ts : List Slots) (t : ℕ) (k : List ℕ) (before : Option Slot) (may might : ℕ → List ℕ → Bool)
    → ((i : ℕ) (q : List ℕ) → may i q ≡ true → might i q ≡ true)
    → ((q : List ℕ) → is_at (by_bytes k) q ≡ true → might t q ≡ true) → AreWholeBut may (restored_at t k before ts) → AreWholeBut might ts
all_before [] t k before may might f g h = tt
all_before (es ∷ ts) zero k before may might f g h =
    (before_restored k before (may 0) (might 0) es (f 0) g h.0, all_more (λ t. may (suc t)) (λ t. might (suc t)) ts (λ t. f (suc t)) h.1)
all_before (es ∷ ts) (suc t) k before may might f g h =
    (more (may 0) (might 0) es (f 0) h.0, all_before ts t k before (λ i. may (suc i)) (λ i. might (suc i)) (λ i. f (suc i)) g h.1)

same_number : (t : ℕ) → nat_eq t t ≡ true
same_number t = grind arith

noted_more : (us : List Undo) (may : ℕ → List ℕ → Bool) (ts : List Slots) → AreWholeBut may (undone us ts) → AreWholeBut (λ t k. is_noted us t k || may t k) ts
noted_more [] may ts h = h
noted_more (u ∷ us) may ts h =
    let here : ℕ → List ℕ → Bool = λ t k. nat_eq u.table t && is_at (by_bytes u.key) k in
    let one : AreWholeBut (λ t k. here t k || may t k) (undone us ts) =
    all_before (undone us ts) u.table u.key u.before may (λ t k. here t k || may t k)
    (λ t q. or_right (here t q) (may t q)) (λ q p. rw (same_number u.table, p) refl) h in
    all_more (λ t k. is_noted us t k || (here t k || may t k)) (λ t k. (here t k || is_noted us t k) || may t k) ts
    (λ t q. or_turn (here t q) (is_noted us t q) (may t q))
    (noted_more us (λ t k. here t k || may t k) ts one)

pub whole_noted : (us : List Undo) (ts : List Slots) → AreWhole (undone us ts) → AreWholeBut (is_noted us) ts
whole_noted us ts h = all_more (λ t k. is_noted us t k || false) (is_noted us) ts (λ t q. or_none (is_noted us t q)) (noted_more us (λ t k. false) ts h)

first_alone : (i : ℕ) → nat_eq 0 (suc i) ≡ false
first_alone i = grind arith

others_apart : (t : ℕ) → nat_eq (suc t) 0 ≡ false
others_apart t = grind arith

one_less : (t i : ℕ) → nat_eq (suc t) (suc i) ≡ nat_eq t i
one_less t i = grind arith

all_settled : (ts : List Slots) (t : ℕ) (k : List ℕ) (may might : ℕ → List ℕ → Bool) → IsStrictlySortedBy by_bytes (keys_of (slots_at t ts))
    → ((i : ℕ) (q : List ℕ) → may i q ≡ true → ((nat_eq t i && is_at (by_bytes k) q) || might i q) ≡ true)
    → AreWholeBut may ts → AreWholeBut might (settled_at t k ts)
all_settled [] t k may might o f h = tt
all_settled (es ∷ ts) zero k may might o f h =
    (after_settled k (may 0) (might 0) es o (f 0) h.0, all_more (λ i. may (suc i)) (λ i. might (suc i)) ts (λ i q m. rw (first_alone i) at (f (suc i) q m)) h.1)
all_settled (es ∷ ts) (suc t) k may might o f h = (
  more (may 0) (might 0) es (λ q m. rw (others_apart t) at (f 0 q m)) h.0,
  all_settled ts t k (λ i. may (suc i)) (λ i. might (suc i)) o
      (λ i q m. rw (one_less t i) at (f (suc i) q m)) h.1,
)

pub noted_less : (us : List Undo) (i : ℕ) (u : Undo) (ts new : List Slots) → i < length us → u ≡ get_or us i u
    → IsStrictlySortedBy by_bytes (keys_of (slots_at u.table ts))
    → new ≡ settled_at u.table u.key ts → AreWholeBut (is_noted (drop i us)) ts → AreWholeBut (is_noted (drop (i + 1) us)) new
noted_less us i u ts new l e o n h =
    let split : drop i us ≡ u ∷ drop (i + 1) us = drop_more us i u l ∙ ap (λ v. v ∷ drop (i + 1) us) (sym e) in
    let whole : AreWholeBut (is_noted (u ∷ drop (i + 1) us)) ts = subst (λ (vs : List Undo). AreWholeBut (is_noted vs) ts) split h in
    rw n (all_settled ts u.table u.key (is_noted (u ∷ drop (i + 1) us)) (is_noted (drop (i + 1) us)) o (λ j q m. m) whole)

pub none_noted : (us : List Undo) (i : ℕ) (ts : List Slots) → length us ≤ i → AreWholeBut (is_noted (drop i us)) ts → AreWhole ts
none_noted us i ts l h = subst (λ (vs : List Undo). AreWholeBut (is_noted vs) ts) (drop_all i us l) h

-- ---- a row that is put

whole_put : (may : List ℕ → Bool) (k : List ℕ) (row : Row) (es : Slots) → IsWholeBut may es → IsWholeBut may (put k (Some row) es)
whole_put may k row [] h = (refl, tt)
whole_put may k row (e ∷ es) h = by (by_bytes k e.0) refl (whole_put may k row es h.1)
  where
    by : (o : Ordering) → by_bytes k e.0 ≡ o → IsWholeBut may (put k (Some row) es) → IsWholeBut may (put k (Some row) (e ∷ es))
    by Less p ih = rw p (refl, h)
    by Equal p ih = rw p (refl, h.1)
    by Greater p ih = rw p (h.0, ih)

put_whole : (may : ℕ → List ℕ → Bool) (ts : List Slots) (t : ℕ) (k : List ℕ) (row : Row) → AreWholeBut may ts → AreWholeBut may (put_at t k (Some row) ts)
put_whole may [] t k row h = tt
put_whole may (es ∷ ts) zero k row h = (whole_put (may 0) k row es h.0, h.1)
put_whole may (es ∷ ts) (suc t) k row h = (h.0, put_whole (λ i. may (suc i)) ts t k row h.1)

pub whole_with : (ts us : List Slots) (t : ℕ) (k : List ℕ) (row : Row) → us ≡ put_at t k (Some row) ts → AreWhole ts → AreWhole us
whole_with ts us t k row e h = rw e (put_whole (λ t k. false) ts t k row h)
