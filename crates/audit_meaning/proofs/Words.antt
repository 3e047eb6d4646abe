-- Small facts on the words of the definitions.
use Rattle.std.proofs.Common.{◌≡◌, ℕ, zero, suc, ◌<◌, ◌≤◌, true, false, cond, List, [], ◌∷◌, length, take, drop, map, Some, Option, refl, sym, ap, subst, arith, nat_le, true≢false}
use Rattle.std.proofs.lemmas.Bool.{eq-eqb, ne_eqb, le-leb, lt-leb}
use Rattle.std.proofs.lemmas.Slice.Eq.{bytes_eq-Decides}
use Rattle.script_tree.specs.declared.operation.Object.{Object}
use Rattle.script_tree.specs.declared.operation.Object.TheVariants.{Register, Store, Tables, Clock, Dice}
use Rattle.script_tree.specs.Datum.{Datum}
use Rattle.basis.specs.Lists.{nth}
use Rattle.basis.proofs.Options.{some_is, none_is_not}
use Rattle.period.specs.declared.report.LogEntry.{LogEntry}
use Rattle.script_tree.specs.Objects.{Cell, Objects, acted, is_same, holding}
use Rattle.period.specs.LeftBy.{left_by}
use Rattle.script_meaning.specs.Replay.{with_request}
use Rattle.audit_meaning.specs.Nodes.{Node, step, close, node_at}

-- ---- places

pub nth_there : {A : Type 0} (xs : List A) (i : ℕ) → i < length xs → (x : A) × (nth xs i ≡ Some x)
nth_there [] i l = absurd (omega arith)
nth_there (y ∷ xs) zero l = (y, refl)
nth_there (y ∷ xs) (suc i) l = nth_there xs i (omega arith)

abbrev pub Rest : {A : Type 0} → List A → ℕ → List A → Type 0
Rest xs t ys = drop t xs ≡ ys

pub rest_nth : {A : Type 0} (xs : List A) (t : ℕ) (y : A) (ys : List A) → drop t xs ≡ y ∷ ys → nth xs t ≡ Some y
rest_nth [] zero y ys e = absurd (grind arith)
rest_nth [] (suc t) y ys e = absurd (grind arith)
rest_nth (x ∷ xs) zero y ys e = ap (λ l. nth l 0) e
rest_nth (x ∷ xs) (suc t) y ys e = rest_nth xs t y ys e

pub rest_more : {A : Type 0} (xs : List A) (t : ℕ) (y : A) (ys : List A) → drop t xs ≡ y ∷ ys → drop (suc t) xs ≡ ys
rest_more [] zero y ys e = absurd (grind arith)
rest_more [] (suc t) y ys e = absurd (grind arith)
rest_more (x ∷ xs) zero y ys e = ap (λ l. drop 1 l) e
rest_more (x ∷ xs) (suc t) y ys e = rest_more xs t y ys e

pub nth_map : {A B : Type 0} (f : A → B) (xs : List A) (i : ℕ) (y : B) → nth (map f xs) i ≡ Some y → (x : A) × (nth xs i ≡ Some x) × (f x ≡ y)
nth_map f [] i y e = absurd (none_is_not e)
nth_map f (x ∷ xs) zero y e = (x, refl, some_is e)
nth_map f (x ∷ xs) (suc i) y e = nth_map f xs i y e

pub map_nth : {A B : Type 0} (f : A → B) (xs : List A) (i : ℕ) (x : A) → nth xs i ≡ Some x → nth (map f xs) i ≡ Some (f x)
map_nth f [] i x e = absurd (none_is_not e)
map_nth f (y ∷ xs) zero x e = ap (λ z. Some (f z)) (some_is e)
map_nth f (y ∷ xs) (suc i) x e = map_nth f xs i x e

-- ---- folds

pub folded_more : (es : List LogEntry) (i : ℕ) (e : LogEntry) (cell : Cell) → nth es i ≡ Some e
    → left_by (take (suc i) es) cell ≡ (acted e.act e.choice (left_by (take i es) cell)).0
folded_more [] i e cell h = absurd (none_is_not h)
folded_more (x ∷ es) zero e cell h = ap (λ y. (acted y.act y.choice cell).0) (some_is h)
folded_more (x ∷ es) (suc i) e cell h = folded_more es i e (acted x.act x.choice cell).0 h

-- ---- changes at one place

pub with_request-here : (r : ℕ) (a : Option (List Datum)) (f : ℕ → Option (List Datum)) → with_request r a f r ≡ a
with_request-here r a f = ap (λ b. cond b a (f r)) (eq-eqb r r refl)

pub with_request-there : (r x : ℕ) (a : Option (List Datum)) (f : ℕ → Option (List Datum)) → (r ≡ x → ⊥) → with_request r a f x ≡ f x
with_request-there r x a f n = ap (λ b. cond b a (f x)) (ne_eqb r x n)

-- ---- nodes

pub node_at-step : (M r i : ℕ) → i ≤ M → node_at M r i ≡ step r i
node_at-step M r i l = ap (λ b. cond b (step r i) (close r)) (le-leb i M l)

pub node_at-close : (M r i : ℕ) → M < i → node_at M r i ≡ close r
node_at-close M r i l = ap (λ b. cond b (step r i) (close r)) (lt-leb i M l)

abbrev pub owner : Node → ℕ
owner (step r k) = r
owner (close r) = r

pub node_at-owner : (M r i : ℕ) → owner (node_at M r i) ≡ r
node_at-owner M r i = elim (nat_le i M) as (λ b. owner (cond b (step r i) (close r)) ≡ r) [ true ↦ refl | false ↦ refl ]

abbrev pub place : Node → ℕ
place (step r k) = k
place (close r) = 0

abbrev pub IsStep : Node → Type 0
IsStep (step r k) = Unit {0}
IsStep (close r) = ⊥

pub step_request : {r k a b : ℕ} → step r k ≡ step a b → r ≡ a
step_request e = ap owner e

pub step_number : {r k a b : ℕ} → step r k ≡ step a b → k ≡ b
step_number e = ap place e

pub step_is_not : {r k a : ℕ} → step r k ≡ close a → ⊥
step_is_not e = subst IsStep e tt

-- ---- objects

pub same_itself : (a : Object) → is_same a a ≡ true
same_itself (Register a) = (bytes_eq-Decides a a).1 refl
same_itself (Store a) = (bytes_eq-Decides a a).1 refl
same_itself Tables = refl
same_itself Clock = refl
same_itself Dice = refl

pub holding-here : (o : Object) (cell : Cell) (objects : Objects) → holding o cell objects o ≡ cell
holding-here o cell objects = ap (λ b. cond b cell (objects o)) (same_itself o)

pub holding-there : (o x : Object) (cell : Cell) (objects : Objects) → is_same o x ≡ false → holding o cell objects x ≡ objects x
holding-there o x cell objects n = ap (λ b. cond b cell (objects x)) n
