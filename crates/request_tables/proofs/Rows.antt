-- A table with one place more.
use Rattle.std.proofs.Common.{◌≡◌, ◌∙◌, ℕ, zero, suc, ◌<◌, ◌+◌, ◌-◌, List, [], ◌∷◌, ◌++◌, length, Option, Some, None, Bool, true, false, ◌&&◌, cond, nat_eq, refl, ap, sym, arith}
use Rattle.std.specs.Option.{is_some, option_or}
use Rattle.std.specs.List.{slice_get}
use Rattle.std.specs.BTreeMap.{BTreeMap, Updates, get, is_at}
use Rattle.std.specs.Ordering.{nat_cmp, ordering_then, is_eq}
use Rattle.std.specs.declared.cmp.Ordering.{Ordering}
use Rattle.std.specs.declared.cmp.Ordering.TheVariants.{Less, Equal, Greater}
use Rattle.std.proofs.Math.ListN.{set}
use Rattle.std.proofs.lemmas.Bool.Decides.{nat_tests}
use Rattle.std.proofs.lemmas.Bool.{eqb-true, and_parts, false_from_ne_true}
use Rattle.request_tables.specs.OperationTables.{by_operation, place_at}

-- ---- rows

-- the place in a list of rows
abbrev pub in_rows : {X : Type 0} → (X → List (ℕ × ℕ)) → List X → ℕ → ℕ → Option (ℕ × ℕ)
in_rows items rows a b = elim (slice_get rows a) [ None ↦ None | Some row ↦ place_at (items row) b ]

zero_suc : (i : ℕ) → nat_eq 0 (suc i) ≡ false
zero_suc i = false_from_ne_true (nat_eq 0 (suc i)) (λ t. let e : 0 ≡ suc i = eqb-true 0 (suc i) t in omega arith)

suc_zero : (i : ℕ) → nat_eq (suc i) 0 ≡ false
suc_zero i = false_from_ne_true (nat_eq (suc i) 0) (λ t. let e : suc i ≡ 0 = eqb-true (suc i) 0 t in omega arith)

both_suc : (i j : ℕ) → nat_eq (suc i) (suc j) ≡ nat_eq i j
both_suc i j = grind (arith, nat_tests)

appended : (row : List (ℕ × ℕ)) (place : ℕ × ℕ) (i : ℕ) → slice_get (row ++ place ∷ []) i ≡ cond (nat_eq (length row) i) (Some place) (slice_get row i)
appended [] place zero = refl
appended [] place (suc i) = ap (λ t. cond t (Some place) None) (sym (zero_suc i))
appended (p ∷ row) place zero = ap (λ t. cond t (Some place) (Some p)) (sym (suc_zero (length row)))
appended (p ∷ row) place (suc i) = appended row place i ∙ ap (λ t. cond t (Some place) (slice_get row i)) (sym (both_suc (length row) i))

changed : {X : Type 0} (rows : List X) (r a : ℕ) (new : X) → r < length rows → slice_get (set rows r new) a ≡ cond (nat_eq r a) (Some new) (slice_get rows a)
changed [] r a new lt = absurd (omega arith)
changed (x ∷ rows) zero zero new lt = refl
changed (x ∷ rows) zero (suc a) new lt = ap (λ t. cond t (Some new) (slice_get rows a)) (sym (zero_suc a))
changed (x ∷ rows) (suc r) zero new lt = ap (λ t. cond t (Some new) (Some x)) (sym (suc_zero r))
changed (x ∷ rows) (suc r) (suc a) new lt = changed rows r a new (omega arith) ∙ ap (λ t. cond t (Some new) (slice_get rows a)) (sym (both_suc r a))

at_suc : (row : List (ℕ × ℕ)) (i : ℕ) → place_at row (suc i) ≡ slice_get row i
at_suc row i =
    ap (λ t. cond t None (slice_get row (suc i - 1))) (suc_zero i)
    ∙ ap (slice_get row) (let e : suc i - 1 ≡ i = omega arith in e)

-- one place more at the end of a row
pub row_more : {X : Type 0} (items : X → List (ℕ × ℕ)) (rows : List X) (r k a b : ℕ) (place : ℕ × ℕ) (row new : X) (other : Option (ℕ × ℕ))
    → slice_get rows r ≡ Some row → r < length rows → length (items row) + 1 ≡ k → items new ≡ items row ++ place ∷ []
    → option_or (in_rows items (set rows r new) a b) other ≡ cond (nat_eq r a && nat_eq k b) (Some place) (option_or (in_rows items rows a b) other)
row_more {X} items rows r k a b place row new other at lt next more =
    ap (λ (o : Option X). option_or (elim o [ None ↦ None | Some x ↦ place_at (items x) b ]) other) (changed rows r a new lt) ∙ go (nat_eq r a) refl
  where
    there : (b : ℕ) → option_or (place_at (items row ++ place ∷ []) b) other
        ≡ cond (nat_eq (length (items row) + 1) b) (Some place) (option_or (place_at (items row) b) other)
    there zero = ap (λ t. cond t (Some place) other) (sym (suc_zero (length (items row)))) ∙ ap (λ n. cond (nat_eq n 0) (Some place) other) (let e : suc (length (items row)) ≡ length (items row) + 1 = omega arith in e)
    there (suc i) =
        ap (λ o. option_or o other) (at_suc (items row ++ place ∷ []) i ∙ appended (items row) place i)
        ∙ either (nat_eq (length (items row)) i)
        ∙ ap (λ t. cond t (Some place) (option_or (slice_get (items row) i) other)) (sym (both_suc (length (items row)) i))
        ∙ ap (λ n. cond (nat_eq n (suc i)) (Some place) (option_or (slice_get (items row) i) other)) (let e : suc (length (items row)) ≡ length (items row) + 1 = omega arith in e)
        ∙ ap (λ o. cond (nat_eq (length (items row) + 1) (suc i)) (Some place) (option_or o other)) (sym (at_suc (items row) i))
      where
        either : (t : Bool) → option_or (cond t (Some place) (slice_get (items row) i)) other ≡ cond t (Some place) (option_or (slice_get (items row) i) other)
        either true = refl
        either false = refl

    go : (t : Bool) → nat_eq r a ≡ t
        → option_or (elim (cond t (Some new) (slice_get rows a)) [ None ↦ None | Some x ↦ place_at (items x) b ]) other
        ≡ cond (t && nat_eq k b) (Some place) (option_or (in_rows items rows a b) other)
    go false e = refl
    go true e =
        ap (λ xs. option_or (place_at xs b) other) more
        ∙ there b
        ∙ ap (λ n. cond (nat_eq n b) (Some place) (option_or (place_at (items row) b) other)) next
        ∙ ap (λ (o : Option X). cond (nat_eq k b) (Some place)
        (option_or (elim o [ None ↦ None | Some x ↦ place_at (items x) b ]) other))
        (sym (ap (slice_get rows) (sym (eqb-true r a e)) ∙ at))

-- ---- the map

is_at_eq : (a b : ℕ) → is_eq (nat_cmp a b) ≡ nat_eq a b
is_at_eq a b = grind (arith, nat_tests)

then_eq : (x y : Ordering) → is_eq (ordering_then x y) ≡ (is_eq x && is_eq y)
then_eq Less y = refl
then_eq Equal y = refl
then_eq Greater y = refl

same_operation : (r k a b : ℕ) → is_at (by_operation (r, k)) (a, b) ≡ (nat_eq r a && nat_eq k b)
same_operation r k a b = then_eq (nat_cmp r a) (nat_cmp k b) ∙ ap (λ x. x && is_eq (nat_cmp k b)) (is_at_eq r a) ∙ ap (λ x. nat_eq r a && x) (is_at_eq k b)

none_first : (o p : Option (ℕ × ℕ)) → option_or o p ≡ None → o ≡ None
none_first None p e = refl
none_first (Some x) p e = absurd cc

-- one place more in the map, of an operation that had none
pub map_more : (others new : BTreeMap (ℕ × ℕ) (ℕ × ℕ)) (rows : ℕ → ℕ → Option (ℕ × ℕ)) (r k a b : ℕ) (place : ℕ × ℕ)
    → Updates by_operation others new (r, k) (Some place)
    → option_or (rows r k) (get by_operation others (r, k)) ≡ None
    → option_or (rows a b) (get by_operation new (a, b)) ≡ cond (nat_eq r a && nat_eq k b) (Some place) (option_or (rows a b) (get by_operation others (a, b)))
map_more others new rows r k a b place u none =
    ap (option_or (rows a b)) (u.0 (a, b) ∙ ap (λ t. cond t (Some place) (get by_operation others (a, b))) (same_operation r k a b))
    ∙ go (nat_eq r a && nat_eq k b) refl
  where
    go : (t : Bool) → (nat_eq r a && nat_eq k b) ≡ t
        → option_or (rows a b) (cond t (Some place) (get by_operation others (a, b)))
        ≡ cond t (Some place) (option_or (rows a b) (get by_operation others (a, b)))
    go false e = refl
    go true e =
        let p = and_parts (nat_eq r a) (nat_eq k b) e in
        let same : rows r k ≡ rows a b = λ i. rows (eqb-true r a p.0 i) (eqb-true k b p.1 i) in
        ap (λ o. option_or o (Some place)) (sym same ∙ none_first (rows r k) (get by_operation others (r, k)) none)

pub missing : (o : Option (ℕ × ℕ)) → is_some o ≡ false → o ≡ None
missing None e = refl
missing (Some x) e = absurd cc

-- the row whose next operation has a number
pub next_there : {X : Type 0} (items : X → List (ℕ × ℕ)) (o : Option X) (k : ℕ) → elim o [ None ↦ None | Some row ↦ Some (length (items row) + 1) ] ≡ Some k
    → (row : X) × (o ≡ Some row) × (length (items row) + 1 ≡ k)
next_there items None k e = absurd cc
next_there items (Some row) k e = (row, refl, cc)
