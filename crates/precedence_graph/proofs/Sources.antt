-- Where the edges to a place stand in a list, and the members of a set of places.
use Rattle.std.proofs.Common.{cond, ◌≡◌, ◌∙◌, ℕ, zero, suc, ◌<◌, ◌≤◌, ◌+◌, ◌-◌, Bool, true, false, not, ◌&&◌, ◌||◌, nat_eq, refl, ap, sym, arith}
use Rattle.std.proofs.Common.{List, [], ◌∷◌, ◌++◌, length, take, drop, get_or, length-append, Some, inl, inr}
use Rattle.std.proofs.lemmas.Bool.{cases_lt, eqb-true, eq-eqb}
use Rattle.std.proofs.lemmas.Bool.Decides.{nat_tests}
use Rattle.std.specs.BTreeMap.{is_at}
use Rattle.std.proofs.lemmas.List.Folds.{list_any_more}
use Rattle.std.specs.List.{list_any}
use Rattle.std.specs.Ordering.{nat_cmp}
use Rattle.basis.specs.Lists.{nth}
use Rattle.basis.proofs.Options.{none_is_not, some_is}
use Rattle.basis.proofs.Places.{any_true, true_any, nth_before, nth_take, nth_within, take_nth, nth-get_or}
use Rattle.audit_meaning.proofs.Words.{nth_there}
use Rattle.audit_meaning.specs.Placed.{IsIn}
use Rattle.precedence_graph.specs.EdgeLists.{StartsAt, AreStarts, AreEdgesTo, is_source}

-- ---- lists

-- what stands behind the first list stands in the second
pub nth_behind : {A : Type 0} (xs ys : List A) (k : ℕ) (y : A) → nth (xs ++ ys) k ≡ Some y → length xs ≤ k → IsIn ys y
nth_behind [] ys k y e le = (k, e)
nth_behind (x ∷ xs) ys zero y e le = absurd (omega arith)
nth_behind (x ∷ xs) ys (suc k) y e le = nth_behind xs ys k y e (omega arith)

drop_nth : {A : Type 0} (xs : List A) (s k : ℕ) (x : A) → nth (drop s xs) k ≡ Some x → nth xs (s + k) ≡ Some x
drop_nth [] zero k x e = absurd (none_is_not e)
drop_nth [] (suc s) k x e = absurd (none_is_not e)
drop_nth (y ∷ xs) zero k x e = ap (nth (y ∷ xs)) (let z : 0 + k ≡ k = omega arith in z) ∙ e
drop_nth (y ∷ xs) (suc s) k x e = ap (nth (y ∷ xs)) (let z : suc s + k ≡ suc (s + k) = omega arith in z) ∙ drop_nth xs s k x e

nth_drop : {A : Type 0} (xs : List A) (s k j : ℕ) (x : A) → k ≡ s + j → nth xs k ≡ Some x → nth (drop s xs) j ≡ Some x
nth_drop [] s k j x is e = absurd (none_is_not e)
nth_drop (y ∷ xs) zero k j x is e = ap (nth (y ∷ xs)) (let z : j ≡ k = omega (arith, is) in z) ∙ e
nth_drop (y ∷ xs) (suc s) zero j x is e = absurd (omega (arith, is))
nth_drop (y ∷ xs) (suc s) (suc k) j x is e = nth_drop xs s k j x (omega (arith, is)) e

-- ---- members of a set of places

same_place : (a x : ℕ) → is_at (nat_cmp a) x ≡ true → x ≡ a
same_place a x t = grind (arith, nat_tests)

own_place : (a : ℕ) → is_at (nat_cmp a) a ≡ true
own_place a = grind (arith, nat_tests)

pub any_in : (keys : List ℕ) (a : ℕ) → list_any (is_at (nat_cmp a)) keys ≡ true → IsIn keys a
any_in keys a t =
    let x = any_true (is_at (nat_cmp a)) keys t in
    (x.1.0, x.1.1 ∙ ap (λ y. Some y) (same_place a x.0 x.2))

pub in_any : (keys : List ℕ) (a : ℕ) → IsIn keys a → list_any (is_at (nat_cmp a)) keys ≡ true
in_any keys a h = true_any (is_at (nat_cmp a)) keys h.0 a h.1 (own_place a)

-- ---- sources

pub source_edge : (edges : List (ℕ × ℕ)) (a : ℕ) → is_source edges a ≡ true → (e : ℕ × ℕ) × IsIn edges e × (e.0 ≡ a)
source_edge edges a t = let x = any_true (λ e. nat_eq a e.0) edges t in (x.0, x.1, sym (eqb-true a x.0.0 x.2))

pub edge_source : (edges : List (ℕ × ℕ)) (e : ℕ × ℕ) → IsIn edges e → is_source edges e.0 ≡ true
edge_source edges e h = true_any (λ f. nat_eq e.0 f.0) edges h.0 e h.1 (eq-eqb e.0 e.0 refl)

-- ---- where the edges to a place start

-- the edges to a place end where those to the next place start
pub starts_rise : (edges : List (ℕ × ℕ)) (place s t : ℕ) → StartsAt edges place s → StartsAt edges (place + 1) t → s ≤ t
starts_rise edges place s t g h = elim (cases_lt t s) [
  | inl less ↦
      let within = g.within in
      let e = nth_there edges t (omega (arith, less, within)) in
      let before = g.before t e.0 e.1 less in
      let behind = h.behind t e.0 e.1 (omega arith) in
      absurd (omega (arith, before, behind))
  | inr more ↦ more
]

pub edges_between : (edges : List (ℕ × ℕ)) (place s t : ℕ) → StartsAt edges place s → StartsAt edges (place + 1) t
    → AreEdgesTo edges place (take (t - s) (drop s edges))
edges_between edges place s t g h = record {
  each = λ e i.
      let cut = take_nth (drop s edges) (t - s) i.0 e i.1 in
      let at = drop_nth edges s i.0 e cut.1 in
      let behind = g.behind (s + i.0) e at (omega arith) in
      let before = h.before (s + i.0) e at (let lt = cut.0 in omega (arith, lt)) in
      ((s + i.0, at), omega (arith, behind, before));
  all = λ e i is. elim (cases_lt i.0 s) [
    | inl less ↦ absurd (let before = g.before i.0 e i.1 less in omega (arith, before, is))
    | inr more ↦ elim (cases_lt i.0 t) [
      | inl less ↦
          let at = nth_drop edges s i.0 (i.0 - s) e (omega (arith, more)) i.1 in
          (i.0 - s, nth_take (drop s edges) (t - s) (i.0 - s) e (omega (arith, less, more)) at)
      | inr past ↦ absurd (let behind = h.behind i.0 e i.1 past in omega (arith, behind, is))
    ]
  ];
}

-- the start at a place of the list
pub start_at : (edges : List (ℕ × ℕ)) (starts : List ℕ) (place : ℕ) → AreStarts edges starts → place < length starts
    → StartsAt edges place (get_or starts place 0)
start_at edges starts place are lt = are place (get_or starts place 0) (nth-get_or 0 starts place lt)

-- edges to a place start behind all edges to the places before
pub starts_more : (edges : List (ℕ × ℕ)) (starts : List ℕ) (place start : ℕ) → AreStarts edges starts → length starts ≡ place → start ≡ length edges
    → ((e : ℕ × ℕ) → IsIn edges e → e.1 < place)
    → AreStarts edges (starts ++ start ∷ [])
starts_more edges starts place start are count all below p s at = elim (cases_lt p (length starts)) [
  | inl less ↦ are p s (nth_before starts (start ∷ []) p s less at)
  | inr more ↦
      let behind = nth_behind starts (start ∷ []) p s at more in
      let only = only_one behind.0 behind.1 in
      let here : p < length starts + 1 = within p s at in
      record {
        within = omega (arith, only, all);
        before = λ k e is lt. let far = below e (k, is) in omega (arith, far, more, count);
        behind = λ k e is le. absurd (let inside = nth_within edges k e is in omega (arith, inside, le, only, all));
      }
]
  where
    only_one : (k : ℕ) → nth (start ∷ []) k ≡ Some s → s ≡ start
    only_one zero e = sym (some_is e)
    only_one (suc k) e = absurd (none_is_not e)

    within : (k x : ℕ) → nth (starts ++ start ∷ []) k ≡ Some x → k < length starts + 1
    within k x e = let lt = nth_within (starts ++ start ∷ []) k x e in omega (arith, lt, length-append {A = ℕ})

-- edges to the last place stand behind all others
pub starts_stay : (edges more : List (ℕ × ℕ)) (starts : List ℕ) (place : ℕ) → AreStarts edges starts → length starts ≡ place + 1
    → ((e : ℕ × ℕ) → IsIn more e → e.1 ≡ place) → AreStarts (edges ++ more) starts
starts_stay edges more starts place are count to p s at =
    let old = are p s at in
    let inside = nth_within starts p s at in
    record {
      within = let within = old.within in omega (arith, within, length-append {A = ℕ × ℕ});
      before = λ k e is lt. old.before k e (nth_before edges more k e (let within = old.within in omega (arith, within, lt)) is) lt;
      behind = λ k e is le. elim (cases_lt k (length edges)) [
        | inl less ↦ old.behind k e (nth_before edges more k e less is) le
        | inr past ↦ let last = to e (nth_behind edges more k e is past) in omega (arith, last, inside, count)
      ];
    }

-- ---- sources taken out of a set

pub same_test : (k a : ℕ) → is_at (nat_cmp k) a ≡ nat_eq a k
same_test k a = grind (arith, nat_tests)

taken_out : (source earlier was old new : Bool) → new ≡ cond source false old → old ≡ (was && not earlier) → new ≡ (was && not (earlier || source))
taken_out source earlier was old new p q = p ∙ ap (cond source false) q ∙ go source earlier was
  where
    go : (s e w : Bool) → cond s false (w && not e) ≡ (w && not (e || s))
    go true true true = refl
    go true true false = refl
    go true false true = refl
    go true false false = refl
    go false true true = refl
    go false true false = refl
    go false false true = refl
    go false false false = refl

-- one source more is taken out
pub source_more : (edges : List (ℕ × ℕ)) (i a : ℕ) (d : ℕ × ℕ) (was old new : Bool) → i < length edges
    → new ≡ cond (is_at (nat_cmp (get_or edges i d).0) a) false old → old ≡ (was && not (is_source (take i edges) a))
    → new ≡ (was && not (is_source (take (i + 1) edges) a))
source_more edges i a d was old new lt out before =
    taken_out (nat_eq a (get_or edges i d).0) (is_source (take i edges) a) was old new
    (out ∙ ap (λ t. cond t false old) (same_test (get_or edges i d).0 a)) before
    ∙ ap (λ s. was && not s) (sym (list_any_more (λ e. nat_eq a e.0) edges i d lt))
