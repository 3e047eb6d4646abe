-- Lists in order with the same members are the same.
use Rattle.std.proofs.Common.{◌≡◌, ◌∙◌, ℕ, zero, suc, List, [], ◌∷◌, ◌⊎◌, Some, inl, inr, refl, ap, sym, subst}
use Rattle.std.proofs.lemmas.Cmp.{nat_cmp_total}
use Rattle.std.specs.List.{AllByRecursion}
use Rattle.std.specs.List.Sorted.{IsStrictlySortedBy}
use Rattle.std.specs.Ordering.{nat_cmp, ordering_reverse, ordering_then}
use Rattle.std.specs.declared.cmp.Ordering.{Ordering}
use Rattle.std.specs.declared.cmp.Ordering.TheVariants.{Less, Equal, Greater}
use Rattle.basis.specs.Lists.{nth}
use Rattle.basis.proofs.Options.{none_is_not, some_is}
use Rattle.period.specs.declared.trace.TraceEvent.{TraceEvent}
use Rattle.audit_meaning.specs.Placed.{IsIn}
use Rattle.precedence_graph.specs.Edges.{AreEdges, by_later}

abbrev pub IsOneWay : {A : Type 0} → (A → A → Ordering) → Type 0
IsOneWay {A} c = (x y : A) → c x y ≡ Less → c y x ≡ Less → ⊥

all_in : {A : Type 0} (P : A → Type 0) (xs : List A) (i : ℕ) (x : A) → AllByRecursion P xs → nth xs i ≡ Some x → P x
all_in P [] i x all e = absurd (none_is_not e)
all_in P (y ∷ xs) zero x all e = subst P (some_is e) all.0
all_in P (y ∷ xs) (suc i) x all e = all_in P xs i x all.1 e

first_or_later : {A : Type 0} (y : A) (ys : List A) (i : ℕ) (x : A) → nth (y ∷ ys) i ≡ Some x → (y ≡ x) ⊎ IsIn ys x
first_or_later y ys zero x e = inl (some_is e)
first_or_later y ys (suc i) x e = inr (i, e)

same_members : {A : Type 0} (c : A → A → Ordering) → IsOneWay c → (xs ys : List A) → IsStrictlySortedBy c xs → IsStrictlySortedBy c ys
    → ((x : A) → IsIn xs x → IsIn ys x) → ((x : A) → IsIn ys x → IsIn xs x)
    → xs ≡ ys
unfolding IsStrictlySortedBy
same_members c way [] [] s t there back = refl
same_members c way [] (y ∷ ys) s t there back = absurd (none_is_not (back y (0, refl)).1)
same_members c way (x ∷ xs) [] s t there back = absurd (none_is_not (there x (0, refl)).1)
same_members {A} c way (x ∷ xs) (y ∷ ys) s t there back = ap (λ z. z ∷ xs) heads ∙ ap (λ zs. y ∷ zs) (same_members c way xs ys s.1 t.1 tail_there tail_back)
  where
    below : (z : A) → IsIn xs z → c x z ≡ Less
    below z i = all_in (λ w. c x w ≡ Less) xs i.0 z s.0 i.1

    above : (z : A) → IsIn ys z → c y z ≡ Less
    above z i = all_in (λ w. c y w ≡ Less) ys i.0 z t.0 i.1

    heads : x ≡ y
    heads = let i = there x (0, refl) in let j = back y (0, refl) in elim (first_or_later y ys i.0 x i.1) [
      | inl same ↦ sym same
      | inr later ↦ elim (first_or_later x xs j.0 y j.1) [
        | inl same ↦ same
        | inr behind ↦ absurd (way x y (below y behind) (above x later))
      ]
    ]

    tail_there : (z : A) → IsIn xs z → IsIn ys z
    tail_there z i = let j = there z (suc i.0, i.1) in elim (first_or_later y ys j.0 z j.1) [
      | inl same ↦ absurd (let less = subst (λ w. c x w ≡ Less) (sym (heads ∙ same)) (below z i) in way x x less less)
      | inr later ↦ later
    ]

    tail_back : (z : A) → IsIn ys z → IsIn xs z
    tail_back z i = let j = back z (suc i.0, i.1) in elim (first_or_later x xs j.0 z j.1) [
      | inl same ↦ absurd (let less = subst (λ w. c y w ≡ Less) (sym (sym heads ∙ same)) (above z i) in way y y less less)
      | inr later ↦ later
    ]

one_way : IsOneWay by_later
one_way e f p q =
    go (nat_cmp e.1 f.1) (nat_cmp e.0 f.0) p
    (ap (λ o. ordering_then o (ordering_reverse (nat_cmp e.0 f.0))) (sym (nat_cmp_total.antisymm f.1 e.1))
    ∙ ap (ordering_then (nat_cmp f.1 e.1)) (sym (nat_cmp_total.antisymm f.0 e.0)) ∙ q)
  where
    go : (o p : Ordering) → ordering_then o p ≡ Less → ordering_then (ordering_reverse o) (ordering_reverse p) ≡ Less → ⊥
    go Less p a b = cc
    go Equal Less a b = cc
    go Equal Equal a b = cc
    go Equal Greater a b = cc
    go Greater p a b = cc

pub edges_are_one : (trace : List TraceEvent) (xs ys : List (ℕ × ℕ)) → AreEdges trace xs → AreEdges trace ys → xs ≡ ys
edges_are_one trace xs ys e f =
    same_members by_later one_way xs ys e.ascending f.ascending (λ x i. f.all x.0 x.1 (e.each x i)) (λ x i. e.all x.0 x.1 (f.each x i))
