-- The order of a graph lists each node once, after all its predecessors.
use Rattle.std.proofs.Common.{◌≡◌, ℕ, zero, suc, ◌<◌, Bool, true, false, ◌&&◌, cond, List, [], ◌∷◌, length, Some, None, Option, ◌⊎◌, inl, inr, refl, sym, ap, subst, ◌∙◌, arith, true≢false, nat_eq}
use Rattle.std.specs.List.{list_any}
use Rattle.std.proofs.lemmas.Bool.{cases_Bool, eqb-true, eq-eqb, and_parts, and_from, not-true}
use Rattle.basis.specs.Lists.{nth, first_answer}
use Rattle.basis.proofs.Options.{some_is, none_is_not}
use Rattle.basis.proofs.Places.{In, first_some, any_false}
use Rattle.audit_meaning.specs.Lists.{answer_if}
use Rattle.audit_meaning.specs.Nodes.{Node, step, close, same_node}
use Rattle.audit_meaning.specs.Edges.{Edge}
use Rattle.audit_meaning.specs.Orders.{is_free, without, with_first, ordered}
use Rattle.audit_meaning.proofs.Places.{answer_some, Apart, apart_rest, apart_head, apart_more}

pub same_node_is : (x y : Node) → same_node x y ≡ true → x ≡ y
same_node_is (step r k) (step a b) e = let p = and_parts (nat_eq r a) (nat_eq k b) e in λ i. step (eqb-true r a p.0 i) (eqb-true k b p.1 i)
same_node_is (close r) (close a) e = ap close (eqb-true r a e)
same_node_is (step r k) (close a) e = absurd (true≢false (sym e))
same_node_is (close r) (step a b) e = absurd (true≢false (sym e))

pub same_node_itself : (x : Node) → same_node x x ≡ true
same_node_itself (step r k) = and_from (nat_eq r r) (nat_eq k k) (eq-eqb r r refl) (eq-eqb k k refl)
same_node_itself (close r) = eq-eqb r r refl

pub any_node : (x : Node) (xs : List Node) (i : ℕ) → nth xs i ≡ Some x → list_any (same_node x) xs ≡ true
any_node x xs i e = elim (cases_Bool (list_any (same_node x) xs)) [
  | inl h ↦ h
  | inr h ↦ absurd (true≢false (sym (same_node_itself x) ∙ any_false (same_node x) xs i x h e))
]

-- ---- one node less

module _ (x : Node) where
  pub without_in : (xs : List Node) (y : Node) (i : ℕ) → nth (without x xs) i ≡ Some y → In xs y
  without_in [] y i e = absurd (none_is_not e)
  without_in (z ∷ xs) y i e = go (same_node x z) i e (λ j. without_in xs y j)
    where
      go : (b : Bool) (j : ℕ) → nth (cond b xs (z ∷ without x xs)) j ≡ Some y → ((k : ℕ) → nth (without x xs) k ≡ Some y → In xs y) → In (z ∷ xs) y
      go true j h rest = (suc j, h)
      go false zero h rest = (0, h)
      go false (suc j) h rest = let more = rest j h in (suc more.0, more.1)

  pub without_rest : (xs : List Node) (y : Node) (i : ℕ) → nth xs i ≡ Some y → (x ≡ y) ⊎ In (without x xs) y
  without_rest [] y i e = absurd (none_is_not e)
  without_rest (z ∷ xs) y i e = go (same_node x z) refl i e (λ j. without_rest xs y j)
    where
      go : (b : Bool) → same_node x z ≡ b → (j : ℕ) → nth (z ∷ xs) j ≡ Some y
          → ((k : ℕ) → nth xs k ≡ Some y → (x ≡ y) ⊎ In (without x xs) y)
          → (x ≡ y) ⊎ In (cond b xs (z ∷ without x xs)) y
      go true p zero h rest = inl (same_node_is x z p ∙ some_is h)
      go true p (suc j) h rest = inr (j, h)
      go false p zero h rest = inr (0, h)
      go false p (suc j) h rest = elim (rest j h) [ inl q ↦ inl q | inr more ↦ inr (suc more.0, more.1) ]

  pub without_length : (xs : List Node) (i : ℕ) → nth xs i ≡ Some x → suc (length (without x xs)) ≡ length xs
  without_length [] i e = absurd (none_is_not e)
  without_length (z ∷ xs) i e = go (same_node x z) refl i e (λ j. without_length xs j)
    where
      go : (b : Bool) → same_node x z ≡ b → (j : ℕ) → nth (z ∷ xs) j ≡ Some x
          → ((k : ℕ) → nth xs k ≡ Some x → suc (length (without x xs)) ≡ length xs)
          → suc (length (cond b xs (z ∷ without x xs))) ≡ suc (length xs)
      go true p j h rest = refl
      go false p zero h rest = absurd (true≢false (sym (same_node_itself x) ∙ ap (same_node x) (sym (some_is h)) ∙ p))
      go false p (suc j) h rest = ap suc (rest j h)

  pub without_apart : (xs : List Node) → Apart xs → Apart (without x xs)
  without_apart [] h = h
  without_apart (z ∷ xs) h = go (same_node x z) (without_apart xs (apart_rest z xs h))
    where
      go : (b : Bool) → Apart (without x xs) → Apart (cond b xs (z ∷ without x xs))
      go true rest = apart_rest z xs h
      go false rest = apart_more z (without x xs) (λ m. apart_head z xs h (without_in xs z m.0 m.1)) rest

  without_not : (xs : List Node) → Apart xs → In (without x xs) x → ⊥
  without_not [] h m = none_is_not m.1
  without_not (z ∷ xs) h m = go (same_node x z) refl m.0 m.1 (without_not xs (apart_rest z xs h))
    where
      go : (b : Bool) → same_node x z ≡ b → (j : ℕ) → nth (cond b xs (z ∷ without x xs)) j ≡ Some x → (In (without x xs) x → ⊥) → ⊥
      go true p j e rest = apart_head z xs h (j, e ∙ ap (λ w. Some w) (same_node_is x z p))
      go false p zero e rest = absurd (true≢false (sym (same_node_itself x) ∙ ap (same_node x) (sym (some_is e)) ∙ p))
      go false p (suc j) e rest = rest (j, e)

-- ---- the order

pub record OrderOf (E : List Edge) (left N : List Node) : Type 0 where
  pub all : (x : Node) (i : ℕ) → nth left i ≡ Some x → In N x
  pub only : (x : Node) (i : ℕ) → nth N i ≡ Some x → In left x
  pub after : (x y : Node) (i j : ℕ) → In E (x, y) → nth N i ≡ Some x → nth N j ≡ Some y → i < j
  pub apart : Apart left → Apart N

order_none : (E : List Edge) (left : List Node) → length left ≡ 0 → OrderOf E left []
order_none E [] l = record {
  all = λ x i e. absurd (none_is_not e);
  only = λ x i e. absurd
      (none_is_not e);
  after = λ x y i j m a b. absurd (none_is_not a);
  apart = λ h. h;
}
order_none E (z ∷ left) l = absurd (omega arith)

order_more : (E : List Edge) (left N : List Node) (x : Node) → is_free E left x ≡ true → In left x → OrderOf E (without x left) N → OrderOf E left (x ∷ N)
order_more E left N x free here o = record {
  all = λ y i e. elim (without_rest x left y i e) [
    | inl p ↦ (0, ap (λ w. Some w) p)
    | inr m ↦ let more = o.all y m.0 m.1 in (suc more.0, more.1)
  ];
  only = only;
  after = after;
  apart = λ h. apart_more x N (λ m. without_not x left h (o.only x m.0 m.1)) (o.apart (without_apart x left h));
}
  where
    only : (y : Node) (i : ℕ) → nth (x ∷ N) i ≡ Some y → In left y
    only y zero e = (here.0, here.1 ∙ e)
    only y (suc i) e = let m = o.only y i e in without_in x left y m.0 m.1

    after : (a b : Node) (i j : ℕ) → In E (a, b) → nth (x ∷ N) i ≡ Some a → nth (x ∷ N) j ≡ Some b → i < j
    after a b i zero m at_a at_b =
        let a_left = only a i at_a in
        let blocked : (same_node x b && list_any (same_node a) left) ≡ false =
        any_false (λ e. same_node x e.1 && list_any (same_node e.0) left) E m.0 (a, b) (not-true _ free) m.1 in
        absurd (true≢false (sym (and_from (same_node x b) (list_any (same_node a) left) (ap (same_node x) (sym (some_is at_b)) ∙ same_node_itself x) (any_node a left a_left.0 a_left.1)) ∙ blocked))
    after a b zero (suc j) m at_a at_b = omega arith
    after a b (suc i) (suc j) m at_a at_b = let l : i < j = o.after a b i j m at_a at_b in omega arith

pub ordered_is : (E : List Edge) (n : ℕ) (left N : List Node) → length left ≡ n → ordered E n left ≡ Some N → OrderOf E left N
ordered_is E zero left N l e = subst (OrderOf E left) (some_is e) (order_none E left l)
ordered_is E (suc n) left N l e = picked (first_answer (λ x. answer_if (is_free E left x) x) left) refl e (λ rest M. ordered_is E n rest M)
  where
    joined : (x : Node) → is_free E left x ≡ true → In left x → (o : Option (List Node))
        → ((M : List Node) → o ≡ Some M → OrderOf E (without x left) M) → with_first x o ≡ Some N → OrderOf E left N
    joined x free here None rest h = absurd (none_is_not h)
    joined x free here (Some M) rest h = subst (OrderOf E left) (some_is h) (order_more E left M x free here (rest M refl))

    picked : (o : Option Node) → first_answer (λ x. answer_if (is_free E left x) x) left ≡ o
        → elim o [ None ↦ None | Some x ↦ with_first x (ordered E n (without x left)) ] ≡ Some N
        → ((rest M : List Node) → length rest ≡ n → ordered E n rest ≡ Some M → OrderOf E rest M) → OrderOf E left N
    picked None p h rest = absurd (none_is_not h)
    picked (Some x) p h rest =
        let found = first_some (λ y. answer_if (is_free E left y) y) left x p in
        let test = answer_some (is_free E left found.0) found.0 x found.2 in
        let free : is_free E left x ≡ true = subst (λ y. is_free E left y ≡ true) test.1 test.0 in
        let here : In left x = subst (In left) test.1 found.1 in
        let shorter : suc (length (without x left)) ≡ length left = without_length x left here.0 here.1 in
        joined x free here (ordered E n (without x left)) (λ M q. rest (without x left) M (omega arith) q) h
