-- Places in lists that were picked from others.
use Rattle.std.proofs.Common.{◌≡◌, ℕ, zero, suc, ◌+◌, Bool, true, false, not, cond, List, [], ◌∷◌, ◌++◌, length, take, filter, filter_map, Some, None, Option, refl, sym, ap, subst, ◌∙◌, arith, true≢false, add-zero}
use Rattle.std.specs.List.{cons_option}
use Rattle.std.proofs.lemmas.Bool.{not-true}
use Rattle.std.proofs.lemmas.List.Elements.{filter_map-append}
use Rattle.basis.specs.Lists.{nth, firsts}
use Rattle.basis.proofs.Options.{some_is, none_is_not}
use Rattle.basis.proofs.Places.{In}
use Rattle.audit_meaning.specs.Lists.{numbers}
use Rattle.audit_meaning.proofs.Places.{Apart, apart_more, apart_rest, apart_head}

-- where a picked member comes from
pub record From {A B : Type 0} (f : A → Option B) (xs : List A) (m : ℕ) (y : B) : Type 0 where
  pub place : ℕ
  pub x : A
  pub here : nth xs place ≡ Some x
  pub gives : f x ≡ Some y
  pub before : take m (filter_map f xs) ≡ filter_map f (take place xs)

pub from : {A B : Type 0} (f : A → Option B) (xs : List A) (m : ℕ) (y : B) → nth (filter_map f xs) m ≡ Some y → From f xs m y
from f [] m y e = absurd (none_is_not e)
from {A} {B} f (z ∷ xs) m y e = go (f z) refl m e (λ k h. from f xs k y h)
  where
    go : (o : Option B) → f z ≡ o → (k : ℕ) → nth (cons_option o (filter_map f xs)) k ≡ Some y
        → ((j : ℕ) → nth (filter_map f xs) j ≡ Some y → From f xs j y) → From f (z ∷ xs) k y
    go None p k h rest =
        let r = rest k h in
        record {
          place = suc r.place;
          x = r.x;
          here = r.here;
          gives = r.gives;
          before = ap
              (λ w. take k (cons_option w (filter_map f xs))) p ∙ r.before
              ∙ ap (λ w. cons_option w (filter_map f (take r.place xs))) (sym p);
        }
    go (Some w) p zero h rest = record { place = 0; x = z; here = refl; gives = p ∙ h; before = refl }
    go (Some w) p (suc k) h rest =
        let r = rest k h in
        record {
          place = suc r.place;
          x = r.x;
          here = r.here;
          gives = r.gives;
          before = ap
              (λ v. take (suc k) (cons_option v (filter_map f xs))) p ∙ ap (λ v. w ∷ v) r.before
              ∙ ap (λ v. cons_option v (filter_map f (take r.place xs))) (sym p);
        }

pub in_filter : {A B : Type 0} (f : A → Option B) (xs : List A) (i : ℕ) (x : A) (y : B) → nth xs i ≡ Some x → f x ≡ Some y → In (filter_map f xs) y
in_filter f [] i x y e g = absurd (none_is_not e)
in_filter f (z ∷ xs) zero x y e g = subst (λ o. In (cons_option o (filter_map f xs)) y) (sym (ap f (some_is e) ∙ g)) (0, refl)
in_filter {A} {B} f (z ∷ xs) (suc i) x y e g = go (f z) (in_filter f xs i x y e g)
  where
    go : (o : Option B) → In (filter_map f xs) y → In (cons_option o (filter_map f xs)) y
    go None m = m
    go (Some w) m = (suc m.0, m.1)

pub take_more : {A : Type 0} (xs : List A) (i : ℕ) (x : A) → nth xs i ≡ Some x → take (suc i) xs ≡ take i xs ++ x ∷ []
take_more [] i x e = absurd (none_is_not e)
take_more (z ∷ xs) zero x e = ap (λ w. w ∷ []) (some_is e)
take_more (z ∷ xs) (suc i) x e = ap (λ w. z ∷ w) (take_more xs i x e)

pub filter_more : {A B : Type 0} (f : A → Option B) (xs : List A) (i : ℕ) (x : A) → nth xs i ≡ Some x
    → filter_map f (take (suc i) xs) ≡ filter_map f (take i xs) ++ cons_option (f x) []
filter_more f xs i x e = ap (filter_map f) (take_more xs i x e) ∙ filter_map-append f (take i xs) (x ∷ [])

pub numbers_more : (k n : ℕ) → numbers k n ++ (k + n) ∷ [] ≡ numbers k (suc n)
numbers_more k zero = ap (λ j. j ∷ []) (add-zero k)
numbers_more k (suc n) = ap (λ w. k ∷ w) (ap (λ j. numbers (suc k) n ++ j ∷ []) (shift k n) ∙ numbers_more (suc k) n)
  where
    shift : (a b : ℕ) → a + suc b ≡ suc a + b
    shift a b = omega arith

pub length_numbers : (k n : ℕ) → length (numbers k n) ≡ n
length_numbers k zero = refl
length_numbers k (suc n) = ap suc (length_numbers (suc k) n)

-- ---- filters

pub filter_in : {A : Type 0} (p : A → Bool) (xs : List A) (x : A) (i : ℕ) → nth (filter p xs) i ≡ Some x → (In xs x) × (p x ≡ true)
filter_in p [] x i e = absurd (none_is_not e)
filter_in {A} p (z ∷ xs) x i e = go (p z) refl i e (λ j h. filter_in p xs x j h)
  where
    go : (b : Bool) → p z ≡ b → (k : ℕ) → nth (cond b (z ∷ filter p xs) (filter p xs)) k ≡ Some x
        → ((j : ℕ) → nth (filter p xs) j ≡ Some x → (In xs x) × (p x ≡ true)) → (In (z ∷ xs) x) × (p x ≡ true)
    go true q zero h rest = ((0, h), ap p (sym (some_is h)) ∙ q)
    go true q (suc k) h rest = let r = rest k h in ((suc r.0.0, r.0.1), r.1)
    go false q k h rest = let r = rest k h in ((suc r.0.0, r.0.1), r.1)

pub in_filtered : {A : Type 0} (p : A → Bool) (xs : List A) (x : A) (i : ℕ) → nth xs i ≡ Some x → p x ≡ true → In (filter p xs) x
in_filtered p [] x i e h = absurd (none_is_not e)
in_filtered p (z ∷ xs) x zero e h = subst (λ b. In (cond b (z ∷ filter p xs) (filter p xs)) x) (sym (ap p (some_is e) ∙ h)) (0, e)
in_filtered {A} p (z ∷ xs) x (suc i) e h = go (p z) (in_filtered p xs x i e h)
  where
    go : (b : Bool) → In (filter p xs) x → In (cond b (z ∷ filter p xs) (filter p xs)) x
    go true m = (suc m.0, m.1)
    go false m = m

pub filter_apart : {A : Type 0} (p : A → Bool) (xs : List A) → Apart xs → Apart (filter p xs)
filter_apart p [] h = h
filter_apart {A} p (z ∷ xs) h = go (p z) (filter_apart p xs (apart_rest z xs h))
  where
    go : (b : Bool) → Apart (filter p xs) → Apart (cond b (z ∷ filter p xs) (filter p xs))
    go true r = apart_more z (filter p xs) (λ m. apart_head z xs h (filter_in p xs z m.0 m.1).0) r
    go false r = r

module _ {A : Type 0} (alike : A → A → Bool) (is : (x y : A) → alike x y ≡ true → x ≡ y) (itself : (x : A) → alike x x ≡ true) where
  pub firsts_in : (xs : List A) (x : A) (i : ℕ) → nth (firsts alike xs) i ≡ Some x → In xs x
  firsts_in [] x i e = absurd (none_is_not e)
  firsts_in (z ∷ xs) x zero e = (0, e)
  firsts_in (z ∷ xs) x (suc i) e =
      let f = filter_in (λ y. not (alike z y)) (firsts alike xs) x i e in
      let m = firsts_in xs x f.0.0 f.0.1 in
      (suc m.0, m.1)

  pub in_firsts : (xs : List A) (x : A) (i : ℕ) → nth xs i ≡ Some x → In (firsts alike xs) x
  in_firsts [] x i e = absurd (none_is_not e)
  in_firsts (z ∷ xs) x zero e = (0, e)
  in_firsts (z ∷ xs) x (suc i) e = go (alike z x) refl (in_firsts xs x i e)
    where
      go : (b : Bool) → alike z x ≡ b → In (firsts alike xs) x → In (z ∷ filter (λ y. not (alike z y)) (firsts alike xs)) x
      go true p m = (0, ap (λ w. Some w) (is z x p))
      go false p m = let n = in_filtered (λ y. not (alike z y)) (firsts alike xs) x m.0 m.1 (ap not p) in (suc n.0, n.1)

  pub firsts_apart : (xs : List A) → Apart (firsts alike xs)
  firsts_apart [] = λ x i j a b. absurd (none_is_not a)
  firsts_apart (z ∷ xs) = apart_more z (filter (λ y. not (alike z y)) (firsts alike xs))
      (λ m. true≢false (sym (itself z) ∙ not-true _ (filter_in (λ y. not (alike z y)) (firsts alike xs) z m.0 m.1).1))
      (filter_apart (λ y. not (alike z y)) (firsts alike xs) (firsts_apart xs))

pub apart_picked : {A B : Type 0} (f : A → Option B) (xs : List A)
    → ((i j : ℕ) (x z : A) (y : B) → nth xs i ≡ Some x → nth xs j ≡ Some z → f x ≡ Some y → f z ≡ Some y → i ≡ j)
    → Apart (filter_map f xs)
apart_picked f [] one = λ x i j a b. absurd (none_is_not a)
apart_picked {A} {B} f (z ∷ xs) one = go (f z) refl (apart_picked f xs (λ i j x w y a b c d. let h : suc i ≡ suc j = one (suc i) (suc j) x w y a b c d in omega arith))
  where
    go : (o : Option B) → f z ≡ o → Apart (filter_map f xs) → Apart (cons_option o (filter_map f xs))
    go None p h = h
    go (Some w) p h = apart_more w (filter_map f xs) (λ m. let r = from f xs m.0 w m.1 in let e : 0 ≡ suc r.place = one 0 (suc r.place) z r.x w refl r.here p r.gives in absurd (omega arith)) h
