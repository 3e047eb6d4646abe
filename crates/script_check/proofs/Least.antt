-- The least of some faults.
use Rattle.std.proofs.Common.{◌≡◌, ℕ, zero, suc, ◌⊎◌, inl, inr, List, [], ◌∷◌, ◌++◌, Contains, Bool, true, false, Option, Some, None, if◌then◌else◌, refl, sym, ap, ◌∙◌, subst, arith}
use Rattle.std.proofs.lemmas.Bool.Decides.{nat_tests}
use Rattle.std.proofs.lemmas.List.Elements.{Contains-append_right, Contains-append_cases, Contains-push_cases}
use Rattle.basis.proofs.Booleans.{true_false}
use Rattle.script_check.specs.declared.fault.CheckFault.{CheckFault}
use Rattle.script_check.specs.declared.fault.CheckFaultKind.{CheckFaultKind}
use Rattle.script_check.specs.declared.fault.CheckFaultKind.TheVariants.{Undeclared, DeclaredTwice, WrongCount, Unknown, KeyWritten, PageTwice}
use Rattle.script_check.specs.Validity.{fault}
use Rattle.script_check.specs.Least.{number_of, is_below, lesser, lower, IsNotAbove}

pub lower_append : (least : Option CheckFault) (fs gs : List CheckFault) → lower least (fs ++ gs) ≡ lower (lower least fs) gs
unfolding lower
lower_append least [] gs = refl
lower_append least (f ∷ fs) gs = lower_append (lesser f least) fs gs

pub lower_none : (least : Option CheckFault) → lower least [] ≡ least
unfolding lower
lower_none least = refl

pub lower_one : (least : Option CheckFault) (at : ℕ) (kind : CheckFaultKind) → lower least (fault at kind) ≡ lesser (record { at = at; kind = kind }) least
unfolding lower
lower_one least at kind = refl

-- ---- the order of faults

pub below_yes : (a b : CheckFault) → is_below a b ≡ true → IsNotAbove a b
below_yes a b h = grind (arith, nat_tests)

pub below_no : (a b : CheckFault) → is_below a b ≡ false → IsNotAbove b a
below_no a b h = grind (arith, nat_tests)

pub itself : (a : CheckFault) → IsNotAbove a a
itself a = inr (refl, omega arith)

pub through : (a b c : CheckFault) → IsNotAbove a b → IsNotAbove b c → IsNotAbove a c
through a b c (inl p) (inl q) = inl (omega arith)
through a b c (inl p) (inr q) = inl (omega arith)
through a b c (inr p) (inl q) = inl (omega arith)
through a b c (inr p) (inr q) = inr (p.0 ∙ q.0, omega arith)

below_through : (a b c : CheckFault) → is_below a b ≡ true → is_below b c ≡ true → is_below a c ≡ true
below_through a b c p q = grind (arith, nat_tests)

below_both : (a b : CheckFault) → is_below a b ≡ true → is_below b a ≡ true → ⊥
below_both a b p q = grind (arith, nat_tests)

below_neither : (a b : CheckFault) → is_below a b ≡ false → is_below b a ≡ false → (a.at ≡ b.at) × (number_of a.kind ≡ number_of b.kind)
below_neither a b p q = grind (arith, nat_tests)

kind_at : ℕ → CheckFaultKind
kind_at zero = Undeclared
kind_at (suc zero) = Undeclared
kind_at (suc (suc zero)) = DeclaredTwice
kind_at (suc (suc (suc zero))) = WrongCount
kind_at (suc (suc (suc (suc zero)))) = Unknown
kind_at (suc (suc (suc (suc (suc zero))))) = KeyWritten
kind_at (suc (suc (suc (suc (suc (suc n)))))) = PageTwice

kind_back : (k : CheckFaultKind) → kind_at (number_of k) ≡ k
unfolding kind_at
kind_back Undeclared = refl
kind_back DeclaredTwice = refl
kind_back WrongCount = refl
kind_back Unknown = refl
kind_back KeyWritten = refl
kind_back PageTwice = refl

abbrev made : ℕ → CheckFaultKind → CheckFault
made at kind = record { at = at; kind = kind }

same_fault : (a b : CheckFault) → a.at ≡ b.at → a.kind ≡ b.kind → a ≡ b
same_fault a b p q = ap (made a.at) q ∙ ap (λ n. made n b.kind) p

below_same : (a b : CheckFault) → is_below a b ≡ false → is_below b a ≡ false → a ≡ b
below_same a b p q =
    let n = below_neither a b p q in
    same_fault a b n.0 (sym (kind_back a.kind) ∙ ap kind_at n.1 ∙ kind_back b.kind)

-- ---- faults in another order

swap_two : (a b : CheckFault) (p q : Bool) → is_below a b ≡ p → is_below b a ≡ q → ◌≡◌ {A = Option CheckFault} (if p then Some a else Some b) (if q then Some b else Some a)
swap_two a b true true e f = absurd (below_both a b e f)
swap_two a b true false e f = refl
swap_two a b false true e f = refl
swap_two a b false false e f = ap Some (sym (below_same a b e f))

swap_three : (a b c : CheckFault) (r s : Bool) → is_below a c ≡ r → is_below b c ≡ s → lesser a (if s then Some b else Some c) ≡ lesser b (if r then Some a else Some c)
swap_three a b c true true e f = swap_two a b (is_below a b) (is_below b a) refl refl
swap_three a b c true false e f = rw e (go (is_below b a) refl)
  where
    go : (q : Bool) → is_below b a ≡ q → ◌≡◌ {A = Option CheckFault} (Some a) (if q then Some b else Some a)
    go true g = absurd (true_false (is_below b c) (below_through b a c g e) f)
    go false g = refl
swap_three a b c false true e f = rw f (go (is_below a b) refl)
  where
    go : (p : Bool) → is_below a b ≡ p → ◌≡◌ {A = Option CheckFault} (if p then Some a else Some b) (Some b)
    go true g = absurd (true_false (is_below a c) (below_through a b c g f) e)
    go false g = refl
swap_three a b c false false e f = rw (e, f) refl

lesser_swap : (a b : CheckFault) (least : Option CheckFault) → lesser a (lesser b least) ≡ lesser b (lesser a least)
lesser_swap a b None = swap_two a b (is_below a b) (is_below b a) refl refl
lesser_swap a b (Some c) = swap_three a b c (is_below a c) (is_below b c) refl refl

lower_lesser : (least : Option CheckFault) (f : CheckFault) (gs : List CheckFault) → lower (lesser f least) gs ≡ lesser f (lower least gs)
unfolding lower
lower_lesser least f [] = refl
lower_lesser least f (g ∷ gs) = ap (λ l. lower l gs) (lesser_swap g f least) ∙ lower_lesser (lesser g least) f gs

pub lower_swap : (least : Option CheckFault) (fs gs : List CheckFault) → lower (lower least fs) gs ≡ lower (lower least gs) fs
unfolding lower
lower_swap least [] gs = refl
lower_swap least (f ∷ fs) gs = lower_swap (lesser f least) fs gs ∙ ap (λ l. lower l fs) (lower_lesser least f gs)

-- ---- what is lowered is the least

abbrev cons_cases : (f g : CheckFault) (fs : List CheckFault) → Contains (f ∷ fs) g → (f ≡ g) ⊎ Contains fs g
cons_cases f g fs h = elim (Contains-append_cases (f ∷ []) fs g h) [
  | inl p ↦ elim (Contains-push_cases [] f g p) [ inl q ↦ absurd (omega (arith, q.1)) | inr q ↦ inl q ]
  | inr p ↦ inr p
]

here : (f : CheckFault) (fs : List CheckFault) → Contains (f ∷ fs) f
here f fs = (0, omega arith, refl)

there : (f g : CheckFault) (fs : List CheckFault) → Contains fs g → Contains (f ∷ fs) g
there f g fs h = Contains-append_right (f ∷ []) fs g h

-- one of these, below all of them
abbrev IsLeastOf : List CheckFault → CheckFault → Type 0
IsLeastOf fs g = Contains fs g × ((h : CheckFault) → Contains fs h → IsNotAbove g h)

abbrev pub IsLowered : List CheckFault → Option CheckFault → Type 0
IsLowered fs None = ⊥
IsLowered fs (Some g) = IsLeastOf fs g

is_self : (f g : CheckFault) → f ≡ g → IsNotAbove f g
is_self f g e = rw e (itself g)

skip_one : (g f a : CheckFault) (fs : List CheckFault) → Contains (f ∷ fs) g → Contains (f ∷ a ∷ fs) g
skip_one g f a fs h = elim (cons_cases f g fs h) [ inl p ↦ rw p (here g (a ∷ fs)) | inr q ↦ there f g (a ∷ fs) (there a g fs q) ]

first_wins : (f a : CheckFault) (fs : List CheckFault) (o : Option CheckFault) → IsNotAbove a f → IsLowered (a ∷ fs) o → IsLowered (f ∷ a ∷ fs) o
first_wins f a fs None e l = l
first_wins f a fs (Some g) e l = (there f g (a ∷ fs) l.0, λ h i. elim (cons_cases f h (a ∷ fs) i) [ inl p ↦ through g a h (l.1 a (here a fs)) (through a f h e (is_self f h p)) | inr q ↦ l.1 h q ])

second_wins : (f a : CheckFault) (fs : List CheckFault) (o : Option CheckFault) → IsNotAbove f a → IsLowered (f ∷ fs) o → IsLowered (f ∷ a ∷ fs) o
second_wins f a fs None e l = l
second_wins f a fs (Some g) e l = (skip_one g f a fs l.0, λ h i. elim (cons_cases f h (a ∷ fs) i) [ inl p ↦ l.1 h (rw p (here h fs)) | inr q ↦ elim (cons_cases a h fs q) [ inl p ↦ through g f h (l.1 f (here f fs)) (through f a h e (is_self a h p)) | inr w ↦ l.1 h (there f h fs w) ] ])

lowered_at : (f a : CheckFault) (fs : List CheckFault) (t : Bool) → is_below a f ≡ t → ((x : CheckFault) → IsLowered (x ∷ fs) (lower (Some x) fs)) → IsLowered (f ∷ a ∷ fs) (lower (if t then Some a else Some f) fs)
lowered_at f a fs true e more = first_wins f a fs (lower (Some a) fs) (below_yes a f e) (more a)
lowered_at f a fs false e more = second_wins f a fs (lower (Some f) fs) (below_no a f e) (more f)

lowered : (fs : List CheckFault) (f : CheckFault) → IsLowered (f ∷ fs) (lower (Some f) fs)
unfolding lower
lowered [] f = (here f [], λ h i. elim (cons_cases f h [] i) [ inl p ↦ is_self f h p | inr q ↦ absurd (omega (arith, q.1)) ])
lowered (a ∷ fs) f = lowered_at f a fs (is_below a f) refl (λ x. lowered fs x)

pub lowered_some : (fs : List CheckFault) (g : CheckFault) → lower None fs ≡ Some g → IsLeastOf fs g
unfolding lower
lowered_some [] g e = absurd (cc)
lowered_some (f ∷ fs) g e = subst (IsLowered (f ∷ fs)) e (lowered fs f)

pub lowered_none : (fs : List CheckFault) → lower None fs ≡ None → fs ≡ []
unfolding lower
lowered_none [] e = refl
lowered_none (f ∷ fs) e = absurd (subst (IsLowered (f ∷ fs)) e (lowered fs f))
