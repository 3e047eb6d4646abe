-- The value of an expression comes from that of its first operand.
use Rattle.std.proofs.Common.{◌≡◌, ◌<◌, ◌≤◌, ℕ, Some, List, [], ◌∷◌, ◌++◌, refl, sym, ap, ◌∙◌, subst, arith}
use denote.Ref.{Bor}
use Rattle.basis.proofs.Options.{some_is, none_is_not}
use Rattle.script_tree.specs.Datum.{Datum}
use Rattle.script_tree.specs.ExpressionWeight.{expression_weight}
use Rattle.script_tree.specs.Syntax.{Expression, number, text, truth, null, bracket, variable, call, list, transact, unary, binary, and_, or_, index}
use Rattle.script_meaning.specs.Run.{Progress, Run, Ran, goes, stops, after, give, ◌>>=◌}
use Rattle.script_meaning.specs.Variables.{Variables}
use Rattle.page_walker.specs.Frames.{value_at}
use Rattle.page_walker.specs.Gives.{Stops}
use Rattle.page_walker.specs.Rows.{first_of, climbed, climbs}
use Rattle.page_walker.specs.declared.frame.Frame.{Frame}
use Rattle.page_walker.specs.declared.run.Stopped.{Stopped}
use Rattle.page_walker.proofs.Parts.{stops_first}

-- ---- runs

after_after : {A B C : Type 0} (o : Ran A) (f : A → Run B) (g : B → Run C) → after (after o f) g ≡ after o (λ a. f a >>= g)
after_after (goes a p) f g = refl
after_after (stops e p) f g = refl

after_give : {A : Type 0} (o : Ran A) → after o give ≡ o
after_give (goes a p) = refl
after_give (stops e p) = refl

after_same : {A B : Type 0} (o : Ran A) (f g : A → Run B) → ((a : A) (p : Progress) → f a p ≡ g a p) → after o f ≡ after o g
after_same (goes a p) f g same = same a p
after_same (stops e p) f g same = refl

-- ---- weights

-- Each of these weighs at most so much.
abbrev pub AreWithin : ℕ → List (Bor Expression) → Type 0
AreWithin n [] = Unit {0}
AreWithin n (e ∷ es) = (expression_weight e.now ≤ n) × AreWithin n es

pub within_more : (n : ℕ) (es : List (Bor Expression)) (e : Bor Expression) → AreWithin n es → expression_weight e.now ≤ n → AreWithin n (es ++ e ∷ [])
within_more n [] e h k = (k, tt)
within_more n (x ∷ es) e h k = (h.0, within_more n es e h.1 k)

pub within_less : (n : ℕ) (es : List (Bor Expression)) (e : Bor Expression) → AreWithin n (es ++ e ∷ []) → AreWithin n es × (expression_weight e.now ≤ n)
within_less n [] e h = (tt, h.0)
within_less n (x ∷ es) e h = let rest = within_less n es e h.1 in ((h.0, rest.0), rest.1)

pub first_lighter : (e first : Expression) → first_of e ≡ Some first → expression_weight first < expression_weight e
first_lighter (number at n) first h = absurd (none_is_not h)
first_lighter (text at bytes) first h = absurd (none_is_not h)
first_lighter (truth at b) first h = absurd (none_is_not h)
first_lighter (null at) first h = absurd (none_is_not h)
first_lighter (bracket at a) first h = absurd (none_is_not h)
first_lighter (variable at x) first h = absurd (none_is_not h)
first_lighter (call at g es) first h = absurd (none_is_not h)
first_lighter (list at es) first h = absurd (none_is_not h)
first_lighter (transact at qs) first h = absurd (none_is_not h)
first_lighter (unary at op a) first h = rw (← some_is h) (omega arith)
first_lighter (binary at op a b) first h = rw (← some_is h) (omega arith)
first_lighter (and_ at a b) first h = rw (← some_is h) (omega arith)
first_lighter (or_ at a b) first h = rw (← some_is h) (omega arith)
first_lighter (index at a b) first h = rw (← some_is h) (omega arith)

-- ---- values

module _ (f : Frame) (vs : Variables) where
  -- an expression has the value of its first operand, and then does the rest
  pub from_first : (e first : Expression) → first_of e ≡ Some first → (p : Progress) → value_at f vs e p ≡ after (value_at f vs first p) (climbed f vs e)
  from_first (number at n) first h p = absurd (none_is_not h)
  from_first (text at bytes) first h p = absurd (none_is_not h)
  from_first (truth at b) first h p = absurd (none_is_not h)
  from_first (null at) first h p = absurd (none_is_not h)
  from_first (bracket at a) first h p = absurd (none_is_not h)
  from_first (variable at x) first h p = absurd (none_is_not h)
  from_first (call at g es) first h p = absurd (none_is_not h)
  from_first (list at es) first h p = absurd (none_is_not h)
  from_first (transact at qs) first h p = absurd (none_is_not h)
  from_first (unary at op a) first h p = rw (← some_is h) refl
  from_first (binary at op a b) first h p = rw (← some_is h) refl
  from_first (and_ at a b) first h p = rw (← some_is h) refl
  from_first (or_ at a b) first h p = rw (← some_is h) refl
  from_first (index at a b) first h p = rw (← some_is h) refl

  -- the last that waits goes first
  pub climbs_last : (es : List (Bor Expression)) (e : Bor Expression) (x : Datum) (p : Progress)
      → climbs f vs (es ++ e ∷ []) x p ≡ after (climbed f vs e.now x p) (climbs f vs es)
  climbs_last [] e x p = sym (after_give (climbed f vs e.now x p))
  climbs_last (n ∷ es) e x p =
      ap (λ o. after o (climbed f vs n.now)) (climbs_last es e x p) ∙ after_after (climbed f vs e.now x p) (climbs f vs es) (climbed f vs n.now)

  -- one more waits for its first operand
  pub waits : (es : List (Bor Expression)) (e : Bor Expression) (first : Expression) → first_of e.now ≡ Some first → (p : Progress)
      → after (value_at f vs first p) (climbs f vs (es ++ e ∷ [])) ≡ after (value_at f vs e.now p) (climbs f vs es)
  waits es e first h p =
      after_same (value_at f vs first p) (climbs f vs (es ++ e ∷ [])) (λ x. climbed f vs e.now x >>= climbs f vs es) (λ x q. climbs_last es e x q)
      ∙ sym (after_after (value_at f vs first p) (climbed f vs e.now) (climbs f vs es))
      ∙ ap (λ o. after o (climbs f vs es)) (sym (from_first e.now first h p))

  module _ (items es : List (Bor Expression)) (e : Bor Expression) (here : Expression) (x : Datum) (p : Progress) (o : Ran Datum) where
    -- where the last that waits stops, all stops
    pub rest_stops : (why : Stopped) (q : Progress) → items ≡ es ++ e ∷ [] → here ≡ e.now → climbs f vs items x p ≡ o
        → Stops why q (climbed f vs here x p) → Stops why q o
    rest_stops why q is same told s =
        subst (Stops why q) (sym (ap (λ l. climbs f vs l x p) is ∙ climbs_last es e x p) ∙ told)
        (stops_first why q (climbed f vs e.now x p) (climbs f vs es) (subst (λ h. Stops why q (climbed f vs h x p)) same s))

    -- where it goes on, the others do the rest
    pub rest_goes : (y : Datum) (q : Progress) → items ≡ es ++ e ∷ [] → here ≡ e.now → climbs f vs items x p ≡ o
        → climbed f vs here x p ≡ goes y q → climbs f vs es y q ≡ o
    rest_goes y q is same told s =
        ap (λ r. after r (climbs f vs es)) (sym s ∙ ap (λ h. climbed f vs h x p) same) ∙ sym (ap (λ l. climbs f vs l x p) is ∙ climbs_last es e x p) ∙ told
