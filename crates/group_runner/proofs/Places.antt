-- Marks by their places.
use Rattle.std.proofs.Common.{◌≡◌, ◌∙◌, ◌<◌, ◌≤◌, ◌+◌, ℕ, zero, suc, Bool, true, false, not, List, [], ◌∷◌, length, get_or, Option, Some, None, option_map, inl, inr, refl, ap, sym, arith}
use Rattle.std.proofs.lemmas.Bool.{cases_eq, cases_lt}
use Rattle.basis.specs.Lists.{nth}
use Rattle.audit_meaning.specs.Members.{same_mark, is_bad}
use Rattle.group_runner.specs.Marks.{mark_in, marks_in}
use Rattle.group_runner.specs.declared.mark.MemberMark.{MemberMark as LeftMark}

pub read : (ms : List LeftMark) (i : ℕ) (d : LeftMark) → i < length ms → nth (marks_in ms) i ≡ Some (mark_in (get_or ms i d))
read [] i d lt = absurd (omega (arith, lt))
read (m ∷ ms) zero d lt = refl
read (m ∷ ms) (suc i) d lt = read ms i d (omega (arith, lt))

pub beyond : (ms : List LeftMark) (i : ℕ) → length ms ≤ i → nth (marks_in ms) i ≡ None
beyond [] i le = refl
beyond (m ∷ ms) zero le = absurd (omega (arith, le))
beyond (m ∷ ms) (suc i) le = beyond ms i (omega (arith, le))

-- one place more
pub next_place : (test : ℕ → Bool) (b : Bool) (n : ℕ) → ((i : ℕ) → i < n → test i ≡ b) → test n ≡ b → (i : ℕ) → i < n + 1 → test i ≡ b
next_place test b n h is i lt = elim (cases_eq i n) [
  | inl same ↦ ap test same ∙ is
  | inr apart ↦ h i (omega (arith, lt, apart))
]

-- ---- bad marks

pub bad_read : (ms : List LeftMark) (i : ℕ) (d : LeftMark) (b : Bool) → i < length ms
    → b ≡ is_bad (Some (mark_in (get_or ms i d))) → is_bad (nth (marks_in ms) i) ≡ b
bad_read ms i d b lt is = ap is_bad (read ms i d lt) ∙ sym is

pub bad_nowhere : (ms : List LeftMark) (n : ℕ) → length ms ≤ n
    → ((i : ℕ) → i < n → is_bad (nth (marks_in ms) i) ≡ false) → (i : ℕ) → is_bad (nth (marks_in ms) i) ≡ false
bad_nowhere ms n le h i = elim (cases_lt i n) [
  | inl low ↦ h i low
  | inr high ↦ ap is_bad (beyond ms i (omega (arith, le, high)))
]

-- ---- differences

pub same_read : (xs ys : List LeftMark) (i : ℕ) (b : Bool) (x y : Option LeftMark)
    → b ≡ same_mark (option_map mark_in x) (option_map mark_in y) → option_map mark_in x ≡ nth (marks_in xs) i
    → option_map mark_in y ≡ nth (marks_in ys) i
    → same_mark (nth (marks_in xs) i) (nth (marks_in ys) i) ≡ b
same_read xs ys i b x y is left right = ap (λ m. same_mark m (nth (marks_in ys) i)) (sym left) ∙ ap (same_mark (option_map mark_in x)) (sym right) ∙ sym is

pub same_everywhere : (xs ys : List LeftMark) (n : ℕ) → length xs ≤ n → length ys ≤ n
    → ((i : ℕ) → i < n → same_mark (nth (marks_in xs) i) (nth (marks_in ys) i) ≡ true) → (i : ℕ)
    → not (same_mark (nth (marks_in xs) i) (nth (marks_in ys) i)) ≡ false
same_everywhere xs ys n le le' h i = ap not (elim (cases_lt i n) [
  | inl low ↦ h i low
  | inr high ↦ ap (λ m. same_mark m (nth (marks_in ys) i)) (beyond xs i (omega (arith, le, high)))
      ∙ ap (same_mark None) (beyond ys i (omega (arith, le', high)))
])
