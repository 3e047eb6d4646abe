-- The least faults of marks.
use Rattle.std.proofs.Common.{◌≡◌, ◌∙◌, ◌<◌, ◌≤◌, ◌+◌, ℕ, zero, suc, Bool, true, false, cond, Option, Some, None, option_map, nat_le, inl, inr, refl, ap, sym, arith}
use Rattle.std.specs.Option.{option_or}
use Rattle.std.proofs.lemmas.Bool.{cases_lt, cases_eq, leb-true, leb-false}
use Rattle.basis.specs.Lists.{or_else, first_answer}
use Rattle.basis.proofs.Options.{none_some}
use Rattle.audit_meaning.specs.Lists.{numbers, answer_if}
use Rattle.audit_meaning.specs.declared.reason.Reason.{Reason}
use Rattle.log_checker.proofs.Carried.{here, later}
use Rattle.log_checker.proofs.Firsts.{answers, silent}
use Rattle.group_runner.specs.Findings.{lesser, reason_at, IsLeastFault, Finds, both, reason_of}
use Rattle.group_runner.specs.Places.{IsLeastPlace}
use Rattle.group_runner.specs.declared.findings.EndFault.{EndFault}
use Rattle.group_runner.specs.declared.findings.FaultyMark.{FaultyMark}
use Rattle.group_runner.specs.declared.findings.Findings.{Findings}

-- ---- two answers, one after the other

pub or_is : {A : Type 0} (a b : Option A) → or_else a b ≡ option_or a b
unfolding or_else
or_is None b = refl
or_is (Some x) b = refl

-- ---- the least of two

module _ (group : ℕ) where
  pub least_same : (f h : ℕ → Option Reason) (o : Option FaultyMark) → ((i : ℕ) → f i ≡ h i) → IsLeastFault group f o → IsLeastFault group h o
  least_same f h None same least = λ i. sym (same i) ∙ least i
  least_same f h (Some m) same least = (sym (same m.place) ∙ least.0, λ i lt. sym (same i) ∙ least.1 i lt)

  pub least_both : (f h : ℕ → Option Reason) (a b : Option FaultyMark) → IsLeastFault group f a
      → IsLeastFault group h b → IsLeastFault group (λ i. or_else (f i) (h i)) (lesser a b)
  least_both f h None None p q = λ i. later (f i) (h i) None (p i) (q i)
  least_both f h None (Some n) p q = (later (f n.place) (h n.place) (Some (reason_at group n)) (p n.place) q.0, λ i lt. later (f i) (h i) None (p i) (q.1 i lt))
  least_both f h (Some m) None p q = (here (f m.place) (h m.place) (reason_at group m) p.0, λ i lt. later (f i) (h i) None (p.1 i lt) (q i))
  least_both f h (Some m) (Some n) p q = by (nat_le m.place n.place) refl
    where
      by : (b : Bool) → nat_le m.place n.place ≡ b → IsLeastFault group (λ i. or_else (f i) (h i)) (cond b (Some m) (Some n))
      by true e =
          let le = leb-true m.place n.place e in
          (here (f m.place) (h m.place) (reason_at group m) p.0, λ i lt. later (f i) (h i) None (p.1 i lt) (q.1 i (omega (arith, lt, le))))
      by false e =
          let gt = leb-false m.place n.place e in (
            later (f n.place) (h n.place) (Some (reason_at group n)) (p.1 n.place (omega (arith, gt))) q.0,
            λ i lt. later (f i) (h i) None (p.1 i (omega (arith, lt, gt))) (q.1 i lt),
          )

  -- ---- the first answer among numbers

  none_counted : (f : ℕ → Option Reason) (k n : ℕ) → ((i : ℕ) → f i ≡ None) → first_answer f (numbers k n) ≡ None
  unfolding first_answer
  none_counted f k zero none = refl
  none_counted f k (suc n) none = later (f k) (first_answer f (numbers (suc k) n)) None (none k) (none_counted f (suc k) n none)

  counted : (f : ℕ → Option Reason) (k n p : ℕ) (x : Reason) → f p ≡ Some x → ((i : ℕ) → i < p → f i ≡ None) → k ≤ p
      → p < k + n → first_answer f (numbers k n) ≡ Some x
  unfolding first_answer
  counted f k zero p x there none low high = absurd (omega (arith, low, high))
  counted f k (suc n) p x there none low high = elim (cases_eq k p) [
    | inl same ↦ here (f k) (first_answer f (numbers (suc k) n)) x (ap f same ∙ there)
    | inr apart ↦
        later (f k) (first_answer f (numbers (suc k) n)) (Some x) (none k (omega (arith, low, apart)))
        (counted f (suc k) n p x there none (omega (arith, low, apart)) (omega (arith, high)))
  ]

  -- where no place from n on is at fault
  pub least_first : (f : ℕ → Option Reason) (n : ℕ) (o : Option FaultyMark) → ((i : ℕ) → n ≤ i → f i ≡ None)
      → IsLeastFault group f o → first_answer f (numbers 0 n) ≡ option_map (reason_at group) o
  least_first f n None beyond least = none_counted f 0 n least
  least_first f n (Some m) beyond least = elim (cases_lt m.place n) [
    | inl low ↦ counted f 0 n m.place (reason_at group m) least.0 least.1 (omega arith) (omega (arith, low))
    | inr high ↦ absurd (none_some (f m.place) (reason_at group m) (beyond m.place (omega (arith, high))) least.0)
  ]

  -- ---- least places as faults

  pub no_place : (test : ℕ → Bool) (f : ℕ → Reason) → IsLeastPlace test None → IsLeastFault group (λ i. answer_if (test i) (f i)) None
  no_place test f least = λ i. silent (test i) (f i) (least i)

  pub least_place : (test : ℕ → Bool) (f : ℕ → Reason) (m : FaultyMark) → IsLeastPlace test (Some m.place)
      → f m.place ≡ reason_at group m → IsLeastFault group (λ i. answer_if (test i) (f i)) (Some m)
  least_place test f m least is = (answers (test m.place) (f m.place) least.0 ∙ ap (λ x. Some x) is, λ i lt. silent (test i) (f i) (least.1 i lt))

  -- ---- findings together

  pub both_ends : (a b : Option EndFault) (x y : Option Reason) → x ≡ option_map reason_of a
      → y ≡ option_map reason_of b → or_else x y ≡ option_map reason_of (option_or a b)
  unfolding or_else
  both_ends None b x y p q = ap (λ o. or_else o y) p ∙ q
  both_ends (Some e) b x y p q = ap (λ o. or_else o y) p

  pub finds_both : (b1 d1 b2 d2 : ℕ → Option Reason) (f1 u1 f2 u2 : Option Reason) (x y : Findings) → Finds group b1 d1 f1 u1 x → Finds group b2 d2 f2 u2 y
      → Finds group (λ i. or_else (b1 i) (b2 i)) (λ i. or_else (d1 i) (d2 i)) (or_else f1 f2) (or_else u1 u2) (both x y)
  finds_both b1 d1 b2 d2 f1 u1 f2 u2 x y p q = record {
    bad' = least_both b1 b2 x.bad y.bad p.bad' q.bad';
    differing' = least_both d1 d2 x.differing y.differing p.differing' q.differing';
    fewer' = both_ends x.fewer y.fewer f1 f2 p.fewer' q.fewer';
    unlike' = both_ends x.unlike y.unlike u1 u2 p.unlike' q.unlike';
  }

  pub finds_same : (b1 d1 b2 d2 : ℕ → Option Reason) (f1 u1 f2 u2 : Option Reason) (x : Findings)
      → ((i : ℕ) → b1 i ≡ b2 i) → ((i : ℕ) → d1 i ≡ d2 i) → f1 ≡ f2 → u1 ≡ u2 → Finds group b1 d1 f1 u1 x
      → Finds group b2 d2 f2 u2 x
  finds_same b1 d1 b2 d2 f1 u1 f2 u2 x bs ds fs us p = record {
    bad' = least_same b1 b2 x.bad bs p.bad';
    differing' = least_same d1 d2 x.differing ds p.differing';
    fewer' = sym fs ∙ p.fewer';
    unlike' = sym us ∙ p.unlike';
  }
