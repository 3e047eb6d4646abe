-- The findings of one member.
use Rattle.std.proofs.Common.{◌≡◌, ◌∙◌, ◌&&◌, ℕ, suc, Bool, true, false, not, List, [], ◌∷◌, Option, Some, None, nat_lt, refl, ap, sym, subst}
use Rattle.basis.specs.Lists.{nth}
use Rattle.script_tree.specs.Programs.{Program}
use Rattle.object_set.specs.ObjectSets.{objects_of}
use Rattle.audit_meaning.specs.Groups.{done}
use Rattle.audit_meaning.specs.Lists.{answer_if}
use Rattle.audit_meaning.specs.Members.{same_mark, is_bad}
use Rattle.audit_meaning.specs.Spots.{count_of}
use Rattle.audit_meaning.specs.declared.reason.Reason.{Reason}
use Rattle.audit_meaning.specs.declared.reason.Reason.TheVariants as reason
use Rattle.log_checker.proofs.Firsts.{answers, silent}
use Rattle.group_runner.specs.Findings.{reason_of, IsLeastFault, marks_told, bad_told, fewer_told, unlike_told, differing_told}
use Rattle.group_runner.specs.Marks.{marks_in}
use Rattle.group_runner.specs.MembersTold.{IsMemberOf}
use Rattle.group_runner.specs.Places.{IsLeastPlace}
use Rattle.group_runner.specs.Told.{Told}
use Rattle.group_runner.specs.declared.findings.EndFault.TheVariants.{FewerOperations, OtherResponse}
use Rattle.group_runner.specs.declared.findings.FaultyMark.{FaultyMark}
use Rattle.group_runner.specs.declared.findings.MarkFault.TheVariants.{OtherOperation, Differs}
use Rattle.group_runner.specs.declared.mark.MemberMark.{MemberMark as LeftMark}
use Rattle.group_runner.specs.declared.member.Member.{Member}
use Rattle.group_runner.proofs.Leasts.{no_place, least_place, least_same}

-- places of marks
abbrev pub bad_in : List LeftMark → ℕ → Bool
bad_in ms i = is_bad (nth (marks_in ms) i)

abbrev pub differ_in : List LeftMark → List LeftMark → ℕ → Bool
differ_in xs ys i = not (same_mark (nth (marks_in xs) i) (nth (marks_in ys) i))

-- the same marks, and the same place
pub bad_said : (xs ys : List LeftMark) (o p : Option ℕ) → xs ≡ ys → o ≡ p → IsLeastPlace (bad_in xs) o → IsLeastPlace (bad_in ys) p
bad_said xs ys o p same is least = subst (λ zs. IsLeastPlace (bad_in zs) p) same (subst (IsLeastPlace (bad_in xs)) is least)

pub difference_said : (xs xs' ys ys' : List LeftMark) (o p : Option ℕ) → xs ≡ xs' → ys ≡ ys' → o ≡ p
    → IsLeastPlace (differ_in xs ys) o → IsLeastPlace (differ_in xs' ys') p
difference_said xs xs' ys ys' o p same same' is least =
    subst (λ zs. IsLeastPlace (differ_in zs ys') p) same
    (subst (λ zs. IsLeastPlace (differ_in xs zs) p) same' (subst (IsLeastPlace (differ_in xs ys)) is least))

and_true : (b : Bool) → (b && true) ≡ b
and_true true = refl
and_true false = refl

module _ (program : Program) (t : Told) (group : ℕ) where
  module _ (r : ℕ) (m : Member) (h : IsMemberOf program t r m) where
    abbrev other_operation : ℕ → Reason
    other_operation i = reason.OtherOperation r (suc (done program (objects_of t.start) t.trace t.report r))

    bad_same : (i : ℕ) → answer_if (bad_in m.marks.items i) (other_operation i) ≡ bad_told program t r i
    bad_same i = ap (λ ms. answer_if (is_bad (nth ms i)) (other_operation i)) h.marks'

    pub none_bad : IsLeastPlace (bad_in m.marks.items) None → IsLeastFault group (bad_told program t r) None
    none_bad least = least_same group (λ i. answer_if (bad_in m.marks.items i) (other_operation i))
        (bad_told program t r) None bad_same (no_place group (bad_in m.marks.items) other_operation least)

    pub one_bad : (place number : ℕ) → number ≡ suc m.done → IsLeastPlace (bad_in m.marks.items) (Some place)
        → IsLeastFault group (bad_told program t r) (Some (record { place = place; fault = OtherOperation r number }))
    one_bad place number is least =
        let mark : FaultyMark = record { place = place; fault = OtherOperation r number } in
        least_same group (λ i. answer_if (bad_in m.marks.items i) (other_operation i)) (bad_told program t r) (Some mark) bad_same
        (least_place group (bad_in m.marks.items) other_operation mark least (ap (reason.OtherOperation r) (sym (is ∙ ap suc h.done'))))

  module _ (first r : ℕ) (a b : Member) (h : IsMemberOf program t first a) (k : IsMemberOf program t r b) where
    differ_same : (i : ℕ) → answer_if (differ_in a.marks.items b.marks.items i) (reason.MarksDiffer group i) ≡ differing_told program t group first (r ∷ []) i
    differ_same i =
        ap (λ ms. answer_if (not (same_mark (nth ms i) (nth (marks_in b.marks.items) i))) (reason.MarksDiffer group i)) h.marks'
        ∙ ap (λ ms. answer_if (not (same_mark (nth (marks_told program t first) i) (nth ms i))) (reason.MarksDiffer group i)) k.marks'
        ∙ ap (λ b. answer_if (not b) (reason.MarksDiffer group i))
        (sym (and_true (same_mark (nth (marks_told program t first) i) (nth (marks_told program t r) i))))

    pub none_differs : IsLeastPlace (differ_in a.marks.items b.marks.items) None → IsLeastFault group (differing_told program t group first (r ∷ [])) None
    none_differs least =
        least_same group (λ i. answer_if (differ_in a.marks.items b.marks.items i) (reason.MarksDiffer group i))
        (differing_told program t group first (r ∷ [])) None differ_same
        (no_place group (differ_in a.marks.items b.marks.items) (λ i. reason.MarksDiffer group i) least)

    pub one_differs : (place : ℕ) → IsLeastPlace (differ_in a.marks.items b.marks.items) (Some place)
        → IsLeastFault group (differing_told program t group first (r ∷ []))
        (Some (record { place = place; fault = Differs }))
    one_differs place least =
        let mark : FaultyMark = record { place = place; fault = Differs } in
        least_same group (λ i. answer_if (differ_in a.marks.items b.marks.items i) (reason.MarksDiffer group i))
        (differing_told program t group first (r ∷ [])) (Some mark) differ_same
        (least_place group (differ_in a.marks.items b.marks.items) (λ i. reason.MarksDiffer group i) mark least refl)

-- ---- ends

module _ (program : Program) (t : Told) (r : ℕ) (m : Member) (h : IsMemberOf program t r m) where
  abbrev done_told : ℕ
  done_told = done program (objects_of t.start) t.trace t.report r

  lesser_told : (count : ℕ) → count ≡ count_of t.report r → nat_lt m.done count ≡ nat_lt done_told (count_of t.report r)
  lesser_told count is = ap (λ n. nat_lt n count) h.done' ∙ ap (nat_lt done_told) is

  pub is_fewer : (count number : ℕ) → count ≡ count_of t.report r → nat_lt m.done count ≡ true → number ≡ suc m.done
      → fewer_told program t r ≡ Some (reason_of (FewerOperations r number))
  is_fewer count number is low next =
      answers (nat_lt done_told (count_of t.report r)) (reason.FewerOperations r (suc done_told)) (sym (lesser_told count is) ∙ low)
      ∙ ap (λ n. Some (reason.FewerOperations r n)) (sym (next ∙ ap suc h.done'))

  pub not_fewer : (count : ℕ) → count ≡ count_of t.report r → nat_lt m.done count ≡ false → fewer_told program t r ≡ None
  not_fewer count is high = silent (nat_lt done_told (count_of t.report r)) (reason.FewerOperations r (suc done_told)) (sym (lesser_told count is) ∙ high)

  pub is_unlike : m.gives ≡ false → unlike_told program t r ≡ Some (reason_of (OtherResponse r))
  is_unlike isnt = answers _ (reason.OtherResponse r) (ap not (sym h.gives' ∙ isnt))

  pub not_unlike : m.gives ≡ true → unlike_told program t r ≡ None
  not_unlike is = silent _ (reason.OtherResponse r) (ap not (sym h.gives' ∙ is))
