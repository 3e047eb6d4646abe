-- The members of a sound group leave the same marks.
use Rattle.std.proofs.Common.{◌≡◌, ◌∙◌, ◌<◌, ◌≤◌, ℕ, zero, suc, max, true, true≢false, List, [], ◌∷◌, length, map}
use Rattle.std.proofs.Common.{Option, Some, None, nat_eq, inl, inr, refl, sym, ap, subst, arith}
use Rattle.std.specs.List.{list_all}
use Rattle.std.proofs.lemmas.Bool.{and_parts, cases_lt, eqb-true, not-false}
use Rattle.basis.specs.Lists.{nth, first_answer}
use Rattle.basis.proofs.Options.{none_is_not, some_is}
use Rattle.script_tree.proofs.Equals.{truth_is}
use Rattle.script_tree.specs.Objects.{Objects}
use Rattle.script_tree.specs.Paths.{same_page}
use Rattle.script_tree.specs.Programs.{Program}
use Rattle.period.specs.declared.report.Report.{Report}
use Rattle.period.specs.declared.trace.TraceEvent.{TraceEvent}
use Rattle.audit_meaning.specs.Groups.{all_alike, group_fault, if_bad, longest, mark_fault, marks}
use Rattle.audit_meaning.specs.Lists.{numbers}
use Rattle.audit_meaning.specs.Members.{MemberMark, Sign, bad, decision, ended, operation, same_mark, same_sign}
use Rattle.audit_meaning.proofs.Places.{answer_none, first_none, in_numbers, or_none}
use Rattle.group_laws.specs.Agree.{AreInGroup, SoundMembersAgree}

-- ---- equal marks

page_is : (a b : Option ℕ) → same_page a b ≡ true → a ≡ b
page_is None None h = refl
page_is None (Some b) h = absurd (true≢false (sym h))
page_is (Some a) None h = absurd (true≢false (sym h))
page_is (Some a) (Some b) h = ap (λ n. Some n) (eqb-true a b h)

sign_is : (a b : Sign) → same_sign a b ≡ true → a ≡ b
sign_is (decision a) (decision b) h = ap decision (truth_is a b h)
sign_is (decision a) operation h = absurd (true≢false (sym h))
sign_is (decision a) bad h = absurd (true≢false (sym h))
sign_is (decision a) (ended c d) h = absurd (true≢false (sym h))
sign_is operation operation h = refl
sign_is operation (decision b) h = absurd (true≢false (sym h))
sign_is operation bad h = absurd (true≢false (sym h))
sign_is operation (ended c d) h = absurd (true≢false (sym h))
sign_is bad bad h = refl
sign_is bad (decision b) h = absurd (true≢false (sym h))
sign_is bad operation h = absurd (true≢false (sym h))
sign_is bad (ended c d) h = absurd (true≢false (sym h))
sign_is (ended a b) (ended c d) h =
    let both = and_parts (nat_eq a c) (nat_eq b d) h in
    λ z. ended (eqb-true a c both.0 z) (eqb-true b d both.1 z)
sign_is (ended a b) (decision c) h = absurd (true≢false (sym h))
sign_is (ended a b) operation h = absurd (true≢false (sym h))
sign_is (ended a b) bad h = absurd (true≢false (sym h))

mark_is : (a b : Option MemberMark) → same_mark a b ≡ true → a ≡ b
mark_is None None h = refl
mark_is None (Some b) h = absurd (true≢false (sym h))
mark_is (Some a) None h = absurd (true≢false (sym h))
mark_is (Some a) (Some b) h =
    let both = and_parts (same_page a.page b.page) (same_sign a.sign b.sign) h in
    λ z. Some (record { page = page_is a.page b.page both.0 z; sign = sign_is a.sign b.sign both.1 z })

-- ---- all alike

like_all : (m : Option MemberMark) (f : ℕ → Option MemberMark) (rs : List ℕ) (k r : ℕ) → list_all (same_mark m) (map f rs) ≡ true
    → nth rs k ≡ Some r → m ≡ f r
like_all m f [] k r h at = absurd (none_is_not at)
like_all m f (x ∷ rs) zero r h at = mark_is m (f x) (and_parts (same_mark m (f x)) (list_all (same_mark m) (map f rs)) h).0 ∙ ap f (some_is at)
like_all m f (x ∷ rs) (suc k) r h at = like_all m f rs k r (and_parts (same_mark m (f x)) (list_all (same_mark m) (map f rs)) h).1 at

like_first : (f : ℕ → Option MemberMark) (x : ℕ) (rs : List ℕ) (k r : ℕ)
    → all_alike (map f (x ∷ rs)) ≡ true → nth (x ∷ rs) k ≡ Some r → f x ≡ f r
like_first f x rs zero r h at = ap f (some_is at)
like_first f x rs (suc k) r h at = like_all (f x) f rs k r h at

both_alike : (f : ℕ → Option MemberMark) (rs : List ℕ) (i j a b : ℕ)
    → all_alike (map f rs) ≡ true → nth rs i ≡ Some a → nth rs j ≡ Some b → f a ≡ f b
both_alike f [] i j a b h one two = absurd (none_is_not one)
both_alike f (x ∷ rs) i j a b h one two = sym (like_first f x rs i a h one) ∙ like_first f x rs j b h two

-- ---- lists, place by place

same_lists : (xs ys : List MemberMark) → ((k : ℕ) → nth xs k ≡ nth ys k) → xs ≡ ys
same_lists [] [] h = refl
same_lists [] (y ∷ ys) h = absurd (none_is_not (h 0))
same_lists (x ∷ xs) [] h = absurd (none_is_not (sym (h 0)))
same_lists (x ∷ xs) (y ∷ ys) h =
    let rest = same_lists xs ys (λ k. h (suc k)) in
    λ z. some_is (h 0) z ∷ rest z

beyond : (xs : List MemberMark) (k : ℕ) → length xs ≤ k → nth xs k ≡ None
beyond [] k l = refl
beyond (x ∷ xs) zero l = absurd (omega (arith, l))
beyond (x ∷ xs) (suc k) l = beyond xs k (omega (arith, l))

within_longest : (f : ℕ → List MemberMark) (rs : List ℕ) (k r : ℕ) → nth rs k ≡ Some r → length (f r) ≤ longest (map f rs)
within_longest f [] k r at = absurd (none_is_not at)
within_longest f (x ∷ rs) zero r at =
    subst (λ y. length (f y) ≤ max (length (f x)) (longest (map f rs))) (some_is at) (omega arith)
within_longest f (x ∷ rs) (suc k) r at = let rest = within_longest f rs k r at in omega (arith, rest)

-- ---- a group

module _ (P : Program) (O : Objects) (T : List TraceEvent) (R : Report) (n : ℕ) (g : List ℕ) (sound : group_fault P O T R n g ≡ None)
    (a b : ℕ) (both : AreInGroup g a b) where
  abbrev left : ℕ → List MemberMark
  left = marks P O T R

  alike_at : (k : ℕ) → k < longest (map left g) → all_alike (map (λ r. nth (left r) k) g) ≡ true
  unfolding group_fault
  alike_at k low =
      let m = in_numbers 0 (longest (map left g)) k (omega arith) (omega (arith, low)) in
      let f = first_none (mark_fault P O T R n g) (numbers 0 (longest (map left g))) m.0 k (or_none _ _ sound).0 m.1 in
      not-false _ (answer_none _ _ (or_none (first_answer (if_bad P O T R k) g) _ f).1)

  same_at : (k : ℕ) → nth (left a) k ≡ nth (left b) k
  same_at k = elim (cases_lt k (longest (map left g))) [
    | inl low ↦ both_alike (λ r. nth (left r) k) g both.first both.second a b (alike_at k low) both.first' both.second'
    | inr high ↦
        let mine = within_longest left g both.first a both.first' in
        let other = within_longest left g both.second b both.second' in
        beyond (left a) k (omega (arith, high, mine)) ∙ sym (beyond (left b) k (omega (arith, high, other)))
  ]

  agree : left a ≡ left b
  agree = same_lists (left a) (left b) same_at

pub sound_members_agree : SoundMembersAgree
sound_members_agree = agree
