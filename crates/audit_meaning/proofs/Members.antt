-- The members of a group without a fault are sound.
use Rattle.std.proofs.Common.{◌≡◌, ℕ, zero, suc, ◌+◌, ◌<◌, ◌≤◌, max, Bool, true, false, cond, List, [], ◌∷◌, length, map, Some, None, Option, inl, inr, refl, sym, ap, subst, ◌∙◌, arith, true≢false}
use Rattle.std.proofs.lemmas.Bool.{cases_lt, and_parts, not-false, ltb-false}
use Rattle.script_tree.specs.Programs.{Program}
use Rattle.script_tree.specs.declared.operation.Op.{Op}
use Rattle.script_meaning.specs.Conduct.{Ending, Wants, Ends, Undefined}
use Rattle.script_tree.specs.declared.path.Path.{Path}
use Rattle.basis.specs.Lists.{nth, first_answer}
use Rattle.basis.proofs.Options.{some_is, none_is_not}
use Rattle.basis.proofs.Places.{In}
use Rattle.audit_meaning.specs.Lists.{numbers}
use Rattle.script_tree.specs.Requests.{Request}
use Rattle.script_tree.specs.declared.request.Response.{Response}
use Rattle.period.specs.declared.trace.TraceEvent.{TraceEvent}
use Rattle.period.specs.declared.report.Report.{Report}
use Rattle.script_tree.specs.Objects.{Objects, is_same}
use Rattle.period.specs.Traces.{request_of, response_of}
use Rattle.script_meaning.specs.Replay.{ending_of}
use Rattle.audit_meaning.specs.Spots.{Spot, spot_of, count_of}
use Rattle.audit_meaning.specs.Members.{told, is_entry_of, wants_as, is_good, good_from, performed, MemberMark, last_sign, sign_of, trail_of, page_number, signs, marks_of, is_bad}
use Rattle.script_tree.specs.Alike.{same_act}
use Rattle.audit_meaning.specs.Groups.{marks, marks_by, longest, if_bad, mark_fault, if_fewer, done_by, end_by, gives, if_unlike, group_fault}
use Rattle.script_fit.proofs.Stay.{same_object}
use Rattle.audit_meaning.proofs.Places.{in_right, in_map, in_numbers, first_none, or_none, answer_none}
use Rattle.script_tree.proofs.Equals.{act_is, response_is}
use Rattle.audit_meaning.proofs.Induction.{IsGood, IsSoundMember}

-- ---- good operations

good_at_least : (good : ℕ → Bool) (k n : ℕ) → (k ≤ good_from good k n) × (good_from good k n ≤ k + n)
good_at_least good k zero = (omega arith, omega arith)
good_at_least good k (suc n) = go (good k) (good_at_least good (suc k) n)
  where
    go : (b : Bool) → (suc k ≤ good_from good (suc k) n) × (good_from good (suc k) n ≤ suc k + n)
        → (k ≤ cond b (good_from good (suc k) n) k) × (cond b (good_from good (suc k) n) k ≤ k + suc n)
    go true h = (omega (arith, h.0), omega (arith, h.1))
    go false h = (omega arith, omega arith)

good_below : (good : ℕ → Bool) (k n j : ℕ) → k ≤ j → j < good_from good k n → good j ≡ true
good_below good k zero j l m = absurd (omega arith)
good_below good k (suc n) j l m = go (good k) refl m (λ a b. good_below good (suc k) n j a b)
  where
    go : (b : Bool) → good k ≡ b → j < cond b (good_from good (suc k) n) k → (suc k ≤ j → j < good_from good (suc k) n → good j ≡ true) → good j ≡ true
    go true p h rest = elim (cases_lt k j) [
      | inl low ↦ rest low h
      | inr high ↦ let e : k ≡ j = omega arith in ap good (sym e) ∙ p
    ]
    go false p h rest = absurd (omega arith)

module _ (P : Program) (O : Objects) (T : List TraceEvent) (R : Report) where
  good_is : (r : ℕ) (q : Request) (k : ℕ) → is_good P O R r q k ≡ true → IsGood P O R r q k
  good_is r q k h = by_ending (ending_of P q (told R O r k)) refl h
    where
      by_spot : (op : Op) → ending_of P q (told R O r k) ≡ Wants op → (s : Option Spot) → spot_of R r (suc k) ≡ s → is_entry_of op s ≡ true → IsGood P O R r q k
      by_spot op e None f t = absurd (true≢false (sym t))
      by_spot op e (Some s) f t =
          let both = and_parts (is_same s.object op.object) (same_act s.entry.act op.act) t in
          record { op = op; spot = s; wants = e; found = f; object = same_object s.object op.object both.0; act = act_is s.entry.act op.act both.1 }

      by_ending : (x : Ending) → ending_of P q (told R O r k) ≡ x → wants_as x (spot_of R r (suc k)) ≡ true → IsGood P O R r q k
      by_ending (Wants op) e t = by_spot op e (spot_of R r (suc k)) refl t
      by_ending (Ends x p) e t = absurd (true≢false (sym t))
      by_ending Undefined e t = absurd (true≢false (sym t))

  longest_is : (xs : List ℕ) (r i : ℕ) → nth xs i ≡ Some r → length (marks P O T R r) ≤ longest (map (marks P O T R) xs)
  longest_is [] r i e = absurd (none_is_not e)
  longest_is (x ∷ xs) r zero e = subst (λ y. length (marks P O T R y) ≤ max (length (marks P O T R x))
      (longest (map (marks P O T R) xs))) (some_is e) (omega arith)
  longest_is (x ∷ xs) r (suc i) e = let h = longest_is xs r i e in omega (arith, h)

  -- no mark of a member is bad
  no_bad : (n : ℕ) (g : List ℕ) (r i j : ℕ) → group_fault P O T R n g ≡ None → nth g i ≡ Some r → is_bad (nth (marks P O T R r) j) ≡ false
  unfolding group_fault
  no_bad n g r i j h at_i = elim (cases_lt j (longest (map (marks P O T R) g))) [
    | inl low ↦
        let m = in_numbers 0 (longest (map (marks P O T R) g)) j (omega arith) (omega arith) in
        let f = first_none (mark_fault P O T R n g) (numbers 0 (longest (map (marks P O T R) g))) m.0 j (or_none _ _ h).0 m.1 in
        answer_none _ _ (first_none (if_bad P O T R j) g i r (or_none _ _ f).0 at_i)
    | inr high ↦ past (marks P O T R r) j (let l = longest_is g r i at_i in omega (arith, l))
  ]
    where
      past : (xs : List MemberMark) (k : ℕ) → length xs ≤ k → is_bad (nth xs k) ≡ false
      past [] k l = refl
      past (x ∷ xs) zero l = absurd (omega arith)
      past (x ∷ xs) (suc k) l = past xs k (omega arith)

  -- how a member's run ends, as its last mark says
  last_mark : (r : ℕ) (q : Request) → request_of T r ≡ Some q → In (marks P O T R r) (record { page = page_number P q; sign = last_sign (ending_of P q (told R O r (performed P O R r q))) })
  unfolding marks marks_of signs
  last_mark r q asked =
      let sign = last_sign (ending_of P q (told R O r (performed P O R r q))) in
      let here : In (signs P O R r q) (last_sign (ending_of P q (told R O r (performed P O R r q)))) =
      in_right (map sign_of (trail_of P q (told R O r (performed P O R r q))))
      (last_sign (ending_of P q (told R O r (performed P O R r q))) ∷ []) _ (0, refl) in
      subst (λ x. In {A = MemberMark} (marks_by P O T R r x)
      (record { page = page_number P q; sign = last_sign (ending_of P q (told R O r (performed P O R r q))) }))
      (sym asked)
      (in_map {B = MemberMark} (λ z. record { page = page_number P q; sign = z }) (signs P O R r q)
      (last_sign (ending_of P q (told R O r (performed P O R r q)))) here)

  ends_well : (r : ℕ) (e : Ending) (y : Option Response) (page : Option ℕ)
      → is_bad (Some (record { page = page; sign = last_sign e })) ≡ false → gives e y ≡ true
      → (x : Response) × (path : Path) × (e ≡ Ends x path) × (y ≡ Some x)
  ends_well r (Wants op) y page b t = absurd (true≢false b)
  ends_well r Undefined y page b t = absurd (true≢false b)
  ends_well r (Ends x path) None page b t = absurd (true≢false (sym t))
  ends_well r (Ends x path) (Some y) page b t = (x, path, refl, ap (λ z. Some z) (sym (response_is x y t)))

  pub sound_member : (n : ℕ) (g : List ℕ) (r i : ℕ) (q : Request) → group_fault P O T R n g ≡ None → nth g i ≡ Some r
      → request_of T r ≡ Some q → IsSoundMember P O T R r q
  unfolding group_fault
  sound_member n g r i q h at_i asked =
      let later = or_none (first_answer (mark_fault P O T R n g) (numbers 0 (longest (map (marks P O T R) g)))) _ h in
      let parts = or_none (first_answer (if_fewer P O T R) g) (first_answer (if_unlike P O T R) g) later.1 in
      let enough : count_of R r ≤ performed P O R r q = subst (λ x. count_of R r ≤ done_by P O T R r x) asked (ltb-false _ _ (answer_none _ _ (first_none (if_fewer P O T R) g i r parts.0 at_i))) in
      let most : performed P O R r q ≤ 0 + count_of R r = (good_at_least (is_good P O R r q) 0 (count_of R r)).1 in
      let all : performed P O R r q ≡ count_of R r = omega arith in
      let responds : gives (ending_of P q (told R O r (performed P O R r q))) (response_of T r) ≡ true =
      subst (λ x. gives (end_by P O T R r x) (response_of T r) ≡ true) asked
      (not-false _ (answer_none _ _ (first_none (if_unlike P O T R) g i r parts.1 at_i))) in
      let m = last_mark r q asked in
      let fine : is_bad (Some (record { page = page_number P q; sign = last_sign (ending_of P q (told R O r (performed P O R r q))) })) ≡ false =
      ap is_bad (sym m.1) ∙ no_bad n g r i m.0 h at_i in
      let end = ends_well r (ending_of P q (told R O r (performed P O R r q))) (response_of T r) (page_number P q) fine responds in
      record {
        good = λ k l. good_is r q k (good_below (is_good P O R r q) 0 (count_of R r) k (omega arith) (subst (λ n. k < n) (sym all) l));
        response = end.0;
        path = end.1;
        ends = ap (λ n. ending_of P q (told R O r n)) (sym all) ∙ end.2;
        right = end.3;
      }
