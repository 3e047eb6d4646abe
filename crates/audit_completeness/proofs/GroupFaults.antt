-- A run's groups have no fault.
use Rattle.std.proofs.Common.{◌≡◌, ℕ, zero, suc, ◌+◌, ◌<◌, ◌≤◌, Bool, true, false, not, cond, List, [], ◌∷◌, ◌++◌, length, take, map, filter_map, Some, None, Option, ◌⊎◌, inl, inr, refl, sym, ap, subst, ◌∙◌, arith, nat_eq, length-append, le_refl}
use Rattle.std.specs.List.{list_all}
use Rattle.std.proofs.lemmas.Bool.{cases_eq, cases_lt, cases_order, eq-eqb, eqb-true, and_from, le-ltb}
use Rattle.script_tree.proofs.Equals.{number_itself, truth_itself}
use Rattle.script_tree.specs.Programs.{Program}
use Rattle.script_tree.specs.Datum.{Datum}
use Rattle.script_meaning.specs.declared.run.Mark.{Mark}
use Rattle.script_meaning.specs.declared.run.Mark.TheVariants.{Decided as decided, Issued as issued}
use Rattle.script_meaning.specs.Conduct.{Ends}
use Rattle.script_tree.specs.declared.path.Path.{Path}
use Rattle.basis.specs.Lists.{nth, first_answer}
use Rattle.basis.proofs.Options.{some_is, none_is_not}
use Rattle.basis.proofs.Places.{In, nth_take, first_some}
use Rattle.audit_meaning.specs.Lists.{numbers}
use Rattle.script_tree.specs.Requests.{Request}
use Rattle.script_tree.specs.declared.request.Response.{Response}
use Rattle.period.specs.declared.trace.TraceEvent.{TraceEvent}
use Rattle.period.specs.declared.trace.TraceEvent.TheVariants.{Asked, Answered}
use Rattle.script_tree.specs.Objects.{Objects, is_same, acted}
use Rattle.period.specs.Traces.{request_of, response_of, response_in}
use Rattle.script_meaning.specs.Replay.{ending_of}
use Rattle.audit_meaning.specs.Spots.{spot_of, count_of}
use Rattle.audit_meaning.specs.Members.{answer_at, told, is_entry_of, wants_as, is_good, good_from, performed, Sign, decision, operation, bad, ended, MemberMark, last_sign, sign_of, trail_of, page_number, signs, marks_of, fault_in, same_sign, same_mark, is_bad}
use Rattle.script_tree.specs.Alike.{same_act}
use Rattle.audit_meaning.specs.Groups.{marks, marks_by, all_alike, longest, done_by, if_bad, mark_fault, if_fewer, end_by, gives, if_unlike, group_fault}
use Rattle.script_tree.specs.Paths.{same_page, same_path}
use Rattle.audit_completeness.proofs.Asks.{SameShape}
use Rattle.audit_completeness.proofs.Pages.{page_is}
use Rattle.history.specs.Names.{Named, came, did, went}
use Rattle.history.specs.TraceOf.{event_in, trace_in}
use Rattle.history.specs.ReportOf.{member_in, did_in, report_in}
use Rattle.audit_meaning.proofs.Words.{same_itself}
use Rattle.audit_meaning.proofs.Places.{numbers_in, in_numbers, take_nth, first_none, none_or, none_first, none_answer}
use Rattle.script_tree.proofs.Equals.{act_itself, response_itself, path_is}
use Rattle.audit_meaning.proofs.Filters.{from, in_filter}
use Rattle.audit_completeness.proofs.Runs.{Standing, absent, present, gone, Visit, Hall, hall, IsRun, Now, Takes, next_hall, visited, longer, now_next, now_start, at_each, visited-here, visited-there}
use Rattle.audit_completeness.proofs.Ranks.{total, Whole, whole, did_in_itself, did_range, did_there, earlier, same_rank, did_in_some}
use Rattle.audit_completeness.proofs.Files.{event_answered, request_is, count_is}
use Rattle.audit_completeness.proofs.Spots.{spot_of_is, spot_at}

-- ---- good operations

all_good : (good : ℕ → Bool) (k n : ℕ) → ((j : ℕ) → k ≤ j → j < k + n → good j ≡ true) → good_from good k n ≡ k + n
all_good good k zero h = omega arith
all_good good k (suc n) h = ap (λ b. cond b (good_from good (suc k) n) k) (h k (omega arith) (omega arith)) ∙ all_good good (suc k) n (λ j l m. h j (omega arith) (omega arith)) ∙ omega arith

module _ (P : Program) (O : Objects) (E : List Named) (run : IsRun P (hall O) E) where
  -- a visit's answers are those that the report tells, and its operations were good
  record Told (t : ℕ) (z : Hall) : Type 0 where
    now : Now O E t z
    answers : (r : ℕ) (v : Visit) → z.visits r ≡ Some v → v.1 ≡ told (report_in E) O r (length v.1)
    good : (r : ℕ) (v : Visit) → z.visits r ≡ Some v → (k : ℕ) → k < length v.1 → is_good P O (report_in E) r v.0 k ≡ true
    comes : (r : ℕ) (v : Visit) → z.visits r ≡ Some v → In E (came r v.0)

  -- another request's visit
  same_visit : (r x : ℕ) (w : Option Visit) (f : ℕ → Option Visit) (v : Visit) → (r ≡ x → ⊥) → visited r w f x ≡ Some v → f x ≡ Some v
  same_visit r x w f v n e = sym (visited-there r x w f n) ∙ e

  told_next : (t : ℕ) (z : Hall) (e : Named) → nth E t ≡ Some e → Told t z → Takes P z e → Told (suc t) (next_hall z e)
  told_next t z (came r q) at_t i takes = record {
    now = now_next P O E t z (came r q) at_t i.now takes;
    answers = λ x v h. elim (cases_eq r x) [
      | inl p ↦ let is = fresh x v p h in
          (λ j. (sym is j).1) ∙ refl ∙ (λ j. told (report_in E) O x (length ((is j).1)))
      | inr n ↦ i.answers x v (same_visit r x _ z.visits v n h)
    ];
    good = λ x v h k l. elim (cases_eq r x) [
      | inl p ↦ let is = fresh x v p h in let l0 : k < 0 = subst (λ w. k < length w.1) (sym is) l in
          absurd (omega arith)
      | inr n ↦ i.good x v (same_visit r x _ z.visits v n h) k l
    ];
    comes = λ x v h. elim (cases_eq r x) [
      | inl p ↦ let is = fresh x v p h in
          subst (λ w. In E (came x w.0)) is (subst (λ y. In E (came y q)) p (t, at_t))
      | inr n ↦ i.comes x v (same_visit r x _ z.visits v n h)
    ];
  }
    where
      fresh : (x : ℕ) (v : Visit) → r ≡ x → visited r (Some (q, [])) z.visits x ≡ Some v → ◌≡◌ {A = Visit} (q, []) v
      fresh x v p h = some_is (sym (subst (λ y. visited r (Some (q, [])) z.visits y ≡ Some (q, [])) p (visited-here r (Some (q, [])) z.visits)) ∙ h)
  told_next t z (went r a b) at_t i takes = record {
    now = now_next P O E t z (went r a b) at_t i.now takes;
    answers = λ x v h. elim (cases_eq r x) [ inl p ↦ absurd (closed x v p h) | inr n ↦ i.answers x v (same_visit r x _ z.visits v n h) ];
    good = λ x v h k l. elim (cases_eq r x) [ inl p ↦ absurd (closed x v p h) | inr n ↦ i.good x v (same_visit r x _ z.visits v n h) k l ];
    comes = λ x v h. elim (cases_eq r x) [ inl p ↦ absurd (closed x v p h) | inr n ↦ i.comes x v (same_visit r x _ z.visits v n h) ];
  }
    where
      closed : (x : ℕ) (v : Visit) → r ≡ x → visited r None z.visits x ≡ Some v → ⊥
      closed x v p h = none_is_not (sym (subst (λ y. visited r None z.visits y ≡ None) p (visited-here r None z.visits)) ∙ h)
  told_next t z (did r k op c) at_t i takes = record {
    now = now_next P O E t z (did r k op c) at_t i.now takes;
    answers = λ x v h. elim (cases_eq r x) [ inl p ↦ subst (λ y. v.1 ≡ told (report_in E) O y (length v.1)) p (told_here v (more x v p h)) | inr n ↦ i.answers x v (same_visit r x _ z.visits v n h) ];
    good = λ x v h j l. elim (cases_eq r x) [
      | inl p ↦ subst (λ y. is_good P O (report_in E) y v.0 j ≡ true) p (good_here v (more x v p h) j l)
      | inr n ↦ i.good x v (same_visit r x _ z.visits v n h) j l
    ];
    comes = λ x v h. elim (cases_eq r x) [
      | inl p ↦ subst (λ y. In E (came y v.0)) p
          (subst (λ w. In E (came r w.0)) (more x v p h) (i.comes r u takes.1))
      | inr n ↦ i.comes x v (same_visit r x _ z.visits v n h)
    ];
  }
    where
      u : Visit
      u = takes.0

      answer : Datum
      answer = (acted op.act c (z.objects op.object)).1

      more : (x : ℕ) (v : Visit) → r ≡ x → visited r (longer (z.visits r) answer) z.visits x ≡ Some v → ◌≡◌ {A = Visit} (u.0, u.1 ++ answer ∷ []) v
      more x v p h = some_is (sym (subst (λ y. visited r (longer (z.visits r) answer) z.visits y ≡ Some (u.0, u.1 ++ answer ∷ [])) p
          (visited-here r (longer (z.visits r) answer) z.visits ∙ ap (λ w. longer w answer) takes.1)) ∙ h)

      size : length (u.1 ++ answer ∷ []) ≡ suc (length u.1)
      size = omega (arith, length-append u.1 (answer ∷ []))

      found : spot_of (report_in E) r (suc (length u.1)) ≡ Some (spot_at E t r (suc (length u.1)) op c)
      found = spot_of_is P O E run t r (suc (length u.1)) op c (at_t ∙ ap (λ j. Some (did r j op c)) takes.2)

      answer_is : answer ≡ answer_at O (spot_of (report_in E) r (suc (length u.1)))
      answer_is = ap (λ x. (acted op.act c x).1) (i.now.objects op.object) ∙ sym (ap (answer_at O) found)

      told_here : (v : Visit) → ◌≡◌ {A = Visit} (u.0, u.1 ++ answer ∷ []) v → v.1 ≡ told (report_in E) O r (length v.1)
      told_here v is = subst (λ (w : Visit). w.1 ≡ told (report_in E) O r (length w.1)) is
          (ap (λ xs. xs ++ answer ∷ []) (i.answers r u takes.1) ∙ ap (λ d. told (report_in E) O r (length u.1) ++ d ∷ []) answer_is ∙ ap (told (report_in E) O r) (sym size))

      good_here : (v : Visit) → ◌≡◌ {A = Visit} (u.0, u.1 ++ answer ∷ []) v → (j : ℕ) → j < length v.1 → is_good P O (report_in E) r v.0 j ≡ true
      good_here v is j l = subst (λ (w : Visit). is_good P O (report_in E) r w.0 j ≡ true) is (by (cases_lt j (length u.1)))
        where
          l2 : j < suc (length u.1)
          l2 = subst (λ n. j < n) size (subst (λ (w : Visit). j < length w.1) (sym is) l)

          last_good : is_good P O (report_in E) r u.0 (length u.1) ≡ true
          last_good =
              ap (λ a. wants_as (ending_of P u.0 a) (spot_of (report_in E) r (suc (length u.1)))) (sym (i.answers r u takes.1))
              ∙ ap (λ e. wants_as e (spot_of (report_in E) r (suc (length u.1)))) takes.3
              ∙ ap (is_entry_of op) found
              ∙ and_from (is_same op.object op.object) (same_act op.act op.act) (same_itself op.object) (act_itself op.act)

          by : (j < length u.1) ⊎ (length u.1 ≤ j) → is_good P O (report_in E) r u.0 j ≡ true
          by (inl low) = i.good r u takes.1 j low
          by (inr high) = let e : length u.1 ≡ j = omega (arith, l2) in subst (λ n. is_good P O (report_in E) r u.0 n ≡ true) e last_good

  told_at : (i : ℕ) (e : Named) → nth E i ≡ Some e → (z : Hall) × (Told i z) × (Takes P z e)
  told_at i e h =
      let at = at_each P E Told told_next E 0 (hall O) refl start run i e h in
      (at.0, subst (λ n. Told n at.0) (zero_plus i) at.1, at.2)
    where
      zero_plus : (n : ℕ) → 0 + n ≡ n
      zero_plus n = omega arith

      start : Told 0 (hall O)
      start = record { now = now_start P O E; answers = λ r v e. absurd (none_is_not e); good = λ r v e. absurd (none_is_not e); comes = λ r v e. absurd (none_is_not e) }

response_in_some : (r : ℕ) (e : TraceEvent) (x : Response) → response_in r e ≡ Some x → e ≡ Answered r x
response_in_some r (Asked a q) x h = absurd (none_is_not h)
response_in_some r (Answered a y) x h = go (nat_eq r a) refl h
  where
    go : (b : Bool) → nat_eq r a ≡ b → cond b (Some y) None ≡ Some x → Answered a y ≡ Answered r x
    go true e k = λ i. Answered (sym (eqb-true r a e) i) (some_is k i)
    go false e k = absurd (none_is_not k)

same_sign_itself : (s : Sign) → same_sign s s ≡ true
same_sign_itself (decision b) = truth_itself b
same_sign_itself operation = refl
same_sign_itself bad = refl
same_sign_itself (ended a b) = and_from (nat_eq a a) (nat_eq b b) (eq-eqb a a refl) (eq-eqb b b refl)

same_mark_itself : (m : Option MemberMark) → same_mark m m ≡ true
same_mark_itself None = refl
same_mark_itself (Some m) = and_from (same_page m.page m.page) (same_sign m.sign m.sign) (number_itself m.page) (same_sign_itself m.sign)

alike : {A : Type 0} (f : A → Option MemberMark) (xs : List A) → ((i j : ℕ) (x y : A) → nth xs i ≡ Some x → nth xs j ≡ Some y → f x ≡ f y) → all_alike (map f xs) ≡ true
alike f [] h = refl
alike {A} f (x ∷ xs) h = all xs (λ j y e. h 0 (suc j) x y refl e)
  where
    all : (ys : List A) → ((j : ℕ) (y : A) → nth ys j ≡ Some y → f x ≡ f y) → list_all (same_mark (f x)) (map f ys) ≡ true
    all [] k = refl
    all (y ∷ ys) k = and_from (same_mark (f x) (f y)) (list_all (same_mark (f x)) (map f ys)) (subst (λ m. same_mark (f x) m ≡ true) (k 0 y refl)
        (same_mark_itself (f x))) (all ys (λ j z e. k (suc j) z e))

not_bad : (page : Option ℕ) (trail : List Mark) (a b i : ℕ) → is_bad (nth (map (λ s. record { page = page; sign = s }) (map sign_of trail ++ ended a b ∷ [])) i) ≡ false
not_bad page [] a b zero = refl
not_bad page [] a b (suc i) = refl
not_bad page (decided t ∷ trail) a b zero = refl
not_bad page (issued op ∷ trail) a b zero = refl
not_bad page (m ∷ trail) a b (suc i) = not_bad page trail a b i

pub member_some : (p : Path) (e : Named) (r : ℕ) → member_in p e ≡ Some r → (x : Response) × (e ≡ went r x p)
member_some p (came a q) r h = absurd (none_is_not h)
member_some p (did a k op c) r h = absurd (none_is_not h)
member_some p (went a x path) r h = go (same_path p path) refl h
  where
    go : (b : Bool) → same_path p path ≡ b → cond b (Some a) None ≡ Some r → (y : Response) × (went a x path ≡ went r y p)
    go true e k = (x, λ i. went (some_is k i) x (sym (path_is p path e) i))
    go false e k = absurd (none_is_not k)

module _ (P : Program) (O : Objects) (E : List Named) (run : IsRun P (hall O) E) (one_shape : SameShape P) where
  record MemberIs (r : ℕ) (p : Path) : Type 0 where
    request : Request
    asked_is : request_of (trace_in E) r ≡ Some request
    response : Response
    ends : ending_of P request (told (report_in E) O r (total E r)) ≡ Ends response p
    responds : response_of (trace_in E) r ≡ Some response
    count : count_of (report_in E) r ≡ total E r
    all : performed P O (report_in E) r request ≡ total E r

  pub response_is : (r j : ℕ) (x : Response) (p : Path) → nth E j ≡ Some (went r x p) → response_of (trace_in E) r ≡ Some x
  unfolding response_of
  response_is r j x p h = go (first_answer (response_in r) (trace_in E)) refl
    where
      there : In (trace_in E) (Answered r x)
      there = in_filter event_in E j (went r x p) (Answered r x) h refl

      itself : response_in r (Answered r x) ≡ Some x
      itself = ap (λ b. cond b (Some x) None) (eq-eqb r r refl)

      go : (o : Option Response) → first_answer (response_in r) (trace_in E) ≡ o → o ≡ Some x
      go None e = absurd (none_is_not (sym (first_none (response_in r) (trace_in E) there.0 (Answered r x) e there.1) ∙ itself))
      go (Some y) e =
          let f = first_some (response_in r) (trace_in E) y e in
          let a = response_in_some r f.0 y f.2 in
          let g = from event_in E f.1.0 (Answered r y) (f.1.1 ∙ ap (λ z. Some z) a) in
          let b = event_answered g.x r y g.gives in
          let at_g : nth E g.place ≡ Some (went r y b.0) = g.here ∙ ap (λ z. Some z) b.1 in
          let same_place : g.place ≡ j = same_rank P O E run g.place j (went r y b.0) (went r x p) at_g h refl refl in
          ap response (some_is (sym at_g ∙ ap (nth E) same_place ∙ h))
        where
          response : Named → Option Response
          response (came z q) = None
          response (did z k op c) = None
          response (went z w q) = Some w

  member_is : (j r : ℕ) (x : Response) (p : Path) → nth E j ≡ Some (went r x p) → MemberIs r p
  member_is j r x p h = record {
    request = v.0;
    asked_is = request_is P O E run r comes.0 v.0 comes.1;
    response = x;
    ends = ap (ending_of P v.0) (ap (told (report_in E) O r) (sym size) ∙ sym (at.1.answers r v at.2.1)) ∙ at.2.2;
    responds = responds;
    count = count;
    all = ap (good_from (is_good P O (report_in E) r v.0) 0) count
        ∙ all_good (is_good P O (report_in E) r v.0) 0 (total E r) (λ k l m. at.1.good r v at.2.1 k (omega (arith, size)))
        ∙ zero_plus (total E r);
  }
    where
      at : (z : Hall) × (Told P O E run j z) × (Takes P z (went r x p))
      at = told_at P O E run j (went r x p) h

      v : Visit
      v = at.2.0

      comes : In E (came r v.0)
      comes = at.1.comes r v at.2.1

      count : count_of (report_in E) r ≡ total E r
      count = count_is P O E run r comes.0 v.0 comes.1

      w : Whole P O E run r
      w = whole P O E run j (went r x p) h

      zero_plus : (n : ℕ) → 0 + n ≡ n
      zero_plus n = omega arith

      dids : filter_map (did_in r) (take j E) ≡ numbers 1 (length v.1)
      dids = by (at.1.now.standing r)
        where
          by : Standing (take j E) at.0.arrived r (at.0.visits r) → filter_map (did_in r) (take j E) ≡ numbers 1 (length v.1)
          by (absent none l never d) = absurd (none_is_not (sym none ∙ at.2.1))
          by (gone n q y z none l m d left) = absurd (none_is_not (sym none ∙ at.2.1))
          by (present q ans some l m d stays) = d ∙ ap (λ (u : Visit). numbers 1 (length u.1)) (some_is (sym some ∙ at.2.1))

      -- no operation comes after the departure
      all_before : (k : ℕ) → 1 ≤ k → k ≤ total E r → k ≤ length v.1
      all_before k l m =
          let d = did_there P O E run r k w l m in
          let low : d.0 < j = earlier P O E run d.0 j (did r k d.1 d.2) (went r x p) d.3 h refl (omega arith) in
          let n = in_filter (did_in r) (take j E) d.0 (did r k d.1 d.2) k (nth_take E j d.0 (did r k d.1 d.2) low d.3) (did_in_itself r k d.1 d.2) in
          let range = numbers_in 1 (length v.1) k n.0 (ap (λ xs. nth xs n.0) (sym dids) ∙ n.1) in
          omega (arith, range.1)

      size : length v.1 ≡ total E r
      size = elim (cases_order (length v.1) (total E r)) [
        | inl e ↦ e
        | inr (inl low) ↦ let m : total E r ≤ length v.1 = all_before (total E r) (omega arith) (le_refl (total E r)) in absurd (omega arith)
        | inr (inr high) ↦
            let n = in_numbers 1 (length v.1) (length v.1) (omega arith) (omega arith) in
            let f = from (did_in r) (take j E) n.0 (length v.1) (ap (λ xs. nth xs n.0) dids ∙ n.1) in
            let is = did_in_some r (length v.1) f.x f.gives in
            let range = did_range P O E run f.place r (length v.1) is.0 is.1 (take_nth E j f.place f.x f.here ∙ ap (λ e. Some e) is.2) in
            absurd (omega (arith, range.1, high))
      ]

      responds : response_of (trace_in E) r ≡ Some x
      responds = response_is r j x p h

  member_marks : (r : ℕ) (p : Path) → MemberIs r p → (q : Request) → (a : List Datum) → (x : Response) → ending_of P q a ≡ Ends x p
      → marks P O (trace_in E) (report_in E) r ≡ map (λ s. record { page = p.page; sign = s }) (map sign_of (trail_of P q a) ++ ended p.steps (fault_in p.end) ∷ [])
  unfolding marks marks_of signs
  member_marks r p m q a x e =
      ap (marks_by P O (trace_in E) (report_in E) r) m.asked_is
      ∙ ap (λ n. marks_told (told (report_in E) O r n)) m.all
      ∙ ap (λ s. map (λ z. record { page = page_number P m.request; sign = z }) (map sign_of (trail_of P m.request (told (report_in E) O r (total E r))) ++ last_sign s ∷ [])) m.ends
      ∙ ap (λ pg. map (λ z. record { page = pg; sign = z }) (map sign_of (trail_of P m.request (told (report_in E) O r (total E r))) ++ ended p.steps
      (fault_in p.end) ∷ [])) (page_is P m.request (told (report_in E) O r (total E r)) m.response p m.ends)
      ∙ ap (λ t. map (λ z. record { page = p.page; sign = z }) (t ++ ended p.steps (fault_in p.end) ∷ [])) (one_shape m.request q (told (report_in E) O r (total E r)) a m.response x p m.ends e)
    where
      marks_told : List Datum → List MemberMark
      marks_told b = map (λ s. record { page = page_number P m.request; sign = s }) (map sign_of (trail_of P m.request b) ++ last_sign (ending_of P m.request b) ∷ [])

  pub group_none : (k : ℕ) (p : Path) → group_fault P O (trace_in E) (report_in E) k (filter_map (member_in p) E) ≡ None
  unfolding group_fault
  group_none k p =
      none_or (first_answer (mark_fault P O (trace_in E) (report_in E) k g) (numbers 0 (longest (map (marks P O (trace_in E) (report_in E)) g)))) _
      (none_first (mark_fault P O (trace_in E) (report_in E) k g) (numbers 0 (longest (map (marks P O (trace_in E) (report_in E)) g))) (λ j i at_j.
      none_or (first_answer (if_bad P O (trace_in E) (report_in E) i) g) _
      (none_first (if_bad P O (trace_in E) (report_in E) i) g (λ n r at_r.
      let m = member n r at_r in
      none_answer _ _ (ap (λ ms. is_bad (nth ms i)) (member_marks r p m m.request (told (report_in E) O r (total E r)) m.response m.ends)
      ∙ not_bad p.page (trail_of P m.request (told (report_in E) O r (total E r))) p.steps (fault_in p.end) i)))
      (none_answer _ _ (ap not (alike (λ r. nth (marks P O (trace_in E) (report_in E) r) i) g (λ a b r s at_a at_b.
      let m = member a r at_a in
      let n = member b s at_b in
      ap (λ ms. nth ms i) (member_marks r p m m.request (told (report_in E) O r (total E r)) m.response m.ends
      ∙ sym (member_marks s p n m.request (told (report_in E) O r (total E r)) m.response m.ends))))))))
      (none_or (first_answer (if_fewer P O (trace_in E) (report_in E)) g) _
      (none_first (if_fewer P O (trace_in E) (report_in E)) g (λ n r at_r.
      let m = member n r at_r in
      none_answer _ _ (le-ltb _ _ (subst (λ x. count_of (report_in E) r ≤ done_by P O (trace_in E) (report_in E) r x) (sym m.asked_is) (omega (arith, m.all, m.count))))))
      (none_first (if_unlike P O (trace_in E) (report_in E)) g (λ n r at_r.
      let m = member n r at_r in
      none_answer _ _ (ap not (
      ap (λ x. gives (end_by P O (trace_in E) (report_in E) r x) (response_of (trace_in E) r)) m.asked_is
      ∙ ap (λ k. gives (ending_of P m.request (told (report_in E) O r k)) (response_of (trace_in E) r)) m.all
      ∙ ap (λ e. gives e (response_of (trace_in E) r)) m.ends
      ∙ ap (gives (Ends m.response p)) m.responds
      ∙ response_itself m.response)))))
    where
      g : List ℕ
      g = filter_map (member_in p) E

      member : (n r : ℕ) → nth g n ≡ Some r → MemberIs r p
      member n r h =
          let f = from (member_in p) E n r h in
          let is = member_some p f.x r f.gives in
          member_is f.place r is.0 p (f.here ∙ ap (λ e. Some e) is.1)
