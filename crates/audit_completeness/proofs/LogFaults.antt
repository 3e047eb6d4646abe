-- A run's report has no fault in its logs.
use Rattle.std.proofs.Common.{◌≡◌, ℕ, ◌<◌, Bool, true, false, ◌&&◌, ◌||◌, not, cond, List, take, filter_map, Some, None, Option, is_none, inl, inr, refl, sym, ap, subst, ◌∙◌, arith, true≢false, nat_eq, nat_lt}
use Rattle.std.specs.List.{list_any}
use Rattle.std.proofs.lemmas.Bool.{cases_eq, eq-eqb, ne_eqb, eqb-true, and_from, and_parts, le-ltb, lt-ltb, and_left, and_right}
use Rattle.script_tree.specs.Programs.{Program}
use Rattle.script_tree.specs.declared.operation.Act.{Act}
use Rattle.script_tree.specs.declared.operation.Act.TheVariants.{Read, Write, Get, Put, Remove, Transact, Now as Reads, Roll}
use Rattle.basis.specs.Lists.{nth, first_answer}
use Rattle.basis.proofs.Options.{some_is, none_is_not}
use Rattle.basis.proofs.Places.{In}
use Rattle.audit_meaning.specs.Lists.{befores, last, numbers}
use Rattle.script_tree.specs.declared.operation.Choice.{Choice}
use Rattle.script_tree.specs.declared.operation.Choice.TheVariants.{Nothing, Number}
use Rattle.script_tree.specs.Requests.{Request, IsRequestWithinLimits}
use Rattle.period.specs.declared.trace.TraceEvent.{TraceEvent}
use Rattle.period.specs.declared.trace.TraceEvent.TheVariants.{Asked, Answered}
use Rattle.period.specs.declared.report.LogEntry.{LogEntry}
use Rattle.period.specs.declared.report.Count.{Count}
use Rattle.period.specs.declared.report.Report.{Report}
use Rattle.script_tree.specs.Objects.{Objects, Cell, is_same, plausible}
use Rattle.audit_meaning.specs.Spots.{Spot, spots, spot_of, count_of}
use Rattle.period.specs.LeftBy.{left_by}
use Rattle.period.specs.Traces.{request_of}
use Rattle.audit_meaning.specs.declared.reason.Reason.TheVariants.{ForeignEntry, EntryOfNoRequest, UncountedEntry, SecondEntry, EntryOutOfOrder}
use Rattle.audit_meaning.specs.LogFaults.{is_named, faulty_entry, is_of_no_request, is_foreign, is_uncounted, is_second, is_implausible, is_out_of_order, at_entry, entry_fault, second_log, second_count, count_of_no_request, request_without_count, operation_without_entry, if_without_count, if_without_entry, log_fault}
use Rattle.script_fit.specs.OfProgram.{is_of_program, choice_is_of}
use Rattle.audit_completeness.proofs.Asks.{AsksFitting}
use Rattle.history.specs.Names.{Named, came, did, went}
use Rattle.history.specs.TraceOf.{event_in, trace_in}
use Rattle.history.specs.ReportOf.{log_in, report_in}
use Rattle.script_fit.proofs.Stay.{same_object}
use Rattle.audit_meaning.proofs.Places.{numbers_in, first_none, befores_back, take_nth, take_within, none_or, none_first, none_answer, false_any}
use Rattle.audit_meaning.proofs.Filters.{from, in_filter}
use Rattle.audit_completeness.proofs.Runs.{HasShortRequests, Visit, Hall, hall, IsRun, Standing, absent, present, gone, Now, Takes, before_each}
use Rattle.audit_completeness.proofs.Ranks.{total, Whole, whole, did_range, did_there, later, same_rank}
use Rattle.audit_completeness.proofs.Files.{SpotFrom, spot_from, entry_some, event_asked, last_in, request_is, count_is}
use Rattle.audit_completeness.proofs.Spots.{one_log_of, apart_spots, spot_once, spot_of_is, spot_at}
use Rattle.audit_meaning.specs.Spots as member
use Rattle.history.specs.ReportOf as hist

choice_is_fit : (a : Act) (c : Choice) (cell : Cell) → plausible a c cell ≡ true → choice_is_of a c ≡ true
unfolding plausible
choice_is_fit Read Nothing cell h = refl
choice_is_fit (Write d) Nothing cell h = refl
choice_is_fit (Get k) Nothing cell h = refl
choice_is_fit (Put k d) Nothing cell h = refl
choice_is_fit (Remove k) Nothing cell h = refl
choice_is_fit (Transact ss) Nothing cell h = refl
choice_is_fit Reads Nothing cell h = absurd (true≢false (sym h))
choice_is_fit (Roll b) Nothing cell h = absurd (true≢false (sym h))
choice_is_fit Reads (Number n) cell h = refl
choice_is_fit (Roll b) (Number n) cell h = refl
choice_is_fit Read (Number n) cell h = absurd (true≢false (sym h))
choice_is_fit (Write d) (Number n) cell h = absurd (true≢false (sym h))
choice_is_fit (Get k) (Number n) cell h = absurd (true≢false (sym h))
choice_is_fit (Put k d) (Number n) cell h = absurd (true≢false (sym h))
choice_is_fit (Remove k) (Number n) cell h = absurd (true≢false (sym h))
choice_is_fit (Transact ss) (Number n) cell h = absurd (true≢false (sym h))

there_not_none : {A : Type 0} (o : Option A) (x : A) → o ≡ Some x → is_none o ≡ false
there_not_none o x e = ap is_none e

not_true : (b : Bool) → b ≡ true → not b ≡ false
not_true b e = ap not e

either_false : (a b : Bool) → a ≡ false → b ≡ false → (a || b) ≡ false
either_false true b e f = absurd (true≢false e)
either_false false b e f = f

same_not : (a b : Bool) → (a ≡ true → ⊥) → a ≡ false
same_not true b n = absurd (n refl)
same_not false b n = refl

counted_of : (E : List Named) (e : Named) (c : Count) → hist.count_in E e ≡ Some c → (q : Request) × (e ≡ came c.rid q)
counted_of E (came r q) c e = (q, ap (λ x. came x.rid q) (some_is e))
counted_of E (did r k op c2) c e = absurd (none_is_not e)
counted_of E (went r x p) c e = absurd (none_is_not e)

module _ (P : Program) (O : Objects) (E : List Named) (run : IsRun P (hall O) E) (fitting : AsksFitting P) (short : HasShortRequests (trace_in E)) where
  abbrev T : List TraceEvent
  T = trace_in E

  abbrev R : Report
  R = report_in E

  none_2 : second_log R ≡ None
  unfolding second_log
  none_2 = none_first _ (befores R.logs) (λ i b h.
      let back = befores_back R.logs i b h in
      none_answer _ _ (false_any (λ l. is_same l.object b.1.object) b.0 (λ k l at_k.
      let at_past : nth (take i R.logs) k ≡ Some l = ap (λ xs. nth xs k) back.1 ∙ at_k in
      let low : k < i = take_within R.logs i k l at_past in
      same_not _ true (λ e. let p : k ≡ i = one_log_of E k i l b.1 (take_nth R.logs i k l at_past) back.0 (same_object l.object b.1.object e) in omega arith))))

  none_3 : second_count R ≡ None
  unfolding second_count
  none_3 = none_first _ (befores R.counts) (λ i b h.
      let back = befores_back R.counts i b h in
      let f = from (hist.count_in E) E i b.1 back.0 in
      let fc = counted_of E f.x b.1 f.gives in
      none_answer _ _ (false_any (λ c. nat_eq c.rid b.1.rid) b.0 (λ k c at_k.
      let at_past : nth (filter_map (hist.count_in E) (take f.place E)) k ≡ Some c = ap (λ xs. nth xs k) (sym f.before ∙ back.1) ∙ at_k in
      let g = from (hist.count_in E) (take f.place E) k c at_past in
      let gc = counted_of E g.x c g.gives in
      let low : g.place < f.place = take_within E f.place g.place g.x g.here in
      ne_eqb c.rid b.1.rid (λ e.
      let p : g.place ≡ f.place = same_rank P O E run g.place f.place (came c.rid gc.0) (came b.1.rid fc.0) (take_nth E f.place g.place g.x g.here
      ∙ ap (λ x. Some x) gc.1) (f.here ∙ ap (λ x. Some x) fc.1) e refl in
      omega arith))))

  none_4 : count_of_no_request T R ≡ None
  unfolding count_of_no_request
  none_4 = none_first _ R.counts (λ i c h.
      let f = from (hist.count_in E) E i c h in
      let fc = counted_of E f.x c f.gives in
      none_answer _ _ (there_not_none (request_of T c.rid) fc.0 (request_is P O E run c.rid f.place fc.0 (f.here ∙ ap (λ x. Some x) fc.1))))

  came_in_trace : (i r : ℕ) (q : Request) → nth T i ≡ Some (Asked r q) → In E (came r q)
  came_in_trace i r q h = let f = from event_in E i (Asked r q) h in (f.place, f.here ∙ ap (λ x. Some x) (event_asked f.x r q f.gives))

  none_5 : request_without_count T R ≡ None
  unfolding request_without_count
  none_5 = none_first (if_without_count R) T each
    where
      each : (i : ℕ) (e : TraceEvent) → nth T i ≡ Some e → if_without_count R e ≡ None
      each i (Answered r x) h = refl
      each i (Asked r q) h =
          let m = came_in_trace i r q h in
          let k = in_filter (hist.count_in E) E m.0 (came r q) (record { rid = r; operations = total E r }) m.1 refl in
          none_answer _ _ (missing (first_answer (member.operations_in r) R.counts) refl k)
        where
          mine : member.operations_in r (record { rid = r; operations = total E r }) ≡ Some (total E r)
          mine = ap (λ b. cond b (Some (total E r)) None) (eq-eqb r r refl)

          missing : (o : Option ℕ) → first_answer (member.operations_in r) R.counts ≡ o
              → In R.counts (record { rid = r; operations = total E r }) → is_none o ≡ false
          missing None e k = absurd (none_is_not (sym (first_none (member.operations_in r) R.counts k.0 _ e k.1) ∙ mine))
          missing (Some n) e k = refl

  none_10 : operation_without_entry T R ≡ None
  unfolding operation_without_entry
  none_10 = none_first (if_without_entry R) T each
    where
      each : (i : ℕ) (e : TraceEvent) → nth T i ≡ Some e → if_without_entry R e ≡ None
      each i (Answered r x) h = refl
      each i (Asked r q) h =
          let m = came_in_trace i r q h in
          let w = whole P O E run m.0 (came r q) m.1 in
          let count = count_is P O E run r m.0 q m.1 in
          none_first _ (numbers 1 (count_of R r)) (λ j k at_k.
          let range = numbers_in 1 (count_of R r) k j at_k in
          let d = did_there P O E run r k w range.0 (omega (arith, range.1, count)) in
          none_answer _ _ (there_not_none (spot_of R r k) (spot_at E d.0 r k d.1 d.2) (spot_of_is P O E run d.0 r k d.1 d.2 d.3)))

  short_came : (i r : ℕ) (q : Request) → nth E i ≡ Some (came r q) → IsRequestWithinLimits q
  short_came i r q h = let m = in_filter event_in E i (came r q) (Asked r q) h refl in short m.0 r q m.1

  short_visit : (t : ℕ) (z : Hall) (r : ℕ) (v : Visit) → Now O E t z → z.visits r ≡ Some v → IsRequestWithinLimits v.0
  short_visit t z r v held visit = by (held.standing r)
    where
      by : Standing (take t E) z.arrived r (z.visits r) → IsRequestWithinLimits v.0
      by (absent none l never dids) = absurd (none_is_not (sym none ∙ visit))
      by (gone n q x p none l m dids left) = absurd (none_is_not (sym none ∙ visit))
      by (present q ans some l m dids stays) =
          subst (λ (w : Visit). IsRequestWithinLimits w.0) (some_is (sym some ∙ visit)) (short_came m.0 r q (take_nth E t m.0 (came r q) m.1))

  none_entry : (i : ℕ) (b : List Spot × Spot) → nth (befores (spots R.logs)) i ≡ Some b → entry_fault P O T R b ≡ None
  unfolding entry_fault is_of_no_request is_foreign is_uncounted is_second is_implausible is_out_of_order
  none_entry i b h =
      none_or (at_entry ForeignEntry s (is_foreign P s)) _ (none_answer (is_foreign P s) _ foreign)
      (none_or (at_entry EntryOfNoRequest s (is_of_no_request T s)) _
      (none_answer (is_of_no_request T s) _ (there_not_none (request_of T s.entry.rid) w.request in_trace))
      (none_or (at_entry UncountedEntry s (is_uncounted R s.entry)) _ (none_answer (is_uncounted R s.entry) _ inside)
      (none_or (at_entry SecondEntry s (is_second b.0 s.entry)) _ (none_answer (is_second b.0 s.entry) _ alone)
      (none_or (at_entry EntryOutOfOrder s (is_out_of_order (last s.past) s.entry)) _ (none_answer (is_out_of_order (last s.past) s.entry) _ rises)
      (none_answer (is_implausible O s) _ (not_true _ fits))))))
    where
      s : Spot
      s = b.1

      back : (nth (spots R.logs) i ≡ Some b.1) × (take i (spots R.logs) ≡ b.0)
      back = befores_back (spots R.logs) i b h

      f : SpotFrom E s
      f = spot_from E s (i, back.0)

      w : Whole P O E run f.r
      w = whole P O E run f.place (did f.r f.k f.op f.c) f.here

      at : (z : Hall) × (Now O E f.place z) × (Takes P z (did f.r f.k f.op f.c))
      at = before_each P O E run f.place (did f.r f.k f.op f.c) f.here

      fits : plausible s.entry.act s.entry.choice (left_by s.past (O s.object)) ≡ true
      fits =
          subst (λ e. plausible e.act e.choice (left_by s.past (O s.object)) ≡ true) f.entry
          (subst (λ c. plausible f.op.act f.c c ≡ true) cell at.2.4)
        where
          cell : at.0.objects f.op.object ≡ left_by s.past (O s.object)
          cell =
              at.1.objects f.op.object
              ∙ ap (λ x. left_by (log_in (take f.place E) x) (O x)) (sym f.object)
              ∙ ap (λ es. left_by es (O s.object)) (sym f.past)

      foreign : not (is_of_program P s.object s.entry.act && choice_is_of s.entry.act s.entry.choice) ≡ false
      foreign =
          let act : is_of_program P s.object s.entry.act ≡ true =
          subst (λ e. is_of_program P s.object e.act ≡ true) f.entry
          (subst (λ x. is_of_program P x f.op.act ≡ true) (sym f.object)
          (fitting at.2.0.0 at.2.0.1 f.op (short_visit f.place at.0 f.r at.2.0 at.1 at.2.1) at.2.3)) in
          not_true _ (and_from _ _ act (choice_is_fit s.entry.act s.entry.choice (left_by s.past (O s.object)) fits))

      in_trace : request_of T s.entry.rid ≡ Some w.request
      in_trace = subst (λ e. request_of T e.rid ≡ Some w.request) f.entry (request_is P O E run f.r w.comes.0 w.request w.comes.1)

      inside : (nat_eq s.entry.number 0 || nat_lt (count_of R s.entry.rid) s.entry.number) ≡ false
      inside =
          let range = did_range P O E run f.place f.r f.k f.op f.c f.here in
          let count = count_is P O E run f.r w.comes.0 w.request w.comes.1 in
          subst (λ e. (nat_eq e.number 0 || nat_lt (count_of R e.rid) e.number) ≡ false) f.entry
          (either_false (nat_eq f.k 0) (nat_lt (count_of R f.r) f.k) (ne_eqb f.k 0 (λ e. omega (arith, range.0)))
          (le-ltb (count_of R f.r) f.k (omega (arith, range.1, count))))

      alone : list_any (is_named s.entry.rid s.entry.number) b.0 ≡ false
      alone = false_any (is_named s.entry.rid s.entry.number) b.0 (λ k t at_k.
          let at_past : nth (take i (spots R.logs)) k ≡ Some t = ap (λ xs. nth xs k) back.1 ∙ at_k in
          let low : k < i = take_within (spots R.logs) i k t at_past in
          let at_t = take_nth (spots R.logs) i k t at_past in
          same_not _ true (λ e.
          let both = and_parts (nat_eq s.entry.rid t.entry.rid) (nat_eq s.entry.number t.entry.number) e in
          let is : s ≡ t = spot_once P O E run s t f (spot_from E t (k, at_t)) (eqb-true _ _ both.0) (eqb-true _ _ both.1) in
          let p : k ≡ i = apart_spots E t k i at_t (back.0 ∙ ap (λ x. Some x) is) in
          omega arith))

      rises : is_out_of_order (last s.past) s.entry ≡ false
      rises = by (last s.past) refl
        where
          by : (o : Option LogEntry) → last s.past ≡ o → is_out_of_order o s.entry ≡ false
          by None e = refl
          by (Some e) l =
              let k = last_in (log_in (take f.place E) s.object) e (ap last (sym f.past) ∙ l) in
              let g = from (hist.entry_in s.object) (take f.place E) k.0 e k.1 in
              let is = entry_some s.object g.x e g.gives in
              let low : g.place < f.place = take_within E f.place g.place g.x g.here in
              let at_g : nth E g.place ≡ Some (did is.0 is.1 is.2 is.3) = take_nth E f.place g.place g.x g.here ∙ ap (λ x. Some x) is.4 in
              subst (λ x. (nat_eq x.rid s.entry.rid && not (nat_lt x.number s.entry.number)) ≡ false) is.6
              (subst (λ y. (nat_eq is.0 y.rid && not (nat_lt is.1 y.number)) ≡ false) f.entry
              (elim (cases_eq is.0 f.r) [
                | inl p ↦ and_right (nat_eq is.0 f.r) (not (nat_lt is.1 f.k))
                    (ap not (lt-ltb is.1 f.k (later P O E run g.place f.place (did is.0 is.1 is.2 is.3) (did f.r f.k f.op f.c) at_g f.here p low)))
                | inr n ↦ and_left (nat_eq is.0 f.r) (not (nat_lt is.1 f.k)) (ne_eqb is.0 f.r n)
              ]))

  pub no_log_fault : log_fault P O T R ≡ None
  unfolding log_fault faulty_entry
  no_log_fault =
      none_or (second_log R) _ none_2 (none_or (second_count R) _ none_3
      (none_or (count_of_no_request T R) _ none_4 (none_or (request_without_count T R) _ none_5
      (none_or (first_answer (entry_fault P O T R) (befores (spots R.logs))) _
      (none_first (entry_fault P O T R) (befores (spots R.logs)) none_entry) none_10))))
