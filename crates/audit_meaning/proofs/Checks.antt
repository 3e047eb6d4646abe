-- What logs are where no check finds a fault.
use Rattle.std.proofs.Common.{◌≡◌, ℕ, zero, suc, ◌<◌, ◌≤◌, Bool, true, false, ◌&&◌, ◌||◌, not, List, take, Some, None, Option, is_none, inl, inr, refl, sym, ap, ◌∙◌, arith, true≢false, nat_eq, nat_lt}
use Rattle.std.specs.List.{list_any}
use Rattle.std.proofs.lemmas.Bool.{cases_Bool, eq-eqb, ltb-false, ltb-true, and_from, not-false}
use Rattle.script_tree.specs.Programs.{Program}
use Rattle.basis.specs.Lists.{nth, first_answer}
use Rattle.basis.proofs.Places.{any_false, nth_take}
use Rattle.audit_meaning.specs.Lists.{answer_if, befores, last}
use Rattle.script_tree.specs.Requests.{Request}
use Rattle.period.specs.declared.trace.TraceEvent.{TraceEvent}
use Rattle.period.specs.declared.report.LogEntry.{LogEntry}
use Rattle.period.specs.declared.report.Log.{Log}
use Rattle.period.specs.declared.report.Report.{Report}
use Rattle.script_tree.specs.Objects.{Objects, is_same, plausible}
use Rattle.audit_meaning.specs.Spots.{Spot, spots, count_of}
use Rattle.period.specs.LeftBy.{left_by}
use Rattle.period.specs.Traces.{request_of}
use Rattle.audit_meaning.specs.declared.reason.Reason.TheVariants.{SecondLog, ForeignEntry, EntryOfNoRequest, UncountedEntry, SecondEntry, EntryOutOfOrder}
use Rattle.audit_meaning.specs.LogFaults.{is_foreign, is_of_no_request, is_uncounted, is_second, is_implausible, is_out_of_order, at_entry, entry_fault, faulty_entry, second_log, second_count, count_of_no_request, request_without_count, log_fault}
use Rattle.audit_meaning.proofs.Places.{first_none, or_none, answer_none, befores_at}

pub is_there : {A : Type 0} (o : Option A) → is_none o ≡ false → (x : A) × (o ≡ Some x)
is_there None e = absurd (true≢false e)
is_there (Some x) e = (x, refl)

or_false : (a b : Bool) → (a || b) ≡ false → (a ≡ false) × (b ≡ false)
or_false true b e = absurd (true≢false e)
or_false false b e = (refl, e)

-- what passes all tests of one entry
pub record Passes (P : Program) (O : Objects) (T : List TraceEvent) (R : Report) (past : List Spot) (s : Spot) : Type 0 where
  pub in_trace : (q : Request) × (request_of T s.entry.rid ≡ Some q)
  pub positive : 1 ≤ s.entry.number
  pub counted : s.entry.number ≤ count_of R s.entry.rid
  pub alone : list_any (λ t. nat_eq s.entry.rid t.entry.rid && nat_eq s.entry.number t.entry.number) past ≡ false
  pub rises : (e : LogEntry) → last s.past ≡ Some e → e.rid ≡ s.entry.rid → e.number < s.entry.number
  pub fits : plausible s.entry.act s.entry.choice (left_by s.past (O s.object)) ≡ true

pub record Checked (P : Program) (O : Objects) (T : List TraceEvent) (R : Report) : Type 0 where
  pub one_each : (i j : ℕ) (l m : Log) → nth R.logs i ≡ Some l → nth R.logs j ≡ Some m → is_same l.object m.object ≡ true → i < j → ⊥
  pub passes : (j : ℕ) (s : Spot) → nth (spots R.logs) j ≡ Some s → Passes P O T R (take j (spots R.logs)) s

module _ (P : Program) (O : Objects) (T : List TraceEvent) (R : Report) where
  passed : (past : List Spot) (s : Spot) → entry_fault P O T R (past, s) ≡ None → Passes P O T R past s
  unfolding entry_fault is_of_no_request is_uncounted is_second is_implausible is_out_of_order
  passed past s h =
      let h6 = or_none (at_entry ForeignEntry s (is_foreign P s)) _ h in
      let h7 = or_none (at_entry EntryOfNoRequest s (is_of_no_request T s)) _ h6.1 in
      let h8 = or_none (at_entry UncountedEntry s (is_uncounted R s.entry)) _ h7.1 in
      let h9 = or_none (at_entry SecondEntry s (is_second past s.entry)) _ h8.1 in
      let h11 = or_none (at_entry EntryOutOfOrder s (is_out_of_order (last s.past) s.entry)) _ h9.1 in
      let range = or_false (nat_eq s.entry.number 0) (nat_lt (count_of R s.entry.rid) s.entry.number) (answer_none (is_uncounted R s.entry) _ h8.0) in
      record {
        in_trace = is_there (request_of T s.entry.rid) (answer_none _ _ h7.0);
        positive = positive s.entry.number range.0;
        counted = ltb-false (count_of R s.entry.rid) s.entry.number range.1;
        alone = answer_none (is_second past s.entry) _ h9.0;
        rises = λ e l same_request. rising e s.entry same_request
            (ap (λ o. is_out_of_order o s.entry) (sym l)
            ∙ answer_none (is_out_of_order (last s.past) s.entry) _ h11.0);
        fits = not-false _ (answer_none (is_implausible O s) _ h11.1);
      }
    where
      positive : (n : ℕ) → nat_eq n 0 ≡ false → 1 ≤ n
      positive zero e = absurd (true≢false e)
      positive (suc n) e = omega arith

      rising : (e f : LogEntry) → e.rid ≡ f.rid → is_out_of_order (Some e) f ≡ false → e.number < f.number
      rising e f same_request h = elim (cases_Bool (nat_lt e.number f.number)) [
        | inl p ↦ ltb-true e.number f.number p
        | inr p ↦ absurd (true≢false (sym (and_from (nat_eq e.rid f.rid) (not (nat_lt e.number f.number)) (eq-eqb e.rid f.rid same_request) (ap not p)) ∙ h))
      ]

  pub checked : log_fault P O T R ≡ None → Checked P O T R
  unfolding log_fault second_log faulty_entry
  checked h =
      let h2 = or_none (second_log R) _ h in
      let h3 = or_none (second_count R) _ h2.1 in
      let h4 = or_none (count_of_no_request T R) _ h3.1 in
      let h5 = or_none (request_without_count T R) _ h4.1 in
      let h6 = or_none (first_answer (entry_fault P O T R) (befores (spots R.logs))) _ h5.1 in
      record {
        one_each = λ i j l m at_i at_j eq less.
            let test : list_any (λ l. is_same l.object m.object) (take j R.logs) ≡ false =
            answer_none _ _ (first_none (λ b. answer_if (list_any (λ l. is_same l.object b.1.object) b.0) (SecondLog b.1.object)) (befores R.logs) j (take j R.logs, m) h2.0 (befores_at R.logs j m at_j)) in
            true≢false (sym eq ∙ any_false (λ l. is_same l.object m.object) (take j R.logs) i l test (nth_take R.logs j i l less at_i));
        passes = λ j s at_j. passed (take j (spots R.logs)) s
            (first_none (entry_fault P O T R) (befores (spots R.logs)) j (take j (spots R.logs), s) h6.0
            (befores_at (spots R.logs) j s at_j));
      }
