-- The map is one-to-one onto the entries of the logs.
use Rattle.std.proofs.Common.{◌≡◌, ◌∙◌, ◌+◌, ◌++◌, ◌<◌, ◌&&◌, ℕ, zero, suc, List, [], ◌∷◌, length, take, Option, Some, None, Bool, true, false, cond, is_none, nat_eq, inl, inr, refl, ap, sym, subst, arith, true≢false}
use Rattle.std.specs.Prelude.{is_some}
use Rattle.std.proofs.lemmas.Bool.{and_from, and_parts, cases_order, eq-eqb, eqb-true}
use Rattle.std.proofs.lemmas.List.{length-map, length-append}
use Rattle.basis.specs.Lists.{nth}
use Rattle.basis.proofs.Options.{some_is, none_is_not}
use Rattle.basis.proofs.Places.{any_false, first_some, nth_left, nth_take, nth_within, some_first}
use Rattle.script_tree.specs.Objects.{Objects}
use Rattle.script_tree.specs.Programs.{Program}
use Rattle.script_tree.specs.Requests.{Request}
use Rattle.period.specs.Traces.{request_in, request_of}
use Rattle.period.specs.declared.trace.TraceEvent.{TraceEvent}
use Rattle.period.specs.declared.trace.TraceEvent.TheVariants.{Asked, Answered}
use Rattle.period.specs.declared.report.Log.{Log}
use Rattle.period.specs.declared.report.LogEntry.{LogEntry}
use Rattle.period.specs.declared.report.Report.{Report}
use Rattle.audit_meaning.specs.Lists.{answer_if, befores, numbers}
use Rattle.audit_meaning.specs.LogFaults.{if_without_entry, log_fault, operation_without_entry, second_log, second_count, count_of_no_request, request_without_count, faulty_entry}
use Rattle.audit_meaning.specs.Spots.{Spot, spots, spots_in, spot_of, if_named, count_of}
use Rattle.audit_meaning.specs.declared.reason.Reason.TheVariants.{OperationWithoutEntry}
use Rattle.audit_meaning.proofs.Checks.{Passes, checked}
use Rattle.audit_meaning.proofs.Places.{answer_none, first_none, in_numbers, or_none}
use Rattle.log_checker.specs.Entries.{spot_at}
use Rattle.log_checker.specs.Finds.{IsOperation, IsEntryAt, FindsAll, MapFindsAll}
use Rattle.log_checker.specs.OpMaps.{IsMapOf, Points, place_in}
use Rattle.log_checker.specs.declared.op_map.OpMap.{OpMap}
use Rattle.log_checker.proofs.CountFacts.{befores_count}
use Rattle.log_checker.proofs.EntryFacts.{nth_spots, place_none}

-- ---- the place of an entry among all entries

nth_right : {A : Type 0} (xs ys : List A) (i : ℕ) → nth (xs ++ ys) (length xs + i) ≡ nth ys i
nth_right [] ys i = ap (nth ys) (let e : 0 + i ≡ i = omega arith in e)
nth_right (x ∷ xs) ys i = ap (nth (x ∷ (xs ++ ys))) (let e : suc (length xs) + i ≡ suc (length xs + i) = omega arith in e) ∙ nth_right xs ys i

-- how many entries stand in the logs before one
abbrev before : List Log → ℕ → ℕ
before logs l = length (spots (take l logs))

before_next : (x : Log) (logs : List Log) (l : ℕ) → before (x ∷ logs) (suc l) ≡ length (spots_in x) + before logs l
before_next x logs l = length-append (spots_in x) (spots (take l logs))

spot_index : (logs : List Log) (l i : ℕ) (log : Log) (e : LogEntry) → nth logs l ≡ Some log → nth log.entries i ≡ Some e
    → nth (spots logs) (before logs l + i) ≡ Some (spot_at log.object (take i log.entries) e)
spot_index [] l i log e at holds = absurd (none_is_not at)
spot_index (x ∷ logs) zero i log e at holds =
    ap (nth (spots_in x ++ spots logs)) (let q : before (x ∷ logs) 0 + i ≡ i = omega arith in q)
    ∙ nth_left (spots_in x) (spots logs) i _ (ap (λ y. nth (spots_in y) i) (some_is at) ∙ nth_spots log i e holds)
spot_index (x ∷ logs) (suc l) i log e at holds =
    ap (nth (spots_in x ++ spots logs))
    (let q : before (x ∷ logs) (suc l) + i ≡ length (spots_in x) + (before logs l + i) = omega (arith, before_next x logs l) in q)
    ∙ nth_right (spots_in x) (spots logs) (before logs l + i)
    ∙ spot_index logs l i log e at holds

length_spots : (log : Log) → length (spots_in log) ≡ length log.entries
length_spots log = length-map (befores log.entries) (λ b. spot_at log.object b.0 b.1) ∙ befores_count log.entries

-- entries of a log stand before those of later logs
earlier_log : (logs : List Log) (l m i : ℕ) (log : Log) → nth logs l ≡ Some log → i < length log.entries → l < m → before logs l + i < before logs m
earlier_log [] l m i log at within below = absurd (none_is_not at)
earlier_log (x ∷ logs) l zero i log at within below = absurd (omega arith)
earlier_log (x ∷ logs) zero (suc m) i log at within below =
    let size : length (spots_in x) ≡ length log.entries = ap (λ y. length (spots_in y)) (some_is at) ∙ length_spots log in
    let none : before (x ∷ logs) 0 ≡ 0 = refl in
    omega (arith, before_next x logs m, size, none)
earlier_log (x ∷ logs) (suc l) (suc m) i log at within below =
    let rest : before logs l + i < before logs m = earlier_log logs l m i log at within (omega arith) in
    omega (arith, before_next x logs l, before_next x logs m, rest)

same_place : (logs : List Log) (l m i j : ℕ) (log other : Log) → nth logs l ≡ Some log → nth logs m ≡ Some other → i < length log.entries
    → j < length other.entries
    → before logs l + i ≡ before logs m + j → (l ≡ m) × (i ≡ j)
same_place logs l m i j log other at there within inside same = elim (cases_order l m) [
  | inl p ↦ (p, (let q : before logs l ≡ before logs m = ap (before logs) p in omega (arith, q, same)))
  | inr (inl below) ↦ absurd (let h : before logs l + i < before logs m = earlier_log logs l m i log at within below in omega (arith, h, same))
  | inr (inr above) ↦ absurd (let h : before logs m + j < before logs l = earlier_log logs m l j other there inside above in omega (arith, h, same))
]

-- ---- an operation and its entry

if_named-is : (r k : ℕ) (s t : Spot) → if_named r k s ≡ Some t → (s ≡ t) × (s.entry.rid ≡ r) × (s.entry.number ≡ k)
if_named-is r k s t h = go (nat_eq r s.entry.rid && nat_eq k s.entry.number) refl h
  where
    go : (b : Bool) → (nat_eq r s.entry.rid && nat_eq k s.entry.number) ≡ b → cond b (Some s) None ≡ Some t → (s ≡ t) × (s.entry.rid ≡ r) × (s.entry.number ≡ k)
    go true e is =
        let both = and_parts (nat_eq r s.entry.rid) (nat_eq k s.entry.number) e in
        (some_is is, sym (eqb-true r s.entry.rid both.0), sym (eqb-true k s.entry.number both.1))
    go false e is = absurd (none_is_not is)

is-if_named : (r k : ℕ) (s : Spot) → s.entry.rid ≡ r → s.entry.number ≡ k → if_named r k s ≡ Some s
is-if_named r k s same_request same_number =
    ap (λ b. cond b (Some s) None)
    (and_from (nat_eq r s.entry.rid) (nat_eq k s.entry.number) (eq-eqb r s.entry.rid (sym same_request)) (eq-eqb k s.entry.number (sym same_number)))

asked_in : (r : ℕ) (e : TraceEvent) (q : Request) → request_in r e ≡ Some q → e ≡ Asked r q
asked_in r (Answered rid x) q h = absurd (none_is_not h)
asked_in r (Asked rid p) q h = go (nat_eq r rid) refl h
  where
    go : (b : Bool) → nat_eq r rid ≡ b → cond b (Some p) None ≡ Some q → Asked rid p ≡ Asked r q
    go true e is = ap (λ n. Asked n p) (sym (eqb-true r rid e)) ∙ ap (Asked r) (some_is is)
    go false e is = absurd (none_is_not is)

-- the entry of a place
abbrev EntryOf : Report → ℕ → ℕ → ℕ × ℕ → Type 0
EntryOf report r k place = (entry : LogEntry) × IsEntryAt report.logs place entry × (entry.rid ≡ r) × (entry.number ≡ k)

found_at : (report : Report) (map : OpMap) (r k : ℕ) (place : ℕ × ℕ) → IsMapOf report map → place_in map r k ≡ Some place → EntryOf report r k place
unfolding spot_of
found_at report map r k place h at =
    let points = subst (λ o. Points report.logs o (spot_of report r k)) at (h.places r k) in
    let first = first_some (if_named r k) (spots report.logs) points.0 points.1 in
    let named = if_named-is r k first.0 points.0 first.2 in
    let stands = points.2 in
    let is : first.0 ≡ spot_at stands.log.object (take place.1 stands.log.entries) stands.entry = named.0 ∙ stands.is in (
      stands.entry,
      record { log = stands.log; stands = stands.stands; holds = stands.holds },
      ap (λ s. s.entry.rid) (sym is) ∙ named.1,
      ap (λ s. s.entry.number) (sym is) ∙ named.2,
    )

operations_there : (program : Program) (start : Objects) (trace : List TraceEvent) (report : Report) → log_fault program start trace report ≡ None
    → operation_without_entry trace report ≡ None
unfolding log_fault
operations_there program start trace report h =
    let counts = or_none (second_log report) _ h in
    let of_requests = or_none (second_count report) _ counts.1 in
    let requests = or_none (count_of_no_request trace report) _ of_requests.1 in
    let entries = or_none (request_without_count trace report) _ requests.1 in
    (or_none (faulty_entry program start trace report) _ entries.1).1

there_is : {A : Type 0} (o : Option A) → is_none o ≡ false → is_some o ≡ true
there_is None h = absurd (true≢false h)
there_is (Some x) h = refl

module _ (program : Program) (start : Objects) (trace : List TraceEvent) (report : Report) (map : OpMap)
    (faultless : log_fault program start trace report ≡ None) (h : IsMapOf report map) where
  -- an entry passed its tests
  passed : (place : ℕ × ℕ) (entry : LogEntry) (at : IsEntryAt report.logs place entry)
      → Passes program start trace report (take (before report.logs place.0 + place.1) (spots report.logs))
      (spot_at at.log.object (take place.1 at.log.entries) entry)
  passed place entry at = (checked program start trace report faultless).passes (before report.logs place.0 + place.1) _
      (spot_index report.logs place.0 place.1 at.log entry at.stands at.holds)

  -- no entry of the same operation stands before it
  not_before : (p q : ℕ × ℕ) (e f : LogEntry) → IsEntryAt report.logs p e → IsEntryAt report.logs q f → e.rid ≡ f.rid → e.number ≡ f.number
      → before report.logs p.0 + p.1 < before report.logs q.0 + q.1 → ⊥
  not_before p q e f at there same_request same_number below =
      true≢false
      (sym (and_from (nat_eq f.rid e.rid) (nat_eq f.number e.number) (eq-eqb f.rid e.rid (sym same_request)) (eq-eqb f.number e.number (sym same_number)))
      ∙ any_false (λ (t : Spot). nat_eq f.rid t.entry.rid && nat_eq f.number t.entry.number) (take (before report.logs q.0 + q.1) (spots report.logs))
      (before report.logs p.0 + p.1)
      (spot_at at.log.object (take p.1 at.log.entries) e) (passed q f there).alone
      (nth_take (spots report.logs) _ _ _ below (spot_index report.logs p.0 p.1 at.log e at.stands at.holds)))

  one_place : (p q : ℕ × ℕ) (e f : LogEntry) → IsEntryAt report.logs p e → IsEntryAt report.logs q f → e.rid ≡ f.rid → e.number ≡ f.number → p ≡ q
  one_place p q e f at there same_request same_number = elim (cases_order (before report.logs p.0 + p.1) (before report.logs q.0 + q.1)) [
    | inl same ↦
        let parts = same_place report.logs p.0 q.0 p.1 q.1 at.log there.log at.stands there.stands (nth_within at.log.entries p.1 e at.holds)
        (nth_within there.log.entries q.1 f there.holds) same in
        λ j. (parts.0 j, parts.1 j)
    | inr (inl below) ↦ absurd (not_before p q e f at there same_request same_number below)
    | inr (inr above) ↦ absurd (not_before q p f e there at (sym same_request) (sym same_number) above)
  ]

  entry_found : (r k : ℕ) (place : ℕ × ℕ) → EntryOf report r k place → place_in map r k ≡ Some place
  unfolding spot_of
  entry_found r k place (entry, at, same_request, same_number) = go (place_in map r k) refl
    where
      spot : Spot
      spot = spot_at at.log.object (take place.1 at.log.entries) entry

      go : (o : Option (ℕ × ℕ)) → place_in map r k ≡ o → o ≡ Some place
      go None e = absurd (
          let there = some_first (if_named r k) (spots report.logs) (before report.logs place.0 + place.1)
          (spot_at at.log.object (take place.1 at.log.entries) entry) _
          (spot_index report.logs place.0 place.1 at.log entry at.stands at.holds)
          (is-if_named r k (spot_at at.log.object (take place.1 at.log.entries) entry) same_request same_number) in
          none_is_not (sym (subst (λ o. Points report.logs o (spot_of report r k)) e (h.places r k)) ∙ there.1)
          )
      go (Some other) e =
          let is = found_at report map r k other h e in
          ap (λ p. Some p) (one_place other place is.0 entry is.1 at (is.2 ∙ sym same_request) (is.3 ∙ sym same_number))

  operation_of : (r k : ℕ) → is_some (place_in map r k) ≡ true → IsOperation trace report r k
  operation_of r k found = go (place_in map r k) refl found
    where
      go : (o : Option (ℕ × ℕ)) → place_in map r k ≡ o → is_some o ≡ true → IsOperation trace report r k
      go None e is = absurd (true≢false (sym is))
      go (Some place) e is =
          let entry = found_at report map r k place h e in
          let passes = passed place entry.0 entry.1 in
          subst (λ n. IsOperation trace report n k) entry.2 (subst (IsOperation trace report entry.0.rid) entry.3
          (record { request = passes.in_trace.0; asked = passes.in_trace.1; positive = passes.positive; counted = passes.counted }))

  operation_found : (r k : ℕ) → IsOperation trace report r k → is_some (place_in map r k) ≡ true
  unfolding request_of operation_without_entry
  operation_found r k operation =
      let event = first_some (request_in r) trace operation.request operation.asked in
      let asked = event.1.1 ∙ ap (λ e. Some e) (asked_in r event.0 operation.request event.2) in
      let each = first_none (if_without_entry report) trace event.1.0 (Asked r operation.request)
      (operations_there program start trace report faultless) asked in
      let positive = operation.positive in
      let counted = operation.counted in
      let number = in_numbers 1 (count_of report r) k positive (omega arith) in
      let spot = answer_none (is_none (spot_of report r k)) (OperationWithoutEntry r k)
      (first_none (λ n. answer_if (is_none (spot_of report r n)) (OperationWithoutEntry r n)) (numbers 1 (count_of report r)) number.0 k each number.1) in
      there_is (place_in map r k) (place_none report map r k h ∙ spot)

  finds_all : FindsAll trace report map
  finds_all = record {
    operations = λ r k. (operation_of r k, operation_found r k);
    entries = λ r k place. (found_at report map r k place h, entry_found r k place);
    once = λ r k a b place at there.
        let e = found_at report map r k place h at in
        let f = found_at report map a b place h there in
        let log : e.1.log ≡ f.1.log = some_is (sym e.1.stands ∙ f.1.stands) in
        let same : e.0 ≡ f.0 = some_is (sym e.1.holds ∙ ap (λ l. nth l.entries place.1) log ∙ f.1.holds) in
        (sym e.2 ∙ ap (λ x. x.rid) same ∙ f.2, sym e.3 ∙ ap (λ x. x.number) same ∙ f.3);
  }

pub map_finds_all : MapFindsAll
map_finds_all program start trace report map faultless h = finds_all program start trace report map faultless h
