-- Entries, one after another.
use Rattle.std.proofs.Common.{◌≡◌, ◌∙◌, ◌<◌, ◌≤◌, ◌+◌, ◌++◌, ℕ, ℤ, zero, suc, List, [], ◌∷◌, length, take, map, Option, Some, None, Bool, true, false, ◌||◌, ◌&&◌, not, cond, is_none, nat_eq, unwrap_or, refl, ap, sym, subst, arith, append_assoc}
use Rattle.std.specs.Prelude.{option_map, is_some}
use Rattle.std.specs.List.{list_any}
use Rattle.std.proofs.lemmas.Bool.{eqb-true, and_parts}
use Rattle.std.proofs.lemmas.Grind.{flat_map-append}
use Rattle.std.proofs.lemmas.List.{append-nil, length-map, length-take-le}
use Rattle.basis.specs.Lists.{nth, or_else, first_answer}
use Rattle.basis.proofs.Options.{some_is}
use Rattle.basis.proofs.Places.{nth_within}
use Rattle.script_tree.specs.Objects.{Objects, plausible}
use Rattle.script_tree.specs.Programs.{Program}
use Rattle.script_tree.specs.Requests.{Request}
use Rattle.script_tree.specs.declared.operation.Object.{Object}
use Rattle.script_tree.specs.declared.operation.Object.TheVariants.{Register, Store, Tables, Clock, Dice}
use Rattle.period.specs.declared.trace.TraceEvent.{TraceEvent}
use Rattle.period.specs.declared.trace.TraceEvent.TheVariants.{Asked}
use Rattle.object_set.specs.ObjectSets.{HeldObjects, objects_of}
use Rattle.period.specs.declared.report.Log.{Log}
use Rattle.period.specs.declared.report.LogEntry.{LogEntry}
use Rattle.period.specs.declared.report.Report.{Report}
use Rattle.trace_index.specs.Places.{request_place}
use Rattle.audit_meaning.specs.Lists.{befores, befores_from, answer_if, numbers}
use Rattle.audit_meaning.specs.LogFaults.{at_entry, is_foreign, is_of_no_request, is_named, is_second, is_implausible, entry_fault, faulty_entry, if_without_entry, operation_without_entry}
use Rattle.audit_meaning.specs.Spots.{Spot, spots, spots_in, spot_of, if_named, count_of}
use Rattle.period.specs.LeftBy.{left_by}
use Rattle.audit_meaning.specs.declared.reason.Reason.{Reason}
use Rattle.audit_meaning.specs.declared.reason.Reason.TheVariants.{ForeignEntry, EntryOfNoRequest, UncountedEntry, SecondEntry, EntryOutOfOrder, ImplausibleEntry, OperationWithoutEntry}
use Rattle.audit_meaning.proofs.Words.{map_nth, folded_more}
use Rattle.audit_meaning.proofs.Places.{befores_at}
use Rattle.audit_meaning.proofs.Filters.{take_more, length_numbers}
use Rattle.log_checker.specs.Counting.{IsCounted}
use Rattle.log_checker.specs.Entries.{Tracks, next_reading, spot_at, Knows, fault_behind}
use Rattle.log_checker.specs.EntryFaults.{reason_at, first_wrong}
use Rattle.log_checker.specs.OpMaps.{place_in, count_in, PutsPlace, IsSpotAt, Points, IsMapOf, HavePlaces, IsFirstMissing}
use Rattle.log_checker.specs.declared.entry_fault.EntryFault.{EntryFault}
use Rattle.log_checker.specs.declared.entry_fault.EntryFault.TheVariants.{Foreign, OfNoRequest, Uncounted, Second, OutOfOrder, Implausible}
use Rattle.log_checker.specs.declared.op_map.OpMap.{OpMap}
use Rattle.log_checker.proofs.CountFacts.{befores_count}
use Rattle.log_checker.proofs.EntryTests.{fits_both, tracks_on}
use Rattle.log_checker.proofs.Firsts.{NoneBelow, found, none_all, none_more, answers, silent, first_one, first_more, first_both, befores_both, cut_at}
use Rattle.log_checker.proofs.Tables.{all_taken}
use Rattle.log_checker.proofs.Tests.{eq_sym, none_result, place_tells}

-- ---- the first of six tests

-- the fault of the first test that passes
abbrev pub first_of : Bool → Bool → Bool → Bool → Bool → Bool → Option EntryFault
first_of a b c d e f =
    or_else (answer_if a Foreign) (or_else (answer_if b OfNoRequest) (or_else (answer_if c Uncounted)
    (or_else (answer_if d Second) (or_else (answer_if e OutOfOrder) (answer_if f Implausible)))))

pub at_first : (a b c d e f : Bool) → a ≡ true → Some Foreign ≡ first_of a b c d e f
unfolding or_else answer_if
at_first a b c d e f ta = rw ta refl

pub at_second : (a b c d e f : Bool) → a ≡ false → b ≡ true → Some OfNoRequest ≡ first_of a b c d e f
unfolding or_else answer_if
at_second a b c d e f na tb = rw (na, tb) refl

pub at_third : (a b c d e f : Bool) → a ≡ false → b ≡ false → c ≡ true → Some Uncounted ≡ first_of a b c d e f
unfolding or_else answer_if
at_third a b c d e f na nb tc = rw (na, nb, tc) refl

pub at_fourth : (a b c d e f : Bool) → a ≡ false → b ≡ false → c ≡ false → d ≡ true → Some Second ≡ first_of a b c d e f
unfolding or_else answer_if
at_fourth a b c d e f na nb nc td = rw (na, nb, nc, td) refl

pub at_fifth : (a b c d e f : Bool) → a ≡ false → b ≡ false → c ≡ false → d ≡ false → e ≡ true → Some OutOfOrder ≡ first_of a b c d e f
unfolding or_else answer_if
at_fifth a b c d e f na nb nc nd te = rw (na, nb, nc, nd, te) refl

pub at_sixth : (a b c d e f : Bool) → a ≡ false → b ≡ false → c ≡ false → d ≡ false → e ≡ false → f ≡ true → Some Implausible ≡ first_of a b c d e f
unfolding or_else answer_if
at_sixth a b c d e f na nb nc nd ne tf = rw (na, nb, nc, nd, ne, tf) refl

pub at_none : (a b c d e f : Bool) → a ≡ false → b ≡ false → c ≡ false → d ≡ false → e ≡ false → f ≡ false → None ≡ first_of a b c d e f
unfolding or_else answer_if
at_none a b c d e f na nb nc nd ne nf = rw (na, nb, nc, nd, ne, nf) refl

-- with none of them, the first and the fourth say no
none_first_two : (a b c d e f : Bool) → None ≡ first_of a b c d e f → (a ≡ false) × (d ≡ false)
unfolding or_else answer_if
none_first_two true b c d e f h = absurd (cc)
none_first_two false true c d e f h = absurd (cc)
none_first_two false false true d e f h = absurd (cc)
none_first_two false false false true e f h = absurd (cc)
none_first_two false false false false e f h = (refl, refl)

abbrev reason_of : Spot → EntryFault → Reason
reason_of spot fault = reason_at fault spot.object (length spot.past)

chosen : (spot : Spot) (a b c d e f : Bool)
    → or_else (at_entry ForeignEntry spot a) (or_else (at_entry EntryOfNoRequest spot b) (or_else (at_entry UncountedEntry spot c)
    (or_else (at_entry SecondEntry spot d) (or_else (at_entry EntryOutOfOrder spot e) (at_entry ImplausibleEntry spot f)))))
    ≡ option_map (reason_of spot) (first_of a b c d e f)
unfolding answer_if or_else
chosen spot true b c d e f = refl
chosen spot false true c d e f = refl
chosen spot false false true d e f = refl
chosen spot false false false true e f = refl
chosen spot false false false false true f = refl
chosen spot false false false false false true = refl
chosen spot false false false false false false = refl

fault_is : (program : Program) (start : Objects) (trace : List TraceEvent) (report : Report) (earlier : List Spot) (spot : Spot)
    → entry_fault program start trace report (earlier, spot) ≡ option_map (reason_of spot) (first_wrong program start trace report earlier spot)
unfolding entry_fault
fault_is program start trace report earlier spot = chosen spot _ _ _ _ _ _

-- ---- the tests

pub unasked : (trace : List TraceEvent) (spot : Spot) (place : Option ℕ) (b : Bool) → place ≡ request_place trace spot.entry.rid → is_some place ≡ not b
    → b ≡ is_of_no_request trace spot
unfolding is_of_no_request
unasked trace spot place b at e = none_result b place e ∙ ap is_none at ∙ place_tells trace spot.entry.rid

pub implausible_is : (start : Objects) (spot : Spot) (b : Bool) → b ≡ plausible spot.entry.act spot.entry.choice (left_by spot.past (start spot.object))
    → not b ≡ is_implausible start spot
unfolding is_implausible
implausible_is start spot b e = ap not e

points_none : (logs : List Log) (o : Option (ℕ × ℕ)) (s : Option Spot) → Points logs o s → is_none o ≡ is_none s
points_none logs None s h = ap is_none (sym h)
points_none logs (Some place) s h = ap is_none (sym h.1)

pub place_none : (report : Report) (map : OpMap) (r k : ℕ) → IsMapOf report map → is_none (place_in map r k) ≡ is_none (spot_of report r k)
place_none report map r k h = points_none report.logs (place_in map r k) (spot_of report r k) (h.places r k)

named_any : (r k : ℕ) (earlier : List Spot) → is_none (first_answer (if_named r k) earlier) ≡ not (list_any (is_named r k) earlier)
unfolding first_answer or_else
named_any r k [] = refl
named_any r k (s ∷ earlier) = go (nat_eq r s.entry.rid && nat_eq k s.entry.number) (named_any r k earlier)
  where
    go : (b : Bool) → is_none (first_answer (if_named r k) earlier) ≡ not (list_any (is_named r k) earlier)
        → is_none (or_else (cond b (Some s) None) (first_answer (if_named r k) earlier)) ≡ not (b || list_any (is_named r k) earlier)
    go true h = refl
    go false h = h

pub second_is : (report : Report) (earlier : List Spot) (map : OpMap) (entry : LogEntry) (b c : Bool) → Knows report earlier map
    → b ≡ is_none (place_in map entry.rid entry.number) → not b ≡ c → is_second earlier entry ≡ c
unfolding is_second
second_is report earlier map entry b c h e n =
    flip b (list_any (is_named entry.rid entry.number) earlier)
    (e ∙ points_none report.logs (place_in map entry.rid entry.number) (first_answer (if_named entry.rid entry.number) earlier)
    (h.places entry.rid entry.number) ∙ named_any entry.rid entry.number earlier) ∙ n
  where
    flip : (a b : Bool) → a ≡ not b → b ≡ not a
    flip a true e = sym (ap not e)
    flip a false e = sym (ap not e)

absent_named : (report : Report) (earlier : List Spot) (entry : LogEntry) → is_second earlier entry ≡ false
    → first_answer (if_named entry.rid entry.number) earlier ≡ None
unfolding is_second
absent_named report earlier entry h = go (first_answer (if_named entry.rid entry.number) earlier) (named_any entry.rid entry.number earlier ∙ ap not h)
  where
    go : (o : Option Spot) → is_none o ≡ true → o ≡ None
    go None e = refl
    go (Some x) e = absurd (cc)

-- ---- one entry more

both_true : (a b c d : ℕ) → (nat_eq a c && nat_eq b d) ≡ true → (a ≡ c) × (b ≡ d)
both_true a b c d h = (eqb-true a c (and_parts (nat_eq a c) (nat_eq b d) h).0, eqb-true b d (and_parts (nat_eq a c) (nat_eq b d) h).1)

pub knows_more : (report : Report) (earlier : List Spot) (old new : OpMap) (place : ℕ × ℕ) (spot : Spot) → Knows report earlier old
    → IsSpotAt report.logs place spot → is_second earlier spot.entry ≡ false
    → PutsPlace spot.entry.rid spot.entry.number place old new → new.counts ≡ old.counts → Knows report (earlier ++ spot ∷ []) new
unfolding or_else
knows_more report earlier old new place spot h at once puts same = record {
  counts = subst (IsCounted report) (sym same) h.counts;
  places = λ a b. subst (λ o. Points report.logs o (first_answer (if_named a b) (earlier ++ spot ∷ []))) (sym (puts a b))
      (subst (λ s. Points report.logs (cond (nat_eq r a && nat_eq k b) (Some place) (place_in old a b)) s) (sym (first_more (if_named a b) earlier spot))
      (go a b (nat_eq r a && nat_eq k b) refl (nat_eq a r && nat_eq b k) (turned a b)));
}
  where
    r : ℕ
    r = spot.entry.rid

    k : ℕ
    k = spot.entry.number

    turned : (a b : ℕ) → (nat_eq r a && nat_eq k b) ≡ (nat_eq a r && nat_eq b k)
    turned a b = ap (λ t. t && nat_eq k b) (eq_sym r a) ∙ ap (λ t. nat_eq a r && t) (eq_sym k b)

    go : (a b : ℕ) (t : Bool) → (nat_eq r a && nat_eq k b) ≡ t → (u : Bool) → (nat_eq r a && nat_eq k b) ≡ u
        → Points report.logs (cond t (Some place) (place_in old a b)) (or_else (first_answer (if_named a b) earlier) (cond u (Some spot) None))
    go a b true e true f =
        let same = both_true r k a b e in
        let none : first_answer (if_named a b) earlier ≡ None =
        subst (λ x. first_answer (if_named x b) earlier ≡ None) same.0
        (subst (λ y. first_answer (if_named r y) earlier ≡ None) same.1 (absent_named report earlier spot.entry once)) in
        (spot, ap (λ o. or_else o (Some spot)) none, at)
    go a b true e false f = absurd (cc)
    go a b false e true f = absurd (cc)
    go a b false e false f = subst (Points report.logs (place_in old a b)) (sym (right (first_answer (if_named a b) earlier))) (h.places a b)
      where
        right : (o : Option Spot) → or_else o None ≡ o
        right None = refl
        right (Some x) = refl

pub nth_spots : (log : Log) (n : ℕ) (e : LogEntry) → nth log.entries n ≡ Some e → nth (spots_in log) n ≡ Some (spot_at log.object (take n log.entries) e)
nth_spots log n e at = map_nth (λ b. spot_at log.object b.0 b.1) (befores log.entries) n (take n log.entries, e) (befores_at log.entries n e at)

-- what is known after n entries of a log
pub record LogRead (program : Program) (start : Objects) (trace : List TraceEvent) (report : Report) (earlier : List Spot) (log : Log) (n : ℕ) (map : OpMap)
    (time : ℤ) : Type 0 where
  pub none : fault_behind program start trace report earlier (take n (spots_in log)) ≡ None
  pub knows : Knows report (earlier ++ take n (spots_in log)) map
  pub tracks : Tracks log.object time (left_by (take n log.entries) (start log.object))

fault_more : (program : Program) (start : Objects) (trace : List TraceEvent) (report : Report) (earlier spots : List Spot) (spot : Spot)
    → fault_behind program start trace report earlier spots ≡ None
    → fault_behind program start trace report earlier (spots ++ spot ∷ []) ≡ entry_fault program start trace report (earlier ++ spots, spot)
unfolding or_else
fault_more program start trace report earlier spots spot none =
    let f = entry_fault program start trace report in
    ap (first_answer f) (befores_both earlier spots (spot ∷ []))
    ∙ first_both f (befores_from earlier spots) ((earlier ++ spots, spot) ∷ [])
    ∙ ap (λ o. or_else o (first_answer f ((earlier ++ spots, spot) ∷ []))) none
    ∙ first_one f (earlier ++ spots, spot)

fault_beyond : (program : Program) (start : Objects) (trace : List TraceEvent) (report : Report) (earlier xs ys : List Spot) (r : Reason)
    → fault_behind program start trace report earlier xs ≡ Some r
    → fault_behind program start trace report earlier (xs ++ ys) ≡ Some r
unfolding or_else
fault_beyond program start trace report earlier xs ys r h =
    let f = entry_fault program start trace report in
    ap (first_answer f) (befores_both earlier xs ys)
    ∙ first_both f (befores_from earlier xs) (befores_from (earlier ++ xs) ys)
    ∙ ap (λ o. or_else o (first_answer f (befores_from (earlier ++ xs) ys))) h

fault_after : (program : Program) (start : Objects) (trace : List TraceEvent) (report : Report) (earlier xs ys : List Spot) (o : Option Reason)
    → fault_behind program start trace report earlier xs ≡ None
    → fault_behind program start trace report (earlier ++ xs) ys ≡ o → fault_behind program start trace report earlier (xs ++ ys) ≡ o
unfolding or_else
fault_after program start trace report earlier xs ys o none h =
    let f = entry_fault program start trace report in
    ap (first_answer f) (befores_both earlier xs ys)
    ∙ first_both f (befores_from earlier xs) (befores_from (earlier ++ xs) ys)
    ∙ ap (λ o. or_else o (first_answer f (befores_from (earlier ++ xs) ys))) none
    ∙ h

pub next_take : {A : Type 0} (xs : List A) (n : ℕ) (x : A) → nth xs n ≡ Some x → take (n + 1) xs ≡ take n xs ++ x ∷ []
next_take xs n x at = ap (λ k. take k xs) (let e : n + 1 ≡ suc n = omega arith in e) ∙ take_more xs n x at

pub read_more : (program : Program) (start : Objects) (trace : List TraceEvent) (report : Report) (earlier : List Spot) (log : Log) (number n : ℕ)
    (old new : OpMap) (time : ℤ) (e : LogEntry)
    → LogRead program start trace report earlier log n old time → nth report.logs number ≡ Some log → nth log.entries n ≡ Some e
    → None ≡ first_wrong program start trace report (earlier ++ take n (spots_in log)) (spot_at log.object (take n log.entries) e)
    → PutsPlace e.rid e.number (number, n) old new → new.counts ≡ old.counts
    → LogRead program start trace report earlier log (n + 1) new (next_reading time e.choice)
read_more program start trace report earlier log number n old new time e h stands at right puts same =
    let spot = spot_at log.object (take n log.entries) e in
    let before = earlier ++ take n (spots_in log) in
    let next = next_take (spots_in log) n spot (nth_spots log n e at) in
    let tests = none_first_two (is_foreign program spot) _ _ (is_second before e) _ _ right in
    let fit = fits_both program spot tests.0 in
    record {
      none =
          ap (fault_behind program start trace report earlier) next
          ∙ fault_more program start trace report earlier (take n (spots_in log)) spot h.none
          ∙ fault_is program start trace report before spot
          ∙ ap (option_map (reason_of spot)) (sym right);
      knows = subst (λ xs. Knows report xs new) (append_assoc earlier (take n (spots_in log)) (spot ∷ []) ∙ ap (λ xs. earlier ++ xs) (sym next))
          (knows_more report before old new (number, n) spot h.knows
          (record { log = log; stands = stands; entry = e; holds = at; is = refl }) tests.1 puts same);
      tracks = subst (Tracks log.object (next_reading time e.choice))
          (sym (ap (λ k. left_by (take k log.entries) (start log.object)) (let q : n + 1 ≡ suc n = omega arith in q)
          ∙ folded_more log.entries n e (start log.object) at))
          (tracks_on program log.object e.act e.choice time (left_by (take n log.entries) (start log.object)) fit.0 fit.1 h.tracks);
    }

pub read_wrong : (program : Program) (start : Objects) (trace : List TraceEvent) (report : Report) (earlier : List Spot) (log : Log) (n : ℕ)
    (fault : EntryFault) (map : OpMap) (time : ℤ) (e : LogEntry)
    → LogRead program start trace report earlier log n map time → nth log.entries n ≡ Some e
    → Some fault ≡ first_wrong program start trace report (earlier ++ take n (spots_in log)) (spot_at log.object (take n log.entries) e)
    → fault_behind program start trace report earlier (spots_in log) ≡ Some (reason_at fault log.object n)
read_wrong program start trace report earlier log n fault map time e h at wrong =
    let spot = spot_at log.object (take n log.entries) e in
    let before = earlier ++ take n (spots_in log) in
    let cut = cut_at (spots_in log) n spot (nth_spots log n e at) in
    ap (fault_behind program start trace report earlier) (cut.1 ∙ sym (append_assoc (take n (spots_in log)) (spot ∷ []) cut.0))
    ∙ fault_beyond program start trace report earlier (take n (spots_in log) ++ spot ∷ []) cut.0 (reason_at fault log.object n)
    (fault_more program start trace report earlier (take n (spots_in log)) spot h.none
    ∙ fault_is program start trace report before spot
    ∙ ap (option_map (reason_of spot)) (sym wrong)
    ∙ ap (λ m. Some (reason_at fault log.object m)) (length-take-le n log.entries (let w = nth_within log.entries n e at in omega arith)))

pub read_start : (program : Program) (start : Objects) (trace : List TraceEvent) (report : Report) (earlier : List Spot) (log : Log) (map : OpMap) (time : ℤ)
    → Knows report earlier map → Tracks log.object time (start log.object)
    → LogRead program start trace report earlier log 0 map time
unfolding first_answer
read_start program start trace report earlier log map time knows tracks = record {
  none = refl;
  knows = subst (λ xs. Knows report xs map) (sym (append-nil earlier)) knows;
  tracks = tracks;
}

pub read_all : (program : Program) (start : Objects) (trace : List TraceEvent) (report : Report) (earlier : List Spot) (log : Log) (n : ℕ) (map : OpMap)
    (time : ℤ) → n ≡ length log.entries
    → LogRead program start trace report earlier log n map time
    → (fault_behind program start trace report earlier (spots_in log) ≡ None) × Knows report (earlier ++ spots_in log) map
read_all program start trace report earlier log n map time e h =
    let all : take n (spots_in log) ≡ spots_in log =
    all_taken (spots_in log) n (e ∙ sym (length-map (befores log.entries) (λ b. spot_at log.object b.0 b.1) ∙ befores_count log.entries)) in
    (ap (fault_behind program start trace report earlier) (sym all) ∙ h.none, subst (λ xs. Knows report (earlier ++ xs) map) all h.knows)

-- ---- one log more

spots_both : (xs ys : List Log) → spots (xs ++ ys) ≡ spots xs ++ spots ys
spots_both xs ys = flat_map-append spots_in xs ys

pub spots_next : (logs : List Log) (n : ℕ) (log : Log) → nth logs n ≡ Some log → spots (take (n + 1) logs) ≡ spots (take n logs) ++ spots_in log
spots_next logs n log at = ap spots (next_take logs n log at) ∙ spots_both (take n logs) (log ∷ [])
    ∙ ap (λ xs. spots (take n logs) ++ xs) (append-nil (spots_in log))

pub spots_cut : (logs : List Log) (n : ℕ) (log : Log) → nth logs n ≡ Some log
    → (rest : List Spot) × (spots logs ≡ (spots (take n logs) ++ spots_in log) ++ rest)
spots_cut logs n log at =
    let cut = cut_at logs n log at in
    (spots cut.0, ap spots cut.1 ∙ spots_both (take n logs) (log ∷ cut.0) ∙ sym (append_assoc (spots (take n logs)) (spots_in log) (spots cut.0)))

-- what is known after n logs
pub record LogsRead (program : Program) (start : Objects) (trace : List TraceEvent) (report : Report) (n : ℕ) (map : OpMap) : Type 0 where
  pub none : fault_behind program start trace report [] (spots (take n report.logs)) ≡ None
  pub knows : Knows report (spots (take n report.logs)) map

pub logs_more : (program : Program) (start : Objects) (trace : List TraceEvent) (report : Report) (n : ℕ) (log : Log) (old new : OpMap)
    → LogsRead program start trace report n old → nth report.logs n ≡ Some log
    → (fault_behind program start trace report (spots (take n report.logs)) (spots_in log) ≡ None) × Knows report
    (spots (take n report.logs) ++ spots_in log) new → LogsRead program start trace report (n + 1) new
logs_more program start trace report n log old new h at (none, knows) =
    let next = spots_next report.logs n log at in
    record {
      none = ap (fault_behind program start trace report []) next
          ∙ fault_after program start trace report [] (spots (take n report.logs)) (spots_in log) None h.none none;
      knows = subst (λ xs. Knows report xs new) (sym next) knows;
    }

pub logs_wrong : (program : Program) (start : Objects) (trace : List TraceEvent) (report : Report) (n : ℕ) (log : Log) (map : OpMap) (r : Reason)
    → LogsRead program start trace report n map → nth report.logs n ≡ Some log
    → fault_behind program start trace report (spots (take n report.logs)) (spots_in log) ≡ Some r → faulty_entry program start trace report ≡ Some r
unfolding faulty_entry
logs_wrong program start trace report n log map r h at wrong =
    let cut = spots_cut report.logs n log at in
    ap (fault_behind program start trace report []) cut.1
    ∙ fault_beyond program start trace report [] (spots (take n report.logs) ++ spots_in log) cut.0 r
    (fault_after program start trace report [] (spots (take n report.logs)) (spots_in log) (Some r) h.none wrong)

pub logs_all : (program : Program) (start : Objects) (trace : List TraceEvent) (report : Report) (n : ℕ) (map : OpMap) → n ≡ length report.logs
    → LogsRead program start trace report n map
    → (faulty_entry program start trace report ≡ None) × Knows report (spots report.logs) map
unfolding faulty_entry
logs_all program start trace report n map e h =
    let all : take n report.logs ≡ report.logs = all_taken report.logs n e in
    (ap (λ logs. fault_behind program start trace report [] (spots logs)) (sym all) ∙ h.none, subst (λ logs. Knows report (spots logs) map) all h.knows)

pub logs_start : (program : Program) (start : Objects) (trace : List TraceEvent) (report : Report) (map : OpMap) → IsCounted report map.counts
    → ((r k : ℕ) → place_in map r k ≡ None) → LogsRead program start trace report 0 map
unfolding first_answer
logs_start program start trace report map counted empty = record {
  none = refl;
  knows = record { counts = counted; places = λ r k. subst (λ o. Points report.logs o (first_answer (if_named r k) [])) (sym (empty r k)) refl };
}

pub map_of : (report : Report) (map : OpMap) → Knows report (spots report.logs) map → IsMapOf report map
unfolding spot_of
map_of report map h = record { counts = h.counts; places = h.places }

-- before any entry of a log
pub clock_tracks : (h : HeldObjects) (object : Object) → Tracks object h.clock (objects_of h object)
clock_tracks h (Register x) = tt
clock_tracks h (Store s) = tt
clock_tracks h Tables = tt
clock_tracks h Clock = refl
clock_tracks h Dice = refl

-- ---- operations without entries

nth_numbers : (k n i : ℕ) → i < n → nth (numbers k n) i ≡ Some (k + i)
nth_numbers k zero i lt = absurd (omega arith)
nth_numbers k (suc n) zero lt = ap (λ m. Some m) (let e : k ≡ k + 0 = omega arith in e)
nth_numbers k (suc n) (suc i) lt = nth_numbers (suc k) n i (omega arith) ∙ ap (λ m. Some m) (let e : suc k + i ≡ k + suc i = omega arith in e)

abbrev if_missing : Report → ℕ → ℕ → Option Reason
if_missing report r k = answer_if (is_none (spot_of report r k)) (OperationWithoutEntry r k)

-- the numbers below n have entries
no_missing : (report : Report) (map : OpMap) (r n m : ℕ) → n ≤ m → IsMapOf report map → HavePlaces map r n → NoneBelow (if_missing report r) (numbers 1 m) n
no_missing report map r n m le h places i k lt at =
    let is : k ≡ 1 + i = sym (some_is (sym (nth_numbers 1 m i (omega arith)) ∙ at)) in
    silent _ _ (ap (λ x. is_none (spot_of report r x)) is ∙ sym (place_none report map r (1 + i) h) ∙ places i lt)

pub missing_is : (trace : List TraceEvent) (report : Report) (map : OpMap) (place r k : ℕ) (q : Request) → IsMapOf report map
    → NoneBelow (if_without_entry report) trace place → nth trace place ≡ Some (Asked r q)
    → IsFirstMissing map r (count_in map r) (Some k) → operation_without_entry trace report ≡ Some (OperationWithoutEntry r k)
unfolding operation_without_entry count_of
missing_is trace report map place r k q h none at (i, lt, is, absent, before) =
    let count : count_in map r ≡ count_of report r = ap (λ o. unwrap_or o 0) (h.counts r) in
    let within : i < count_of report r = omega (arith, count, lt) in
    found (if_without_entry report) trace place (Asked r q) (OperationWithoutEntry r k) none at
    (found (if_missing report r) (numbers 1 (count_of report r)) i k (OperationWithoutEntry r k)
    (no_missing report map r i (count_of report r) (omega arith) h before)
    (nth_numbers 1 (count_of report r) i within ∙ ap (λ m. Some m) (sym is))
    (answers _ _ (ap (λ x. is_none (spot_of report r x)) is ∙ sym (place_none report map r (1 + i) h) ∙ ap is_none absent)))

pub missing_none : (trace : List TraceEvent) (report : Report) (map : OpMap) (place r : ℕ) (q : Request) → IsMapOf report map
    → NoneBelow (if_without_entry report) trace place → nth trace place ≡ Some (Asked r q)
    → IsFirstMissing map r (count_in map r) None → NoneBelow (if_without_entry report) trace (place + 1)
unfolding count_of
missing_none trace report map place r q h none at places =
    let count : count_in map r ≡ count_of report r = ap (λ o. unwrap_or o 0) (h.counts r) in
    let all : HavePlaces map r (length (numbers 1 (count_of report r))) =
    subst (HavePlaces map r) (count ∙ sym (length_numbers 1 (count_of report r))) places in
    none_more (if_without_entry report) trace place (Asked r q) none at
    (none_all (if_missing report r) (numbers 1 (count_of report r))
    (no_missing report map r (length (numbers 1 (count_of report r))) (count_of report r) (omega (arith, length_numbers 1 (count_of report r))) h all))

pub all_there : (trace : List TraceEvent) (report : Report) (n : ℕ) → n ≡ length trace → NoneBelow (if_without_entry report) trace n
    → operation_without_entry trace report ≡ None
unfolding operation_without_entry
all_there trace report n e none = none_all (if_without_entry report) trace (λ k x lt at. none k x (omega arith) at)
