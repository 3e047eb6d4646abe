-- An accepted report has room for the moments of its schedule.
use Rattle.std.proofs.Common.{◌≡◌, ◌∙◌, ℕ, zero, suc, ◌+◌, ◌*◌, ◌<◌, ◌≤◌, Bool, true, false, cond, List, [], ◌∷◌, ◌++◌, length, take, map, flat_map, Option, Some, None, inl, inr, refl, sym, ap, subst, arith, true≢false, nat_eq}
use Rattle.std.specs.List.{list_any}
use Rattle.std.specs.Prelude.{is_none}
use Rattle.std.proofs.lemmas.Bool.{cases_lt, cases_order, eqb-true, eq-eqb, not-false}
use Rattle.std.proofs.lemmas.List.{length-map}
use Rattle.std.proofs.lemmas.List.Recursion.{is_count_by}
use Rattle.basis.specs.Lists.{nth, first_answer, or_else}
use Rattle.basis.proofs.Options.{some_is, none_is_not}
use Rattle.basis.proofs.Places.{In, any_false, any_true, first_some, nth_take}
use Rattle.script_tree.specs.Objects.{Objects}
use Rattle.script_tree.specs.Programs.{Program}
use Rattle.script_tree.specs.Requests.{Request}
use Rattle.period.specs.Traces.{request_of}
use Rattle.period.specs.declared.schedule.Moment.{Moment}
use Rattle.period.specs.declared.schedule.Moment.TheVariants as at
use Rattle.period.specs.declared.trace.TraceEvent.{TraceEvent}
use Rattle.period.specs.declared.trace.TraceEvent.TheVariants.{Asked, Answered}
use Rattle.trace_format.specs.Events.{is_request, request_count}
use Rattle.period.specs.declared.report.Count.{Count}
use Rattle.period.specs.declared.report.Log.{Log}
use Rattle.period.specs.declared.report.LogEntry.{LogEntry}
use Rattle.period.specs.declared.report.Report.{Report}
use Rattle.audit_meaning.specs.Edges.{edges}
use Rattle.audit_meaning.specs.GroupFaults.{grouping_fault, if_without_group, member_of_no_request, members, request_without_group, second_member}
use Rattle.audit_meaning.specs.Groups.{unsound_group}
use Rattle.audit_meaning.specs.Lists.{answer_if, befores, befores_from, numbers}
use Rattle.audit_meaning.specs.LogFaults.{count_of_no_request, faulty_entry, if_without_count, if_without_entry, log_fault, operation_without_entry, request_without_count, second_count, second_log}
use Rattle.audit_meaning.specs.Nodes.{choice_at, moment, node_at, node_of, nodes, nodes_in}
use Rattle.audit_meaning.specs.declared.node.Node.{Node}
use Rattle.audit_meaning.specs.declared.node.Node.TheVariants.{Number as step, End as close}
use Rattle.audit_meaning.specs.Orders.{order_of}
use Rattle.audit_meaning.specs.Spots.{Spot, count_of, operations_in, spot_of, spots, spots_in}
use Rattle.audit_meaning.specs.Verdicts.{judged, verdict}
use Rattle.audit_meaning.specs.declared.verdict.Verdict.{Verdict}
use Rattle.audit_meaning.specs.declared.verdict.Verdict.TheVariants.{Accepted, Rejected}
use Rattle.audit_meaning.specs.declared.reason.Reason.{Reason}
use Rattle.audit_meaning.specs.declared.reason.Reason.TheVariants.{CountOfNoRequest, OperationWithoutEntry, SecondCount}
use Rattle.audit_meaning.proofs.Checks.{Checked, checked, is_there}
use Rattle.audit_meaning.proofs.GraphOrder.{AskedOnce, apart_nodes, node_in_event, request_there}
use Rattle.audit_meaning.proofs.Logs.{found}
use Rattle.audit_meaning.proofs.Orders.{OrderOf, ordered_is}
use Rattle.audit_meaning.proofs.Places.{Apart, answer_none, apart_flat, befores_at, first_none, in_flat, in_flat_back, in_left, in_map, in_numbers, in_right, or_none}
use Rattle.audit_meaning.proofs.Words.{node_at-close, node_at-step, nth_map, step_request}
use Rattle.wire.specs.Files.{file_spelling}
use Rattle.wire.specs.declared.limits.TheConstants.{MOST_SCHEDULE_BYTES}
use Rattle.schedule_format.specs.Moments.{schedule_format}
use Rattle.audit_completeness.specs.Fits.{ScheduleFits}
use Rattle.audit_completeness.proofs.Bytes.{entry_bytes, log_bytes, member_count, moment_bytes, report_least, schedule_is}
use Rattle.audit_completeness.proofs.Totals.{total, total_append, total_flat, total_map, total_ones, total_within}

-- ---- what an accepted report says

abbrev IsAccepted : Verdict → Type 0
IsAccepted (Accepted schedule evaluated steps) = Unit {0}
IsAccepted (Rejected reason) = ⊥

abbrev schedule_in : Verdict → List Moment
schedule_in (Accepted schedule evaluated steps) = schedule
schedule_in (Rejected reason) = []

pub accepted_parts : (a : Option Reason) (c : List Node) (n : Option (List Node)) (l : Option Reason) (report : Report)
    (evaluated steps : ℕ) (schedule : List Moment) (v k : ℕ)
    → judged a c n l report evaluated steps ≡ Accepted schedule v k
    → (xs : List Node) × (a ≡ None) × (n ≡ Some xs) × (l ≡ None) × (map (moment report) xs ≡ schedule)
accepted_parts (Some r) c n l report evaluated steps schedule v k e = absurd (subst IsAccepted (sym e) tt)
accepted_parts None c None l report evaluated steps schedule v k e = absurd (subst IsAccepted (sym e) tt)
accepted_parts None c (Some xs) (Some r) report evaluated steps schedule v k e = absurd (subst IsAccepted (sym e) tt)
accepted_parts None c (Some xs) None report evaluated steps schedule v k e = (xs, refl, refl, refl, ap schedule_in e)

-- ---- ids

-- the ids of the requests of a trace
id_in : TraceEvent → List ℕ
id_in (Asked r q) = r ∷ []
id_in (Answered r x) = []

ids : List TraceEvent → List ℕ
ids trace = flat_map id_in trace

ids_counted : (trace : List TraceEvent) → length (ids trace) ≡ request_count trace
unfolding ids id_in
ids_counted trace = is_count_by (λ es. length (ids es)) is_request refl each trace
  where
    each : (e : TraceEvent) (es : List TraceEvent) → length (ids (e ∷ es)) ≡ cond (is_request e) (1 + length (ids es)) (length (ids es))
    each (Asked r q) es = omega arith
    each (Answered r x) es = refl

in_id : (e : TraceEvent) (r : ℕ) → In (id_in e) r → (q : Request) × (e ≡ Asked r q)
unfolding id_in
in_id (Asked a q) r (zero, e) = (q, ap (λ n. Asked n q) (some_is e))
in_id (Asked a q) r (suc i, e) = absurd (none_is_not e)
in_id (Answered a x) r (i, e) = absurd (none_is_not e)

one_id : (e : TraceEvent) → Apart (id_in e)
unfolding id_in
one_id (Asked a q) x zero zero p r = refl
one_id (Asked a q) x zero (suc j) p r = absurd (none_is_not r)
one_id (Asked a q) x (suc i) j p r = absurd (none_is_not p)
one_id (Answered a y) x i j p r = absurd (none_is_not p)

apart_ids : (trace : List TraceEvent) → AskedOnce trace → Apart (ids trace)
unfolding ids
apart_ids trace once = apart_flat id_in trace (λ i e at_i. one_id e) (λ i j x y b at_i at_j m n.
    let p = in_id x b m in
    let q = in_id y b n in
    once b i j p.0 q.0 (at_i ∙ ap (λ e. Some e) p.1) (at_j ∙ ap (λ e. Some e) q.1))

id_there : (trace : List TraceEvent) (r i : ℕ) (q : Request) → nth trace i ≡ Some (Asked r q) → In (ids trace) r
unfolding ids id_in
id_there trace r i q at_i = in_flat id_in trace (Asked r q) r i at_i (0, refl)

id_back : (trace : List TraceEvent) (r : ℕ) → In (ids trace) r → (q : Request) × In trace (Asked r q)
unfolding ids
id_back trace r m =
    let from = in_flat_back id_in trace r m.0 m.1 in
    let is = in_id from.0 r from.2 in
    (is.0, (from.1.0, from.1.1 ∙ ap (λ e. Some e) is.1))

as_many : {A : Type 0} (xs ys : List A) → Apart xs → ((x : A) → In xs x → In ys x) → length xs ≤ length ys
as_many xs ys apart inside =
    let h = total_within (λ x. 1) xs ys apart inside in
    let left = total_ones xs in
    let right = total_ones ys in
    omega (arith, h, left, right)

-- ---- entries and moments

-- a node with its moment
abbrev Placed : Type 0
Placed = Node × Moment

bytes_of : Placed → ℕ
bytes_of p = moment_bytes p.1

-- the arrival and the departure of a counted request
ends_of : Count → List Placed
ends_of count = (step count.rid 0, at.Arrive count.rid) ∷ (close count.rid, at.Depart count.rid) ∷ []

-- the operation of an entry
act_of : Spot → Placed
act_of spot = (step spot.entry.rid spot.entry.number, at.Act spot.entry.rid spot.entry.choice)

-- all that a report says of moments
said : Report → List Placed
said report = flat_map ends_of report.counts ++ map act_of (spots report.logs)

befores_bytes : (past es : List LogEntry) → total (λ b. entry_bytes b.1) (befores_from past es) ≡ total entry_bytes es
unfolding total
befores_bytes past [] = refl
befores_bytes past (e ∷ es) = ap (λ n. entry_bytes e + n) (befores_bytes (past ++ e ∷ []) es)

log_said : (log : Log) → total (λ s. entry_bytes s.entry) (spots_in log) ≡ total entry_bytes log.entries
log_said log = total_map (λ (s : Spot). entry_bytes s.entry)
    (λ b. record { object = log.object; past = b.0; entry = b.1 }) (befores log.entries)
    ∙ befores_bytes [] log.entries

logs_said : (logs : List Log) → total (λ s. entry_bytes s.entry) (spots logs) ≡ log_bytes logs
unfolding log_bytes total
logs_said [] = refl
logs_said (log ∷ logs) =
    total_append (λ (s : Spot). entry_bytes s.entry) (spots_in log) (spots logs)
    ∙ ap (λ n. n + total (λ (s : Spot). entry_bytes s.entry) (spots logs)) (log_said log) ∙ ap (λ n. total entry_bytes log.entries + n) (logs_said logs)

acts_said : (ss : List Spot) → total bytes_of (map act_of ss) ≡ total (λ s. entry_bytes s.entry) ss
unfolding bytes_of act_of moment_bytes entry_bytes
acts_said ss = total_map bytes_of act_of ss

two_ends : (c : Count) → total bytes_of (ends_of c) ≡ 18
unfolding bytes_of ends_of moment_bytes total
two_ends c = refl

all_ends : (cs : List Count) → total (λ c. total bytes_of (ends_of c)) cs ≡ 18 * length cs
unfolding total
all_ends [] = refl
all_ends (c ∷ cs) = let first = two_ends c in let rest = all_ends cs in omega (arith, first, rest)

said_bytes : (report : Report) → total bytes_of (said report) ≡ 18 * length report.counts + log_bytes report.logs
unfolding said
said_bytes report =
    let all = total_append bytes_of (flat_map ends_of report.counts) (map act_of (spots report.logs)) in
    let ends = total_flat bytes_of ends_of report.counts ∙ all_ends report.counts in
    let acts = acts_said (spots report.logs) ∙ logs_said report.logs in
    omega (arith, all, ends, acts)

-- ---- an accepted report

members_counted : (groups : List (List ℕ)) → length (flat_map (λ (g : List ℕ). g) groups) ≡ member_count groups
unfolding member_count total
members_counted groups =
    sym (total_ones (flat_map (λ (g : List ℕ). g) groups)) ∙ total_flat (λ (r : ℕ). 1) (λ (g : List ℕ). g) groups ∙ same groups
  where
    same : (gs : List (List ℕ)) → total (λ g. total (λ (r : ℕ). 1) g) gs ≡ total (λ g. length g) gs
    same [] = refl
    same (g ∷ gs) = ap (λ n. n + total (λ h. total (λ (r : ℕ). 1) h) gs) (total_ones g) ∙ ap (λ n. length g + n) (same gs)

-- an operation's node, and its moment by its entry
acts_alike : (R : Report) (r k : ℕ) (s : Spot) → node_of s.entry ≡ step r (suc k) → s.entry.rid ≡ r → spot_of R r (suc k) ≡ Some s
    → act_of s ≡ (step r (suc k), at.Act r (choice_at (spot_of R r (suc k))))
unfolding act_of
acts_alike R r k s node rid some =
    let choice : s.entry.choice ≡ choice_at (spot_of R r (suc k)) = sym (ap choice_at some) in
    λ j. (node j, at.Act (rid j) (choice j))

module _ (P : Program) (O : Objects) (T : List TraceEvent) (R : Report) where
  -- what isn't wrong with it
  record Sound : Type 0 where
    pub second : second_count R ≡ None
    pub unknown : count_of_no_request T R ≡ None
    pub uncounted : request_without_count T R ≡ None
    pub missing : operation_without_entry T R ≡ None
    pub ungrouped : request_without_group T R ≡ None
    pub checks : Checked P O T R

  sound : log_fault P O T R ≡ None → or_else (grouping_fault T R) (unsound_group P O T R) ≡ None → Sound
  unfolding log_fault grouping_fault
  sound h g =
      let h2 = or_none (second_log R) _ h in
      let h3 = or_none (second_count R) _ h2.1 in
      let h4 = or_none (count_of_no_request T R) _ h3.1 in
      let h5 = or_none (request_without_count T R) _ h4.1 in
      let h6 = or_none (faulty_entry P O T R) _ h5.1 in
      let g0 = or_none (grouping_fault T R) (unsound_group P O T R) g in
      let g1 = or_none (member_of_no_request T R) _ g0.0 in
      let g2 = or_none (second_member R) (request_without_group T R) g1.1 in
      record { second = h3.0; unknown = h4.0; uncounted = h5.0; missing = h6.1; ungrouped = g2.1; checks = checked P O T R h }

  module _ (is : Sound) where
    -- ---- counts

    clash : (i j : ℕ) (c d : Count) → nth R.counts i ≡ Some c → nth R.counts j ≡ Some d → c.rid ≡ d.rid → i < j → ⊥
    unfolding second_count
    clash i j c d at_i at_j same lt =
        let test : list_any (λ count. nat_eq count.rid d.rid) (take j R.counts) ≡ false =
        answer_none _ _ (first_none (λ b. answer_if (list_any (λ count. nat_eq count.rid b.1.rid) b.0) (SecondCount b.1.rid)) (befores R.counts) j
        (take j R.counts, d) is.second (befores_at R.counts j d at_j)) in
        true≢false (sym (eq-eqb c.rid d.rid same) ∙ any_false (λ count. nat_eq count.rid d.rid) (take j R.counts) i c test (nth_take R.counts j i c lt at_i))

    rids : List ℕ
    rids = map (λ (c : Count). c.rid) R.counts

    apart_rids : Apart rids
    unfolding rids
    apart_rids r i j a b =
        let c = nth_map (λ (c : Count). c.rid) R.counts i r a in
        let d = nth_map (λ (c : Count). c.rid) R.counts j r b in
        elim (cases_order i j) [
          | inl e ↦ e
          | inr (inl lt) ↦ absurd (clash i j c.0 d.0 c.1 d.1 (c.2 ∙ sym d.2) lt)
          | inr (inr gt) ↦ absurd (clash j i d.0 c.0 d.1 c.1 (d.2 ∙ sym c.2) gt)
        ]

    rid_asked : (r : ℕ) → In rids r → In (ids T) r
    unfolding rids count_of_no_request
    rid_asked r m =
        let c = nth_map (λ (c : Count). c.rid) R.counts m.0 r m.1 in
        let known = is_there (request_of T c.0.rid)
        (answer_none _ _ (first_none (λ count. answer_if (is_none (request_of T count.rid)) (CountOfNoRequest count.rid)) R.counts m.0 c.0
        is.unknown c.1)) in
        let there = request_there T c.0.rid known.0 known.1 in
        subst (In (ids T)) c.2 (id_there T c.0.rid there.0 known.0 there.1)

    few_counts : length R.counts ≤ request_count T
    unfolding rids
    few_counts =
        let h = as_many rids (ids T) apart_rids rid_asked in
        let left : length rids ≡ length R.counts = length-map R.counts (λ (c : Count). c.rid) in
        let right = ids_counted T in
        omega (arith, h, left, right)

    -- ---- groups

    grouped : (r : ℕ) → In (ids T) r → In (members R) r
    unfolding request_without_group
    grouped r m =
        let back = id_back T r m in
        let test : list_any (nat_eq r) (members R) ≡ true = not-false _ (answer_none _ _ (first_none (if_without_group R) T back.1.0 (Asked r back.0) is.ungrouped back.1.1)) in
        let there = any_true (nat_eq r) (members R) test in
        subst (In (members R)) (sym (eqb-true r there.0 there.2)) there.1

    many_members : AskedOnce T → request_count T ≤ member_count R.groups
    unfolding members
    many_members once =
        let h = as_many (ids T) (members R) (apart_ids T once) grouped in
        let left = ids_counted T in
        let right = members_counted R.groups in
        omega (arith, h, left, right)

    -- ---- moments

    counted : (r i : ℕ) (q : Request) → nth T i ≡ Some (Asked r q) → (c : Count) × (In R.counts c) × (c.rid ≡ r)
    unfolding request_without_count
    counted r i q at_i =
        let some = is_there (first_answer (operations_in r) R.counts) (answer_none _ _ (first_none (if_without_count R) T i (Asked r q) is.uncounted at_i)) in
        let from = first_some (operations_in r) R.counts some.0 some.1 in
        (from.0, from.1, of_count from.0 some.0 from.2)
      where
        of_count : (c : Count) (n : ℕ) → operations_in r c ≡ Some n → c.rid ≡ r
        of_count c n h = by (nat_eq r c.rid) refl h
          where
            by : (b : Bool) → nat_eq r c.rid ≡ b → cond b (Some c.operations) None ≡ Some n → c.rid ≡ r
            by true e k = sym (eqb-true r c.rid e)
            by false e k = absurd (none_is_not k)

    end_said : (r i : ℕ) (q : Request) (p : Count → Placed) → nth T i ≡ Some (Asked r q)
        → ((c : Count) → In (ends_of c) (p c)) → (c : Count) × (c.rid ≡ r) × In (said R) (p c)
    unfolding said
    end_said r i q p at_i member =
        let c = counted r i q at_i in
        (c.0, c.2, in_left (flat_map ends_of R.counts) (map act_of (spots R.logs)) (p c.0) (in_flat ends_of R.counts c.0 (p c.0) c.1.0 c.1.1 (member c.0)))

    arrival_said : (r i : ℕ) (q : Request) → nth T i ≡ Some (Asked r q) → In (said R) (step r 0, moment R (step r 0))
    unfolding ends_of
    arrival_said r i q at_i =
        let h = end_said r i q (λ c. (step c.rid 0, at.Arrive c.rid)) at_i (λ c. (0, refl)) in
        subst (λ a. In (said R) (step a 0, at.Arrive a)) h.1 h.2

    departure_said : (r i : ℕ) (q : Request) → nth T i ≡ Some (Asked r q) → In (said R) (close r, moment R (close r))
    unfolding ends_of
    departure_said r i q at_i =
        let h = end_said r i q (λ c. (close c.rid, at.Depart c.rid)) at_i (λ c. (1, refl)) in
        subst (λ a. In (said R) (close a, at.Depart a)) h.1 h.2

    act_said : (r i k : ℕ) (q : Request) → nth T i ≡ Some (Asked r q) → suc k ≤ count_of R r → In (said R) (step r (suc k), moment R (step r (suc k)))
    unfolding said operation_without_entry act_of
    act_said r i k q at_i within =
        let number = in_numbers 1 (count_of R r) (suc k) (omega arith) (omega (arith, within)) in
        let none : first_answer (λ n. answer_if (is_none (spot_of R r n)) (OperationWithoutEntry r n)) (numbers 1 (count_of R r)) ≡ None =
        first_none (if_without_entry R) T i (Asked r q) is.missing at_i in
        let some = is_there (spot_of R r (suc k)) (answer_none _ _ (first_none (λ n. answer_if (is_none (spot_of R r n)) (OperationWithoutEntry r n))
        (numbers 1 (count_of R r)) number.0 (suc k) none number.1)) in
        let s : Spot = some.0 in
        let here = found P O T R is.checks r (suc k) s some.1 in
        let there = in_right (flat_map ends_of R.counts) (map act_of (spots R.logs)) (act_of s) (in_map act_of (spots R.logs) s here.0) in
        let rid : s.entry.rid ≡ r = step_request here.1 in
        subst (In (said R)) (acts_alike R r k s here.1 rid some.1) there

    node_said : (x : Node) → In (nodes T R) x → In (said R) (x, moment R x)
    unfolding nodes
    node_said x m =
        let from = in_flat_back (nodes_in R) T x m.0 m.1 in
        let n = node_in_event R from.0 x from.2 in
        let asked : nth T from.1.0 ≡ Some (Asked n.0 n.1) = from.1.1 ∙ ap (λ e. Some e) n.2 in
        subst (λ y. In (said R) (y, moment R y)) n.5 (by n.0 n.1 n.3 n.4 from.1.0 asked)
      where
        by : (r : ℕ) (q : Request) (k : ℕ) → k < count_of R r + 2 → (i : ℕ) → nth T i ≡ Some (Asked r q)
            → In (said R) (node_at (count_of R r) r k, moment R (node_at (count_of R r) r k))
        by r q zero lt i asked = subst (λ y. In (said R) (y, moment R y)) (sym (node_at-step (count_of R r) r 0 (omega arith))) (arrival_said r i q asked)
        by r q (suc k) lt i asked = elim (cases_lt (suc k) (suc (count_of R r))) [
          | inl low ↦ subst (λ y. In (said R) (y, moment R y))
              (sym (node_at-step (count_of R r) r (suc k) (omega (arith, low))))
              (act_said r i k q asked (omega (arith, low)))
          | inr high ↦ subst (λ y. In (said R) (y, moment R y))
              (sym (node_at-close (count_of R r) r (suc k) (omega (arith, high)))) (departure_said r i q asked)
        ]

    moments_within : (N : List Node) → AskedOnce T → OrderOf (edges T R) (nodes T R) N → total moment_bytes (map (moment R) N) ≤ total bytes_of (said R)
    unfolding nodes total bytes_of
    moments_within N once order =
        let placed : Node → Placed = λ x. (x, moment R x) in
        let apart : Apart (map placed N) = λ p i j a b.
        let x = nth_map placed N i p a in
        let y = nth_map placed N j p b in
        order.apart (apart_nodes R T once) x.0 i j x.1 (y.1 ∙ ap (λ z. Some z) (ap (λ (z : Placed). z.0) (y.2 ∙ sym x.2))) in
        let h = total_within bytes_of (map placed N) (said R) apart (λ p m.
        let x = nth_map placed N m.0 p m.1 in
        subst (In (said R)) x.2 (node_said x.0 (order.only x.0 m.0 x.1))) in
        subst (λ n. n ≤ total bytes_of (said R)) (both N) h
      where
        both : (xs : List Node) → total bytes_of (map (λ x. (x, moment R x)) xs) ≡ total moment_bytes (map (moment R) xs)
        both [] = refl
        both (x ∷ xs) = ap (λ n. moment_bytes (moment R x) + n) (both xs)

pub fits : ScheduleFits
unfolding verdict order_of
fits P O T R schedule evaluated steps balanced few within accepted =
    let parts = accepted_parts _ _ _ _ R _ _ schedule evaluated steps accepted in
    let is = sound P O T R parts.1 parts.3 in
    let order = ordered_is (edges T R) (length (nodes T R)) (nodes T R) parts.0 refl parts.2 in
    let moments = moments_within P O T R is parts.0 balanced.asked_once order in
    let room = said_bytes R in
    let counts = few_counts P O T R is in
    let members = many_members P O T R is balanced.asked_once in
    let report = report_least R in
    let size = schedule_is (map (moment R) parts.0) in
    subst (λ ms. length (file_spelling schedule_format ms) ≤ MOST_SCHEDULE_BYTES) parts.4
    (omega (arith, moments, room, counts, members, report, size, few, within))
