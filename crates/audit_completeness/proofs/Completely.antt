-- The files of a run that is over are accepted.
use Rattle.std.proofs.Common.{◌≡◌, ℕ, ◌<◌, false, not, cond, List, length, take, map, filter_map, Some, None, is_none, refl, sym, ap, subst, ◌∙◌, arith, nat_eq}
use Rattle.std.proofs.lemmas.Bool.{eq-eqb, ne_eqb}
use Rattle.script_tree.specs.Programs.{Program}
use Rattle.script_tree.specs.declared.path.Path.{Path}
use Rattle.basis.specs.Lists.{nth, or_else, firsts}
use Rattle.basis.proofs.Options.{some_is}
use Rattle.basis.proofs.Places.{In, true_any}
use Rattle.audit_meaning.specs.Lists.{befores}
use Rattle.script_tree.specs.declared.request.Response.{Response}
use Rattle.period.specs.declared.trace.TraceEvent.{TraceEvent}
use Rattle.period.specs.declared.trace.TraceEvent.TheVariants.{Asked, Answered}
use Rattle.period.specs.declared.schedule.Moment.{Moment}
use Rattle.script_tree.specs.Objects.{Objects}
use Rattle.period.specs.Traces.{request_of}
use Rattle.audit_meaning.specs.Nodes.{moment}
use Rattle.audit_meaning.specs.Orders.{order_of}
use Rattle.audit_meaning.specs.Cycles.{cycle_of}
use Rattle.audit_meaning.specs.Groups.{group_fault, unsound_group}
use Rattle.audit_meaning.specs.GroupFaults.{member_of_no_request, second_member, request_without_group, if_without_group, grouping_fault, members}
use Rattle.audit_meaning.specs.Verdicts.{judged, evaluated_nodes, plain_steps, verdict}
use Rattle.audit_meaning.specs.declared.verdict.Verdict.TheVariants.{Accepted}
use Rattle.history.specs.Names.{Named, came, did, went, names}
use Rattle.history.specs.TraceOf.{event_in, trace_in, trace_of}
use Rattle.history.specs.ReportOf.{member_in, path_in, report_in, report_of}
use Rattle.script_tree.specs.Paths.{same_path}
use Rattle.history.specs.Rooms.{empty_room}
use Rattle.audit_meaning.proofs.Words.{nth_map}
use Rattle.audit_meaning.proofs.Places.{in_map, in_flat, in_flat_back, befores_back, none_or, none_first, none_answer, false_any, take_nth, take_within, apart_flat, Apart}
use Rattle.audit_meaning.proofs.Filters.{from, in_filter, in_firsts, firsts_apart, apart_picked}
use Rattle.script_tree.proofs.Equals.{path_is, path_itself}
use Rattle.audit_completeness.proofs.Runs.{HasShortRequests, hall, IsRun}
use Rattle.audit_completeness.proofs.Ranks.{whole, same_rank}
use Rattle.audit_completeness.proofs.Files.{event_asked, request_is, order_ends}
use Rattle.audit_completeness.proofs.LogFaults.{no_log_fault}
use Rattle.audit_completeness.proofs.GroupFaults.{member_some, group_none}
use Rattle.audit_completeness.specs.Completeness.{RecordedIsAccepted}
use Rattle.audit_completeness.proofs.Asks.{AsksFitting, asks_fitting, SameShape}
use Rattle.audit_completeness.proofs.ShapeConduct.{same_shape}
use Rattle.audit_completeness.proofs.Seats.{run_of, short_requests}

module _ (P : Program) (O : Objects) (E : List Named) (run : IsRun P (hall O) E) (fitting : AsksFitting P)
    (short : HasShortRequests (trace_in E)) (one_shape : SameShape P) where
  -- a group is that of a path
  group_of : (i : ℕ) (g : List ℕ) → nth (report_in E).groups i ≡ Some g
      → (p : Path) × (nth (firsts same_path (filter_map path_in E)) i ≡ Some p) × (filter_map (member_in p) E ≡ g)
  group_of i g h = nth_map (λ p. filter_map (member_in p) E) (firsts same_path (filter_map path_in E)) i g h

  went_of : (p : Path) (r i : ℕ) → nth (filter_map (member_in p) E) i ≡ Some r → (j : ℕ) × (x : Response) × (nth E j ≡ Some (went r x p))
  went_of p r i h =
      let f = from (member_in p) E i r h in
      let is = member_some p f.x r f.gives in
      (f.place, is.0, f.here ∙ ap (λ e. Some e) is.1)

  one_path : (r : ℕ) (p q : Path) (i j : ℕ) → nth (filter_map (member_in p) E) i ≡ Some r → nth (filter_map (member_in q) E) j ≡ Some r → p ≡ q
  one_path r p q i j at_i at_j =
      let a = went_of p r i at_i in
      let b = went_of q r j at_j in
      let e : a.0 ≡ b.0 = same_rank P O E run a.0 b.0 (went r a.1 p) (went r b.1 q) a.2 b.2 refl refl in
      ap path (some_is (sym a.2 ∙ ap (nth E) e ∙ b.2))
    where
      path : Named → Path
      path (came x y) = p
      path (did x y z w) = p
      path (went x y z) = z

  apart_members : Apart (members (report_in E))
  unfolding members
  apart_members = apart_flat (λ (g : List ℕ). g) (report_in E).groups each one
    where
      each : (i : ℕ) (g : List ℕ) → nth (report_in E).groups i ≡ Some g → Apart g
      each i g h = let k = group_of i g h in subst Apart k.2 (apart_group k.0)
        where
          apart_group : (p : Path) → Apart (filter_map (member_in p) E)
          apart_group p = apart_picked (member_in p) E (λ i j x z r at_i at_j gx gz.
              let a = member_some p x r gx in
              let b = member_some p z r gz in
              same_rank P O E run i j (went r a.0 p) (went r b.0 p) (at_i ∙ ap (λ e. Some e) a.1) (at_j ∙ ap (λ e. Some e) b.1) refl refl)

      one : (i j : ℕ) (g h : List ℕ) (r : ℕ) → nth (report_in E).groups i ≡ Some g → nth (report_in E).groups j ≡ Some h → In g r → In h r → i ≡ j
      one i j g h r at_i at_j m n =
          let a = group_of i g at_i in
          let b = group_of j h at_j in
          let e : a.0 ≡ b.0 = one_path r a.0 b.0 m.0 n.0 (ap (λ xs. nth xs m.0) a.2 ∙ m.1) (ap (λ xs. nth xs n.0) b.2 ∙ n.1) in
          firsts_apart same_path path_is path_itself (filter_map path_in E) b.0 i j (a.1 ∙ ap (λ x. Some x) e) b.1

  in_trace : (r : ℕ) → In (members (report_in E)) r → is_none (request_of (trace_in E) r) ≡ false
  unfolding members
  in_trace r m =
      let f = in_flat_back (λ (g : List ℕ). g) (report_in E).groups r m.0 m.1 in
      let k = group_of f.1.0 f.0 f.1.1 in
      let a = went_of k.0 r f.2.0 (ap (λ xs. nth xs f.2.0) k.2 ∙ f.2.1) in
      let w = whole P O E run a.0 (went r a.1 k.0) a.2 in
      ap is_none (request_is P O E run r w.comes.0 w.request w.comes.1)

  none_14 : member_of_no_request (trace_in E) (report_in E) ≡ None
  unfolding member_of_no_request
  none_14 = none_first _ (members (report_in E)) (λ i r h. none_answer _ _ (in_trace r (i, h)))

  none_15 : second_member (report_in E) ≡ None
  unfolding second_member
  none_15 = none_first _ (befores (members (report_in E))) (λ i b h.
      let back = befores_back (members (report_in E)) i b h in
      none_answer _ _ (false_any (nat_eq b.1) b.0 (λ k r at_k.
      let at_past : nth (take i (members (report_in E))) k ≡ Some r = ap (λ xs. nth xs k) back.1 ∙ at_k in
      let low : k < i = take_within (members (report_in E)) i k r at_past in
      ne_eqb b.1 r (λ e. let p : k ≡ i = apart_members r k i (take_nth (members (report_in E)) i k r at_past) (back.0 ∙ ap (λ x. Some x) e) in omega arith))))

  none_16 : request_without_group (trace_in E) (report_in E) ≡ None
  unfolding request_without_group members
  none_16 = none_first (if_without_group (report_in E)) (trace_in E) each
    where
      each : (i : ℕ) (e : TraceEvent) → nth (trace_in E) i ≡ Some e → if_without_group (report_in E) e ≡ None
      each i (Answered r x) h = refl
      each i (Asked r q) h =
          let f = from event_in E i (Asked r q) h in
          let w = whole P O E run f.place (came r q) (f.here ∙ ap (λ e. Some e) (event_asked f.x r q f.gives)) in
          let path_there = in_filter path_in E w.goes.0 (went r w.response w.path) w.path w.goes.1 refl in
          let first = in_firsts same_path path_is path_itself (filter_map path_in E) w.path path_there.0 path_there.1 in
          let group : In (report_in E).groups (filter_map (member_in w.path) E) = in_map (λ p. filter_map (member_in p) E) (firsts same_path (filter_map path_in E)) w.path first in
          let r_there = in_filter (member_in w.path) E w.goes.0 (went r w.response w.path) r w.goes.1 (ap (λ b. cond b (Some r) None) (path_itself w.path)) in
          let m = in_flat (λ (g : List ℕ). g) (report_in E).groups (filter_map (member_in w.path) E) r group.0 group.1 r_there in
          none_answer _ _ (ap not (true_any (nat_eq r) (members (report_in E)) m.0 r m.1 (eq-eqb r r refl)))

  none_grouping : grouping_fault (trace_in E) (report_in E) ≡ None
  unfolding grouping_fault
  none_grouping = none_or (member_of_no_request (trace_in E) (report_in E)) _ none_14 (none_or (second_member (report_in E)) _ none_15 none_16)

  none_group : unsound_group P O (trace_in E) (report_in E) ≡ None
  unfolding unsound_group
  none_group = none_first _ (befores (report_in E).groups) (λ i b h.
      let back = befores_back (report_in E).groups i b h in
      let k = group_of i b.1 back.0 in
      subst (λ g. group_fault P O (trace_in E) (report_in E) (length b.0) g ≡ None) k.2 (group_none P O E run one_shape (length b.0) k.0))

  pub is_accepted : (S : List Moment) × (v : ℕ) × (n : ℕ) × (verdict P O (trace_in E) (report_in E) ≡ Accepted S v n)
  unfolding verdict
  is_accepted =
      let n = order_ends P O E run in
      let C = cycle_of (trace_in E) (report_in E) in
      let V = evaluated_nodes P O (trace_in E) (report_in E) in
      let N = plain_steps P O (trace_in E) (report_in E) in (
        map (moment (report_in E)) n.0,
        V,
        N,
        ap (λ a. judged a C (order_of (trace_in E) (report_in E))
            (or_else (grouping_fault (trace_in E) (report_in E)) (unsound_group P O (trace_in E) (report_in E)))
            (report_in E) V N) (no_log_fault P O E run fitting short)
            ∙ ap (λ o. judged None C o (or_else (grouping_fault (trace_in E) (report_in E)) (unsound_group P O (trace_in E) (report_in E))) (report_in E) V N) n.1
            ∙ ap (λ l. judged None C (Some n.0) l (report_in E) V N) (none_or (grouping_fault (trace_in E) (report_in E)) _ none_grouping none_group),
      )

pub completeness : RecordedIsAccepted
unfolding trace_of report_of
completeness P O H valid legal closed =
    is_accepted P O (names H) (run_of P O H legal closed) (asks_fitting P valid) (short_requests P H (empty_room O) legal) (same_shape P)
