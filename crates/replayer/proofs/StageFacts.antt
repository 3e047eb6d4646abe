-- Facts on stages.
use Rattle.std.proofs.Common.{◌≡◌, ◌∙◌, ℕ, zero, suc, ◌+◌, List, [], ◌∷◌, ◌++◌, length, drop, Option, Some, None, is_none, Bool, true, false, ◌||◌, not, cond, nat_eq, nat_lt, unwrap_or, refl, ap, sym, subst, arith, inl, inr, ◌<◌, ◌≤◌, ◌≢◌, get_or}
use Rattle.std.proofs.Math.ListN.{set}
use Rattle.std.proofs.lemmas.List.{get_or-set_same, get_or-set_other}
use Rattle.basis.proofs.Booleans.{or-false}
use Rattle.std.specs.List.{list_any}
use Rattle.std.proofs.lemmas.List.Folds.{list_any-append}
use Rattle.std.proofs.lemmas.Bool.{ltb-true, lt-ltb, cases_eq, eq-eqb, eqb-true}
use Rattle.script_tree.specs.Datum.{Datum}
use Rattle.script_tree.specs.Objects.{is_same, plausible, acted, holding}
use Rattle.script_tree.specs.Requests.{Request}
use Rattle.period.specs.Traces.{request_of, response_of}
use Rattle.script_tree.specs.declared.operation.Choice.{Choice}
use Rattle.script_tree.specs.declared.operation.Object.{Object}
use Rattle.script_tree.specs.declared.operation.Op.{Op}
use Rattle.script_tree.specs.declared.path.Path.{Path}
use Rattle.script_tree.specs.declared.request.Response.{Response}
use Rattle.period.specs.declared.schedule.Moment.{Moment}
use Rattle.period.specs.declared.schedule.Moment.TheVariants.{Arrive, Act, Depart}
use Rattle.script_tree.specs.Programs.{Program}
use Rattle.period.specs.declared.trace.TraceEvent.{TraceEvent}
use Rattle.period.specs.declared.trace.TraceEvent.TheVariants.{Asked, Answered}
use Rattle.script_meaning.specs.Conduct.{Ending, Wants, Ends}
use Rattle.script_asks.proofs.RunsFurther.{defined_first, defined_next}
use Rattle.script_meaning.specs.Replay.{Scene, opening, with_request, after, after_act, and_answer, ending_of, ending_with, next_of}
use Rattle.replayer.specs.Differences.{has_arrived, has_departed, is_arrival, is_departure, is_too_early, first_not_departed, act_fault, departure_fault, is_same_response, moment_fault, fault_of, difference_from, difference_of}
use Rattle.replayer.specs.declared.reason.ReplayReason.{ReplayReason}
use Rattle.replayer.specs.declared.reason.ReplayReason.TheVariants.{AtMoment, Open as LeftOpen}
use Rattle.replayer.specs.declared.reason.Reason.TheVariants.{BadChoice, OtherResponse, UnknownRequest}
use Rattle.object_set.specs.ObjectSets.{HeldObjects, objects_of}
use Rattle.object_set.specs.Applied.{Does}
use Rattle.replayer.specs.Opened.{Opened, opened_with, with_answer}
use Rattle.trace_index.specs.Places.{first_place, is_request, request_place, the_request}
use Rattle.trace_index.proofs.HeadFacts.{tell_apart}
use Rattle.trace_index.proofs.PlaceFacts.{request_place-once, request_found, request_absent, request_here}
use Rattle.replayer.specs.Standings.{standing_at, standing_in, answers_in, is_away, departed_in, is_departed, Puts, waits, first_waiting, IsOpened, AreOpened}
use Rattle.replayer.specs.Stages.{Kept, ShowsIn, Shows, IsStageOf, Opens, IsStep, Steps}
use Rattle.replayer.specs.declared.stage.Stage.{Stage}
use Rattle.std.specs.Option.{option_and_then}
use Rattle.replayer.specs.declared.reason.Reason.{Reason}
use Rattle.script_meaning.specs.Explains.{rid_of}
use Rattle.replayer.specs.declared.standing.Standing.{Standing}
use Rattle.replayer.specs.declared.standing.Standing.TheVariants.{Away, Open, Departed}

-- ---- numbers told apart

pub tell : (r x : ℕ) → x ≡ r → nat_eq r x ≡ true
tell r x e = eq-eqb r x (sym e)

not-true : (b : Bool) → (b ≡ true → ⊥) → b ≡ false
not-true true h = absurd (h refl)
not-true false h = refl

-- ---- one moment more

any_more : (test : Moment → Bool) (past : List Moment) (m : Moment) → list_any test (past ++ m ∷ []) ≡ (list_any test past || test m)
any_more test past m = list_any-append test past (m ∷ []) ∙ ap (λ b. list_any test past || b) (or-false (test m))

pub arrived_more : (past : List Moment) (m : Moment) (r : ℕ) → has_arrived (past ++ m ∷ []) r ≡ (has_arrived past r || is_arrival r m)
unfolding has_arrived
arrived_more past m r = any_more (is_arrival r) past m

pub departed_more : (past : List Moment) (m : Moment) (r : ℕ) → has_departed (past ++ m ∷ []) r ≡ (has_departed past r || is_departure r m)
unfolding has_departed
departed_more past m r = any_more (is_departure r) past m

-- ---- the first response that is waited for

pub same_waiting : (d e : ℕ → Bool) → ((x : ℕ) → d x ≡ e x) → (es : List TraceEvent) → first_waiting d es ≡ first_waiting e es
same_waiting d e h [] = refl
same_waiting d e h (Asked rid q ∷ es) = ap (λ n. suc n) (same_waiting d e h es)
same_waiting d e h (Answered rid x ∷ es) = ap (λ b. cond (not b) 0 (suc (first_waiting d es))) (h rid)
    ∙ ap (λ n. cond (not (e rid)) 0 (suc n)) (same_waiting d e h es)

later_step : (b c : Bool) → (b ≡ true → c ≡ true) → (n m k : ℕ) (rest all : ℕ → ℕ) → all 0 ≡ cond (not c) 0 (suc m)
    → ((i : ℕ) → all (suc i) ≡ rest i) → m ≡ n + rest n
    → cond (not c) 0 (suc m) ≡ cond (not b) 0 (suc n) + all (cond (not b) 0 (suc n))
later_step true true h n m k rest all z s e = omega (arith, s n, e)
later_step true false h n m k rest all z s e = absurd (let f : false ≡ true = h refl in cc)
later_step false c h n m k rest all z s e = omega (arith, z)

-- where more have departed, the search may go on from where it was
pub later_waiting : (d e : ℕ → Bool) → ((x : ℕ) → d x ≡ true → e x ≡ true) → (es : List TraceEvent)
    → first_waiting e es ≡ first_waiting d es + first_waiting e (drop (first_waiting d es) es)
later_waiting d e h [] = refl
later_waiting d e h (Asked rid q ∷ es) = omega (arith, later_waiting d e h es)
later_waiting d e h (Answered rid x ∷ es) =
    later_step (d rid) (e rid) (h rid) (first_waiting d es) (first_waiting e es) 0 (λ i. first_waiting e (drop i es))
    (λ i. first_waiting e (drop i (Answered rid x ∷ es))) refl (λ i. refl) (later_waiting d e h es)

-- ---- too early

pub not_below : (a b : ℕ) → b ≤ a → nat_lt a b ≡ false
not_below a b h = not-true (nat_lt a b) (λ t. let k : a < b = ltb-true a b t in omega arith)

place_within : (test : TraceEvent → Bool) (i : ℕ) (es : List TraceEvent) → i ≤ unwrap_or (first_place test i es) (i + length es)
place_within test i [] = omega arith
place_within test i (e ∷ es) = within (test e) (first_place test (suc i) es) (place_within test (suc i) es) where
  within : (b : Bool) (o : Option ℕ) → suc i ≤ unwrap_or o (suc i + length es) → i ≤ unwrap_or (cond b (Some i) o) (i + suc (length es))
  within true o h = omega arith
  within false None h = omega arith
  within false (Some p) h = omega arith

one_on : (i w : ℕ) (o : Option ℕ) (n : ℕ) (t : Bool) → nat_lt (suc i + w) (unwrap_or o (suc i + n)) ≡ t → nat_lt (i + suc w) (unwrap_or o (i + suc n)) ≡ t
one_on i w o n t h =
    let a : i + suc w ≡ suc i + w = omega arith in
    let b : i + suc n ≡ suc i + n = omega arith in
    ap (λ k. nat_lt k (unwrap_or o (i + suc n))) a ∙ ap (λ k. nat_lt (suc i + w) (unwrap_or o k)) b ∙ h

asked_on : (b : Bool) (i w : ℕ) (o : Option ℕ) (n : ℕ) (t : Bool) → nat_lt (suc i + w) (unwrap_or o (suc i + n)) ≡ t
    → nat_lt (i + suc w) (unwrap_or (cond b (Some i) o) (i + suc n)) ≡ cond b false t
asked_on true i w o n t h = not_below (i + suc w) i (omega arith)
asked_on false i w o n t h = one_on i w o n t h

answered_on : (d : Bool) (i w : ℕ) (o : Option ℕ) (n : ℕ) (t : Bool) → suc i ≤ unwrap_or o (suc i + n)
    → nat_lt (suc i + w) (unwrap_or o (suc i + n)) ≡ t
    → nat_lt (i + cond (not d) 0 (suc w)) (unwrap_or o (i + suc n)) ≡ (not d || t)
answered_on true i w o n t within h = one_on i w o n t h
answered_on false i w o n t within h =
    let b : i + suc n ≡ suc i + n = omega arith in
    let e : unwrap_or o (i + suc n) ≡ unwrap_or o (suc i + n) = ap (unwrap_or o) b in
    lt-ltb (i + 0) (unwrap_or o (i + suc n)) (omega arith)

early : (past : List Moment) (r : ℕ) (d : ℕ → Bool) → ((x : ℕ) → has_departed past x ≡ d x)
    → (i : ℕ) (es : List TraceEvent) → nat_lt (i + first_waiting d es)
    (unwrap_or (first_place (is_request r) i es) (i + length es)) ≡ is_too_early es past r
unfolding is_too_early
early past r d h i [] = not_below (i + 0) (i + 0) (omega arith)
early past r d h i (Asked rid q ∷ es) = asked_on (nat_eq r rid) i (first_waiting d es)
    (first_place (is_request r) (suc i) es) (length es) (is_too_early es past r) (early past r d h (suc i) es)
early past r d h i (Answered rid x ∷ es) =
    answered_on (d rid) i (first_waiting d es) (first_place (is_request r) (suc i) es) (length es)
    (is_too_early es past r) (place_within (is_request r) (suc i) es) (early past r d h (suc i) es)
    ∙ ap (λ b. not b || is_too_early es past r) (sym (h rid))

-- an arrival is too early exactly where a response that is waited for stands before it
pub early_where : (past : List Moment) (r : ℕ) (d : ℕ → Bool) → ((x : ℕ) → has_departed past x ≡ d x)
    → (es : List TraceEvent) (w u : ℕ) → w ≡ first_waiting d es
    → u ≡ unwrap_or (first_place (is_request r) 0 es) (length es) → nat_lt w u ≡ is_too_early es past r
early_where past r d h es w u ew eu =
    let a : w ≡ 0 + first_waiting d es = omega (arith, ew) in
    let b : length es ≡ 0 + length es = omega arith in
    ap (λ k. nat_lt k u) a ∙ ap (λ k. nat_lt (0 + first_waiting d es) k) (eu ∙ ap (unwrap_or (first_place (is_request r) 0 es)) b) ∙ early past r d h 0 es

-- ---- a request that stands otherwise

-- what is read at a place is what stands there
pub stands_at : (ss : List Standing) (place : ℕ) (s : Standing) → place < length ss → s ≡ get_or ss place s → get_or ss place Away ≡ s
stands_at [] place s inside is = absurd (omega arith)
stands_at (t ∷ ss) zero s inside is = sym is
stands_at (t ∷ ss) (suc place) s inside is = stands_at ss place s (omega arith) is

pub stands_in : (trace : List TraceEvent) (ss : List Standing) (r place : ℕ) (s : Standing)
    → request_place trace r ≡ Some place → place < length ss → s ≡ get_or ss place s → standing_in trace ss r ≡ s
stands_in trace ss r place s here inside is = ap (standing_at ss) here ∙ stands_at ss place s inside is

-- what stands at the place of a request is how it stands
pub puts_at : (trace : List TraceEvent) (ss : List Standing) (r place : ℕ) (s : Standing)
    → request_place trace r ≡ Some place → place < length ss → Puts trace ss (set ss place s) r s
puts_at trace ss r place s there inside = record {
  here = ap (standing_at (set ss place s)) there ∙ get_or-set_same ss place s Away inside;
  others = λ x ne. other x ne (request_place trace x) refl;
}
  where
    other : (x : ℕ) → x ≢ r → (o : Option ℕ) → request_place trace x ≡ o
        → standing_at (set ss place s) (request_place trace x) ≡ standing_at ss (request_place trace x)
    other x ne None e = ap (standing_at (set ss place s)) e ∙ sym (ap (standing_at ss) e)
    other x ne (Some p) e =
        let apart : p ≢ place = λ same. ne (request_place-once x r trace place (e ∙ ap Some same) there) in
        ap (standing_at (set ss place s)) e ∙ get_or-set_other ss place p s Away apart ∙ sym (ap (standing_at ss) e)

put_here : {trace : List TraceEvent} {m n : List Standing} {r : ℕ} {s : Standing} → Puts trace m n r s → (x : ℕ) → x ≡ r → standing_in trace n x ≡ s
put_here {trace} {m} {n} p x e = ap (standing_in trace n) e ∙ p.here

with_here : (r : ℕ) (a : Option (List Datum)) (f : ℕ → Option (List Datum)) (x : ℕ) → x ≡ r → with_request r a f x ≡ a
with_here r a f x e = ap (λ b. cond b a (f x)) (tell r x e)

with_apart : (r : ℕ) (a : Option (List Datum)) (f : ℕ → Option (List Datum)) (x : ℕ) → (x ≡ r → ⊥) → with_request r a f x ≡ f x
with_apart r a f x ne = ap (λ b. cond b a (f x)) (tell_apart r x ne)

shows_more : (trace : List TraceEvent) (past : List Moment) (scene : Scene) (k : Kept) → ShowsIn trace past scene k
    → (m : Moment) (scene' : Scene) (k' : Kept) (r : ℕ) (s : Standing)
    → Puts trace k.standings k'.standings r s → ((o : Object) → scene'.objects o ≡ objects_of k'.objects o)
    → ((x : ℕ) → scene'.answers x ≡ with_request r (answers_in s) scene.answers x)
    → (has_arrived past r || is_arrival r m) ≡ not (is_away s) → ((x : ℕ) → (x ≡ r → ⊥) → is_arrival x m ≡ false)
    → (has_departed past r || is_departure r m) ≡ is_departed s → ((x : ℕ) → (x ≡ r → ⊥) → is_departure x m ≡ false)
    → k'.waiting ≡ first_waiting (departed_in trace k'.standings) trace → ShowsIn trace (past ++ m ∷ []) scene' k'
shows_more trace past scene k h m scene' k' r s p objects answers arrives no_arrival departs no_departure waits = record {
  objects = objects;
  answers = λ x. elim (cases_eq x r) [
    | inl e ↦ answers x ∙ with_here r (answers_in s) scene.answers x e ∙ sym (ap answers_in (put_here p x e))
    | inr ne ↦ answers x ∙ with_apart r (answers_in s) scene.answers x ne ∙ h.answers x ∙ sym (ap answers_in (p.others x ne))
  ];
  arrived = λ x. elim (cases_eq x r) [
    | inl e ↦ arrived_more past m x ∙ ap (λ y. has_arrived past y || is_arrival y m) e ∙ arrives ∙ sym (ap (λ y. not (is_away y)) (put_here p x e))
    | inr ne ↦ arrived_more past m x ∙ ap (λ b. has_arrived past x || b) (no_arrival x ne)
        ∙ or-false (has_arrived past x) ∙ h.arrived x ∙ sym (ap (λ y. not (is_away y)) (p.others x ne))
  ];
  departed = λ x. elim (cases_eq x r) [
    | inl e ↦ departed_more past m x ∙ ap (λ y. has_departed past y || is_departure y m) e ∙ departs ∙ sym (ap is_departed (put_here p x e))
    | inr ne ↦ departed_more past m x ∙ ap (λ b. has_departed past x || b) (no_departure x ne)
        ∙ or-false (has_departed past x) ∙ h.departed x ∙ sym (ap is_departed (p.others x ne))
  ];
  waits = waits;
}

same_departed : (trace : List TraceEvent) (m n : List Standing) (r : ℕ) (s : Standing) → Puts trace m n r s
    → is_departed (standing_in trace m r) ≡ is_departed s → (x : ℕ) → departed_in trace m x ≡ departed_in trace n x
same_departed trace m n r s p h x = elim (cases_eq x r) [
  | inl e ↦ ap (λ y. is_departed (standing_in trace m y)) e ∙ h ∙ sym (ap is_departed (put_here p x e))
  | inr ne ↦ sym (ap is_departed (p.others x ne))
]

or_true : (b : Bool) → (b || true) ≡ true
or_true true = refl
or_true false = refl

apart_arrival : (r x : ℕ) → (x ≡ r → ⊥) → nat_eq x r ≡ false
apart_arrival r x ne = not-true (nat_eq x r) (λ t. ne (eqb-true x r t))

-- ---- after an arrival

pub away_is : (s : Standing) → is_away s ≡ true → s ≡ Away
away_is Away h = refl
away_is (Open o) h = cc
away_is Departed h = cc

pub shows_arrival : (program : Program) (trace : List TraceEvent) (past : List Moment) (scene : Scene) (k : Kept)
    (r : ℕ) (q : Request) (k' : Kept) → ShowsIn trace past scene k
    → standing_in trace k.standings r ≡ Away → Puts trace k.standings k'.standings r (Open (opened_with q [])) → k'.objects ≡ k.objects → k'.waiting ≡ k.waiting
    → ShowsIn trace (past ++ Arrive r ∷ []) (after program trace scene (Arrive r)) k'
shows_arrival program trace past scene k r q k' h new p registers waiting =
    let same : is_departed (standing_in trace k.standings r) ≡ false = ap is_departed new in
    shows_more trace past scene k h (Arrive r) (after program trace scene (Arrive r)) k' r (Open (opened_with q [])) p
    (λ o. h.objects o ∙ ap (λ g. objects_of g o) (sym registers))
    (λ x. refl)
    (ap (λ b. has_arrived past r || b) (eq-eqb r r refl) ∙ or_true (has_arrived past r))
    (λ x ne. apart_arrival r x ne)
    (or-false (has_departed past r) ∙ h.departed r ∙ same)
    (λ x ne. refl)
    (waiting ∙ h.waits ∙ same_waiting (departed_in trace k.standings) (departed_in trace k'.standings)
    (same_departed trace k.standings k'.standings r (Open (opened_with q [])) p same) trace)

-- ---- after an operation

pub open_is : (s : Standing) (ds : List Datum) → answers_in s ≡ Some ds → (q : Request) × (s ≡ Open (opened_with q ds))
open_is Away ds h = absurd (cc)
open_is (Open o) ds h = let e : o.answers ≡ ds = cc in (o.request, ap (λ x. Open (opened_with o.request x)) e)
open_is Departed ds h = absurd (cc)

pub shows_act : (program : Program) (trace : List TraceEvent) (past : List Moment) (scene : Scene) (k : Kept) (r : ℕ)
    (choice : Choice) (op : Op) (o : Opened) (d : Datum) (k' : Kept) → ShowsIn trace past scene k
    → next_of program trace scene r ≡ Some (Wants op) → standing_in trace k.standings r ≡ Open o → Does op choice k.objects k'.objects d
    → Puts trace k.standings k'.standings r (Open (with_answer o d)) → k'.waiting ≡ k.waiting
    → ShowsIn trace (past ++ Act r choice ∷ []) (after program trace scene (Act r choice)) k'
shows_act program trace past scene k r choice op opened d k' h next at does p waiting =
    let same : is_departed (standing_in trace k.standings r) ≡ false = ap is_departed at in
    let S : Option Ending → Type 0 = λ e. ShowsIn trace (past ++ Act r choice ∷ []) (after_act r choice e scene) k' in
    subst S (sym next) (shows_more trace past scene k h (Act r choice) (after_act r choice (Some (Wants op)) scene) k' r (Open (with_answer opened d)) p
    (λ o. ap (λ c. holding op.object (acted op.act choice c).0 scene.objects o) (h.objects op.object)
    ∙ ap (λ c. cond (is_same op.object o) (acted op.act choice (objects_of k.objects op.object)).0 c) (h.objects o)
    ∙ sym (does.left o))
    (λ x. ap (λ a. with_request r a scene.answers x)
    (ap (λ c. and_answer (scene.answers r) (acted op.act choice c).1) (h.objects op.object)
    ∙ ap (λ a. and_answer a (acted op.act choice (objects_of k.objects op.object)).1)
    (h.answers r ∙ ap answers_in at) ∙ ap (λ y. Some (opened.answers ++ y ∷ [])) (sym does.answered)))
    (or-false (has_arrived past r) ∙ h.arrived r ∙ ap (λ s. not (is_away s)) at)
    (λ x ne. refl)
    (or-false (has_departed past r) ∙ h.departed r ∙ same)
    (λ x ne. refl)
    (waiting ∙ h.waits ∙ same_waiting (departed_in trace k.standings) (departed_in trace k'.standings)
    (same_departed trace k.standings k'.standings r (Open (with_answer opened d)) p same) trace))

-- ---- after a departure

pub shows_departure : (program : Program) (trace : List TraceEvent) (past : List Moment) (scene : Scene) (k : Kept)
    (r : ℕ) (o : Opened) (k' : Kept) → ShowsIn trace past scene k
    → standing_in trace k.standings r ≡ Open o → Puts trace k.standings k'.standings r Departed → k'.objects ≡ k.objects
    → k'.waiting ≡ k.waiting + first_waiting (departed_in trace k'.standings) (drop k.waiting trace)
    → ShowsIn trace (past ++ Depart r ∷ []) (after program trace scene (Depart r)) k'
shows_departure program trace past scene k r opened k' h at p registers waiting =
    shows_more trace past scene k h (Depart r) (after program trace scene (Depart r)) k' r Departed p
    (λ o. h.objects o ∙ ap (λ g. objects_of g o) (sym registers))
    (λ x. refl)
    (or-false (has_arrived past r) ∙ h.arrived r ∙ ap (λ s. not (is_away s)) at)
    (λ x ne. refl)
    (ap (λ b. has_departed past r || b) (eq-eqb r r refl) ∙ or_true (has_departed past r))
    (λ x ne. apart_arrival r x ne)
    (waiting ∙ ap (λ w. w + first_waiting (departed_in trace k'.standings) (drop w trace)) h.waits
    ∙ sym (later_waiting (departed_in trace k.standings) (departed_in trace k'.standings) more trace))
  where
    more : (x : ℕ) → departed_in trace k.standings x ≡ true → departed_in trace k'.standings x ≡ true
    more x t = elim (cases_eq x r) [
      | inl e ↦ ap is_departed (put_here p x e)
      | inr ne ↦ ap is_departed (p.others x ne) ∙ t
    ]

-- ---- runs that go on or end

pub opened_more : (program : Program) (trace : List TraceEvent) (m n : List Standing) (r : ℕ) (s : Standing) → AreOpened program trace m → Puts trace m n r s
    → ((o : Opened) → s ≡ Open o → IsOpened program trace r o) → AreOpened program trace n
opened_more program trace m n r s h p here x o is = elim (cases_eq x r) [
  | inl e ↦ subst (λ y. IsOpened program trace y o) (sym e) (here o (sym (put_here p x e) ∙ is))
  | inr ne ↦ h x o (sym (p.others x ne) ∙ is)
]

-- of an open request, what holds of the one that is put there
one_opened : (program : Program) (trace : List TraceEvent) (r : ℕ) (put : Opened) → IsOpened program trace r put
    → (o : Opened) → Open put ≡ Open o → IsOpened program trace r o
one_opened program trace r put h o is = let same : put ≡ o = cc in subst (λ x. IsOpened program trace r x) same h

-- a run without answers goes on or ends
pub begun_opened : (program : Program) (trace : List TraceEvent) (r : ℕ) (q : Request) → request_of trace r ≡ Some q
    → (o : Opened) → Open (opened_with q []) ≡ Open o → IsOpened program trace r o
unfolding ending_of
begun_opened program trace r q known = one_opened program trace r (opened_with q []) (record { traced = known; defined = defined_first program q })

-- so does one with an answer to the operation that it wanted
pub answered_opened : (program : Program) (trace : List TraceEvent) (r : ℕ) (asked : Opened) (d : Datum) (op : Op)
    → request_of trace r ≡ Some asked.request → ending_of program asked.request asked.answers ≡ Wants op
    → (o : Opened) → Open (with_answer asked d) ≡ Open o → IsOpened program trace r o
unfolding ending_of
answered_opened program trace r asked d op known wanted =
    one_opened program trace r (with_answer asked d) (record { traced = known; defined = defined_next program asked.request asked.answers d op wanted })

-- ---- what a request does next

-- a request that does something is one of the trace, and open
pub opened : (program : Program) (oq : Option Request) (oa : Option (List Datum)) (e : Ending)
    → ending_with program oq oa ≡ Some e → (q : Request) × (ds : List Datum) × (oq ≡ Some q) × (oa ≡ Some ds)
    × (ending_of program q ds ≡ e)
opened program (Some q) (Some ds) e h = (q, ds, refl, refl, (let k : ending_of program q ds ≡ e = cc in k))
opened program (Some q) None e h = absurd (cc)
opened program None oa e h = absurd (cc)

-- an operation that is wanted, with a choice that it takes
pub act_told : (program : Program) (trace : List TraceEvent) (scene : Scene) (r : ℕ) (choice : Choice) (op : Op)
    (b : Bool) → next_of program trace scene r ≡ Some (Wants op)
    → plausible op.act choice (scene.objects op.object) ≡ b
    → act_fault scene choice (next_of program trace scene r) ≡ cond b None (Some BadChoice)
act_told program trace scene r choice op b next p = ap (act_fault scene choice) next ∙ ap (λ x. cond x None (Some BadChoice)) p

pub departure_told : (program : Program) (trace : List TraceEvent) (scene : Scene) (r : ℕ) (response : Response)
    (path : Path) (b : Bool) → next_of program trace scene r ≡ Some (Ends response path)
    → is_same_response response (response_of trace r) ≡ b
    → departure_fault (response_of trace r) (next_of program trace scene r) ≡ cond b None (Some OtherResponse)
departure_told program trace scene r response path b next p = ap (departure_fault (response_of trace r)) next ∙ ap (λ x. cond x None (Some OtherResponse)) p

-- ---- before the first moment

pub away_all : (trace : List TraceEvent) (ss : List Standing) → ((k : ℕ) → get_or ss k Away ≡ Away) → (r : ℕ) → standing_in trace ss r ≡ Away
away_all trace ss away r = at (request_place trace r)
  where
    at : (o : Option ℕ) → standing_at ss o ≡ Away
    at None = refl
    at (Some p) = away p

pub shows_opening : (trace : List TraceEvent) (k : Kept) → ((r : ℕ) → standing_in trace k.standings r ≡ Away)
    → k.waiting ≡ first_waiting (departed_in trace k.standings) trace
    → ShowsIn trace [] (opening (objects_of k.objects)) k
unfolding has_arrived has_departed
shows_opening trace k away waits = record {
  objects = λ o. refl;
  answers = λ r. sym (ap answers_in (away r));
  arrived = λ r. sym (ap (λ s. not (is_away s)) (away r));
  departed = λ r. sym (ap is_departed (away r));
  waits = waits;
}

pub none_opened : (program : Program) (trace : List TraceEvent) (ss : List Standing) → ((r : ℕ) → standing_in trace ss r ≡ Away) → AreOpened program trace ss
none_opened program trace ss away r o is = absurd (let n : Away ≡ Open o = sym (away r) ∙ is in cc)

-- ---- a moment of a request that is known, or not

pub fault_where : (program : Program) (trace : List TraceEvent) (past : List Moment) (scene : Scene) (m : Moment)
    (b : Bool) → is_none (request_of trace (rid_of m)) ≡ b
    → fault_of program trace past scene m ≡ cond b (Some UnknownRequest) (moment_fault program trace past scene m)
unfolding fault_of
fault_where program trace past scene m b e = ap (λ x. cond x (Some UnknownRequest) (moment_fault program trace past scene m)) e

-- a moment of a request that the trace lacks
pub unknown_fault : (program : Program) (trace : List TraceEvent) (past : List Moment) (scene : Scene) (m : Moment)
    → request_place trace (rid_of m) ≡ None → fault_of program trace past scene m ≡ Some UnknownRequest
unknown_fault program trace past scene m h = fault_where program trace past scene m true (ap is_none (request_absent (rid_of m) trace h))

-- and of one that stands at a place
pub known_step : (old new : Stage) (m : Moment) (place : ℕ) (reason : Option Reason) → request_place old.trace (rid_of m) ≡ Some place
    → ((past : List Moment) (scene : Scene) → Shows past scene old
    → IsStep past scene m (moment_fault old.index.now old.trace past scene m) reason old new) → Steps m old new reason
known_step old new m place reason here step past scene h =
    let there = request_here (rid_of m) old.trace place here in
    let known : request_of old.trace (rid_of m) ≡ Some there.0 = sym (request_found (rid_of m) old.trace place here) ∙ ap (option_and_then the_request) there.1 in
    let s = step past scene h in
    record { named = fault_where old.index.now old.trace past scene m false (ap is_none known) ∙ s.named; shown = s.shown }

-- ---- the first difference

pub goes_on : (program : Program) (trace : List TraceEvent) (past : List Moment) (scene : Scene) (m : Moment)
    (ms : List Moment) → fault_of program trace past scene m ≡ None
    → difference_from program trace past scene (m ∷ ms)
    ≡ difference_from program trace (past ++ m ∷ []) (after program trace scene m) ms
unfolding difference_from
goes_on program trace past scene m ms e = rw (e, difference_from) refl

pub stops_here : (program : Program) (trace : List TraceEvent) (past : List Moment) (scene : Scene) (m : Moment)
    (ms : List Moment) (reason : Reason) → fault_of program trace past scene m ≡ Some reason
    → difference_from program trace past scene (m ∷ ms) ≡ Some (AtMoment reason (length past) (rid_of m))
unfolding difference_from
stops_here program trace past scene m ms reason e = rw (e, difference_from) refl

left_over : (past : List Moment) (d : ℕ → Bool) → ((x : ℕ) → has_departed past x ≡ d x) → (es : List TraceEvent)
    → first_not_departed (has_departed past) es ≡ first_not_departed d es
left_over past d h [] = refl
left_over past d h (Asked rid q ∷ es) = ap
    (λ b. cond b (first_not_departed (has_departed past) es) (Some (LeftOpen rid))) (h rid)
    ∙ ap (λ o. cond (d rid) o (Some (LeftOpen rid))) (left_over past d h es)
left_over past d h (Answered rid x ∷ es) = left_over past d h es

pub ends_here : (program : Program) (trace : List TraceEvent) (past : List Moment) (scene : Scene) (d : ℕ → Bool)
    → ((x : ℕ) → has_departed past x ≡ d x) → difference_from program trace past scene [] ≡ first_not_departed d trace
unfolding difference_from
ends_here program trace past scene d h = left_over past d h trace

-- a moment that is one of the trace leaves what differs to those after it
pub steps_on : (all : Option ReplayReason) (old new : Stage) (past : List Moment) (scene : Scene) (m : Moment)
    (ms : List Moment) → all ≡ difference_from old.index.now old.trace past scene (m ∷ ms)
    → IsStageOf old.index.now old.trace new → fault_of old.index.now old.trace past scene m ≡ None
    → all ≡ difference_from new.index.now new.trace (past ++ m ∷ []) (after old.index.now old.trace scene m) ms
steps_on all old new past scene m ms e same f =
    e ∙ goes_on old.index.now old.trace past scene m ms f
    ∙ sym (λ i. difference_from (same.program i) (same.trace i) (past ++ m ∷ [])
    (after old.index.now old.trace scene m) ms)

-- what differs at all is what differs from the first stage on
pub opens_with : (program : Program) (start : HeldObjects) (trace : List TraceEvent) (stage : Stage) (ms : List Moment) → Opens program start trace stage
    → difference_of program (objects_of start) trace ms ≡ difference_from stage.index.now stage.trace [] (opening (objects_of start)) ms
opens_with program start trace stage ms opens = sym (λ i. difference_from (opens.of.program i) (opens.of.trace i) [] (opening (objects_of start)) ms)
