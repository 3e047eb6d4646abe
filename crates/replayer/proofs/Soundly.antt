-- Where no difference is found, the schedule explains the trace.
use Rattle.std.proofs.Common.{◌≡◌, ℕ, zero, suc, ◌<◌, Bool, true, false, cond, List, [], ◌∷◌, ◌++◌, length, take, Some, None, Option, is_none, refl, sym, ap, subst, ◌∙◌, arith, true≢false, nat_eq, inl, inr, append-nil, append_assoc}
use Rattle.std.specs.Str.{bytes_eq}
use Rattle.std.proofs.lemmas.Bool.{cases_eq, cases_order, cond-true, cond-false, eqb-true, eq-eqb, ne_eqb, or_parts, or_from, or_left, or_right}
use Rattle.std.proofs.lemmas.Slice.Eq.{bytes_eq-Decides}
use Rattle.script_tree.specs.Datum.{Datum}
use Rattle.basis.specs.Lists.{nth}
use Rattle.script_tree.specs.Objects.{Objects, plausible}
use Rattle.script_tree.specs.Requests.{Request}
use Rattle.period.specs.Traces.{request_of, response_of, IsBalanced, Precedes}
use Rattle.script_tree.specs.declared.operation.Choice.{Choice}
use Rattle.script_tree.specs.declared.operation.Op.{Op}
use Rattle.script_tree.specs.declared.path.Path.{Path}
use Rattle.script_tree.specs.declared.request.Response.{Response}
use Rattle.period.specs.declared.schedule.Moment.{Moment}
use Rattle.period.specs.declared.schedule.Moment.TheVariants.{Arrive, Act, Depart}
use Rattle.script_tree.specs.Programs.{Program}
use Rattle.period.specs.declared.trace.TraceEvent.{TraceEvent}
use Rattle.script_meaning.specs.Conduct.{Ending, Wants, Ends, Undefined}
use Rattle.script_meaning.specs.Explains.{rid_of, IsWhole, Explains}
use Rattle.script_meaning.specs.Replay.{Scene, opening, ending_with, next_of, IsAllowed, IsAsTraced, after_act, after, Plays}
use Rattle.replayer.specs.Differences.{is_arrival, is_departure, has_arrived, has_departed, is_too_early, is_same_response, arrival_fault, act_fault, departure_fault, fault_of, first_not_departed, difference_from, difference_of}
use Rattle.replayer.specs.declared.reason.Reason.{Reason}
use Rattle.replayer.specs.declared.reason.Reason.TheVariants.{UnknownRequest, SecondArrival, TooEarly, BadChoice, OtherResponse}
use Rattle.replayer.specs.declared.reason.ReplayReason.{ReplayReason}
use Rattle.replayer.specs.declared.reason.ReplayReason.TheVariants.{AtMoment}
use Rattle.basis.proofs.Options.{some_is, none_is_not}
use Rattle.basis.proofs.Places.{nth_take, take_nth}
use Rattle.replayer.proofs.DifferenceTests.{arrived_more, departed_more, arrived_at, has_arrived-at, departed_at, has_departed-at, asked_at, departed_before, all_departed}

-- ---- a moment that doesn't fail

-- what it is after those before
abbrev Fits : List TraceEvent → List Moment → Moment → Type 0
Fits trace past (Arrive r) = (has_arrived past r ≡ false) × (is_too_early trace past r ≡ false)
Fits trace past (Act r choice) = (has_arrived past r ≡ true) × (has_departed past r ≡ false)
Fits trace past (Depart r) = (has_arrived past r ≡ true) × (has_departed past r ≡ false)

-- what the moments so far tell of a scene
record Known (past : List Moment) (scene : Scene) : Type 0 where
  pub open_ones : (r : ℕ) (answers : List Datum) → scene.answers r ≡ Some answers → (has_arrived past r ≡ true) × (has_departed past r ≡ false)
  pub others : (r : ℕ) → has_arrived past r ≡ false → has_departed past r ≡ false

record Passes (program : Program) (trace : List TraceEvent) (past : List Moment) (scene : Scene) (m : Moment) : Type 0 where
  pub asked : (q : Request) × (request_of trace (rid_of m) ≡ Some q)
  pub fits : Fits trace past m
  pub is_allowed : IsAllowed program trace scene m
  pub is_as_traced : IsAsTraced program trace scene m

known_request : (o : Option Request) (fault : Option Reason) → cond (is_none o) (Some UnknownRequest) fault ≡ None
    → ((q : Request) × (o ≡ Some q)) × (fault ≡ None)
known_request None fault e = absurd (none_is_not (sym e))
known_request (Some q) fault e = ((q, refl), e)

arrival_none : (second early : Bool) → cond second (Some SecondArrival) (cond early (Some TooEarly) None) ≡ None → (second ≡ false) × (early ≡ false)
arrival_none true early e = absurd (none_is_not (sym e))
arrival_none false true e = absurd (none_is_not (sym e))
arrival_none false false e = (refl, refl)

-- what has to hold, does
holds : (b : Bool) (reason : Reason) → cond b None (Some reason) ≡ None → b ≡ true
holds true reason e = refl
holds false reason e = absurd (none_is_not (sym e))

act_none : (scene : Scene) (choice : Choice) (next : Option Ending) → act_fault scene choice next ≡ None
    → (op : Op) × (next ≡ Some (Wants op)) × (plausible op.act choice (scene.objects op.object) ≡ true)
act_none scene choice None e = absurd (none_is_not (sym e))
act_none scene choice (Some (Wants op)) e = (op, refl, holds (plausible op.act choice (scene.objects op.object)) BadChoice e)
act_none scene choice (Some (Ends response path)) e = absurd (none_is_not (sym e))
act_none scene choice (Some Undefined) e = absurd (none_is_not (sym e))

same_response : (x : Response) (traced : Option Response) → is_same_response x traced ≡ true → traced ≡ Some x
same_response x None e = absurd (true≢false (sym e))
same_response x (Some y) e = go (nat_eq x.status y.status) refl e
  where
    go : (b : Bool) → nat_eq x.status y.status ≡ b → cond b (bytes_eq x.body y.body) false ≡ true → ◌≡◌ {A = Option Response} (Some y) (Some x)
    go true status h =
        let p : y.status ≡ x.status = sym (eqb-true x.status y.status status) in
        let q : y.body ≡ x.body = sym ((bytes_eq-Decides x.body y.body).0 h) in
        λ i. Some (record { status = p i; body = q i })
    go false status h = absurd (true≢false (sym h))

departure_none : (traced : Option Response) (next : Option Ending) → departure_fault traced next ≡ None
    → (response : Response) × (path : Path) × (next ≡ Some (Ends response path)) × (traced ≡ Some response)
departure_none traced None e = absurd (none_is_not (sym e))
departure_none traced (Some (Wants op)) e = absurd (none_is_not (sym e))
departure_none traced (Some (Ends response path)) e =
    (response, path, refl, same_response response traced (holds (is_same_response response traced) OtherResponse e))
departure_none traced (Some Undefined) e = absurd (none_is_not (sym e))

-- what does something next is open
is_open : (program : Program) (asked : Option Request) (answers : Option (List Datum)) (next : Ending)
    → ending_with program asked answers ≡ Some next → (ds : List Datum) × (answers ≡ Some ds)
is_open program (Some q) (Some ds) next e = (ds, refl)
is_open program (Some q) None next e = absurd (none_is_not e)
is_open program None answers next e = absurd (none_is_not e)

same_end : (x y : Response) (p q : Path) → Some (Ends x p) ≡ Some (Ends y q) → x ≡ y
same_end x y p q e = let same : Ends x p ≡ Ends y q = some_is e in cc

more_open : (past : List Moment) (m : Moment) (r : ℕ) → (has_arrived past r ≡ true) × (has_departed past r ≡ false) → is_departure r m ≡ false
    → (has_arrived (past ++ m ∷ []) r ≡ true) × (has_departed (past ++ m ∷ []) r ≡ false)
more_open past m r h n = (
  arrived_more past m r
      ∙ or_left (has_arrived past r) (is_arrival r m) h.0,
  departed_more past m r
      ∙ or_from (has_departed past r) (is_departure r m) h.1 n,
)

module _ (program : Program) (trace : List TraceEvent) where
  passed : (past : List Moment) (scene : Scene) (m : Moment) → Known past scene → fault_of program trace past scene m ≡ None → Passes program trace past scene m
  unfolding fault_of
  passed past scene (Arrive r) known e =
      let first = known_request (request_of trace r) (arrival_fault trace past r) e in
      let fits = arrival_none (has_arrived past r) (is_too_early trace past r) first.1 in
      record { asked = first.0; fits = fits; is_allowed = closed (scene.answers r) refl fits.0; is_as_traced = tt }
    where
      closed : (o : Option (List Datum)) → scene.answers r ≡ o → has_arrived past r ≡ false → scene.answers r ≡ None
      closed None is h = is
      closed (Some ds) is h = absurd (true≢false (sym (known.open_ones r ds is).0 ∙ h))
  passed past scene (Act r choice) known e =
      let first = known_request (request_of trace r) (act_fault scene choice (next_of program trace scene r)) e in
      let wants = act_none scene choice (next_of program trace scene r) first.1 in
      let answers = is_open program (request_of trace r) (scene.answers r) (Wants wants.0) wants.1 in
      record { asked = first.0; fits = known.open_ones r answers.0 answers.1; is_allowed = wants; is_as_traced = tt }
  passed past scene (Depart r) known e =
      let first = known_request (request_of trace r) (departure_fault (response_of trace r) (next_of program trace scene r)) e in
      let ends = departure_none (response_of trace r) (next_of program trace scene r) first.1 in
      let answers = is_open program (request_of trace r) (scene.answers r) (Ends ends.0 ends.1) ends.2 in
      record {
        asked = first.0;
        fits = known.open_ones r answers.0 answers.1;
        is_allowed = (ends.0, ends.1, ends.2);
        is_as_traced = λ response path h. ends.3 ∙ ap (λ x. Some x) (same_end ends.0 response ends.1 path (sym ends.2 ∙ h));
      }

  no_departure : (past : List Moment) (m : Moment) (r : ℕ) → Fits trace past m → has_arrived past r ≡ false → is_departure r m ≡ false
  no_departure past (Arrive rid) r fits h = refl
  no_departure past (Act rid choice) r fits h = refl
  no_departure past (Depart rid) r fits h = ne_eqb r rid (λ e. true≢false (sym fits.0 ∙ subst (λ n. has_arrived past n ≡ false) e h))

  still_open : (past : List Moment) (scene : Scene) (m : Moment) → Known past scene
      → Passes program trace past scene m → (r : ℕ) (answers : List Datum)
      → (after program trace scene m).answers r ≡ Some answers
      → (has_arrived (past ++ m ∷ []) r ≡ true) × (has_departed (past ++ m ∷ []) r ≡ false)
  still_open past scene (Arrive rid) known passes r answers h = elim (cases_eq rid r) [
    | inl e ↦ (
      arrived_more past (Arrive rid) r ∙ or_right (has_arrived past r) (nat_eq r rid) (eq-eqb r rid (sym e)),
      departed_more past (Arrive rid) r ∙ or_from (has_departed past r) false (known.others r (subst (λ n. has_arrived past n ≡ false) e passes.fits.0)) refl,
    )
    | inr n ↦ more_open past (Arrive rid) r (known.open_ones r answers (sym (cond-false (nat_eq rid r) (Some []) (scene.answers r) (ne_eqb rid r n)) ∙ h)) refl
  ]
  still_open past scene (Act rid choice) known passes r answers h = elim (cases_eq rid r) [
    | inl e ↦ more_open past (Act rid choice) r (subst (λ n. (has_arrived past n ≡ true) × (has_departed past n ≡ false)) e passes.fits) refl
    | inr n ↦ more_open past (Act rid choice) r (known.open_ones r answers (unchanged (next_of program trace scene rid) n h)) refl
  ]
    where
      unchanged : (next : Option Ending) → (rid ≡ r → ⊥) → (after_act rid choice next scene).answers r ≡ Some answers → scene.answers r ≡ Some answers
      unchanged (Some (Wants op)) n e = sym (cond-false (nat_eq rid r) _ (scene.answers r) (ne_eqb rid r n)) ∙ e
      unchanged (Some (Ends response path)) n e = e
      unchanged (Some Undefined) n e = e
      unchanged None n e = e
  still_open past scene (Depart rid) known passes r answers h = elim (cases_eq rid r) [
    | inl e ↦ absurd (none_is_not (sym (cond-true (nat_eq rid r) None (scene.answers r) (eq-eqb rid r e)) ∙ h))
    | inr n ↦ more_open past (Depart rid) r (known.open_ones r answers
        (sym (cond-false (nat_eq rid r) None (scene.answers r) (ne_eqb rid r n)) ∙ h)) (ne_eqb r rid (λ e. n (sym e)))
  ]

  kept : (past : List Moment) (scene : Scene) (m : Moment) → Known past scene → Passes program trace past scene m
      → Known (past ++ m ∷ []) (after program trace scene m)
  kept past scene m known passes = record {
    open_ones = still_open past scene m known passes;
    others = λ r h.
        let before = (or_parts (has_arrived past r) (is_arrival r m) (sym (arrived_more past m r) ∙ h)).0 in
        departed_more past m r ∙ or_from (has_departed past r) (is_departure r m) (known.others r before) (no_departure past m r passes.fits before);
  }

  -- ---- all that is left

  record Sound (past : List Moment) (scene : Scene) (ms : List Moment) : Type 0 where
    pub asked : (k : ℕ) (m : Moment) → nth ms k ≡ Some m → (q : Request) × (request_of trace (rid_of m) ≡ Some q)
    pub fits : (k : ℕ) (m : Moment) → nth ms k ≡ Some m → Fits trace (past ++ take k ms) m
    pub plays : Plays program trace scene ms
    pub all_gone : first_not_departed (has_departed (past ++ ms)) trace ≡ None

  first_step : (past : List Moment) (scene : Scene) (m : Moment) (ms : List Moment) → difference_from program trace past scene (m ∷ ms) ≡ None
      → (fault_of program trace past scene m ≡ None) × (difference_from program trace (past ++ m ∷ []) (after program trace scene m) ms ≡ None)
  unfolding difference_from
  first_step past scene m ms e = go (fault_of program trace past scene m) refl e
    where
      rest : Option ReplayReason
      rest = difference_from program trace (past ++ m ∷ []) (after program trace scene m) ms

      go : (o : Option Reason) → fault_of program trace past scene m ≡ o → ◌≡◌ {A = Option ReplayReason} (elim o [ Some reason ↦ Some (AtMoment reason (length past) (rid_of m)) | None ↦ rest ]) None
          → (fault_of program trace past scene m ≡ None) × (rest ≡ None)
      go None is h = (is, h)
      go (Some reason) is h = absurd (none_is_not (sym h))

  sound_from : (past : List Moment) (scene : Scene) (ms : List Moment) → Known past scene
      → difference_from program trace past scene ms ≡ None → Sound past scene ms
  unfolding difference_from
  sound_from past scene [] known e = record {
    asked = λ k m h. absurd (none_is_not h);
    fits = λ k m h. absurd (none_is_not h);
    plays = tt;
    all_gone = subst (λ l. first_not_departed (has_departed l) trace ≡ None) (sym (append-nil past)) e;
  }
  sound_from past scene (m ∷ ms) known e =
      let first = first_step past scene m ms e in
      let passes = passed past scene m known first.0 in
      let rest = sound_from (past ++ m ∷ []) (after program trace scene m) ms (kept past scene m known passes) first.1 in
      record {
        asked = asked_of passes rest;
        fits = fits_of passes rest;
        plays = (passes.is_allowed, passes.is_as_traced, rest.plays);
        all_gone = subst (λ l. first_not_departed (has_departed l) trace ≡ None) (append_assoc past (m ∷ []) ms) rest.all_gone;
      }
    where
      asked_of : Passes program trace past scene m → Sound (past ++ m ∷ []) (after program trace scene m) ms
          → (k : ℕ) (n : Moment) → nth (m ∷ ms) k ≡ Some n → (q : Request) × (request_of trace (rid_of n) ≡ Some q)
      asked_of passes rest zero n h = subst (λ x. (q : Request) × (request_of trace (rid_of x) ≡ Some q)) (some_is h) passes.asked
      asked_of passes rest (suc k) n h = rest.asked k n h

      fits_of : Passes program trace past scene m → Sound (past ++ m ∷ []) (after program trace scene m) ms
          → (k : ℕ) (n : Moment) → nth (m ∷ ms) k ≡ Some n → Fits trace (past ++ take k (m ∷ ms)) n
      fits_of passes rest zero n h = subst (λ l. Fits trace l n) (sym (append-nil past)) (subst (λ x. Fits trace past x) (some_is h) passes.fits)
      fits_of passes rest (suc k) n h = subst (λ l. Fits trace l n) (append_assoc past (m ∷ []) (take k ms)) (rest.fits k n h)

  -- ---- the whole schedule

  module _ (balanced : IsBalanced trace) (schedule : List Moment)
      (asked : (k : ℕ) (m : Moment) → nth schedule k ≡ Some m → (q : Request) × (request_of trace (rid_of m) ≡ Some q))
      (fits : (k : ℕ) (m : Moment) → nth schedule k ≡ Some m → Fits trace (take k schedule) m)
      (all_gone : first_not_departed (has_departed schedule) trace ≡ None) where
    one_arrival : (r i j : ℕ) → nth schedule i ≡ Some (Arrive r) → nth schedule j ≡ Some (Arrive r) → i < j → ⊥
    one_arrival r i j at_i at_j l = true≢false
        (sym (has_arrived-at (take j schedule) r i (nth_take schedule j i (Arrive r) l at_i))
        ∙ (fits j (Arrive r) at_j).0)

    one_departure : (r i j : ℕ) → nth schedule i ≡ Some (Depart r) → nth schedule j ≡ Some (Depart r) → i < j → ⊥
    one_departure r i j at_i at_j l = true≢false
        (sym (has_departed-at (take j schedule) r i (nth_take schedule j i (Depart r) l at_i))
        ∙ (fits j (Depart r) at_j).1)

    same_arrival : (r i j : ℕ) → nth schedule i ≡ Some (Arrive r) → nth schedule j ≡ Some (Arrive r) → i ≡ j
    same_arrival r i j at_i at_j = elim (cases_order i j) [
      | inl e ↦ e
      | inr (inl l) ↦ absurd (one_arrival r i j at_i at_j l)
      | inr (inr l) ↦ absurd (one_arrival r j i at_j at_i l)
    ]

    same_departure : (r i j : ℕ) → nth schedule i ≡ Some (Depart r) → nth schedule j ≡ Some (Depart r) → i ≡ j
    same_departure r i j at_i at_j = elim (cases_order i j) [
      | inl e ↦ e
      | inr (inl l) ↦ absurd (one_departure r i j at_i at_j l)
      | inr (inr l) ↦ absurd (one_departure r j i at_j at_i l)
    ]

    whole : (r : ℕ) (q : Request) → request_of trace r ≡ Some q → IsWhole schedule r
    whole r q is =
        let in_trace = asked_at trace r q is in
        let departs = departed_at schedule r (all_departed trace schedule r in_trace.0 q all_gone in_trace.1) in
        let found = arrived_at (take departs.0 schedule) r (fits departs.0 (Depart r) departs.1).0 in
        let arrives = take_nth schedule departs.0 found.0 (Arrive r) found.1 in
        record {
          arrival = found.0;
          departure = departs.0;
          arrives = arrives.1;
          departs = departs.1;
          arrives_once = λ i at_i. same_arrival r i found.0 at_i arrives.1;
          departs_once = λ i at_i. same_departure r i departs.0 at_i departs.1;
          in_order = arrives.0;
          acts_between = λ i choice at_i. between i choice at_i found.0 departs.0 arrives.1 departs.1;
        }
      where
        between : (i : ℕ) (choice : Choice) → nth schedule i ≡ Some (Act r choice) → (a d : ℕ)
            → nth schedule a ≡ Some (Arrive r) → nth schedule d ≡ Some (Depart r) → (a < i) × (i < d)
        between i choice at_i a d at_a at_d =
            let fit = fits i (Act r choice) at_i in
            let found = arrived_at (take i schedule) r fit.0 in
            let arrives = take_nth schedule i found.0 (Arrive r) found.1 in
            let same : found.0 ≡ a = same_arrival r found.0 a arrives.1 at_a in (
              omega (arith, arrives.0),
              elim (cases_order i d) [
                | inl e ↦ absurd (is_no_departure (some_is (sym at_i ∙ ap (nth schedule) e ∙ at_d)))
                | inr (inl l) ↦ l
                | inr (inr l) ↦ absurd (true≢false (sym (has_departed-at (take i schedule) r d (nth_take schedule i d (Depart r) l at_d)) ∙ fit.1))
              ],
            )
          where
            is_no_departure : Act r choice ≡ Depart r → ⊥
            is_no_departure e = cc

    in_time : (a b i j : ℕ) → Precedes trace a b → nth schedule i ≡ Some (Depart a) → nth schedule j ≡ Some (Arrive b) → i < j
    in_time a b i j before at_i at_j =
        let gone : has_departed (take j schedule) a ≡ true =
        departed_before trace (take j schedule) b before.left before.right a before.response before.request
        (fits j (Arrive b) at_j).1 before.answers before.asks before.in_order
        (λ k p l h. let same : k ≡ before.right = balanced.asked_once b k before.right p before.request h before.asks in omega arith) in
        let found = departed_at (take j schedule) a gone in
        let departs = take_nth schedule j found.0 (Depart a) found.1 in
        let same : found.0 ≡ i = same_departure a found.0 i departs.1 at_i in
        omega (arith, departs.0)

nobody : (r : ℕ) → has_departed [] r ≡ false
unfolding has_departed
nobody r = refl

pub sound : (program : Program) (start : Objects) (trace : List TraceEvent) (schedule : List Moment)
    → IsBalanced trace → difference_of program start trace schedule ≡ None → Explains program start trace schedule
sound program start trace schedule balanced e =
    let all = sound_from program trace [] (opening start) schedule (record { open_ones = λ r answers h. absurd (none_is_not h); others = λ r h. nobody r }) e in
    record {
      whole = whole program trace balanced schedule all.asked all.fits all.all_gone;
      of_trace = all.asked;
      in_time = in_time program trace balanced schedule all.asked all.fits all.all_gone;
      plays = all.plays;
    }
