-- A worked example of a replay: two hits, one after the other.
use Rattle.std.proofs.Common.{◌≡◌, ℕ, zero, suc, ◌+◌, ◌*◌, ◌<◌, lit<, subst, nat_eq, false, List, [], ◌∷◌, Option, Some, None, codes, refl, ap, arith}
use Rattle.std.specs.Fmt.{digits}
use Rattle.std.proofs.lemmas.Bool.Decides.{nat_tests}
use Rattle.basis.specs.Lists.{nth, first_answer, or_else}
use Rattle.script_tree.specs.Objects.{acted, plausible, nothing_stored}
use Rattle.script_tree.specs.Requests.{Request}
use Rattle.period.specs.Traces.{request_of, response_of, Precedes}
use Rattle.script_tree.specs.declared.operation.Choice.{Choice}
use Rattle.script_tree.specs.declared.operation.Choice.TheVariants.{Nothing}
use Rattle.period.specs.declared.schedule.Moment.{Moment}
use Rattle.period.specs.declared.schedule.Moment.TheVariants.{Arrive, Act, Depart}
use Rattle.period.specs.declared.trace.TraceEvent.{TraceEvent}
use Rattle.period.specs.declared.trace.TraceEvent.TheVariants.{Asked, Answered}
use Rattle.script_tree.specs.declared.path.End.TheVariants.{Normal}
use Rattle.script_tree.specs.declared.path.Path.{Path}
use Rattle.script_tree.specs.declared.request.Response.{Response}
use Rattle.script_meaning.specs.Conduct.{Ending, Ends}
use Rattle.script_meaning.specs.Replay.{ending_of, opening, Plays}
use Rattle.script_meaning.specs.Explains.{Explains, IsWhole, rid_of}
use Rattle.script_meaning.proofs.Programs.{hit_page, get}

-- the two hits, the second answered so
abbrev hits : List ℕ → List TraceEvent
hits body =
    Asked 0 (get (codes "/hit")) ∷ Answered 0 (record { status = 200; body = codes "1" })
    ∷ Asked 1 (get (codes "/hit")) ∷ Answered 1 (record { status = 200; body = body }) ∷ []

abbrev schedule : List Moment
schedule =
    Arrive 0 ∷ Act 0 Nothing ∷ Act 0 Nothing ∷ Depart 0
    ∷ Arrive 1 ∷ Act 1 Nothing ∷ Act 1 Nothing ∷ Depart 1 ∷ []

same_response : (x y : Response) (p q : Path) → Some (Ends x p) ≡ Some (Ends y q) → Some x ≡ Some y
same_response x y p q e = cc

plays : Plays hit_page (hits (codes "2")) (opening nothing_stored) schedule
unfolding digits acted plausible request_of response_of first_answer or_else ending_of
plays =
    (refl, tt, ((_, refl, refl), tt, ((_, refl, refl), tt, ((_, _, refl), λ x p e. same_response _ _ _ _ e, (refl, tt, ((_, refl, refl), tt, ((_, refl, refl), tt, ((_, _, refl), λ x p e. same_response _ _ _ _ e, tt))))))))

-- where the schedule has what: each request fills four moments
Stands : ℕ → Moment → Type 0
Stands i (Arrive r) = (r < 2) × (i ≡ 4 * r)
Stands i (Act r choice) = (r < 2) × (4 * r < i) × (i < 4 * r + 3)
Stands i (Depart r) = (r < 2) × (i ≡ 4 * r + 3)

-- P of each member and its place
Each : {A : Type 0} → (ℕ → A → Type 0) → List A → Type 0
Each P [] = Unit {0}
Each P (x ∷ xs) = P 0 x × Each (λ i. P (suc i)) xs

each_at : {A : Type 0} (P : ℕ → A → Type 0) (xs : List A) → Each P xs → (i : ℕ) (y : A) → nth xs i ≡ Some y → P i y
unfolding Each
each_at P [] h i y e = cc
each_at P (x ∷ xs) h zero y e = let same : x ≡ y = cc in subst (P 0) same h.0
each_at P (x ∷ xs) h (suc i) y e = each_at (λ j. P (suc j)) xs h.1 i y e

all_stand : Each Stands schedule
unfolding Each Stands
all_stand = (
  (lit< tt, refl),
  (
    (lit< tt, lit< tt, lit< tt),
    (
      (lit< tt, lit< tt, lit< tt),
      (
        (lit< tt, refl),
        ((lit< tt, refl), ((lit< tt, lit< tt, lit< tt), ((lit< tt, lit< tt, lit< tt), ((lit< tt, refl), tt)))),
      ),
    ),
  ),
)

stands : (i : ℕ) (m : Moment) → nth schedule i ≡ Some m → Stands i m
stands i m e = each_at Stands schedule all_stand i m e

arrives_at : (r i : ℕ) → nth schedule i ≡ Some (Arrive r) → i ≡ 4 * r
unfolding Stands
arrives_at r i e = (stands i (Arrive r) e).1

departs_at : (r i : ℕ) → nth schedule i ≡ Some (Depart r) → i ≡ 4 * r + 3
unfolding Stands
departs_at r i e = (stands i (Depart r) e).1

acts_at : (r i : ℕ) (choice : Choice) → nth schedule i ≡ Some (Act r choice) → (4 * r < i) × (i < 4 * r + 3)
unfolding Stands
acts_at r i choice e = let h = stands i (Act r choice) e in (h.1, h.2)

whole_at : (r : ℕ) → nth schedule (4 * r) ≡ Some (Arrive r) → nth schedule (4 * r + 3) ≡ Some (Depart r) → IsWhole schedule r
whole_at r a d = record {
  arrival = 4 * r;
  departure = 4 * r + 3;
  arrives = a;
  departs = d;
  arrives_once = arrives_at r;
  departs_once = departs_at r;
  in_order = omega arith;
  acts_between = acts_at r;
}

third : (r k : ℕ) → k < 2 → nat_eq (suc (suc r)) k ≡ false
third r k h = grind (arith, nat_tests)

whole : (body : List ℕ) (r : ℕ) (q : Request) → request_of (hits body) r ≡ Some q → IsWhole schedule r
unfolding request_of first_answer or_else
whole body zero q e = whole_at 0 refl refl
whole body (suc zero) q e = whole_at 1 refl refl
whole body (suc (suc r)) q e = let none = rw (third r 0 (lit< tt), third r 1 (lit< tt)) at e in absurd (cc)

asked : (body : List ℕ) (r : ℕ) → r < 2 → (q : Request) × (request_of (hits body) r ≡ Some q)
unfolding request_of first_answer or_else
asked body zero h = (_, refl)
asked body (suc zero) h = (_, refl)
asked body (suc (suc r)) h = absurd (omega arith)

is_asked : (m : Moment) (i : ℕ) → Stands i m → rid_of m < 2
unfolding Stands
is_asked (Arrive r) i h = h.0
is_asked (Act r choice) i h = h.0
is_asked (Depart r) i h = h.0

-- where the trace has what: each request fills two places
Stood : ℕ → TraceEvent → Type 0
Stood i (Asked r q) = i ≡ 2 * r
Stood i (Answered r x) = i ≡ 2 * r + 1

all_stood : (body : List ℕ) → Each Stood (hits body)
unfolding Each Stood
all_stood body = (refl, (refl, (refl, (refl, tt))))

-- only the first request precedes the other
in_order : (body : List ℕ) (a b : ℕ) → Precedes (hits body) a b → a < b
unfolding Stood
in_order body a b p =
    let left : p.left ≡ 2 * a + 1 = each_at Stood (hits body) (all_stood body) p.left _ p.answers in
    let right : p.right ≡ 2 * b = each_at Stood (hits body) (all_stood body) p.right _ p.asks in
    omega (arith, p.in_order)

in_time : (a b i j : ℕ) → a < b → nth schedule i ≡ Some (Depart a) → nth schedule j ≡ Some (Arrive b) → i < j
in_time a b i j h d c = omega (arith, departs_at a i d, arrives_at b j c)

explains : Explains hit_page nothing_stored (hits (codes "2")) schedule
explains = record {
  whole = whole (codes "2");
  of_trace = λ i m e. asked (codes "2") (rid_of m) (is_asked m i (stands i m e));
  in_time = λ a b i j p d c. in_time a b i j (in_order (codes "2") a b p) d c;
  plays = plays;
}

abbrev ended_body : Ending → List ℕ
ended_body (Ends x path) = x.body
ended_body ending = []

abbrev traced_body : Option Response → List ℕ
traced_body (Some x) = x.body
traced_body None = []

abbrev first_byte : List ℕ → ℕ
first_byte [] = 0
first_byte (b ∷ bytes) = b

one_is_not_two : (x : Response) (q p : Path)
    → Some (Ends (record { status = 200; body = codes "2" }) q) ≡ Some (Ends x p) → Some (record { status = 200; body = codes "1" }) ≡ Some x → ⊥
one_is_not_two x q p ends answered =
    let response : Ends (record { status = 200; body = codes "2" }) q ≡ Ends x p = cc in
    let two : codes "2" ≡ x.body = ap ended_body response in
    let first : codes "1" ≡ x.body = ap traced_body answered in
    omega (arith, ap first_byte two, ap first_byte first)

abbrev second_path : Path
second_path = record { page = Some 0; decisions = false ∷ []; steps = 17; end = Normal }

-- the second run ends with 2, and a departure that gives 1 is not allowed
does_not_explain : Explains hit_page nothing_stored (hits (codes "1")) schedule → ⊥
unfolding digits acted plausible request_of response_of first_answer or_else ending_of
does_not_explain e = let last = e.plays.2.2.2.2.2.2.2 in
    let ends = last.0 in
    one_is_not_two ends.0 second_path ends.1 ends.2 (last.1 ends.0 ends.1 ends.2)
