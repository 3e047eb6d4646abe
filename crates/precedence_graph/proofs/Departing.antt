-- What events say of arrivals and departures.
use Rattle.std.proofs.Common.{◌≡◌, ◌∙◌, ℕ, ◌<◌, List, length, Option, Some, None, cond, ap, sym, refl, subst}
use Rattle.std.proofs.lemmas.Bool.{eq-eqb}
use Rattle.basis.specs.Lists.{nth}
use Rattle.basis.proofs.Options.{none_is_not}
use Rattle.script_tree.specs.Requests.{Request}
use Rattle.period.specs.Traces.{IsBalanced, request_in, request_of}
use Rattle.script_tree.specs.declared.request.Response.{Response}
use Rattle.period.specs.declared.trace.TraceEvent.{TraceEvent}
use Rattle.period.specs.declared.trace.TraceEvent.TheVariants.{Asked, Answered}
use Rattle.trace_format.specs.Balance.{AsksAt, AnswersAt}
use Rattle.trace_format.specs.declared.trace_file.EventHead.{EventHead}
use Rattle.trace_format.specs.declared.trace_file.EventHead.TheVariants.{Asks, Answers}
use Rattle.trace_index.specs.Places.{HasHeadAt, IsPartner, request_place}
use Rattle.trace_index.proofs.Events.{asked_at, answered_at}
use Rattle.trace_index.proofs.HeadFacts.{nth_got}
use Rattle.trace_index.proofs.PlaceFacts.{request_absent, request_here}
use Rattle.audit_meaning.proofs.Places.{first_none}
use Rattle.precedence_graph.specs.Departures.{DepartsAt, ArrivesAt, IsAnsweredHere}

-- ---- what stands at a place

-- one id at a place
pub asked_rid : (trace : List TraceEvent) (i r s : ℕ) (p q : Request) → AsksAt trace i r p → AsksAt trace i s q → r ≡ s
asked_rid trace i r s p q e f = go (nth trace i) e f
  where
    go : (o : Option TraceEvent) → o ≡ Some (Asked r p) → o ≡ Some (Asked s q) → r ≡ s
    go o e f = cc

answered_rid : (o : Option TraceEvent) (r s : ℕ) (x y : Response) → o ≡ Some (Answered r x) → o ≡ Some (Answered s y) → r ≡ s
answered_rid o r s x y e f = cc

asked_not : (o : Option TraceEvent) (r s : ℕ) (q : Request) (x : Response) → o ≡ Some (Asked r q) → o ≡ Some (Answered s x) → ⊥
asked_not o r s q x e f = cc

-- where a request stands, none departs
pub arrival_departs_not : (trace : List TraceEvent) (i comes : ℕ) → ArrivesAt trace i → DepartsAt trace comes i → ⊥
arrival_departs_not trace i comes a d = asked_not (nth trace i) a.0 d.rid a.1 d.response a.2 d.answered

-- ---- in a balanced trace

-- a request departs once
pub departs_once : (trace : List TraceEvent) (a g h : ℕ) → IsBalanced trace → DepartsAt trace a g → DepartsAt trace a h → g ≡ h
departs_once trace a g h b d e =
    let rids : d.rid ≡ e.rid = asked_rid trace a d.rid e.rid d.request e.request d.asked e.asked in
    b.answered_once e.rid g h d.response e.response (subst (λ r. AnswersAt trace g r d.response) rids d.answered) e.answered

-- one request departs at a place
pub comes_once : (trace : List TraceEvent) (a c g : ℕ) → IsBalanced trace → DepartsAt trace a g → DepartsAt trace c g → a ≡ c
comes_once trace a c g b d e =
    let rids : d.rid ≡ e.rid = answered_rid (nth trace g) d.rid e.rid d.response e.response d.answered e.answered in
    b.asked_once e.rid a c d.request e.request (subst (λ r. AsksAt trace a r d.request) rids d.asked) e.asked

-- a request departs after it came
pub comes_first : (trace : List TraceEvent) (a g : ℕ) → IsBalanced trace → DepartsAt trace a g → a < g
comes_first trace a g b d =
    let answer = b.is_answered d.rid a d.request d.asked in
    let same : answer.0 ≡ g = b.answered_once d.rid answer.0 g answer.1 d.response answer.3 d.answered in
    subst (λ k. a < k) same answer.2

-- ---- what the head of an event says

pub asks_here : (trace : List TraceEvent) (place r : ℕ) (head : EventHead) → place < length trace → HasHeadAt trace place head → head ≡ Asks r
    → ArrivesAt trace place
asks_here trace place r head lt has is = let q = asked_at trace place r head lt has is in (r, q.0, q.1)

-- the request of a response has a place
no_place : (trace : List TraceEvent) (place r : ℕ) (x : Response) → IsBalanced trace → AnswersAt trace place r x → request_place trace r ≡ None → ⊥
unfolding request_of
no_place trace place r x b at none =
    let a = b.was_asked r place x at in
    none_is_not (sym (first_none (request_in r) trace a.0 (Asked r a.1) (request_absent r trace none) a.2) ∙ ap (λ t. cond t (Some a.1) None) (eq-eqb r r refl))

-- the partner of a response is its request
pub departs_here : (trace : List TraceEvent) (place r : ℕ) (head : EventHead) (partner : Option ℕ) → IsBalanced trace → place < length trace
    → HasHeadAt trace place head → head ≡ Answers r
    → IsPartner trace place partner → IsAnsweredHere trace place partner
departs_here trace place r head partner b lt has is p = go partner (p.request r answer.0 (sym (nth_got trace place) ∙ answer.1))
  where
    answer : (x : Response) × AnswersAt trace place r x
    answer = answered_at trace place r head lt has is

    go : (o : Option ℕ) → o ≡ request_place trace r → IsAnsweredHere trace place o
    go None e = absurd (no_place trace place r answer.0 b answer.1 (sym e))
    go (Some comes) e =
        let came = request_here r trace comes (sym e) in
        record { rid = r; request = came.0; asked = nth_got trace comes ∙ came.1; response = answer.0; answered = answer.1 }
