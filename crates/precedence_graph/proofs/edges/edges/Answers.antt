use Rattle.std.proofs.Common.{◌≡◌, ◌∙◌, ◌+◌, ℕ, length, Vec, Global, ap, sym, subst, arith}
use Rattle.basis.proofs.Places.{nth_within}
use Rattle.precedence_graph.specs.Departures.{IsAnsweredHere}
use Rattle.precedence_graph.specs.EdgeLists.{AreEdgesTo, AreStarts}
use Rattle.precedence_graph.proofs.Departing.{comes_first}
use Rattle.precedence_graph.proofs.EdgeSteps.{edges_all}
use Rattle.precedence_graph.proofs.Walked.{IsWalked, start_pushed, walked_arrives, walked_departs, walked_start}
use Rattle.precedence_graph.proofs.edges.edges.Goals as goal
use Rattle.precedence_graph.proofs.edges.edges.Goals.{in-None+in_ok-push_edges-in-None, in-Some+in_ok-insert-in-Some}

pub loop-place-init : goal.loop-place-init
loop-place-init c =
    walked_start c.args.trace.now c.new-edges.result.items c.in_ok-starts.starts.items c.new-frontier.result
    c.new-edges.ensures.items c.in_ok-starts.ensures.items c.new-frontier.ensures.empty c.new-frontier.ensures.ordered

pub edges_to-requires-clause-starts : goal.edges_to-requires-clause-starts
edges_to-requires-clause-starts c =
    let all : c.len-in-loop-place.result ≡ length c.loop-place.edges.items = omega arith in
    let pushed = start_pushed c.args.trace.now c.loop-place.place c.len-in-loop-place.result c.loop-place.edges.items c.loop-place.starts.items
    c.push.new.self.items c.loop-place.frontier all c.in_ok-push.ensures.items c.loop-place.invariant in
    subst (λ xs. AreStarts xs c.deref-in-Some.result.now) (sym c.deref.ensures.value)
    (subst (AreStarts c.loop-place.edges.items) (sym c.deref-in-Some.ensures.value) pushed.0)

pub edges_to-requires-clause-within : goal.edges_to-requires-clause-within
edges_to-requires-clause-within c =
    let departs = subst (IsAnsweredHere c.args.trace.now c.loop-place.place) c.in-Some.is c.request_answered.ensures in
    let first = comes_first c.args.trace.now c.in-Some.request c.loop-place.place c.requires departs in
    omega (arith, first, ap (length {A = ℕ}) c.deref-in-Some.ensures.value, c.in_ok-push.ensures.len, c.loop-place.invariant.count)

pub loop-place-preserved : goal.loop-place-preserved
loop-place-preserved c =
    let place = c.loop-place.place in
    let trace = c.args.trace.now in
    let edges = c.loop-place.edges.items in
    let starts = c.loop-place.starts.items in
    let frontier = c.loop-place.frontier in
    let all : c.len-in-loop-place.result ≡ length edges = omega arith in
    let pushed = start_pushed trace place c.len-in-loop-place.result edges starts c.push.new.self.items frontier all
    c.in_ok-push.ensures.items c.loop-place.invariant in
    elim c.match-request_answered.branch [
      | in-None+in_ok-push_edges-in-None w ↦
          let arrives = subst (IsAnsweredHere trace place) w.in-None.is c.request_answered.ensures in
          walked_arrives trace place edges c.match-request_answered.edges.items starts c.push.new.self.items frontier c.match-request_answered.frontier arrives
          c.loop-place.invariant pushed (ap (λ v. v.items) w.edges-is ∙ w.in_ok-push_edges-in-None.ensures) w.frontier-is
      | in-Some+in_ok-insert-in-Some w ↦
          let departs = subst (IsAnsweredHere trace place) w.in-Some.is c.request_answered.ensures in
          let found = w.edges_to.result.now in
          let to = subst (λ xs. AreEdgesTo xs w.in-Some.request found) w.deref.ensures.value w.edges_to.ensures in
          let inserted = w.in_ok-insert-in-Some.ensures in
          subst (λ (v : Vec (ℕ × ℕ) Global). IsWalked trace (place + 1) v.items c.push.new.self.items c.match-request_answered.frontier) (sym w.edges-is)
          (subst (IsWalked trace (place + 1) edges c.push.new.self.items) (sym w.frontier-is)
          (walked_departs trace place w.in-Some.request edges found starts c.push.new.self.items frontier w.remove_sources.new.frontier w.insert.new.self
          c.requires departs c.loop-place.invariant pushed to w.remove_sources.ensures inserted.updates inserted.ordered))
    ]

pub returns : goal.returns
returns c =
    let all : c.loop-place.place ≡ length c.args.trace.now = omega arith in
    edges_all c.args.trace.now c.loop-place.place c.loop-place.edges.items
    (λ b a. let inside = nth_within c.args.trace.now b _ a.2 in omega (arith, inside, all))
    c.loop-place.invariant.edges
