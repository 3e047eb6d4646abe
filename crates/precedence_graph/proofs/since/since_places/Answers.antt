use Rattle.std.proofs.Common.{◌≡◌, ◌∙◌, ◌+◌, ◌<◌, ℕ, length, Some, ap, sym, subst, arith, rules}
use Rattle.basis.specs.Lists.{nth}
use Rattle.precedence_graph.specs.Departures.{DepartsAt, IsAnsweredHere}
use Rattle.precedence_graph.specs.Since.{IsSince}
use Rattle.precedence_graph.proofs.Greatest.{each_more, since_start, since_arrives, since_departs}
use Rattle.precedence_graph.proofs.since.since_places.Goals as goal
use Rattle.precedence_graph.proofs.since.since_places.Goals.{in-Some+in_ok-comes, in_default}

pub loop-place-init : goal.loop-place-init
loop-place-init c = record { count = ap length c.in_ok-since.ensures.items; each = λ i lt. absurd (omega arith); now = since_start c.args.trace.now }

pub loop-place-preserved : goal.loop-place-preserved
loop-place-preserved c =
    let place = c.loop-place.place in
    let trace = c.args.trace.now in
    let so_far = c.loop-place.invariant in
    record {
      count = omega (arith, c.in_ok-push.ensures.len, so_far.count);
      each = subst (λ xs. (k : ℕ) → k < place + 1 → (w : ℕ) × (nth xs k ≡ Some w) × IsSince trace k w) (sym c.in_ok-push.ensures.items)
          (each_more (λ k w. IsSince trace k w) c.loop-place.since.items c.loop-place.greatest place so_far.count so_far.each so_far.now);
      now = elim c.match-request_answered.branch [
        | in-Some+in_ok-comes w ↦
            let here = subst (IsAnsweredHere trace place) w.in-Some.is c.request_answered.ensures in
            let same : w.in_ok-comes.comes ≡ w.in-Some.comes = search rules in
            let departs = subst (λ k. DepartsAt trace k place) (sym same) here in
            since_departs trace place c.loop-place.greatest w.in_ok-comes.comes c.match-request_answered.greatest c.requires departs so_far.now
            (w.greatest-is ∙ w.max-greatest.ensures)
        | in_default w ↦
            let here = subst (IsAnsweredHere trace place) w.in_default.is c.request_answered.ensures in
            subst (IsSince trace (place + 1)) (sym w.greatest-is) (since_arrives trace place c.loop-place.greatest here so_far.now)
      ];
    }

pub returns : goal.returns
returns c =
    let all : c.loop-place.place ≡ length c.args.trace.now = omega arith in
    record { count = c.loop-place.invariant.count ∙ all; each = λ i lt. c.loop-place.invariant.each i (omega arith) }
