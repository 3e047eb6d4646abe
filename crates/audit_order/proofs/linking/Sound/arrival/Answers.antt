use Rattle.std.proofs.Common.{◌≡◌, ◌∙◌, ℕ, true, None, Some, refl, ap, sym, subst}
use Rattle.basis.specs.Lists.{nth}
use Rattle.script_tree.specs.Requests.{Request}
use Rattle.period.specs.declared.trace.TraceEvent.TheVariants.{Asked}
use Rattle.event_order.specs.declared.graph.Node.{Node as GraphNode}
use Rattle.basis.proofs.Places.{nth_within}
use Rattle.precedence_graph.specs.Since.{IsSince}
use Rattle.audit_order.proofs.Built.{step_node, place_is, no_request}
use Rattle.audit_order.proofs.Links.{no_entry, unlinked}
use Rattle.audit_order.proofs.linking.Sound.arrival.Goals as goal
use Rattle.audit_order.proofs.linking.Sound.arrival.Goals.{in-Some, in-None}

pub returns : goal.returns
returns c =
    let s = c.args.self.now in
    let trace = s.trace.now in
    let r = c.args.rid in
    let at = c.in_ok-narrow.field-0 in
    let v : GraphNode = record { is_arrival = true; log_before = None; log_after = None; at = at; since = c.number_at.result } in
    let places : (q : Request) (i : ℕ) → nth trace i ≡ Some (Asked r q) → (at ≡ i) × IsSince trace i c.number_at.result = λ q i asked.
    let here : c.match-place.place ≡ i = elim c.match-place.branch [
      | in-Some w ↦ w.place-is ∙ place_is trace r _ i q c.requires.sound.balanced (sym c.place.ensures.place ∙ w.in-Some.is) asked
      | in-None w ↦ absurd (no_request trace r i q (sym c.place.ensures.place ∙ w.in-None.is) asked)
    ] in
    let t = c.requires.since.each i (nth_within trace i (Asked r q) asked) in
    (c.in_ok-narrow.ensures ∙ here, subst (IsSince trace i) (sym (c.number_at.ensures t.0 (ap (nth c.args.since.now) here ∙ t.1))) t.2) in
    let sound = c.requires.sound in
    step_node trace s.report.now r 0 at c.number_at.result v sound.balanced
    (unlinked trace s.report.now sound.balanced sound.faultless r 0 v
    (no_entry trace s.report.now sound.balanced sound.faultless r) refl refl) refl refl refl places
