use Rattle.std.proofs.Common.{◌≡◌, ◌∙◌, ◌++◌, length, ap, arith}
use Rattle.basis.specs.Lists.{nth}
use Rattle.audit_order.specs.Shows.{offset}
use Rattle.audit_order.specs.Numbers.{own_nodes}
use Rattle.trace_index.proofs.Events.{asked_at, answered_at}
use Rattle.audit_order.proofs.Numbered.{names_more, names_same, names_all, places_more, counted}
use Rattle.audit_order.proofs.numbering.number_nodes.Goals as goal
use Rattle.audit_order.proofs.numbering.number_nodes.Goals.{in-Asks+in_ok-push_nodes, in_default}

pub loop-place-preserved : goal.loop-place-preserved
loop-place-preserved c =
    let i = c.loop-place.place in
    let trace = c.args.trace.now in
    let report = c.args.report.now in
    let so_far = c.loop-place.invariant in
    let pushed = c.in_ok-push.ensures.items in
    record {
      names = elim c.match-head.branch [
        | in-Asks+in_ok-push_nodes w ↦
            let r = w.in-Asks.rid in
            let asked = asked_at trace i r c.head.result (omega arith) c.head.ensures w.in-Asks.is in
            ap (λ (v : _). v.items) w.names-is
            ∙ w.in_ok-push_nodes.ensures
            ∙ ap (λ n. c.loop-place.names.items ++ own_nodes n r) (w.count.ensures ∙ counted report c.args.map.now r c.requires)
            ∙ names_more report trace i _ c.loop-place.names.items asked.1 so_far.names
        | in_default w ↦
            let answered = answered_at trace i w.in_default.field-0 c.head.result (omega arith) c.head.ensures w.in_default.is in
            ap (λ (v : _). v.items) w.names-is
            ∙ names_same report trace i w.in_default.field-0 answered.0 c.loop-place.names.items answered.1 so_far.names
      ];
      count = omega (arith, c.in_ok-push.ensures.len, so_far.count);
      offsets = λ k lt. ap (λ xs. nth xs k) pushed ∙ places_more (offset trace report) c.loop-place.offsets.items c.in_ok-narrow.field-0 i so_far.count so_far.offsets (omega (arith, c.in_ok-narrow.ensures, c.len.ensures, ap length so_far.names, c.loop-place.names.ok.0)) k lt;
    }

pub returns : goal.returns
returns c =
    let all : c.loop-place.place ≡ length c.args.trace.now = omega arith in
    record {
      names = names_all c.args.report.now c.args.trace.now c.loop-place.place c.loop-place.names.items all c.loop-place.invariant.names;
      few = omega (arith, c.in_ok-narrow-2.ensures, c.len-2.ensures);
      count = c.loop-place.invariant.count ∙ all;
      offsets = λ i lt. c.loop-place.invariant.offsets i (omega arith);
    }
