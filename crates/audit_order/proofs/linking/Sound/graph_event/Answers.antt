use Rattle.std.proofs.Common.{◌∙◌, ap, sym, Some, arith}
use Rattle.basis.specs.Lists.{nth}
use Rattle.event_order.specs.declared.graph.Event.TheVariants.{Arrival, Departure}
use Rattle.basis.proofs.Options.{some_is}
use Rattle.audit_meaning.specs.declared.node.Node.TheVariants.{End as close}
use Rattle.trace_index.proofs.Events.{asked_at, answered_at}
use Rattle.log_checker.proofs.Firsts.{some_at}
use Rattle.audit_order.proofs.Built.{end_is, apart_asked, one_rid}
use Rattle.audit_order.proofs.linking.Sound.graph_event.Goals as goal

pub end_of-requires-clause-stands : goal.end_of-requires-clause-stands
end_of-requires-clause-stands c =
    let s = c.args.self.now in
    let at = answered_at s.trace.now c.args.place c.in-Answers.rid c.head.result c.requires.inside c.head.ensures c.in-Answers.is in
    let asked = c.requires.sound.balanced.was_asked c.in-Answers.rid c.args.place at.0 at.1 in
    record { place = asked.0; request = asked.1; asked = asked.2; within = omega arith }

pub returns-in-Asks : goal.returns-in-Asks
returns-in-Asks c =
    let s = c.args.self.now in
    let at = asked_at s.trace.now c.args.place c.in-Asks.field-0 c.head.result c.requires.inside c.head.ensures c.in-Asks.is in
    let h = c.requires.sound.numbering in
    let read = some_at s.numbering.now.offsets.items c.args.place c.index.result.now (let lt = c.requires.inside in omega (arith, lt, h.count)) c.index.ensures in
    record {
      arrival = λ r q e. ap Arrival (some_is (sym read ∙ h.offsets c.args.place c.requires.inside));
      departure = λ r i x q e asked. absurd (apart_asked (nth s.trace.now c.args.place) c.in-Asks.field-0 r at.0 x at.1 e);
    }

pub returns-in-Answers : goal.returns-in-Answers
returns-in-Answers c =
    let s = c.args.self.now in
    let at = answered_at s.trace.now c.args.place c.in-Answers.rid c.head.result c.requires.inside c.head.ensures c.in-Answers.is in
    record {
      arrival = λ r q e. absurd (apart_asked (nth s.trace.now c.args.place) r c.in-Answers.rid q at.0 e at.1);
      departure = λ r i x q e asked.
          let same = one_rid (nth s.trace.now c.args.place) c.in-Answers.rid r at.0 x at.1 e in
          ap Departure (end_is s.trace.now s.report.now r i c.end_of.result q c.requires.sound.balanced asked
          (c.end_of.ensures ∙ ap (λ n. Some (close n)) same));
    }
