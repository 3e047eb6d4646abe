use Rattle.std.proofs.Common.{length, refl, subst, ap}
use Rattle.script_meaning.specs.Run.{after, give}
use Rattle.script_nodes.specs.NodeLaws.{noted}
use Rattle.multivalue.specs.Many.{member_value}
use Rattle.multi_state.specs.AllDo.{DecisionsPart, NodesPart, node_at}
use Rattle.multi_state.specs.Spending.{NotesAll, NotesPart}
use Rattle.multi_state.proofs.Parting.{decisions_part, noted_part}
use Rattle.multi_state.proofs.Parts.{and_then, halted}
use Rattle.multi_state.proofs.account.Account.decide.Goals as goal

pub returns-in-Ok-clause-decides : goal.returns-in-Ok-clause-decides
returns-in-Ok-clause-decides g c =
    let qs = c.args.group.now in
    let n = ap length c.requests.ensures.requests in
    let m = c.in-Ok.decided in
    let mid = c.value.new.self in
    let notes = subst (λ k. NotesAll k m mid c.note.result c.note.new.self) n c.note.ensures.notes in
    and_then (length qs) c.args.evaluations.now c.value.new.evaluations (node_at qs c.args.primitive c.args.operands.now) (λ i o. after o noted)
    (λ i m. give (member_value m i)) (λ i. give) (NotesPart (length qs) m mid) (DecisionsPart qs c.args.primitive c.args.operands.now c.args.self.now)
    (noted_part qs c.args.primitive c.args.operands.now c.args.self.now c.args.evaluations.now c.value.new.evaluations m mid c.in-Ok.ensures.does)
    m c.args.self.now mid c.note.new.self c.note.result c.in-Ok.ensures.does notes

pub returns-in-Err-clause-decides : goal.returns-in-Err-clause-decides
returns-in-Err-clause-decides g c =
    let qs = c.args.group.now in
    halted (length qs) c.args.evaluations.now c.value.new.evaluations (node_at qs c.args.primitive c.args.operands.now) (λ i o. after o noted)
    (λ i m. give (member_value m i)) (λ i. give)
    (NodesPart qs c.args.primitive c.args.operands.now c.args.self.now) (DecisionsPart qs c.args.primitive c.args.operands.now c.args.self.now)
    (decisions_part qs c.args.primitive c.args.operands.now c.args.self.now) c.in-Err.apart c.args.self.now c.value.new.self
    (λ i f p. refl) c.in-Err.ensures.does
