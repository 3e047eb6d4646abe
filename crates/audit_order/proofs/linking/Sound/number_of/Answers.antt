use Rattle.std.proofs.Common.{◌∙◌, sym, ap, length, arith}
use Rattle.basis.proofs.Places.{nth_within}
use Rattle.audit_meaning.specs.Nodes.{nodes}
use Rattle.audit_order.proofs.Links.{operation_number, no_place}
use Rattle.audit_order.proofs.linking.Sound.number_of.Goals as goal

pub unreachable-requires : goal.unreachable-requires
unreachable-requires c = no_place c.args.self.now.trace.now c.args.self.now.report.now c.args.rid c.args.number c.requires.stands (sym c.place.ensures.place ∙ c.in_default.is)

pub overflow_add-result : goal.overflow_add-result
overflow_add-result c =
    let s = c.args.self.now in
    let at = operation_number s.trace.now s.report.now s.numbering.now c.args.rid c.args.number c.in-Some.place c.index.result.now c.requires.sound.numbering c.requires.stands (sym c.place.ensures.place ∙ c.in-Some.is) c.index.ensures in
    let lt = nth_within (nodes s.trace.now s.report.now) _ _ at in
    omega (arith, lt, ap length c.requires.sound.numbering.names, s.numbering.now.names.small, s.numbering.now.names.ok.0)

pub returns : goal.returns
returns c =
    let s = c.args.self.now in
    operation_number s.trace.now s.report.now s.numbering.now c.args.rid c.args.number c.in-Some.place c.index.result.now c.requires.sound.numbering c.requires.stands (sym c.place.ensures.place ∙ c.in-Some.is) c.index.ensures
