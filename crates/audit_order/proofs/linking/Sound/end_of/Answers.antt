use Rattle.std.proofs.Common.{◌≡◌, ◌∙◌, ap, length, arith}
use Rattle.basis.proofs.Places.{nth_within}
use Rattle.audit_meaning.specs.Nodes.{nodes}
use Rattle.audit_meaning.specs.Spots.{count_of}
use Rattle.audit_order.proofs.Built.{end_number}
use Rattle.audit_order.proofs.Numbered.{counted}
use Rattle.audit_order.proofs.linking.Sound.end_of.Goals as goal

pub number_of-requires-clause-stands : goal.number_of-requires-clause-stands
number_of-requires-clause-stands c =
    let s = c.args.self.now in
    let is : c.count.result ≡ count_of s.report.now c.args.rid = c.count.ensures ∙ counted s.report.now s.map.now c.args.rid c.requires.sound.map in
    record { place = c.requires.stands.place; request = c.requires.stands.request; asked = c.requires.stands.asked; within = omega (arith, is) }

pub overflow_add-result : goal.overflow_add-result
overflow_add-result c =
    let s = c.args.self.now in
    let lt = nth_within (nodes s.trace.now s.report.now) _ _ c.number_of.ensures in
    omega (arith, lt, ap length c.requires.sound.numbering.names, s.numbering.now.names.small, s.numbering.now.names.ok.0)

pub returns : goal.returns
returns c =
    let s = c.args.self.now in
    end_number s.trace.now s.report.now c.args.rid c.count.result c.number_of.result c.requires.sound.balanced
    (c.count.ensures ∙ counted s.report.now s.map.now c.args.rid c.requires.sound.map) c.number_of.ensures
