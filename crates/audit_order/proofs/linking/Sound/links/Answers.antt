use Rattle.std.proofs.Common.{◌∙◌, length, ap, sym, subst, arith}
use Rattle.basis.proofs.Places.{nth_within}
use Rattle.audit_meaning.specs.Nodes.{nodes}
use Rattle.audit_order.specs.Links.{HaveNodes, LinksBefore, LinksAfter}
use Rattle.audit_order.proofs.Links.{linked, unlinked, entry_operation, pointed, unpointed, same_log}
use Rattle.audit_order.proofs.linking.Sound.links.Goals as goal

pub returns-in_default : goal.returns-in_default
returns-in_default c = λ v no_before no_after.
    let s = c.args.self.now in
    unlinked s.trace.now s.report.now c.requires.sound.balanced c.requires.sound.faultless c.args.rid c.args.number v
    (unpointed s.report.now s.map.now c.args.rid c.args.number c.requires.sound.map (sym c.find.ensures ∙ c.in_default.is)) no_before no_after

pub bounds-as_slice-log : goal.bounds-as_slice-log
bounds-as_slice-log c =
    let s = c.args.self.now in
    let p = pointed s.report.now s.map.now c.args.rid c.args.number (c.in-Some.log, c.in-Some.position) c.requires.sound.map (sym c.find.ensures ∙ c.in-Some.is) in
    let lt = nth_within s.report.now.logs c.in-Some.log p.log p.logged in
    omega (arith, lt, ap length c.as_slice.ensures)

pub link_before-before-requires-clause-inside : goal.link_before-before-requires-clause-inside
link_before-before-requires-clause-inside c =
    let s = c.args.self.now in
    let p = pointed s.report.now s.map.now c.args.rid c.args.number (c.in-Some.log, c.in-Some.position) c.requires.sound.map (sym c.find.ensures ∙ c.in-Some.is) in
    let l = same_log s.report.now c.args.rid c.args.number (c.in-Some.log, c.in-Some.position) p c.as_slice.result.now c.index-as_slice-log.result c.as_slice.ensures c.index-as_slice-log.is in
    let same = c.as_slice-entries.ensures ∙ ap (λ (x : _). x.entries) (sym c.index-as_slice-log.is ∙ l) in
    let lt = nth_within p.log.entries c.in-Some.position p.entry p.holds in
    omega (arith, lt, ap length same)

pub link_before-before-requires-clause-known : goal.link_before-before-requires-clause-known
link_before-before-requires-clause-known c =
    let s = c.args.self.now in
    let p = pointed s.report.now s.map.now c.args.rid c.args.number (c.in-Some.log, c.in-Some.position) c.requires.sound.map (sym c.find.ensures ∙ c.in-Some.is) in
    let l = same_log s.report.now c.args.rid c.args.number (c.in-Some.log, c.in-Some.position) p c.as_slice.result.now c.index-as_slice-log.result c.as_slice.ensures c.index-as_slice-log.is in
    let same = c.as_slice-entries.ensures ∙ ap (λ (x : _). x.entries) (sym c.index-as_slice-log.is ∙ l) in
    subst (HaveNodes s.trace.now s.report.now) (sym same) (λ j e at. entry_operation s.trace.now s.report.now c.requires.sound.balanced c.requires.sound.faultless c.in-Some.log j p.log e p.logged at)

pub link_after-after-requires-clause-inside : goal.link_after-after-requires-clause-inside
link_after-after-requires-clause-inside c =
    let s = c.args.self.now in
    let p = pointed s.report.now s.map.now c.args.rid c.args.number (c.in-Some.log, c.in-Some.position) c.requires.sound.map (sym c.find.ensures ∙ c.in-Some.is) in
    let l = same_log s.report.now c.args.rid c.args.number (c.in-Some.log, c.in-Some.position) p c.as_slice.result.now c.index-as_slice-log.result c.as_slice.ensures c.index-as_slice-log.is in
    let same = c.as_slice-entries.ensures ∙ ap (λ (x : _). x.entries) (sym c.index-as_slice-log.is ∙ l) in
    let lt = nth_within p.log.entries c.in-Some.position p.entry p.holds in
    omega (arith, lt, ap length same)

pub link_after-after-requires-clause-known : goal.link_after-after-requires-clause-known
link_after-after-requires-clause-known c =
    let s = c.args.self.now in
    let p = pointed s.report.now s.map.now c.args.rid c.args.number (c.in-Some.log, c.in-Some.position) c.requires.sound.map (sym c.find.ensures ∙ c.in-Some.is) in
    let l = same_log s.report.now c.args.rid c.args.number (c.in-Some.log, c.in-Some.position) p c.as_slice.result.now c.index-as_slice-log.result c.as_slice.ensures c.index-as_slice-log.is in
    let same = c.as_slice-entries.ensures ∙ ap (λ (x : _). x.entries) (sym c.index-as_slice-log.is ∙ l) in
    subst (HaveNodes s.trace.now s.report.now) (sym same) (λ j e at. entry_operation s.trace.now s.report.now c.requires.sound.balanced c.requires.sound.faultless c.in-Some.log j p.log e p.logged at)

pub returns : goal.returns
returns c = λ v eb ea.
    let s = c.args.self.now in
    let N = nodes s.trace.now s.report.now in
    let p = pointed s.report.now s.map.now c.args.rid c.args.number (c.in-Some.log, c.in-Some.position) c.requires.sound.map (sym c.find.ensures ∙ c.in-Some.is) in
    let l = same_log s.report.now c.args.rid c.args.number (c.in-Some.log, c.in-Some.position) p c.as_slice.result.now c.index-as_slice-log.result c.as_slice.ensures c.index-as_slice-log.is in
    let same = c.as_slice-entries.ensures ∙ ap (λ (x : _). x.entries) (sym c.index-as_slice-log.is ∙ l) in
    let before = subst (λ xs. LinksBefore N c.args.rid xs c.in-Some.position c.link_before-before.result) same c.link_before-before.ensures in
    let after = subst (λ xs. LinksAfter N c.args.rid xs c.in-Some.position c.link_after-after.result) same c.link_after-after.ensures in
    linked s.trace.now s.report.now c.requires.sound.balanced c.requires.sound.faultless c.args.rid c.args.number c.in-Some.log c.in-Some.position p.log p.entry p.logged p.holds p.found
    c.link_before-before.result c.link_after-after.result before.none before.some after.none after.some v eb ea
