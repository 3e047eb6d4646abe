use Rattle.std.proofs.Common.{◌≢◌, [], SomeIff, subst, ap}
use Rattle.trace_and_report.specs.Grouped.{groups_in}
use Rattle.trace_and_report.proofs.Groups.{lists, lists_in}
use Rattle.trace_and_report.proofs.Writings.{AreGroupsUnderWay, groups_begin, group_goes_on, groups_end}
use Rattle.trace_and_report.proofs.writing.write_groups.Goals as goal

pub loop-path-init : goal.loop-path-init
loop-path-init c =
    groups_begin (groups_in c.args.groups) (lists c.into_iter-path-iterator.result) c.args.out.now.items
    (lists_in c.args.groups c.into_iter-path-iterator.result c.into_iter-path-iterator.ensures.into_iter_gives.0) c.requires

pub unreachable-requires : goal.unreachable-requires
unreachable-requires c =
    let under = subst (λ left. AreGroupsUnderWay (groups_in c.args.groups) left c.args.out.now.items c.loop-path.out.items) (ap lists c.in-Some.ensures.steps) c.loop-path.invariant in
    let no_group = subst (λ group. SomeIff group (c.in-Some.rids.items ≢ []) c.in-Some.rids.items) c.in_default.is c.new.ensures in
    no_group under.have.0

pub loop-path-preserved : goal.loop-path-preserved
loop-path-preserved c =
    let under = subst (λ left. AreGroupsUnderWay (groups_in c.args.groups) left c.args.out.now.items c.loop-path.out.items) (ap lists c.in-Some.ensures.steps) c.loop-path.invariant in
    group_goes_on (groups_in c.args.groups) (lists c.next.new.self) c.in-Some._path c.in-Some.rids.items c.in-Some-new.group c.args.out.now.items c.loop-path.out.items
    c.add_group.new.out.items under c.in-Some-new.ensures.1 c.in_ok-keep_widths.ensures c.in_ok-add_group.ensures

pub returns : goal.returns
returns c =
    groups_end (groups_in c.args.groups) (lists c.loop-path._path-iterator) c.args.out.now.items c.loop-path.out.items c.loop-path.invariant
    (ap lists c.in-None.ensures.steps.0)
