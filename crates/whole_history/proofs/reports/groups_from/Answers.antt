use Rattle.std.proofs.Common.{◌≢◌, ◌∙◌, [], SomeIff, ap, subst, sym}
use Rattle.trace_and_report.specs.Grouped.{groups_in, HaveMembers}
use Rattle.trace_and_report.proofs.Groups.{lists, lists_in}
use Rattle.whole_history.specs.Drafts.{members_of}
use Rattle.whole_history.proofs.ReportDrafts.{AreGroupsMade, none_made, one_made, all_made}
use Rattle.whole_history.proofs.reports.groups_from.Goals as goal

pub loop-path-init : goal.loop-path-init
loop-path-init c =
    let all = lists_in c.args.groups c.into_iter-path-iterator.result c.into_iter-path-iterator.ensures.into_iter_gives.0 in
    record {
      are_made = none_made members_of (groups_in c.args.groups) (lists c.into_iter-path-iterator.result) _ c.in_ok-made.ensures.items all;
      have = subst HaveMembers (sym all) c.requires;
    }

pub unreachable-requires : goal.unreachable-requires
unreachable-requires c =
    let under = subst (λ left. AreGroupsMade (groups_in c.args.groups) left c.loop-path.made.items) (ap lists c.in-Some.ensures.steps) c.loop-path.invariant in
    let no_group = subst (λ group. SomeIff group (c.in-Some.rids.items ≢ []) c.in-Some.rids.items) c.in_default.is c.new.ensures in
    no_group under.have.0

pub loop-path-preserved : goal.loop-path-preserved
loop-path-preserved c =
    let under = subst (λ left. AreGroupsMade (groups_in c.args.groups) left c.loop-path.made.items) (ap lists c.in-Some.ensures.steps) c.loop-path.invariant in
    record {
      are_made =
          one_made members_of (groups_in c.args.groups) (lists c.next.new.self)
          (c.in-Some._path, c.in-Some.rids.items) c.in-Some-new.group c.loop-path.made.items c.push.new.self.items
          under.are_made c.in-Some-new.ensures.1 c.in_ok-push.ensures.items;
      have = under.have.1;
    }

pub returns : goal.returns
returns c =
    c.from_vec.ensures ∙ all_made members_of (groups_in c.args.groups) (lists c.loop-path._path-iterator) c.loop-path.made.items c.loop-path.invariant.are_made
    (ap lists c.in-None.ensures.steps.0)
