use Rattle.std.proofs.Common.{◌++◌, [], ◌∷◌, ap, ◌∙◌, refl}
use Rattle.report_format.specs.Reports.{group_field}
use Rattle.report_format.specs.declared.format.ReportRecord.TheVariants as it
use Rattle.report_format.proofs.Lists.{allowed_at, next_made, all_made}
use Rattle.report_format.proofs.encoding.lend_groups.Goals as goal

pub group-requires : goal.group-requires
group-requires c =
    (allowed_at group_field c.args.groups.now c.loop-group.group-index c.group-item.result c.group-item.result c.loop-group-test.true c.group-item.is
    c.loop-group.invariant.allowed).0

pub loop-group-init : goal.loop-group-init
loop-group-init c = record { allowed = c.requires; lent = refl }

pub loop-group-preserved : goal.loop-group-preserved
loop-group-preserved c = record {
  allowed = (allowed_at group_field c.args.groups.now c.loop-group.group-index c.group-item.result c.group-item.result c.loop-group-test.true c.group-item.is
      c.loop-group.invariant.allowed).1;
  lent = next_made it.Group c.args.groups.now c.loop-group.group-index c.group-item.result c.group-item.result _ _ _ c.loop-group-test.true c.group-item.is
      (c.in_ok-push.ensures.items ∙ ap (λ lent. c.loop-group.records.items ++ (lent ∷ [])) c.group.ensures) c.loop-group.invariant.lent;
}

pub returns : goal.returns
returns c = all_made it.Group c.args.groups.now c.loop-group.group-index _ _ c.loop-group-test.false c.loop-group.invariant.lent
