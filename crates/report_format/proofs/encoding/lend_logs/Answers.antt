use Rattle.std.proofs.Common.{◌++◌, [], ◌∷◌, ap, ◌∙◌, refl}
use Rattle.report_format.specs.Reports.{log_field}
use Rattle.report_format.specs.declared.format.ReportRecord.TheVariants as it
use Rattle.report_format.proofs.Lists.{allowed_at, next_made, all_made}
use Rattle.report_format.proofs.encoding.lend_logs.Goals as goal

pub log-requires : goal.log-requires
log-requires c =
    (allowed_at log_field c.args.logs.now c.loop-log.log-index c.log-item.result c.log-item.result c.loop-log-test.true c.log-item.is
    c.loop-log.invariant.allowed).0

pub loop-log-init : goal.loop-log-init
loop-log-init c = record { allowed = c.requires; lent = refl }

pub loop-log-preserved : goal.loop-log-preserved
loop-log-preserved c = record {
  allowed = (allowed_at log_field c.args.logs.now c.loop-log.log-index c.log-item.result c.log-item.result c.loop-log-test.true c.log-item.is
      c.loop-log.invariant.allowed).1;
  lent = next_made it.Log c.args.logs.now c.loop-log.log-index c.log-item.result c.log-item.result _ _ _ c.loop-log-test.true c.log-item.is
      (c.in_ok-push.ensures.items ∙ ap (λ lent. c.loop-log.records.items ++ (lent ∷ [])) c.log.ensures) c.loop-log.invariant.lent;
}

pub returns : goal.returns
returns c = all_made it.Log c.args.logs.now c.loop-log.log-index _ _ c.loop-log-test.false c.loop-log.invariant.lent
