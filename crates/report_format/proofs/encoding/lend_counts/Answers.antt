use Rattle.std.proofs.Common.{◌++◌, [], ◌∷◌, ap, ◌∙◌, refl, get_or}
use Rattle.period.specs.declared.report.Count.{Count}
use Rattle.report_format.specs.Reports.{count_field}
use Rattle.report_format.specs.declared.format.ReportRecord.TheVariants as it
use Rattle.report_format.proofs.Lists.{allowed_at, next_made, all_made}
use Rattle.report_format.proofs.encoding.lend_counts.Goals as goal

-- what no place has
abbrev no_count : Count
no_count = record { rid = 0; operations = 0 }

pub count-requires : goal.count-requires
count-requires c =
    (allowed_at count_field c.args.counts.now c.loop-count.count-index (get_or c.args.counts.now c.loop-count.count-index no_count) no_count c.loop-count-test.true refl
    c.loop-count.invariant.allowed).0

pub loop-count-init : goal.loop-count-init
loop-count-init c = record { allowed = c.requires; lent = refl }

pub loop-count-preserved : goal.loop-count-preserved
loop-count-preserved c = record {
  allowed = (allowed_at count_field c.args.counts.now c.loop-count.count-index (get_or c.args.counts.now c.loop-count.count-index no_count) no_count c.loop-count-test.true refl
      c.loop-count.invariant.allowed).1;
  lent = next_made it.Count c.args.counts.now c.loop-count.count-index (get_or c.args.counts.now c.loop-count.count-index no_count) no_count _ _ _ c.loop-count-test.true refl
      (c.in_ok-push.ensures.items ∙ ap (λ lent. c.loop-count.records.items ++ (lent ∷ [])) c.count.ensures) c.loop-count.invariant.lent;
}

pub returns : goal.returns
returns c = all_made it.Count c.args.counts.now c.loop-count.count-index _ _ c.loop-count-test.false c.loop-count.invariant.lent
