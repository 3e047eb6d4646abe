use Rattle.std.proofs.Common.{subst}
use Rattle.trace_and_report.specs.Written.{AreAdded, count_records}
use Rattle.trace_and_report.proofs.writing.begin_counts.Goals as goal

pub returns : goal.returns
returns c =
    subst (λ first. AreAdded (count_records c.args.operations.now c.args.arrived.now) first c.write_counts.new.out.items) c.in_ok-report.ensures
    c.in_ok-write_counts.ensures
