use Rattle.trace_and_report.proofs.Drafts.{on_ok}
use Rattle.trace_and_report.proofs.writing.write_rest.Goals as goal

pub returns : goal.returns
returns c = λ gs is spelled.
    on_ok c.write_groups.result
    (λ added. record { between = c.write_logs.new.out.items; logged = c.in_ok-write_logs.ensures gs is spelled; grouped = added })
    c.write_groups.ensures
