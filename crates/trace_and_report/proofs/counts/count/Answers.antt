use Rattle.std.proofs.Common.{◌∙◌, ◌+◌, ap}
use Rattle.trace_and_report.specs.Draft.{counted}
use Rattle.trace_and_report.proofs.Drafts.{counts_one, on_ok}
use Rattle.trace_and_report.proofs.counts.count.Goals as goal

pub returns : goal.returns
returns c =
    on_ok c.put_at.result
    (λ put. counts_one c.args.operations.now.items c.put_at.new.seats.items c.args.rid c.in_ok-more.more put
    (c.in_ok-more.ensures ∙ ap (λ n. n + 1) c.counted.ensures ∙ ap (λ ns. counted ns c.args.rid + 1) c.deref.ensures.value))
    c.put_at.ensures.put
