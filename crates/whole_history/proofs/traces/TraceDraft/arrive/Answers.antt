use Rattle.std.proofs.Common.{refl}
use Rattle.period.specs.declared.trace.TraceEvent.TheVariants.{Asked}
use Rattle.history.specs.Names.{came}
use Rattle.trace_and_report.proofs.Drafts.{on_ok}
use Rattle.whole_history.proofs.TraceDrafts.{event_more}
use Rattle.whole_history.proofs.traces.TraceDraft.arrive.Goals as goal

pub returns : goal.returns
returns c = λ names is.
    let rid = c.args.rid in
    let request = c.args.request.now in
    on_ok c.add_request.result
    (λ more. event_more names (came rid request) (Asked rid request) c.args.self.now (record { bytes = c.add_request.new.out }) refl is more
    (c.in_ok-keep_widths.ensures, c.keeps_limits.ensures))
    c.add_request.ensures
