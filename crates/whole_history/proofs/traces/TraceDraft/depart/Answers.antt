use Rattle.std.proofs.Common.{refl}
use Rattle.period.specs.declared.trace.TraceEvent.TheVariants.{Answered}
use Rattle.history.specs.Names.{went}
use Rattle.trace_and_report.proofs.Drafts.{on_ok}
use Rattle.whole_history.proofs.TraceDrafts.{event_more}
use Rattle.whole_history.proofs.traces.TraceDraft.depart.Goals as goal

pub returns : goal.returns
returns c = λ names is.
    let rid = c.args.rid in
    let response = c.args.response.now in
    on_ok c.add_response.result
    (λ more. event_more names (went rid response c.args._path.now) (Answered rid response) c.args.self.now
    (record { bytes = c.add_response.new.out }) refl is more
    (c.in_ok-keep_widths.ensures, c.in_ok-keep_widths-2.ensures))
    c.add_response.ensures
