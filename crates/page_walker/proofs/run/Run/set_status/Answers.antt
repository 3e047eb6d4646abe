use Rattle.std.proofs.Common.{ap, sym, subst, ◌∙◌}
use Rattle.std.proofs.lemmas.Result.{err_from_is_err_and}
use Rattle.script_values.specs.Outputs.{set_status_in, with_output}
use Rattle.page_walker.specs.Gives.{Stops, stopped_by}
use Rattle.page_walker.specs.RunView.{progress_of}
use Rattle.page_walker.proofs.Parts.{output_stops}
use Rattle.page_walker.proofs.run.Run.set_status.Goals as goal

pub returns-in_err-set_status : goal.returns-in_err-set_status
returns-in_err-set_status c =
    let e = c.in_err-set_status.field-0.0 in
    let p = progress_of c.self.inside in
    let w = err_from_is_err_and c.from_residual.result c.from_residual.ensures.1 in
    let here = output_stops e _ _ (c.in_err-set_status.ensures p) in
    rw (w.1, w.2) (subst (λ q. Stops (stopped_by e) (with_output c.set_status.new.self p) (set_status_in c.args.value.now q)) c.self.view_is here)

pub returns : goal.returns
returns c = ap (set_status_in c.args.value.now) (sym c.self.view_is) ∙ c.in_ok-set_status.ensures (progress_of c.self.inside)
