use Rattle.std.proofs.Common.{refl, sym, ◌∙◌}
use Rattle.script_code.specs.CodeRun.{back_to}
use Rattle.multivalue.specs.Many.{member_value}
use Rattle.multi_state.specs.Progress.{progress_at}
use Rattle.multi_run.specs.Acts.{frames_at}
use Rattle.multi_run.proofs.run.Run.end.Goals as goal

pub returns-clause-acts : goal.returns-clause-acts
returns-clause-acts c n qs functions =
    let back = c.in_ok-back.ensures.back in
    λ cs. (
      cs,
      refl,
      λ i lt u next.
          (λ z. back_to next (frames_at i c.args.self.now.frames.items) (sym c.null.ensures z) (progress_at c.args.self.now.state.account cs i u))
          ∙ (λ z. back_to next (frames_at i c.args.self.now.frames.items) (member_value (sym c.all.ensures z) i)
          (progress_at c.args.self.now.state.account cs i u))
          ∙ (λ z. back.goes' next i z (progress_at (sym back.account z) cs i u)),
    )
