-- What a run wants fits its program.
use Rattle.std.proofs.Common.{List, Some}
use Rattle.script_tree.specs.Datum.{Datum}
use Rattle.script_tree.specs.Programs.{Program}
use Rattle.script_tree.specs.Requests.{Request, IsRequestWithinLimits}
use Rattle.script_meaning.specs.Replay.{ending_of}
use Rattle.script_asks.proofs.Wanted.{fits}
use Rattle.replayer.specs.Runners.{IsGivenAs}
use Rattle.replayer.specs.Stages.{WantsWhatFits}
use Rattle.replayer.specs.declared.runner.Next.{Next}
use Rattle.replayer.specs.declared.runner.Next.TheVariants.{Wants, Ends}
use Rattle.replayer.specs.declared.stage.Stage.{Stage}

-- what a run wants next fits
pub wants_what_fits : (stage : Stage) (request : Request) (answers : List Datum) (next : Next) → IsRequestWithinLimits request
    → IsGivenAs (ending_of stage.index.now request answers) next → WantsWhatFits stage (Some next)
unfolding ending_of
wants_what_fits stage request answers (Wants op) short given = fits stage.index.now request answers op stage.valid short given
wants_what_fits stage request answers (Ends response) short given = tt
