use Rattle.std.proofs.Common.{◌∙◌, refl, ap, zero-add}
use Rattle.replayer.specs.Standings.{departed_in, first_waiting}
use Rattle.replayer.proofs.StageFacts.{away_all, shows_opening}
use Rattle.replayer.proofs.stage.Stage.new.Goals as goal

pub returns : goal.returns
returns c =
    let ss = c.in_ok-standings.standings.items in
    record {
      of = record { program = refl; trace = refl };
      shown = shows_opening c.args.trace _ (away_all c.args.trace ss c.in_ok-standings.ensures.away)
          (c.first_waiting-waiting.ensures ∙ zero-add _ ∙ ap (λ xs. first_waiting (departed_in c.args.trace xs) c.args.trace) c.deref.ensures.value);
    }
