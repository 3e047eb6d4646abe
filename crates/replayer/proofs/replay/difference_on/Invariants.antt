use Rattle.std.proofs.Common.{◌≡◌, [], take, drop}
use Rattle.script_tree.specs.Objects.{Objects}
use Rattle.script_meaning.specs.Replay.{Scene, opening}
use Rattle.replayer.specs.Differences.{difference_from, difference_of}
use Rattle.replayer.specs.Stages.{Shows}
use Rattle.replayer.proofs.replay.difference_on.Given as goal

-- The moments so far led to a scene that the stage shows, and what differs from there on is what differs at all.
abbrev pub invariant-loop-place : goal.invariant-loop-place
invariant-loop-place g l =
    (objects : Objects) → Shows [] (opening objects) l.fn.stage
    → (scene : Scene) × Shows (take l.place l.schedule) scene l.stage
    × (difference_of l.fn.stage.index.now objects l.fn.stage.trace l.schedule
    ≡ difference_from l.stage.index.now l.stage.trace (take l.place l.schedule) scene (drop l.place l.schedule))
