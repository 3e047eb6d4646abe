-- Where a run is in its code.
use Rattle.std.specs.Prelude.{◌≡◌, ◌<◌, ◌+◌, ℕ, Result, Ok}
use Rattle.machine.specs.declared.run.Run.{Run}
use Rattle.machine.specs.declared.stopped.Stopped.{Stopped}
use Rattle.machine.specs.declared.stopped.Went.{Went}
use Rattle.machine.specs.declared.stopped.Went.TheVariants.{On}

-- more than any code has
abbrev pub MOST_PLACES : ℕ
MOST_PLACES = 9223372036854775808

-- the place of an instruction of code of this length
pub record IsPlaceOf (len place : ℕ) : Type 0 where
  pub within : place < len
  pub bounded : len < MOST_PLACES

-- Where it goes on, a step was spent, and the calls are the same.
pub record IsCharged (old new : Run) : Type 0 where
  pub steps : new.state.account.steps ≡ old.state.account.steps + 1
  pub frames : new.frames ≡ old.frames

-- If the run goes on, an instruction was done for a step.
abbrev pub Charges : Run → Result Went Stopped → Run → Type 0
Charges old result new = result ≡ Ok On → IsCharged old new
