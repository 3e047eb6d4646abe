-- What a schedule's file is.
use Rattle.std.specs.Prelude.{ℕ, List, Result, Ok, Err}
use Rattle.period.specs.declared.schedule.Moment.{Moment}
use Rattle.schedule_format.specs.Moments.{schedule_format}
use Rattle.wire.specs.Files.{Spells, IsFault}
use Rattle.command_inputs.specs.Inputs.{Input}
use Rattle.command_inputs.specs.declared.role.Role.TheVariants as role

-- The bytes spell a schedule, or their first bad record begins at this place: with both a replay
-- goes on.
abbrev pub SpellsSchedule : List ℕ → Result (List Moment) ℕ → Type 0
SpellsSchedule bytes (Ok schedule) = Spells schedule_format bytes schedule
SpellsSchedule bytes (Err at) = IsFault schedule_format bytes at

-- a schedule, in at most so many bytes
abbrev pub schedule_input : ℕ → Input (Result (List Moment) ℕ)
schedule_input most = record {
  role = role.Schedule;
  most = most;
  spells = λ bytes schedule. SpellsSchedule bytes schedule;
  has_fault = λ bytes fault. ⊥;
}
