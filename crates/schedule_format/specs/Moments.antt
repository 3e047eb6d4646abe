-- How a schedule is spelled.
use Rattle.std.specs.Prelude.{ℕ, ◌<◌, ◌^◌, List, [], ◌∷◌, ◌++◌, codes, Result, Ok, Err}
use Rattle.std.specs.Int.{w32, to_be_bytes}
use Rattle.wire.specs.Spellings.{Field, IsFieldAt, NoneIsAt, IsWideChoice, choice_spelling}
use Rattle.wire.specs.Files.{Format}
use Rattle.wire.specs.declared.fault.Unreadable.{Unreadable}
use Rattle.period.specs.declared.schedule.Moment.{Moment}
use Rattle.period.specs.declared.schedule.Moment.TheVariants.{Arrive, Act, Depart}

-- a tag, the id of the request and, of an operation, its choice
abbrev pub moment_spelling : Moment → List ℕ
moment_spelling (Arrive rid) = 1 ∷ to_be_bytes w32 rid
moment_spelling (Act rid choice) = 2 ∷ (to_be_bytes w32 rid ++ choice_spelling choice)
moment_spelling (Depart rid) = 3 ∷ to_be_bytes w32 rid

-- Its numbers have their widths.
abbrev pub IsMoment : Moment → Type 0
IsMoment (Arrive rid) = rid < 2 ^ 32
IsMoment (Act rid choice) = (rid < 2 ^ 32) × IsWideChoice choice
IsMoment (Depart rid) = rid < 2 ^ 32

-- Those of each have their widths.
abbrev pub AreMoments : List Moment → Type 0
AreMoments [] = Unit {0}
AreMoments (m ∷ ms) = IsMoment m × AreMoments ms

-- a moment whose numbers have their widths
abbrev pub moment_field : Field Moment
moment_field = record { allows = λ m. IsMoment m; spelling = λ m. moment_spelling m }

-- What is read stands at the start of a payload, up to the place; a fault says that none does.
abbrev pub ReadsMoment : List ℕ → Result (Moment × ℕ) Unreadable → Type 0
ReadsMoment payload (Ok x) = IsFieldAt moment_field payload 0 x.0 x.1
ReadsMoment payload (Err fault) = NoneIsAt moment_field payload 0

-- any moments, in any order
abbrev pub schedule_format : Format Moment
schedule_format = record {
  magic = codes "SSCOSCH1";
  payload = λ m. moment_spelling m;
  allows = λ before m. IsMoment m;
}
