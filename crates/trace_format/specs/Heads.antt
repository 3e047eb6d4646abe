-- What kind of event stands at a place.
use Rattle.std.specs.Prelude.{◌≡◌, ℕ, List, Some}
use Rattle.basis.specs.Lists.{nth}
use Rattle.period.specs.declared.trace.TraceEvent.{TraceEvent}
use Rattle.period.specs.declared.trace.TraceEvent.TheVariants.{Asked, Answered}
use Rattle.trace_format.specs.declared.trace_file.EventHead.{EventHead}
use Rattle.trace_format.specs.declared.trace_file.EventHead.TheVariants.{Asks, Answers}

-- what kind of event it is, and its id
abbrev pub head_of : TraceEvent → EventHead
head_of (Asked rid q) = Asks rid
head_of (Answered rid x) = Answers rid

-- The event at the place is of this kind, and has this id.
abbrev pub HasHead : List TraceEvent → ℕ → EventHead → Type 0
HasHead events place head = (e : TraceEvent) → nth events place ≡ Some e → head ≡ head_of e
