-- The law on the trace of a history.
use Rattle.std.specs.Prelude.{List}
use Rattle.script_tree.specs.Objects.{Objects}
use Rattle.script_tree.specs.Programs.{Program}
use Rattle.period.specs.Traces.{IsBalanced}
use Rattle.history.specs.Rooms.{IsLegal, IsClosed}
use Rattle.history.specs.TraceOf.{trace_of}
use Rattle.history.specs.declared.happening.Happening.{Happening}

-- The trace of a history that is legal and closed is balanced.
abbrev pub TracesAreBalanced : Type 0
TracesAreBalanced = (program : Program) (start : Objects) (history : List Happening) → IsLegal program start history → IsClosed start history
    → IsBalanced (trace_of history)
