use Rattle.std.proofs.Common.{[]}
use Rattle.script_tree.specs.Programs.{Program, program_of}
use Rattle.object_set.specs.ObjectSets.{objects_of}
use Rattle.benches.proofs.order.answer.order_of.Goals as goal

-- the program that declares nothing
abbrev program : Program
program = program_of []

pub order_events-ordered-requires-clause-map : goal.order_events-ordered-requires-clause-map
order_events-ordered-requires-clause-map c = (c.in-Ok.ensures program c.in_ok-start.ensures.declared).1

pub order_events-ordered-requires-clause-faultless :
    goal.order_events-ordered-requires-clause-faultless
order_events-ordered-requires-clause-faultless c = record {
  program = program;
  start = objects_of c.in_ok-start.start;
  none = (c.in-Ok.ensures program c.in_ok-start.ensures.declared).0;
}
