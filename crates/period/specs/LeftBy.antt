-- What the entries of a log leave of its object.
use Rattle.std.specs.Prelude.{List, map}
use Rattle.script_tree.specs.Objects.{Cell, folded}
use Rattle.script_tree.specs.declared.operation.Act.{Act}
use Rattle.script_tree.specs.declared.operation.Choice.{Choice}
use Rattle.period.specs.declared.report.LogEntry.{LogEntry}

-- what an entry did, and with which choice
abbrev pub deed : LogEntry → Act × Choice
deed entry = (entry.act, entry.choice)

-- what these entries of its log leave of an object
abbrev pub left_by : List LogEntry → Cell → Cell
left_by entries cell = folded (map deed entries) cell
