use Rattle.std.proofs.Common.{◌≡◌, ◌++◌, drop}
use Rattle.script_tree.specs.Fit.{table_widths}
use Rattle.object_tables.proofs.tables.declared_widths.Given as goal

abbrev pub invariant-loop-declaration : goal.invariant-loop-declaration
invariant-loop-declaration l = l.widths.items ++ table_widths (drop l.declaration-index l.declarations) ≡ table_widths l.declarations
