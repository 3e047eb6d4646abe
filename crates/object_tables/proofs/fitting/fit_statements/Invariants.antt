use Rattle.std.proofs.Common.{drop, ◌↔◌}
use Rattle.script_fit.specs.FitsTransaction.{FitStatements}
use Rattle.object_tables.proofs.fitting.fit_statements.Given as goal

-- what is left decides
abbrev pub invariant-loop-statement : goal.invariant-loop-statement
invariant-loop-statement l = FitStatements l.widths (drop l.statement-index l.statements) ↔ FitStatements l.widths l.statements
