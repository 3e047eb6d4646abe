use Rattle.std.proofs.Common.{drop, ◌↔◌}
use Rattle.script_fit.specs.FitsTransaction.{FitTests}
use Rattle.object_tables.proofs.fitting.fit_tests.Given as goal

-- what is left decides
abbrev pub invariant-loop-test : goal.invariant-loop-test
invariant-loop-test l = FitTests l.width (drop l.test-index l.tests) ↔ FitTests l.width l.tests
