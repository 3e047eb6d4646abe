use Rattle.std.proofs.Common.{◌≡◌, ◌<◌, ℕ, Some}
use Rattle.basis.specs.Lists.{nth}
use Rattle.period.specs.declared.report.Log.{Log}
use Rattle.versioned_store.specs.Logged.{FitsLog}
use Rattle.versioned_store.proofs.fitting.fit_logs.Given as goal

abbrev pub invariant-loop-log : goal.invariant-loop-log
invariant-loop-log l = (p : ℕ) (log : Log) → p < l.log-index → nth l.logs p ≡ Some log → FitsLog l.start log
