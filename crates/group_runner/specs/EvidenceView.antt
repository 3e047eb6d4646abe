-- The evidence of the code, as definitions see it.
use Rattle.std.specs.Prelude.{◌≡◌, map}
use Rattle.versioned_store.specs.Logged.{logged}
use Rattle.log_checker.specs.OpMaps.{IsMapOf}
use Rattle.group_runner.specs.Told.{Told, told_by}
use Rattle.group_runner.specs.declared.evidence.Evidence.TheInside.{Inside}

-- what the auditor is told, as the evidence of the code has it
abbrev pub told_in : Inside → Told
told_in a = told_by a.trace.now a.start.now a.report.now

-- The map has the place of each operation, and the store tells of the logs.
pub record IsGathered (a : Inside) : Type 0 where
  pub mapped : IsMapOf a.report.now a.map.now
  pub stored : a.store ≡ map (logged a.start.now) a.report.now.logs
