-- The versions of a log of the code, as definitions see them.
use Rattle.versioned_store.specs.Logged.{Logged, logged, FitsLog}
use Rattle.versioned_store.specs.Tellings.{Tells}
use Rattle.versioned_store.specs.declared.logged.VersionedLog.TheInside.{Inside}

-- the object by its log that versions of the code are of
abbrev pub logged_in : Inside → Logged
logged_in a = logged a.start.now a.log.now

-- They tell of the log, whose entries fit.
pub record IsTold (a : Inside) : Type 0 where
  pub fits : FitsLog a.start.now a.log.now
  pub tells : Tells (logged_in a) a.versions
