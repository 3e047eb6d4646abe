-- The versions of all logs of the code, as definitions see them.
use Rattle.std.specs.Prelude.{List}
use Rattle.versioned_store.specs.Logged.{Logged}
use Rattle.versioned_store.specs.declared.store.VersionedStore.TheInside.{Inside}

-- the objects by their logs that the versions of the code are of
abbrev pub logs_in : Inside → List Logged
logs_in a = a.logs.items
