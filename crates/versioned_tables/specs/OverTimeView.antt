-- The tables of the code, as definitions see them.
use Rattle.std.specs.Prelude.{◌≡◌, length}
use Rattle.versioned_tables.specs.OverTime.{OverTime, over_time}
use Rattle.versioned_tables.specs.Standing.{AllChange, AreFound}
use Rattle.versioned_tables.specs.declared.tables.VersionedTables.TheInside.{Inside}

-- the tables over time that those of the code stand for
abbrev pub tables_in : Inside → OverTime
tables_in a = over_time a.widths.items a.tables.items

-- Each table is there, no version is what stood before it, and what was found stands.
pub record IsKept (a : Inside) : Type 0 where
  pub there : length a.tables.items ≡ length a.widths.items
  pub changes : AllChange a.tables.items
  pub found : AreFound a.tables.items a.found.items
