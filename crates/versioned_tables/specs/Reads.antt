-- Which acts change no tables, whatever they hold.
use Rattle.std.specs.Prelude.{Bool, true, false, List, [], ◌∷◌}
use Rattle.script_tree.specs.declared.operation.Act.{Act}
use Rattle.script_tree.specs.declared.operation.Act.TheVariants.{Read, Write, Get, Put, Remove, Transact, Now, Roll}
use Rattle.script_tree.specs.declared.transaction.Statement.{Statement}
use Rattle.script_tree.specs.declared.transaction.Statement.TheVariants.{Insert, Select, Update, Delete, Expect}

-- none inserts, updates or deletes
abbrev pub only_read : List Statement → Bool
only_read [] = true
only_read (Insert t row ∷ ss) = false
only_read (Select t columns tests ∷ ss) = only_read ss
only_read (Update t changes tests ∷ ss) = false
only_read (Delete t tests ∷ ss) = false
only_read (Expect n t tests ∷ ss) = only_read ss

-- it changes no tables
abbrev pub keeps_tables : Act → Bool
keeps_tables Read = true
keeps_tables (Write d) = true
keeps_tables (Get k) = true
keeps_tables (Put k d) = true
keeps_tables (Remove k) = true
keeps_tables (Transact ss) = only_read ss
keeps_tables Now = true
keeps_tables (Roll bound) = true
