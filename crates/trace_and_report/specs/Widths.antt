-- What the types of a trace and of a report keep: numbers of 16, 32 and 64 bits, and as many members as 32 bits count. Of what a spelling asks, only the limits are left out.
use Rattle.std.specs.Prelude.{ℕ, ◌<◌, ◌^◌, List, [], ◌∷◌, length}
use Rattle.script_tree.specs.Datum.{Datum, data_of}
use Rattle.script_tree.specs.declared.operation.Act.{Act}
use Rattle.script_tree.specs.declared.operation.Act.TheVariants.{Read, Write, Get, Put, Remove, Transact, Now, Roll}
use Rattle.script_tree.specs.declared.transaction.Test.{Test}
use Rattle.script_tree.specs.declared.transaction.Change.{Change}
use Rattle.script_tree.specs.declared.transaction.Statement.{Statement}
use Rattle.script_tree.specs.declared.transaction.Statement.TheVariants.{Insert, Select, Update, Delete, Expect}
use Rattle.wire.specs.Spellings.{integer_field, bytes_field, HasWideNumbers, HaveWideNumbers, IsWideChoice}
use Rattle.period.specs.Groups.{IsSome}
use Rattle.period.specs.declared.report.Count.{Count}
use Rattle.period.specs.declared.report.LogEntry.{LogEntry}
use Rattle.report_format.specs.Operations.{u32_field}

-- each of them is so
abbrev pub Each : {A : Type 0} → (A → Type 0) → List A → Type 0
Each is [] = Unit {0}
Each is (x ∷ xs) = is x × Each is xs

-- As many as 32 bits count, and each of them is so.
abbrev pub EachCounted : {A : Type 0} → (A → Type 0) → List A → Type 0
EachCounted is xs = (length xs < 2 ^ 32) × Each is xs

-- a number of 32 bits
abbrev pub IsWide : ℕ → Type 0
IsWide n = u32_field.allows n

-- ---- transactions

-- a test whose column and value are so
abbrev pub IsWideTest : Test → Type 0
IsWideTest t = IsWide t.column × HasWideNumbers t.value

-- a change whose column and value are so
abbrev pub IsWideChange : Change → Type 0
IsWideChange c = IsWide c.column × HasWideNumbers c.value

-- a row of as many values as 32 bits count
abbrev pub IsWideRow : List Datum → Type 0
IsWideRow row = (length row < 2 ^ 32) × HaveWideNumbers (data_of row)

-- a table statement whose numbers and lists are so
abbrev pub IsWideStatement : Statement → Type 0
IsWideStatement (Insert table row) = IsWide table × IsWideRow row
IsWideStatement (Select table columns tests) = IsWide table × EachCounted IsWide columns × EachCounted IsWideTest tests
IsWideStatement (Update table changes tests) = IsWide table × EachCounted IsWideChange changes × EachCounted IsWideTest tests
IsWideStatement (Delete table tests) = IsWide table × EachCounted IsWideTest tests
IsWideStatement (Expect count table tests) = integer_field.allows count × IsWide table × EachCounted IsWideTest tests

-- ---- operations

-- an act whose keys, values and statements are so
abbrev pub IsWideAct : Act → Type 0
IsWideAct Read = Unit {0}
IsWideAct (Write value) = HasWideNumbers value
IsWideAct (Get key) = bytes_field.allows key
IsWideAct (Put key value) = bytes_field.allows key × HasWideNumbers value
IsWideAct (Remove key) = bytes_field.allows key
IsWideAct (Transact statements) = EachCounted IsWideStatement statements
IsWideAct Now = Unit {0}
IsWideAct (Roll bound) = integer_field.allows bound

-- ---- reports

-- a count whose numbers are so
abbrev pub IsWideCount : Count → Type 0
IsWideCount c = IsWide c.rid × IsWide c.operations

-- an entry whose numbers, act and choice are so
abbrev pub IsWideEntry : LogEntry → Type 0
IsWideEntry e = IsWide e.rid × IsWide e.number × IsWideAct e.act × IsWideChoice e.choice

-- a group with a member, and members that are so
abbrev pub IsWideGroup : List ℕ → Type 0
IsWideGroup rids = IsSome rids × EachCounted IsWide rids
