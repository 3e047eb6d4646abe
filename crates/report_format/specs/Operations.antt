-- How operations are spelled: the objects, the acts, and the statements of transactions.
use Rattle.std.specs.Prelude.{ℕ, ℤ, List, [], ◌∷◌}
use Rattle.std.specs.Int.{w32}
use Rattle.script_tree.specs.Datum.{Datum}
use Rattle.script_tree.specs.declared.comparison.Comparison.{Comparison}
use Rattle.script_tree.specs.declared.comparison.Comparison.TheVariants.{Equal, Unequal, Less, AtMost, Greater, AtLeast}
use Rattle.script_tree.specs.declared.operation.Act.{Act}
use Rattle.script_tree.specs.declared.operation.Act.TheVariants.{Read, Write, Get, Put, Remove, Transact, Now, Roll}
use Rattle.script_tree.specs.declared.operation.Object.{Object}
use Rattle.script_tree.specs.declared.operation.Object.TheVariants.{Register, Store, Tables, Clock, Dice}
use Rattle.script_tree.specs.declared.transaction.Test.{Test}
use Rattle.script_tree.specs.declared.transaction.Change.{Change}
use Rattle.script_tree.specs.declared.transaction.Statement.{Statement}
use Rattle.script_tree.specs.declared.transaction.Statement.TheVariants.{Insert, Select, Update, Delete, Expect}
use Rattle.wire.specs.Spellings.{Field, number_field, integer_field, bytes_field, value_field}
use Rattle.report_format.specs.Parts.{both, seen_as, list_field}

-- a number of 32 bits
abbrev pub u32_field : Field ℕ
u32_field = number_field w32

-- ---- transactions

-- the byte of a comparison
abbrev pub comparison_code : Comparison → ℕ
comparison_code Equal = 1
comparison_code Unequal = 2
comparison_code Less = 3
comparison_code AtMost = 4
comparison_code Greater = 5
comparison_code AtLeast = 6

-- a comparison
abbrev pub comparison_field : Field Comparison
comparison_field = record { allows = λ c. Unit {0}; spelling = λ c. comparison_code c ∷ [] }

-- a test: its column, its comparison and its value
abbrev pub test_field : Field Test
test_field = seen_as (λ t. (t.column, (t.comparison, t.value))) (both u32_field (both comparison_field value_field))

-- a change: its column and its value
abbrev pub change_field : Field Change
change_field = seen_as (λ c. (c.column, c.value)) (both u32_field value_field)

-- how many tests there are, and these
abbrev pub tests_field : Field (List Test)
tests_field = list_field test_field

-- what stands behind the tag of each statement: a table first, but for a count that is expected
abbrev pub insert_field : Field (ℕ × List Datum)
insert_field = both u32_field (list_field value_field)

-- the columns that are wanted, and the tests
abbrev pub select_field : Field (ℕ × (List ℕ × List Test))
select_field = both u32_field (both (list_field u32_field) tests_field)

-- the changes, and the tests
abbrev pub update_field : Field (ℕ × (List Change × List Test))
update_field = both u32_field (both (list_field change_field) tests_field)

-- the tests alone
abbrev pub delete_field : Field (ℕ × List Test)
delete_field = both u32_field tests_field

-- a count, and then as of a deletion
abbrev pub expect_field : Field (ℤ × (ℕ × List Test))
expect_field = both integer_field delete_field

-- a tag, and what stands behind it
abbrev pub statement_spelling : Statement → List ℕ
statement_spelling (Insert table row) = 1 ∷ insert_field.spelling (table, row)
statement_spelling (Select table columns tests) = 2 ∷ select_field.spelling (table, (columns, tests))
statement_spelling (Update table changes tests) = 3 ∷ update_field.spelling (table, (changes, tests))
statement_spelling (Delete table tests) = 4 ∷ delete_field.spelling (table, tests)
statement_spelling (Expect count table tests) = 5 ∷ expect_field.spelling (count, (table, tests))

-- What stands behind the statement's tag may stand there.
abbrev pub IsStatement : Statement → Type 0
IsStatement (Insert table row) = insert_field.allows (table, row)
IsStatement (Select table columns tests) = select_field.allows (table, (columns, tests))
IsStatement (Update table changes tests) = update_field.allows (table, (changes, tests))
IsStatement (Delete table tests) = delete_field.allows (table, tests)
IsStatement (Expect count table tests) = expect_field.allows (count, (table, tests))

-- a statement
abbrev pub statement_field : Field Statement
statement_field = record { allows = λ s. IsStatement s; spelling = λ s. statement_spelling s }

-- ---- operations

-- a tag and, of a register or a store, the name
abbrev pub object_spelling : Object → List ℕ
object_spelling (Register name) = 1 ∷ bytes_field.spelling name
object_spelling (Store name) = 2 ∷ bytes_field.spelling name
object_spelling Tables = 3 ∷ []
object_spelling Clock = 4 ∷ []
object_spelling Dice = 5 ∷ []

-- The length of an object's name has its width.
abbrev pub IsObject : Object → Type 0
IsObject (Register name) = bytes_field.allows name
IsObject (Store name) = bytes_field.allows name
IsObject Tables = Unit {0}
IsObject Clock = Unit {0}
IsObject Dice = Unit {0}

-- an object
abbrev pub object_field : Field Object
object_field = record { allows = λ o. IsObject o; spelling = λ o. object_spelling o }

-- a key and its value
abbrev pub put_field : Field (List ℕ × Datum)
put_field = both bytes_field value_field

-- how many statements there are, and these
abbrev pub statements_field : Field (List Statement)
statements_field = list_field statement_field

-- a tag, and what stands behind it
abbrev pub act_spelling : Act → List ℕ
act_spelling Read = 1 ∷ []
act_spelling (Write value) = 2 ∷ value_field.spelling value
act_spelling (Get key) = 3 ∷ bytes_field.spelling key
act_spelling (Put key value) = 4 ∷ put_field.spelling (key, value)
act_spelling (Remove key) = 5 ∷ bytes_field.spelling key
act_spelling (Transact statements) = 6 ∷ statements_field.spelling statements
act_spelling Now = 7 ∷ []
act_spelling (Roll bound) = 8 ∷ integer_field.spelling bound

-- What stands behind the act's tag may stand there.
abbrev pub IsAct : Act → Type 0
IsAct Read = Unit {0}
IsAct (Write value) = value_field.allows value
IsAct (Get key) = bytes_field.allows key
IsAct (Put key value) = put_field.allows (key, value)
IsAct (Remove key) = bytes_field.allows key
IsAct (Transact statements) = statements_field.allows statements
IsAct Now = Unit {0}
IsAct (Roll bound) = integer_field.allows bound

-- an act
abbrev pub act_field : Field Act
act_field = record { allows = λ a. IsAct a; spelling = λ a. act_spelling a }
