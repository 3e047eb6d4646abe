-- What operations, and the status of a response, are made of: the values that they take, or the fault of these.
use Rattle.std.specs.Prelude.{ℕ, zero, suc, ◌==◌, nat_lt, nat_le, Bool, ◌&&◌, ◌||◌, not, if◌then◌else◌, ℤ, pos, negsuc, List, [], ◌∷◌, ◌++◌, length, map, Result, Ok, Err}
use Rattle.script_tree.specs.Datum.{Datum, null}
use Rattle.script_tree.specs.declared.fault.ScriptFault.{ScriptFault}
use Rattle.script_tree.specs.declared.fault.ScriptFault.TheVariants.{WrongKind, OutOfRange, TooLarge, BadBound}
use Rattle.script_tree.specs.declared.limits.TheConstants.{MOST_KEY_BYTES, LEAST_STATUS, MOST_STATUS}
use Rattle.script_meaning.specs.Operations as o
use Rattle.script_meaning.specs.Kinds.{number_in, text_in}
use Rattle.script_meaning.specs.Results.{◌>>=◌}

-- ---- arguments of a call; one that isn't there is null

-- the first argument
abbrev pub first : List Datum → Datum
first [] = null
first (a ∷ as') = a

-- the second argument
abbrev pub second : List Datum → Datum
second [] = null
second (a ∷ as') = first as'

-- the third argument
abbrev pub third : List Datum → Datum
third [] = null
third (a ∷ as') = second as'

-- ---- operations of calls

-- an operation, or a fault
abbrev pub OpAnswer : Type 0
OpAnswer = Result o.Op ScriptFault

-- the name of a register, the key of a store and of a row: a text that isn't too long
abbrev pub name_in : Datum → Result (List ℕ) ScriptFault
name_in d = do
  x ← text_in d
  if nat_lt MOST_KEY_BYTES (length x) then Err TooLarge else Ok x

-- the operation that reads a register, or the fault of its name
abbrev pub read_op : List Datum → OpAnswer
read_op ds = do
  x ← name_in (first ds)
  Ok (record { object = o.register x; act = o.read })

-- the operation that writes a register, or the fault of its name
abbrev pub write_op : List Datum → OpAnswer
write_op ds = do
  x ← name_in (first ds)
  Ok (record { object = o.register x; act = o.write (second ds) })

-- the operation that reads a key of a store, or the fault of the key
abbrev pub get_op : (store : List ℕ) → List Datum → OpAnswer
get_op store ds = do
  k ← name_in (first ds)
  Ok (record { object = o.store store; act = o.get k })

-- the operation that writes a key of a store, or the fault of the key
abbrev pub put_op : (store : List ℕ) → List Datum → OpAnswer
put_op store ds = do
  k ← name_in (first ds)
  Ok (record { object = o.store store; act = o.put k (second ds) })

-- the operation that removes a key of a store, or the fault of the key
abbrev pub remove_op : (store : List ℕ) → List Datum → OpAnswer
remove_op store ds = do
  k ← name_in (first ds)
  Ok (record { object = o.store store; act = o.remove k })

-- the operation that reads the clock
abbrev pub clock_op : OpAnswer
clock_op = Ok (record { object = o.clock; act = o.now })

-- a bound is at least 1
abbrev pub bound_of : ℤ → Result ℤ ScriptFault
bound_of (pos zero) = Err BadBound
bound_of (pos (suc n)) = Ok (pos (suc n))
bound_of (negsuc n) = Err BadBound

-- the operation that draws a random number, or the fault of its bound
abbrev pub random_op : List Datum → OpAnswer
random_op ds = do
  n ← number_in (first ds)
  bound ← bound_of n
  Ok (record { object = o.dice; act = o.roll bound })

-- ---- the operation of a transaction

-- a statement with the values that it takes, none of which was looked at
pub data Unchecked : Type 0 where
  insert : (table : ℕ) → List Datum → Unchecked
  select : (table : ℕ) → (columns : List ℕ) → List o.Test → Unchecked
  update : (table : ℕ) → List o.Change → List o.Test → Unchecked
  delete : (table : ℕ) → List o.Test → Unchecked
  expect : Datum → (table : ℕ) → List o.Test → Unchecked

-- the values that tests compare with
abbrev pub tested : List o.Test → List Datum
tested tests = map (λ t. t.value) tests

-- the values that a statement takes, in the order of evaluation
abbrev pub values_of : Unchecked → List Datum
values_of (insert t ds) = ds
values_of (select t columns tests) = tested tests
values_of (update t changes tests) = map (λ c. c.value) changes ++ tested tests
values_of (delete t tests) = tested tests
values_of (expect d t tests) = d ∷ tested tests

-- the values that the statements of a transaction take, in the order of evaluation
abbrev pub values_of_all : List Unchecked → List Datum
values_of_all [] = []
values_of_all (s ∷ ss) = values_of s ++ values_of_all ss

-- a row begins with its key
abbrev pub row_of : List Datum → Result (List Datum) ScriptFault
row_of [] = Err WrongKind
row_of (d ∷ ds) = do
  _ ← name_in d
  Ok (d ∷ ds)

-- a statement whose key and count are what they may be, or its fault
abbrev pub checked : Unchecked → Result o.Statement ScriptFault
checked (insert t ds) = do
  row ← row_of ds
  Ok (o.insert t row)
checked (select t columns tests) = Ok (o.select t columns tests)
checked (update t changes tests) = Ok (o.update t changes tests)
checked (delete t tests) = Ok (o.delete t tests)
checked (expect d t tests) = do
  n ← number_in d
  Ok (o.expect n t tests)

-- all these statements, or the fault of the first one that has one
abbrev pub all_checked : List Unchecked → Result (List o.Statement) ScriptFault
all_checked [] = Ok []
all_checked (u ∷ us) = do
  s ← checked u
  ss ← all_checked us
  Ok (s ∷ ss)

-- the operation of a transaction, or the first fault of its statements
abbrev pub transact_op : List Unchecked → OpAnswer
transact_op us = do
  ss ← all_checked us
  Ok (record { object = o.tables; act = o.transact ss })

-- ---- the status of a response

-- 204, 205 and 304 forbid a body
abbrev pub is_status : ℕ → Bool
is_status n = (nat_le LEAST_STATUS n && nat_le n MOST_STATUS) && not ((n == 204) || ((n == 205) || (n == 304)))

-- a number as a status, or the fault that it is none
abbrev pub status_of : ℤ → Result ℕ ScriptFault
status_of (pos n) = if is_status n then Ok n else Err OutOfRange
status_of (negsuc n) = Err OutOfRange

-- a value as a status, or its fault
abbrev pub status_in : Datum → Result ℕ ScriptFault
status_in d = do
  n ← number_in d
  status_of n
