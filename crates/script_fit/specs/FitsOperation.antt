-- When an operation fits a program: its object takes the act, what it names is declared, and its values are within the limits.
use Rattle.std.specs.Prelude.{◌≡◌, ℕ, ◌≤ℤ◌, pos, Bool, true, List}
use Rattle.script_tree.specs.Datum.{IsWithinLimits}
use Rattle.script_tree.specs.Fit.{declares_store, table_widths, IsKey}
use Rattle.script_tree.specs.Programs.{Program}
use Rattle.script_tree.specs.declared.operation.Act.{Act}
use Rattle.script_tree.specs.declared.operation.Act.TheVariants.{Read, Write, Get, Put, Remove, Transact, Now, Roll}
use Rattle.script_tree.specs.declared.operation.Object.{Object}
use Rattle.script_tree.specs.declared.operation.Object.TheVariants.{Register, Store, Tables, Clock, Dice}
use Rattle.script_tree.specs.declared.operation.Op.{Op}
use Rattle.script_fit.specs.FitsTransaction.{FitsTransaction}

-- ---- acts of each object

-- a register of this name
abbrev pub FitsRegister : List ℕ → Act → Type 0
FitsRegister x Read = IsKey x
FitsRegister x (Write d) = IsKey x × IsWithinLimits d
FitsRegister x (Get k) = ⊥
FitsRegister x (Put k d) = ⊥
FitsRegister x (Remove k) = ⊥
FitsRegister x (Transact statements) = ⊥
FitsRegister x Now = ⊥
FitsRegister x (Roll bound) = ⊥

-- a store
abbrev pub FitsStore : Act → Type 0
FitsStore Read = ⊥
FitsStore (Write d) = ⊥
FitsStore (Get k) = IsKey k
FitsStore (Put k d) = IsKey k × IsWithinLimits d
FitsStore (Remove k) = IsKey k
FitsStore (Transact statements) = ⊥
FitsStore Now = ⊥
FitsStore (Roll bound) = ⊥

-- tables of so many columns each
abbrev pub FitsTables : List ℕ → Act → Type 0
FitsTables widths Read = ⊥
FitsTables widths (Write d) = ⊥
FitsTables widths (Get k) = ⊥
FitsTables widths (Put k d) = ⊥
FitsTables widths (Remove k) = ⊥
FitsTables widths (Transact statements) = FitsTransaction widths statements
FitsTables widths Now = ⊥
FitsTables widths (Roll bound) = ⊥

-- the clock, which is read
abbrev pub FitsClock : Act → Type 0
FitsClock Read = ⊥
FitsClock (Write d) = ⊥
FitsClock (Get k) = ⊥
FitsClock (Put k d) = ⊥
FitsClock (Remove k) = ⊥
FitsClock (Transact statements) = ⊥
FitsClock Now = Unit {0}
FitsClock (Roll bound) = ⊥

-- the dice, which are rolled with a bound of at least 1
abbrev pub FitsDice : Act → Type 0
FitsDice Read = ⊥
FitsDice (Write d) = ⊥
FitsDice (Get k) = ⊥
FitsDice (Put k d) = ⊥
FitsDice (Remove k) = ⊥
FitsDice (Transact statements) = ⊥
FitsDice Now = ⊥
FitsDice (Roll bound) = pos 1 ≤ℤ bound

-- ---- operations

-- where these stores are there, and tables of so many columns each
abbrev pub FitsAct : (List ℕ → Bool) → List ℕ → Object → Act → Type 0
FitsAct stores widths (Register x) act = FitsRegister x act
FitsAct stores widths (Store s) act = (stores s ≡ true) × FitsStore act
FitsAct stores widths Tables act = FitsTables widths act
FitsAct stores widths Clock act = FitsClock act
FitsAct stores widths Dice act = FitsDice act

-- the act fits its object, where the program's stores and tables are there
abbrev pub FitsOperation : Program → Op → Type 0
FitsOperation program op = FitsAct (declares_store program.declarations) (table_widths program.declarations) op.object op.act
