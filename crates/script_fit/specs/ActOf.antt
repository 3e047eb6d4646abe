-- When an act is one of its object, and names only what is there. The sizes of its values aren't asked about here.
use Rattle.std.specs.Prelude.{◌≡◌, ℕ, Bool, true, List}
use Rattle.script_tree.specs.Fit.{IsKey}
use Rattle.script_tree.specs.declared.operation.Act.{Act}
use Rattle.script_tree.specs.declared.operation.Act.TheVariants.{Read, Write, Get, Put, Remove, Transact, Now, Roll}
use Rattle.script_tree.specs.declared.operation.Object.{Object}
use Rattle.script_tree.specs.declared.operation.Object.TheVariants.{Register, Store, Tables, Clock, Dice}
use Rattle.script_fit.specs.FitsOperation.{FitsClock, FitsDice}
use Rattle.script_fit.specs.TransactionOf.{IsTransactionOf}

-- a register of this name is read or written
abbrev pub IsRegisterAct : List ℕ → Act → Type 0
IsRegisterAct x Read = IsKey x
IsRegisterAct x (Write d) = IsKey x
IsRegisterAct x (Get k) = ⊥
IsRegisterAct x (Put k d) = ⊥
IsRegisterAct x (Remove k) = ⊥
IsRegisterAct x (Transact statements) = ⊥
IsRegisterAct x Now = ⊥
IsRegisterAct x (Roll bound) = ⊥

-- a key of a store is read, written or removed
abbrev pub IsStoreAct : Act → Type 0
IsStoreAct Read = ⊥
IsStoreAct (Write d) = ⊥
IsStoreAct (Get k) = IsKey k
IsStoreAct (Put k d) = IsKey k
IsStoreAct (Remove k) = IsKey k
IsStoreAct (Transact statements) = ⊥
IsStoreAct Now = ⊥
IsStoreAct (Roll bound) = ⊥

-- a transaction on tables of so many columns each
abbrev pub IsTablesAct : List ℕ → Act → Type 0
IsTablesAct widths Read = ⊥
IsTablesAct widths (Write d) = ⊥
IsTablesAct widths (Get k) = ⊥
IsTablesAct widths (Put k d) = ⊥
IsTablesAct widths (Remove k) = ⊥
IsTablesAct widths (Transact statements) = IsTransactionOf widths statements
IsTablesAct widths Now = ⊥
IsTablesAct widths (Roll bound) = ⊥

-- The act is one of the object, where these stores are there, and tables of so many columns each.
abbrev pub IsActOf : (List ℕ → Bool) → List ℕ → Object → Act → Type 0
IsActOf stores widths (Register x) act = IsRegisterAct x act
IsActOf stores widths (Store s) act = (stores s ≡ true) × IsStoreAct act
IsActOf stores widths Tables act = IsTablesAct widths act
IsActOf stores widths Clock act = FitsClock act
IsActOf stores widths Dice act = FitsDice act
