-- What the members of a group get together.
use Rattle.std.specs.Prelude.{◌≡◌, ◌≢◌, ◌<◌, ◌+◌, ℕ, Bool, true, false, get_or, length, Result, Ok, Err}
use Rattle.script_tree.specs.declared.fault.ScriptFault.{ScriptFault}
use Rattle.script_tree.specs.declared.operation.Act.TheVariants.{Now}
use Rattle.script_tree.specs.declared.operation.Object.TheVariants.{Clock}
use Rattle.script_tree.specs.declared.operation.Op.{Op}
use Rattle.script_values.specs.declared.builtins.Called.{Called}
use Rattle.script_values.specs.declared.builtins.Called.TheVariants.{Value, Operation}
use Rattle.group_laws.specs.Nodes.{node_fault}
use Rattle.multivalue.specs.Many.{member_value}
use Rattle.multivalue.specs.declared.apart.Apart.{Apart}
use Rattle.multivalue.specs.declared.apart.Apart.TheVariants.{Memory, Fault, Differ}
use Rattle.multi_nodes.specs.declared.together.Together.{Together}
use Rattle.multi_nodes.specs.declared.together.Together.TheVariants.{Values, Operations, TooMany}

-- stands where there is no operation
abbrev pub nothing : Op
nothing = record { object = Clock; act = Now }

-- One of n members, of which f i is the answer of member i, has another fault than the first, or one of both has none.
abbrev pub Part : ℕ → (ℕ → Result Called ScriptFault) → Type 0
Part n f = (i : ℕ) × (i < n) × (node_fault (f i) ≢ node_fault (f 0))

-- Each of n members, of which f i is the answer of member i, has its own value or operation, or all have this fault, or
-- they part.
abbrev pub Have : ℕ → (ℕ → Result Called ScriptFault) → Result Together Apart → Type 0
Have n f (Ok (Values m)) = (i : ℕ) → i < n → f i ≡ Ok (Value (member_value m i))
Have n f (Ok (Operations ops)) = (length ops ≡ n) × ((i : ℕ) → i < n → f i ≡ Ok (Operation (get_or ops i nothing)))
Have n f (Ok TooMany) = (i : ℕ) → i < n → (op : Op) × (f i ≡ Ok (Operation op))
Have n f (Err Memory) = Unit {0}
Have n f (Err (Fault k)) = (i : ℕ) → i < n → f i ≡ Err k
Have n f (Err Differ) = Part n f

-- How much the count of nodes rises: an operation counts for each member.
abbrev pub Counts : (old new : ℕ) → (price n : ℕ) → Result Together Apart → Type 0
Counts old new c n (Ok (Values m)) = new ≡ old + c
Counts old new c n (Ok (Operations ops)) = new ≡ old + n
Counts old new c n (Ok TooMany) = new ≡ old + c
Counts old new c n (Err Memory) = Unit {0}
Counts old new c n (Err (Fault k)) = new ≡ old + c
Counts old new c n (Err Differ) = Unit {0}

-- No fault is told; where members differ, they part.
abbrev pub IsApart : {A : Type 0} → ℕ → (ℕ → Result Called ScriptFault) → Result A Apart → Type 0
IsApart n f (Ok x) = Unit {0}
IsApart n f (Err Memory) = Unit {0}
IsApart n f (Err (Fault k)) = ⊥
IsApart n f (Err Differ) = Part n f

-- An operation is told exactly where one may be issued.
abbrev pub Issues : Bool → Result Together Apart → Type 0
Issues may (Ok (Values m)) = Unit {0}
Issues may (Ok (Operations ops)) = may ≡ true
Issues may (Ok TooMany) = may ≡ false
Issues may (Err Memory) = Unit {0}
Issues may (Err (Fault k)) = Unit {0}
Issues may (Err Differ) = Unit {0}
