-- What a state is, and which faults it has, by the JSON tree that its bytes spell.
use Rattle.std.specs.Prelude.{◌≡◌, ℕ, true, false, List}
use Rattle.json_texts.specs.Reading.{IsNoJson, IsJsonOf, HasOtherShape}
use Rattle.script_tree.specs.Programs.{Program}
use Rattle.state_file.specs.Givens.{given_of}
use Rattle.state_file.specs.Faults.{are_declared, are_within_limits, is_storable}
use Rattle.state_file.specs.declared.fault.StateFault.{StateFault}
use Rattle.state_file.specs.declared.fault.StateFault.TheVariants.{NotJson, OtherShape, Undeclared, BeyondLimit, Unstorable}
use Rattle.state_file.specs.declared.given.Given.{Given}

-- What is given has no fault.
pub record IsFaultless (program : Program) (given : Given) : Type 0 where
  pub declared : are_declared program given ≡ true
  pub within_limits : are_within_limits given ≡ true
  pub storable : is_storable program given ≡ true

-- The fault with the least kind that what is given has.
abbrev pub HasGivenFault : Program → Given → StateFault → Type 0
HasGivenFault program given NotJson = ⊥
HasGivenFault program given OtherShape = ⊥
HasGivenFault program given Undeclared = are_declared program given ≡ false
HasGivenFault program given BeyondLimit = (are_declared program given ≡ true) × (are_within_limits given ≡ false)
HasGivenFault program given Unstorable =
    (are_declared program given ≡ true) × (are_within_limits given ≡ true) × (is_storable program given ≡ false)

-- The bytes are a state without a fault, which gives this.
abbrev pub SpellsState : Program → List ℕ → Given → Type 0
SpellsState program bytes given = IsJsonOf given_of bytes given × IsFaultless program given

-- The fault with the least kind that the bytes have.
abbrev pub HasStateFault : Program → List ℕ → StateFault → Type 0
HasStateFault program bytes NotJson = IsNoJson bytes
HasStateFault program bytes OtherShape = HasOtherShape given_of bytes
HasStateFault program bytes Undeclared = (given : Given) × IsJsonOf given_of bytes given × HasGivenFault program given Undeclared
HasStateFault program bytes BeyondLimit = (given : Given) × IsJsonOf given_of bytes given × HasGivenFault program given BeyondLimit
HasStateFault program bytes Unstorable = (given : Given) × IsJsonOf given_of bytes given × HasGivenFault program given Unstorable

-- the number by which a fault is printed
abbrev pub fault_kind : StateFault → ℕ
fault_kind NotJson = 1
fault_kind OtherShape = 2
fault_kind Undeclared = 3
fault_kind BeyondLimit = 4
fault_kind Unstorable = 5

-- Bytes spell at most one state, have at most one least fault, and not both.
pub record IsReadOneWay : Type 0 where
  pub states :
      (program : Program) (bytes : List ℕ) (given other : Given) → SpellsState program bytes given
      → SpellsState program bytes other → given ≡ other
  pub faults :
      (program : Program) (bytes : List ℕ) (fault other : StateFault) → HasStateFault program bytes fault
      → HasStateFault program bytes other → fault ≡ other
  pub apart :
      (program : Program) (bytes : List ℕ) (given : Given) (fault : StateFault) → SpellsState program bytes given
      → HasStateFault program bytes fault → ⊥
