-- That bytes are read in one way.
use Rattle.std.proofs.Common.{◌≡◌, ℕ, List, refl, sym}
use Rattle.json_texts.specs.Reading.{IsJsonOf}
use Rattle.json_texts.proofs.Readings.{same_given, gives_shape}
use Rattle.script_tree.specs.Programs.{Program}
use Rattle.state_file.specs.Givens.{given_of}
use Rattle.state_file.specs.States.{IsFaultless, HasGivenFault, SpellsState, HasStateFault}
use Rattle.state_file.specs.declared.fault.StateFault.{StateFault}
use Rattle.state_file.specs.declared.fault.StateFault.TheVariants.{NotJson, OtherShape, Undeclared, BeyondLimit, Unstorable}
use Rattle.state_file.specs.declared.given.Given.{Given}

pub one_state : (program : Program) (bytes : List ℕ) (given other : Given) → SpellsState program bytes given → SpellsState program bytes other → given ≡ other
one_state program bytes given other h k = same_given given_of bytes given other h.0 k.0

faultless : (program : Program) (given other : Given) (fault : StateFault) → given ≡ other → IsFaultless program given → HasGivenFault program other fault → ⊥
faultless program given other NotJson e h k = k
faultless program given other OtherShape e h k = k
faultless program given other Undeclared e h k = let p = h.declared in cc
faultless program given other BeyondLimit e h k = let p = h.within_limits in let q = k.1 in cc
faultless program given other Unstorable e h k = let p = h.storable in let q = k.2 in cc

pub state_or_fault : (program : Program) (bytes : List ℕ) (given : Given) (fault : StateFault)
    → SpellsState program bytes given → HasStateFault program bytes fault → ⊥
state_or_fault program bytes given NotJson h k = k h.0.0 h.0.1
state_or_fault program bytes given OtherShape h k = gives_shape given_of bytes given h.0 k
state_or_fault program bytes given Undeclared h k = faultless program given k.0 Undeclared (same_given given_of bytes given k.0 h.0 k.1) h.1 k.2
state_or_fault program bytes given BeyondLimit h k = faultless program given k.0 BeyondLimit (same_given given_of bytes given k.0 h.0 k.1) h.1 k.2
state_or_fault program bytes given Unstorable h k = faultless program given k.0 Unstorable (same_given given_of bytes given k.0 h.0 k.1) h.1 k.2

-- what is given has one least fault
one_given_fault : (program : Program) (given other : Given) (fault next : StateFault) → given ≡ other
    → HasGivenFault program given fault → HasGivenFault program other next → fault ≡ next
one_given_fault program given other NotJson next e h k = absurd h
one_given_fault program given other OtherShape next e h k = absurd h
one_given_fault program given other Undeclared NotJson e h k = absurd k
one_given_fault program given other Undeclared OtherShape e h k = absurd k
one_given_fault program given other Undeclared Undeclared e h k = refl
one_given_fault program given other Undeclared BeyondLimit e h k = let q = k.0 in absurd cc
one_given_fault program given other Undeclared Unstorable e h k = let q = k.0 in absurd cc
one_given_fault program given other BeyondLimit NotJson e h k = absurd k
one_given_fault program given other BeyondLimit OtherShape e h k = absurd k
one_given_fault program given other BeyondLimit Undeclared e h k = let q = h.0 in absurd cc
one_given_fault program given other BeyondLimit BeyondLimit e h k = refl
one_given_fault program given other BeyondLimit Unstorable e h k = let p = h.1 in let q = k.1 in absurd cc
one_given_fault program given other Unstorable NotJson e h k = absurd k
one_given_fault program given other Unstorable OtherShape e h k = absurd k
one_given_fault program given other Unstorable Undeclared e h k = let q = h.0 in absurd cc
one_given_fault program given other Unstorable BeyondLimit e h k = let p = h.1 in let q = k.1 in absurd cc
one_given_fault program given other Unstorable Unstorable e h k = refl

-- a text without a tree, or with one of another shape, and one that gives something
no_text : (program : Program) (bytes : List ℕ) (fault : StateFault) → HasStateFault program bytes NotJson → HasStateFault program bytes fault → NotJson ≡ fault
no_text program bytes NotJson h k = refl
no_text program bytes OtherShape h k = absurd (h k.0 k.1)
no_text program bytes Undeclared h k = absurd (h k.1.0 k.1.1)
no_text program bytes BeyondLimit h k = absurd (h k.1.0 k.1.1)
no_text program bytes Unstorable h k = absurd (h k.1.0 k.1.1)

no_shape : (program : Program) (bytes : List ℕ) (fault : StateFault) → HasStateFault program bytes OtherShape
    → HasStateFault program bytes fault → OtherShape ≡ fault
no_shape program bytes NotJson h k = absurd (k h.0 h.1)
no_shape program bytes OtherShape h k = refl
no_shape program bytes Undeclared h k = absurd (gives_shape given_of bytes k.0 k.1 h)
no_shape program bytes BeyondLimit h k = absurd (gives_shape given_of bytes k.0 k.1 h)
no_shape program bytes Unstorable h k = absurd (gives_shape given_of bytes k.0 k.1 h)

given_fault : (program : Program) (bytes : List ℕ) (fault next : StateFault) (given : Given)
    → IsJsonOf given_of bytes given → HasGivenFault program given fault → HasStateFault program bytes fault
    → HasStateFault program bytes next → fault ≡ next
given_fault program bytes fault NotJson given g h f k = sym (no_text program bytes fault k f)
given_fault program bytes fault OtherShape given g h f k = sym (no_shape program bytes fault k f)
given_fault program bytes fault Undeclared given g h f k = one_given_fault program given k.0 fault Undeclared (same_given given_of bytes given k.0 g k.1) h k.2
given_fault program bytes fault BeyondLimit given g h f k =
    one_given_fault program given k.0 fault BeyondLimit (same_given given_of bytes given k.0 g k.1) h k.2
given_fault program bytes fault Unstorable given g h f k = one_given_fault program given k.0 fault Unstorable (same_given given_of bytes given k.0 g k.1) h k.2

pub one_fault : (program : Program) (bytes : List ℕ) (fault next : StateFault) → HasStateFault program bytes fault
    → HasStateFault program bytes next → fault ≡ next
one_fault program bytes NotJson next h k = no_text program bytes next h k
one_fault program bytes OtherShape next h k = no_shape program bytes next h k
one_fault program bytes Undeclared next h k = given_fault program bytes Undeclared next h.0 h.1 h.2 h k
one_fault program bytes BeyondLimit next h k = given_fault program bytes BeyondLimit next h.0 h.1 h.2 h k
one_fault program bytes Unstorable next h k = given_fault program bytes Unstorable next h.0 h.1 h.2 h k
