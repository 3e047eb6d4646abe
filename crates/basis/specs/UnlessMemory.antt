-- What a call says that may run out of memory: of its value and of its fault, and nothing where it ran out.
use Rattle.std.specs.Prelude.{◌≡◌, Result, Ok, Err}
use Rattle.basis.specs.declared.or_memory.OrMemory.{OrMemory}
use Rattle.basis.specs.declared.or_memory.OrMemory.TheVariants.{Memory, Other}

-- This holds of the value, or that of the fault.
abbrev pub UnlessMemory : {A E : Type 0} → (A → Type 0) → (E → Type 0) → Result A (OrMemory E) → Type 0
UnlessMemory ok err (Ok x) = ok x
UnlessMemory ok err (Err Memory) = Unit {0}
UnlessMemory ok err (Err (Other e)) = err e

-- What is answered, seen by a view, is this.
abbrev pub Answers : {A B E : Type 0} → (A → B) → Result B E → Result A (OrMemory E) → Type 0
Answers view answer result = UnlessMemory (λ x. answer ≡ Ok (view x)) (λ e. answer ≡ Err e) result

-- The second error is the first one, whose fault gives the other fault.
abbrev pub IsMapped : {E F : Type 0} → (E → F → Type 0) → OrMemory E → OrMemory F → Type 0
IsMapped gives Memory Memory = Unit {0}
IsMapped gives Memory (Other f) = ⊥
IsMapped gives (Other e) Memory = ⊥
IsMapped gives (Other e) (Other f) = gives e f
