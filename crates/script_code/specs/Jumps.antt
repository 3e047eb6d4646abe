-- Jumps past code.
use Rattle.std.specs.Prelude.{ℕ, ◌+◌, List, [], ◌∷◌, ◌++◌, length}
use Rattle.script_tree.specs.Programs.{Program}
use Rattle.script_tree.specs.Syntax.{Statement, Else}
use Rattle.script_tree.specs.SyntaxLists.{statements_of}
use Rattle.script_code.specs.Code.{Instructions, Names, scoped_code, block_code, else_code}
use Rattle.script_code.specs.declared.instruction.Instruction.{Instruction}
use Rattle.script_code.specs.declared.instruction.Instruction.TheVariants.{Branch}

-- the code, and before it a jump past it
abbrev pub jumped : (ℕ → Instruction) → Instructions → Instructions
jumped jump code = jump (length code) ∷ code

-- a branch that passes one instruction more
abbrev pub branch_beyond : ℕ → Instruction
branch_beyond n = Branch (n + 1)

-- a block within others, and an else
abbrev pub scoped_block : Program → Names → List Statement → Instructions
scoped_block program ns body = scoped_code ns (block_code program ns (statements_of body))

-- the same of an `else`
abbrev pub scoped_else : Program → Names → Else → Instructions
scoped_else program ns other = scoped_code ns (else_code program ns other)

-- the body of a loop over a list, with the variable of the loop
abbrev pub turn_code : Program → Names → List ℕ → List Statement → Instructions
turn_code program ns x body = scoped_code ns (block_code program (ns ++ x ∷ []) (statements_of body))
