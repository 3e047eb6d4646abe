-- What a program's file is.
use Rattle.std.specs.Prelude.{◌≡◌, ◌⊎◌, ℕ, List}
use Rattle.script_tree.specs.Programs.{Program}
use Rattle.script_tokens.specs.declared.fault.SyntaxFault.{SyntaxFault}
use Rattle.script_grammar.specs.Files.{Spells, SpellsNone}
use Rattle.script_check.specs.Least.{IsLeastFault}
use Rattle.script_check.specs.Validity.{IsValid}
use Rattle.script_check.specs.declared.fault.CheckFault.{CheckFault}
use Rattle.command_inputs.specs.Inputs.{Input}
use Rattle.command_inputs.specs.declared.fault.InputFault.{InputFault}
use Rattle.command_inputs.specs.declared.fault.InputFault.TheVariants.{Syntax, Check}
use Rattle.command_inputs.specs.declared.role.Role.TheVariants as role

-- The bytes spell a tree, and it is valid.
pub record SpellsProgram (bytes : List ℕ) (program : Program) : Type 0 where
  pub tree : Spells bytes program
  pub valid : IsValid program

-- They spell no tree, and this is their first fault.
pub record HasSyntaxFault (bytes : List ℕ) (fault : InputFault) : Type 0 where
  pub first : SyntaxFault
  pub none : SpellsNone bytes first
  pub fault_is : fault ≡ Syntax first

-- They spell a tree, and this is its least fault.
pub record HasCheckFault (bytes : List ℕ) (fault : InputFault) : Type 0 where
  pub tree : Program
  pub least : CheckFault
  pub spells : Spells bytes tree
  pub is_least : IsLeastFault tree least
  pub fault_is : fault ≡ Check least

-- The bytes spell no tree, or one that isn't valid, and this is the fault that is told.
abbrev pub IsProgramFault : List ℕ → InputFault → Type 0
IsProgramFault bytes fault = HasSyntaxFault bytes fault ⊎ HasCheckFault bytes fault

-- a program, in at most so many bytes
abbrev pub program_input : ℕ → Input Program
program_input most = record {
  role = role.Program;
  most = most;
  spells = λ bytes program. SpellsProgram bytes program;
  has_fault = λ bytes fault. IsProgramFault bytes fault;
}
