-- A checked program of the code, as definitions see it.
use Rattle.std.specs.Prelude.{◌<◌, length}
use Rattle.script_tree.specs.Programs.{Program}
use Rattle.script_tree.specs.declared.limits.TheConstants.{TOO_MANY_DECLARATIONS}
use Rattle.script_check.specs.Validity.{IsValid}
use Rattle.script_check.specs.declared.program.Program.TheInside.{Inside}

-- the program, with its version
abbrev pub program_in : Inside → Program
program_in p = p.tree

-- It is valid, and its declarations can be counted in 32 bits.
pub record IsCheckedProgram (p : Inside) : Type 0 where
  pub valid : IsValid (program_in p)
  pub few : length (program_in p).declarations < TOO_MANY_DECLARATIONS
