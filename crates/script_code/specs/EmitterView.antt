-- What an emitter writes the code of.
use Rattle.script_tree.specs.Programs.{Program}
use Rattle.script_code.specs.Callees.{TellsNumbers}
use Rattle.script_code.specs.declared.emitter.Emitter.TheInside.{Inside}

-- the program whose code is written
abbrev pub program_in : Inside → Program
program_in emitter = emitter.index

-- The emitter tells the number of each function of its program.
abbrev pub IsEmitter : Inside → Type 0
IsEmitter emitter = TellsNumbers (program_in emitter).declarations emitter.functions
