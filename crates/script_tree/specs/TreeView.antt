-- A tree of the code, as definitions see it.
use Rattle.script_tree.specs.Programs.{Program}
use Rattle.script_tree.specs.declared.syntax.tree.Tree.TheInside.{Inside}

-- the program that a tree of the code stands for
abbrev pub program_in : Inside → Program
program_in tree = record { version = tree.version; declarations = tree.declarations }
