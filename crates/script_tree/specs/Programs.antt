-- Programs.
use Rattle.std.specs.Prelude.{List}
use Rattle.script_tree.specs.declared.syntax.declaration.Declaration.{Declaration}
use Rattle.script_tree.specs.declared.syntax.tree.Version.{Version}
use Rattle.script_tree.specs.declared.syntax.tree.Version.TheVariants.{First}

-- a program: the version of its language, and its declarations in order
pub record Program : Type 0 where
  pub version : Version
  pub declarations : List Declaration

-- a program of the first version
abbrev pub program_of : List Declaration → Program
program_of ds = record { version = First; declarations = ds }
