-- What the walker finds by name, as the definition sees it.
use Rattle.std.specs.Prelude.{◌<◌}
use Rattle.script_tree.specs.Declarations as meant
use Rattle.script_tree.specs.Programs.{Program}
use Rattle.page_walker.specs.Nodes.{block_nodes, nodes_below}
use Rattle.script_check.specs.FoundByName.{function_of}
use Rattle.script_check.specs.declared.lookup.FoundFunction.{FoundFunction}
use Rattle.page_walker.specs.declared.declared.Callee.{Callee}
use Rattle.page_walker.specs.declared.declared.Callee.TheVariants.{Own, Builtin, Unknown}

-- what a name calls, as the program declares it
abbrev pub callee_of : Callee → meant.Callee
callee_of (Own f) = meant.own (function_of f)
callee_of (Builtin b) = meant.built b
callee_of Unknown = meant.unknown

-- The body of the function has fewer nodes than the greatest of the program, so that calls end.
abbrev pub IsInProgram : Program → FoundFunction → Type 0
IsInProgram program f = block_nodes f.body.now < nodes_below program

-- What a name calls is within the program, where it is a function.
abbrev pub CalleeIsInProgram : Program → Callee → Type 0
CalleeIsInProgram program (Own f) = IsInProgram program f
CalleeIsInProgram program (Builtin b) = Unit {0}
CalleeIsInProgram program Unknown = Unit {0}
