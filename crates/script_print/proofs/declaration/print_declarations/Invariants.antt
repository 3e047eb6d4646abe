use Rattle.std.proofs.Common.{[], drop}
use Rattle.script_grammar.specs.Spelling.{declarations_spelling}
use Rattle.script_print.proofs.Parts.{IsLeft}
use Rattle.script_print.proofs.declaration.print_declarations.Given as goal

abbrev pub invariant-loop-declaration : goal.invariant-loop-declaration
invariant-loop-declaration l =
    IsLeft (λ marks. declarations_spelling (drop l.declaration-index l.list)) (λ marks. declarations_spelling l.list) [] l.printer
