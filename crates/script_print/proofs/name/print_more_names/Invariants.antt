use Rattle.std.proofs.Common.{drop}
use Rattle.script_grammar.specs.Spelling.{names_before}
use Rattle.script_print.proofs.Parts.{IsLeft}
use Rattle.script_print.proofs.name.print_more_names.Given as goal

abbrev pub invariant-loop-name : goal.invariant-loop-name
invariant-loop-name l = IsLeft (names_before (drop l.name-index l.others)) (names_before l.others) l.fn.printer l.printer
