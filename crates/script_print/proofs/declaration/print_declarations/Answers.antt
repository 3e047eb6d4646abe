use Rattle.std.proofs.Common.{[], refl}
use Rattle.script_grammar.specs.Spelling.{declaration_spelling, declarations_spelling}
use Rattle.script_print.specs.TreePrints.{kinds_of}
use Rattle.script_print.proofs.Parts.{one_more, no_more}
use Rattle.script_print.proofs.Spaces.{all_spaced}
use Rattle.script_print.proofs.declaration.print_declarations.Goals as goal

pub loop-declaration-preserved : goal.loop-declaration-preserved
loop-declaration-preserved c =
    one_more (λ ds marks. declarations_spelling ds) declaration_spelling (λ d ds marks. refl) c.args.list.now c.loop-declaration.declaration-index c.declaration-item.result [] c.loop-declaration.printer c.print_declaration.new.printer c.loop-declaration-test.true c.declaration-item.is c.loop-declaration.invariant c.in_ok-print_declaration.ensures

pub returns : goal.returns
returns c =
    let ds = c.args.list.now in
    let kinds = kinds_of (declarations_spelling ds) in
    let all = no_more (λ ds marks. declarations_spelling ds) ds c.loop-declaration.declaration-index [] c.loop-declaration.printer c.loop-declaration-test.false c.loop-declaration.invariant [] refl in
    c.finish.ensures kinds (all_spaced c.loop-declaration.printer kinds all)
