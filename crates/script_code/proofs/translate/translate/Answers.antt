use Rattle.script_code.proofs.Pages.{means}
use Rattle.script_code.proofs.translate.translate.Goals as goal

pub returns : goal.returns
returns c =
    let code = c.in_ok-code.code in
    let is = c.in_ok-code.ensures in
    means c.args.program.now code.functions.items code.instructions.items c.declarations-declarations.ensures.valid is.instructions is.functions _ is.entries
