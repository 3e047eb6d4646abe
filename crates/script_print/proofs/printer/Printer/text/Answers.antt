use Rattle.std.proofs.Common.{◌≡◌, ◌++◌}
use Rattle.script_tokens.specs.Kinds.{text}
use Rattle.script_print.specs.Prints.{printed}
use Rattle.script_print.proofs.Spaces.{added}
use Rattle.script_print.proofs.printer.Printer.text.Goals as goal

pub returns : goal.returns
returns c =
    let kind = text c.args.content.now in
    let bytes = c.push_text.new.out.items in
    let spelled : bytes ≡ c.args.self.now ++ printed kind = cc (c.in_ok-push_text.ensures) in
    added kind c.args.self.now bytes c.end_token.new.self c.end_token.result spelled c.end_token.ensures
