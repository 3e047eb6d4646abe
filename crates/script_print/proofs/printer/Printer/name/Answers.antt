use Rattle.std.proofs.Common.{◌≡◌, ◌++◌}
use Rattle.script_tokens.specs.Kinds.{name}
use Rattle.script_print.specs.Prints.{printed}
use Rattle.script_print.proofs.Spaces.{added}
use Rattle.script_print.proofs.printer.Printer.name.Goals as goal

pub returns : goal.returns
returns c =
    let kind = name c.args.bytes.now in
    let bytes = c.extend_from_slice.new.self.items in
    let spelled : bytes ≡ c.args.self.now ++ printed kind = cc (c.in_ok-extend_from_slice.ensures.items) in
    added kind c.args.self.now bytes c.end_token.new.self c.end_token.result spelled c.end_token.ensures
