use Rattle.std.proofs.Common.{◌++◌, ap, ◌∙◌}
use Rattle.std.specs.Fmt.{signed_decimal}
use Rattle.std.proofs.Math.Facts.{to_z-of_z}
use Rattle.script_tokens.specs.Kinds.{number}
use Rattle.script_print.proofs.Spaces.{added}
use Rattle.script_print.proofs.printer.Printer.number.Goals as goal

pub returns : goal.returns
returns c =
    let kind = number c.args.value in
    let bytes = c.extend_from_slice.new.self.items in
    let behind = ap (λ l. l ++ c.as_bytes-digits.result.now) c.self.view_is in
    let digits = c.as_bytes-digits.ensures.value ∙ c.format.ensures.text ∙ ap signed_decimal (to_z-of_z c.ranges.value) in
    let spelled = c.in_ok-extend_from_slice.ensures.items ∙ behind ∙ ap (λ l. c.args.self.now ++ l) digits in
    added kind c.args.self.now bytes c.end_token.new.self c.end_token.result spelled c.end_token.ensures
