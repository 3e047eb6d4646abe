use Rattle.std.proofs.Common.{◌∙◌, ◌-◌, vec_len, arith}
use Rattle.script_print.proofs.Ends.{space_becomes_lf, none_printed}
use Rattle.script_print.proofs.printer.Printer.finish.Goals as goal

pub returns-in-Some : goal.returns-in-Some
returns-in-Some c ks p =
    let bytes = c.self.inside.bytes in
    space_becomes_lf bytes.items (vec_len bytes - 1) ks (omega arith) (c.self.view_is ∙ p)

pub returns-in_default : goal.returns-in_default
returns-in_default c ks p = none_printed c.self.inside.bytes.items ks c.in_default.ensures.item.3 (c.self.view_is ∙ p)
