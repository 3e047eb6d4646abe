use Rattle.std.proofs.Common.{◌+◌, ap, ◌∙◌, arith}
use Rattle.script_tree.specs.Datum.{text}
use Rattle.wire.proofs.ValueTags.{text_given, no_text, no_short_text, tail_fault}
use Rattle.wire.proofs.value_reading.read_text.Goals as goal

pub returns-in_err-text : goal.returns-in_err-text
returns-in_err-text c = λ depth.
    tail_fault 4 depth (c.args.room + 1) c.args.bytes.now c.args.at _ c.from_residual.result c.from_residual.ensures.1
    (no_text c.args.bytes.now c.args.at depth c.args.room c.requires c.in_err-text.ensures.field.1)

pub returns-in_default : goal.returns-in_default
returns-in_default c = λ depth.
    no_short_text c.args.bytes.now c.args.at c.in_ok-text.text.now c.in_ok-text.next depth c.args.room c.requires c.in_ok-text.ensures.field (omega (arith, c.in_default.ensures))

pub returns : goal.returns
returns c = λ depth.
    text_given c.args.bytes.now c.args.at c.in_ok-text.text.now c.in_ok-text.next depth c.args.room c.in-Some.left c.in_ok-value.value c.in_ok-text.ensures.field (omega (arith, c.in-Some.ensures)) (c.in_ok-value.ensures ∙ ap text (c.from_vec-text.ensures ∙ c.in_ok-from_slice.ensures.items))
