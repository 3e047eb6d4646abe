use Rattle.std.proofs.Common.{◌≡◌, ◌≤◌, drop}
use Rattle.script_tokens.specs.Texts.{text_from}
use Rattle.script_tokens.specs.Shapes.{sizes_of}
use Rattle.script_tokens.specs.declared.text.Mode.TheVariants.{Plain}
use Rattle.script_tokens.proofs.Sizes.{measured}
use Rattle.script_tokens.proofs.text.measure.Given as goal

abbrev pub invariant-loop-i : goal.invariant-loop-i
invariant-loop-i l = record {
  counted : l.content ≤ l.i;
  told : sizes_of (text_from Plain l.bytes) ≡ measured l.content l.i (text_from l.mode (drop l.i l.bytes));
}
