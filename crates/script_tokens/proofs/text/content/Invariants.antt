use Rattle.std.proofs.Common.{◌≡◌, drop}
use Rattle.script_tokens.specs.Texts.{text_from, behind}
use Rattle.script_tokens.specs.declared.text.Mode.TheVariants.{Plain}
use Rattle.script_tokens.proofs.text.content.Given as goal

abbrev pub invariant-loop-byte : goal.invariant-loop-byte
invariant-loop-byte l =
    text_from Plain l.bytes ≡ behind l.content.items l.byte-index (text_from l.mode (drop l.byte-index l.bytes))
