use Rattle.std.proofs.Common.{◌≡◌, ◌++◌, take}
use Rattle.script_tokens.specs.PrintedTexts.{printed_content}
use Rattle.script_tokens.proofs.print.push_content.Given as goal

abbrev pub invariant-loop-byte : goal.invariant-loop-byte
invariant-loop-byte l = l.out.items ≡ l.fn.out.items ++ printed_content (take l.byte-index l.content)
