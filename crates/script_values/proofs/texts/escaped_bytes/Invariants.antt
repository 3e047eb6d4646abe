use Rattle.std.proofs.Common.{◌≡◌, ◌++◌, drop}
use Rattle.script_meaning.specs.Operators.{escaped_bytes}
use Rattle.script_values.proofs.texts.escaped_bytes.Given as goal

abbrev pub invariant-loop-byte : goal.invariant-loop-byte
invariant-loop-byte l = l.made.items ++ escaped_bytes (drop l.byte-index l.bytes) ≡ escaped_bytes l.bytes
