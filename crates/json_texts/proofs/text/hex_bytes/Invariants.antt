use Rattle.std.proofs.Common.{◌≡◌, ◌++◌, length, option_map}
use Rattle.json_texts.specs.Texts.{hex_bytes}
use Rattle.json_texts.proofs.text.hex_bytes.Given as goal

-- all bytes are those so far, and those of the digits that are left
abbrev pub invariant-loop-rest : goal.invariant-loop-rest
invariant-loop-rest l = hex_bytes l.digits ≡ option_map (λ more. l.bytes.items ++ more) (hex_bytes l.rest)

abbrev pub decreases-loop-rest : goal.decreases-loop-rest
decreases-loop-rest l = length l.rest
