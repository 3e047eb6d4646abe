use Rattle.std.proofs.Common.{◌≡◌, take}
use Rattle.verdict_lines.specs.Fields.{cycle_text}
use Rattle.verdict_lines.proofs.fields.cycle_text.Given as goal

abbrev pub invariant-loop-node : goal.invariant-loop-node
invariant-loop-node l = l.text.items ≡ cycle_text (take l.node-index l.nodes)
