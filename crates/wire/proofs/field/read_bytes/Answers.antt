use Rattle.std.proofs.Common.{◌+◌, ◌-◌, length, take, drop, arith}
use Rattle.std.specs.Int.{w32, to_be_bytes}
use Rattle.std.proofs.lemmas.Grind.{common_steps}
use Rattle.wire.specs.Spellings.{number_field, bytes_field}
use Rattle.wire.proofs.Faults.{part_fault}
use Rattle.wire.proofs.NumberFields.{bytes_found}
use Rattle.wire.proofs.Spelled.{first_part}
use Rattle.wire.proofs.field.read_bytes.Goals as goal

pub returns-in_err-len-clause-field : goal.returns-in_err-len-clause-field
returns-in_err-len-clause-field c =
    part_fault (number_field w32) bytes_field (λ x. x.now) c.args.bytes.now c.args.at c.in_err-len.field-0.0 c.from_residual.result c.in_err-len.ensures.field c.from_residual.ensures.1 (λ none x next p. none (length x) (c.args.at + 4) (p.0, first_part c.args.bytes.now (to_be_bytes w32 (length x)) x c.args.at next p.1))

pub returns-clause-field : goal.returns-clause-field
returns-clause-field c =
    let start = c.in_ok-len.start in
    let len = c.in_ok-len.len in
    bytes_found c.args.bytes.now c.args.at (take (start + len - start) (drop start c.args.bytes.now)) (start + len)
    (λ i. omega (arith, c.type_inv.bytes i)) (grind (arith, common_steps))
