use Rattle.std.proofs.Common.{◌+◌, arith}
use Rattle.std.specs.Int.{w64}
use Rattle.std.proofs.lemmas.Grind.{common_steps}
use Rattle.wire.proofs.NumberFields.{wide64, number_found}
use Rattle.wire.proofs.field.read_u64.Goals as goal

pub returns-in-Some-len8-up-clause-field : goal.returns-in-Some-len8-up-clause-field
returns-in-Some-len8-up-clause-field c =
    number_found w64 wide64 c.args.bytes.now c.args.at c.from_be_bytes.result (c.args.at + 8)
    (λ i. omega (arith, c.type_inv.bytes i)) (grind (arith, common_steps))

pub returns-in_default-clause-field : goal.returns-in_default-clause-field
returns-in_default-clause-field c = grind (arith, common_steps)

pub returns-in_default-2-clause-field : goal.returns-in_default-2-clause-field
returns-in_default-2-clause-field c = grind (arith, common_steps)
