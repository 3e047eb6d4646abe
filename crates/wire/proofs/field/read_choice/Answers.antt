use Rattle.wire.specs.Spellings.{byte_field, choice_field}
use Rattle.wire.proofs.ChoiceFields.{no_choice}
use Rattle.wire.proofs.Faults.{part_fault}
use Rattle.wire.proofs.field.read_choice.Goals as goal

pub returns-in_err-next-clause-field : goal.returns-in_err-next-clause-field
returns-in_err-next-clause-field c =
    part_fault byte_field choice_field (λ x. x) c.args.bytes.now c.args.at c.in_err-next.field-0.0 c.from_residual.result c.in_err-next.ensures.field c.from_residual.ensures.1 (no_choice c.args.bytes.now c.args.at)
