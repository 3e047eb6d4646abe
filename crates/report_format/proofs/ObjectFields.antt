-- No object stands where its tag is missed.
use Rattle.std.proofs.Common.{ℕ, ◌+◌, List, [], ◌∷◌, arith}
use Rattle.script_tree.specs.declared.operation.Object.TheVariants.{Register, Store, Tables, Clock, Dice}
use Rattle.wire.specs.Spellings.{NoneIsAt, byte_field, bytes_field}
use Rattle.report_format.specs.Operations.{object_field}
use Rattle.wire.proofs.Spelled.{first_part}

pub no_tag : (bytes : List ℕ) (at : ℕ) → NoneIsAt byte_field bytes at → NoneIsAt object_field bytes at
no_tag bytes at none (Register n) next p = none 1 (at + 1) (omega arith, first_part bytes (1 ∷ []) (bytes_field.spelling n) at next p.1)
no_tag bytes at none (Store n) next p = none 2 (at + 1) (omega arith, first_part bytes (2 ∷ []) (bytes_field.spelling n) at next p.1)
no_tag bytes at none Tables next p = none 3 (at + 1) (omega arith, first_part bytes (3 ∷ []) [] at next p.1)
no_tag bytes at none Clock next p = none 4 (at + 1) (omega arith, first_part bytes (4 ∷ []) [] at next p.1)
no_tag bytes at none Dice next p = none 5 (at + 1) (omega arith, first_part bytes (5 ∷ []) [] at next p.1)
