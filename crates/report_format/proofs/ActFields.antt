-- No act stands where its tag or a part of it is missed.
use Rattle.std.proofs.Common.{◌≡◌, ℕ, ◌+◌, List, [], ◌∷◌, arith}
use Rattle.script_tree.specs.declared.operation.Act.TheVariants.{Read, Write, Get, Put, Remove, Transact, Now, Roll}
use Rattle.wire.specs.Spellings.{IsFieldAt, NoneIsAt, byte_field, bytes_field, integer_field, value_field}
use Rattle.report_format.specs.Operations.{put_field, statements_field, act_field}
use Rattle.wire.proofs.Spelled.{first_part}
use Rattle.report_format.proofs.Tags.{behind}

pub no_tag : (bytes : List ℕ) (at : ℕ) → NoneIsAt byte_field bytes at → NoneIsAt act_field bytes at
no_tag bytes at none Read next p = none 1 (at + 1) (omega arith, first_part bytes (1 ∷ []) [] at next p.1)
no_tag bytes at none (Write d) next p = none 2 (at + 1) (omega arith, first_part bytes (2 ∷ []) (value_field.spelling d) at next p.1)
no_tag bytes at none (Get x) next p = none 3 (at + 1) (omega arith, first_part bytes (3 ∷ []) (bytes_field.spelling x) at next p.1)
no_tag bytes at none (Put x d) next p = none 4 (at + 1) (omega arith, first_part bytes (4 ∷ []) (put_field.spelling (x, d)) at next p.1)
no_tag bytes at none (Remove x) next p = none 5 (at + 1) (omega arith, first_part bytes (5 ∷ []) (bytes_field.spelling x) at next p.1)
no_tag bytes at none (Transact ss) next p = none 6 (at + 1) (omega arith, first_part bytes (6 ∷ []) (statements_field.spelling ss) at next p.1)
no_tag bytes at none Now next p = none 7 (at + 1) (omega arith, first_part bytes (7 ∷ []) [] at next p.1)
no_tag bytes at none (Roll n) next p = none 8 (at + 1) (omega arith, first_part bytes (8 ∷ []) (integer_field.spelling n) at next p.1)

-- behind the tag of a put a key or a value is missed
pub no_put : (bytes : List ℕ) (at t mid : ℕ) → IsFieldAt byte_field bytes at t mid → t ≡ 4 → NoneIsAt put_field bytes mid → NoneIsAt act_field bytes at
no_put bytes at t mid here is none Read next p = absurd (omega (arith, is, (behind bytes at t mid 1 [] next here (omega arith) p.1).0))
no_put bytes at t mid here is none (Write d) next p =
    absurd (omega (arith, is, (behind bytes at t mid 2 (value_field.spelling d) next here (omega arith) p.1).0))
no_put bytes at t mid here is none (Get x) next p = absurd (omega (arith, is, (behind bytes at t mid 3 (bytes_field.spelling x) next here (omega arith) p.1).0))
no_put bytes at t mid here is none (Put x d) next p =
    none (x, d) next (p.0, (behind bytes at t mid 4 (put_field.spelling (x, d)) next here (omega arith) p.1).1)
no_put bytes at t mid here is none (Remove x) next p =
    absurd (omega (arith, is, (behind bytes at t mid 5 (bytes_field.spelling x) next here (omega arith) p.1).0))
no_put bytes at t mid here is none (Transact ss) next p =
    absurd (omega (arith, is, (behind bytes at t mid 6 (statements_field.spelling ss) next here (omega arith) p.1).0))
no_put bytes at t mid here is none Now next p = absurd (omega (arith, is, (behind bytes at t mid 7 [] next here (omega arith) p.1).0))
no_put bytes at t mid here is none (Roll n) next p =
    absurd (omega (arith, is, (behind bytes at t mid 8 (integer_field.spelling n) next here (omega arith) p.1).0))
