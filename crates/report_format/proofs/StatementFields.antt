-- No statement stands where its tag or a part of it is missed.
use Rattle.std.proofs.Common.{◌≡◌, ℕ, ◌+◌, ◌==◌, List, [], ◌∷◌, MatchBool, sym, subst, ◌∙◌, arith}
use Rattle.script_tree.specs.declared.transaction.Statement.TheVariants.{Insert, Select, Update, Delete, Expect}
use Rattle.wire.specs.Spellings.{IsFieldAt, NoneIsAt, byte_field}
use Rattle.report_format.specs.Operations.{insert_field, select_field, update_field, delete_field, expect_field, statement_field}
use Rattle.wire.proofs.Spelled.{first_part}
use Rattle.report_format.proofs.Tags.{behind}

pub no_tag : (bytes : List ℕ) (at : ℕ) → NoneIsAt byte_field bytes at → NoneIsAt statement_field bytes at
no_tag bytes at none (Insert u row) next p = none 1 (at + 1) (omega arith, first_part bytes (1 ∷ []) (insert_field.spelling (u, row)) at next p.1)
no_tag bytes at none (Select u cs ts) next p = none 2 (at + 1) (omega arith, first_part bytes (2 ∷ []) (select_field.spelling (u, (cs, ts))) at next p.1)
no_tag bytes at none (Update u cs ts) next p = none 3 (at + 1) (omega arith, first_part bytes (3 ∷ []) (update_field.spelling (u, (cs, ts))) at next p.1)
no_tag bytes at none (Delete u ts) next p = none 4 (at + 1) (omega arith, first_part bytes (4 ∷ []) (delete_field.spelling (u, ts)) at next p.1)
no_tag bytes at none (Expect n u ts) next p = none 5 (at + 1) (omega arith, first_part bytes (5 ∷ []) (expect_field.spelling (n, (u, ts))) at next p.1)

-- nothing of the kind that belongs to the tag
abbrev pub NoneBehind : List ℕ → ℕ → ℕ → Type 0
NoneBehind bytes mid t =
    MatchBool (t == 1) (NoneIsAt insert_field bytes mid)
    (MatchBool (t == 2) (NoneIsAt select_field bytes mid)
    (MatchBool (t == 3) (NoneIsAt update_field bytes mid)
    (MatchBool (t == 4) (NoneIsAt delete_field bytes mid)
    (MatchBool (t == 5) (NoneIsAt expect_field bytes mid) (Unit {0})))))

pub no_statement : (bytes : List ℕ) (at t mid k : ℕ) → IsFieldAt byte_field bytes at t mid → t ≡ k → NoneBehind bytes mid k → NoneIsAt statement_field bytes at
no_statement bytes at t mid k here is none (Insert u row) next p =
    let b = behind bytes at t mid 1 (insert_field.spelling (u, row)) next here (omega arith) p.1 in
    subst (NoneBehind bytes mid) (sym is ∙ b.0) none (u, row) next (p.0, b.1)
no_statement bytes at t mid k here is none (Select u cs ts) next p =
    let b = behind bytes at t mid 2 (select_field.spelling (u, (cs, ts))) next here (omega arith) p.1 in
    subst (NoneBehind bytes mid) (sym is ∙ b.0) none (u, (cs, ts)) next (p.0, b.1)
no_statement bytes at t mid k here is none (Update u cs ts) next p =
    let b = behind bytes at t mid 3 (update_field.spelling (u, (cs, ts))) next here (omega arith) p.1 in
    subst (NoneBehind bytes mid) (sym is ∙ b.0) none (u, (cs, ts)) next (p.0, b.1)
no_statement bytes at t mid k here is none (Delete u ts) next p =
    let b = behind bytes at t mid 4 (delete_field.spelling (u, ts)) next here (omega arith) p.1 in
    subst (NoneBehind bytes mid) (sym is ∙ b.0) none (u, ts) next (p.0, b.1)
no_statement bytes at t mid k here is none (Expect n u ts) next p =
    let b = behind bytes at t mid 5 (expect_field.spelling (n, (u, ts))) next here (omega arith) p.1 in
    subst (NoneBehind bytes mid) (sym is ∙ b.0) none (n, (u, ts)) next (p.0, b.1)
