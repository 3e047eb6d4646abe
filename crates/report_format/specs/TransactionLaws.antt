-- Transactions: no two tests, changes or statements are spelled alike, and each has a byte.
use Rattle.std.proofs.Common.{ℕ, ℤ, List, ◌++◌, ap}
use Rattle.script_tree.specs.Datum.{Datum}
use Rattle.script_tree.specs.declared.comparison.Comparison.{Comparison}
use Rattle.script_tree.specs.declared.transaction.Change.{Change}
use Rattle.script_tree.specs.declared.transaction.Test.{Test}
use Rattle.script_tree.specs.declared.transaction.Statement.TheVariants.{Insert, Select, Update, Delete, Expect}
use Rattle.wire.specs.Spellings.{HasOneSpelling, integer_field, value_field}
use Rattle.wire.proofs.OneSpelling.{integer_one}
use Rattle.wire.proofs.ValueSpellings.{value_one}
use Rattle.report_format.specs.Parts.{both, list_field}
use Rattle.report_format.specs.Operations.{u32_field, comparison_field, test_field, change_field, tests_field, insert_field, select_field, update_field, delete_field, expect_field, statement_field}
use Rattle.report_format.specs.PairLaws.{both_one}
use Rattle.report_format.specs.RowLaws.{list_one}
use Rattle.report_format.specs.SimpleLaws.{u32_one, comparison_one, rest_is}

-- No two tests are spelled alike.
pub test_one : HasOneSpelling test_field
test_one x y r s p q e =
    let parts = both_one u32_field (both comparison_field value_field) u32_one (both_one comparison_field value_field comparison_one value_one) in
    let same = parts (x.column, (x.comparison, x.value)) (y.column, (y.comparison, y.value)) r s p q e in
    (ap (λ (z : ℕ × (Comparison × Datum)). record { column = z.0; comparison = z.1.0; value = z.1.1 }) same.0, same.1)

-- No two changes are spelled alike.
pub change_one : HasOneSpelling change_field
change_one x y r s p q e =
    let same = both_one u32_field value_field u32_one value_one (x.column, x.value) (y.column, y.value) r s p q e in
    (ap (λ (z : ℕ × Datum). record { column = z.0; value = z.1 }) same.0, same.1)

-- ---- statements

-- No two lists of tests are spelled alike.
tests_one : HasOneSpelling tests_field
tests_one = list_one test_field test_one

-- Nothing is spelled alike behind the tags of two insertions.
insert_one : HasOneSpelling insert_field
insert_one = both_one u32_field (list_field value_field) u32_one (list_one value_field value_one)

-- Nor behind those of two selections.
select_one : HasOneSpelling select_field
select_one = both_one u32_field (both (list_field u32_field) tests_field) u32_one
    (both_one (list_field u32_field) tests_field (list_one u32_field u32_one) tests_one)

-- Nor behind those of two updates.
update_one : HasOneSpelling update_field
update_one = both_one u32_field (both (list_field change_field) tests_field) u32_one
    (both_one (list_field change_field) tests_field (list_one change_field change_one) tests_one)

-- Nor behind those of two deletions.
delete_one : HasOneSpelling delete_field
delete_one = both_one u32_field tests_field u32_one tests_one

-- Nor behind those of two counts that are expected.
expect_one : HasOneSpelling expect_field
expect_one = both_one integer_field delete_field integer_one delete_one

-- No two statements are spelled alike.
pub statement_one : HasOneSpelling statement_field
statement_one (Insert t row) (Insert t' row') r s p q e =
    let same = insert_one (t, row) (t', row') r s p q (rest_is 1 1 (insert_field.spelling (t, row) ++ r) (insert_field.spelling (t', row') ++ s) e) in
    (ap (λ (z : ℕ × List Datum). Insert z.0 z.1) same.0, same.1)
statement_one (Insert t row) (Select t' cs' ts') r s p q e = absurd (cc)
statement_one (Insert t row) (Update t' cs' ts') r s p q e = absurd (cc)
statement_one (Insert t row) (Delete t' ts') r s p q e = absurd (cc)
statement_one (Insert t row) (Expect n' t' ts') r s p q e = absurd (cc)
statement_one (Select t cs ts) (Insert t' row') r s p q e = absurd (cc)
statement_one (Select t cs ts) (Select t' cs' ts') r s p q e =
    let same = select_one (t, (cs, ts)) (t', (cs', ts')) r s p q (rest_is 2 2 (select_field.spelling (t, (cs, ts)) ++ r) (select_field.spelling (t', (cs', ts')) ++ s) e) in
    (ap (λ (z : ℕ × (List ℕ × List Test)). Select z.0 z.1.0 z.1.1) same.0, same.1)
statement_one (Select t cs ts) (Update t' cs' ts') r s p q e = absurd (cc)
statement_one (Select t cs ts) (Delete t' ts') r s p q e = absurd (cc)
statement_one (Select t cs ts) (Expect n' t' ts') r s p q e = absurd (cc)
statement_one (Update t cs ts) (Insert t' row') r s p q e = absurd (cc)
statement_one (Update t cs ts) (Select t' cs' ts') r s p q e = absurd (cc)
statement_one (Update t cs ts) (Update t' cs' ts') r s p q e =
    let same = update_one (t, (cs, ts)) (t', (cs', ts')) r s p q (rest_is 3 3 (update_field.spelling (t, (cs, ts)) ++ r) (update_field.spelling (t', (cs', ts')) ++ s) e) in
    (ap (λ (z : ℕ × (List Change × List Test)). Update z.0 z.1.0 z.1.1) same.0, same.1)
statement_one (Update t cs ts) (Delete t' ts') r s p q e = absurd (cc)
statement_one (Update t cs ts) (Expect n' t' ts') r s p q e = absurd (cc)
statement_one (Delete t ts) (Insert t' row') r s p q e = absurd (cc)
statement_one (Delete t ts) (Select t' cs' ts') r s p q e = absurd (cc)
statement_one (Delete t ts) (Update t' cs' ts') r s p q e = absurd (cc)
statement_one (Delete t ts) (Delete t' ts') r s p q e =
    let same = delete_one (t, ts) (t', ts') r s p q (rest_is 4 4 (delete_field.spelling (t, ts) ++ r) (delete_field.spelling (t', ts') ++ s) e) in
    (ap (λ (z : ℕ × List Test). Delete z.0 z.1) same.0, same.1)
statement_one (Delete t ts) (Expect n' t' ts') r s p q e = absurd (cc)
statement_one (Expect n t ts) (Insert t' row') r s p q e = absurd (cc)
statement_one (Expect n t ts) (Select t' cs' ts') r s p q e = absurd (cc)
statement_one (Expect n t ts) (Update t' cs' ts') r s p q e = absurd (cc)
statement_one (Expect n t ts) (Delete t' ts') r s p q e = absurd (cc)
statement_one (Expect n t ts) (Expect n' t' ts') r s p q e =
    let same = expect_one (n, (t, ts)) (n', (t', ts')) r s p q (rest_is 5 5 (expect_field.spelling (n, (t, ts)) ++ r) (expect_field.spelling (n', (t', ts')) ++ s) e) in
    (ap (λ (z : ℤ × (ℕ × List Test)). Expect z.0 z.1.0 z.1.1) same.0, same.1)
