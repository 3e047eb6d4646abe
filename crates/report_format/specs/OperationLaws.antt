-- Operations: no two objects or acts are spelled alike, and each has a byte.
use Rattle.std.proofs.Common.{ℕ, ℤ, List, ◌++◌, ap, refl}
use Rattle.script_tree.specs.Datum.{Datum}
use Rattle.script_tree.specs.declared.operation.Act.TheVariants.{Read, Write, Get, Put, Remove, Transact, Now, Roll}
use Rattle.script_tree.specs.declared.operation.Object.TheVariants.{Register, Store, Tables, Clock, Dice}
use Rattle.script_tree.specs.declared.transaction.Statement.{Statement}
use Rattle.wire.specs.Spellings.{HasOneSpelling, integer_field, bytes_field, value_field}
use Rattle.wire.proofs.OneSpelling.{integer_one, bytes_one}
use Rattle.wire.proofs.ValueSpellings.{value_one}
use Rattle.report_format.specs.Operations.{object_field, put_field, statement_field, statements_field, act_field}
use Rattle.report_format.specs.PairLaws.{both_one}
use Rattle.report_format.specs.RowLaws.{list_one}
use Rattle.report_format.specs.SimpleLaws.{rest_is}
use Rattle.report_format.specs.TransactionLaws.{statement_one}

-- No two objects are spelled alike.
pub object_one : HasOneSpelling object_field
object_one (Register n) (Register n') r s p q e =
    let same = bytes_one n n' r s p q (rest_is 1 1 (bytes_field.spelling n ++ r) (bytes_field.spelling n' ++ s) e) in
    (ap (λ (z : List ℕ). Register z) same.0, same.1)
object_one (Register n) (Store n') r s p q e = absurd (cc)
object_one (Register n) Tables r s p q e = absurd (cc)
object_one (Register n) Clock r s p q e = absurd (cc)
object_one (Register n) Dice r s p q e = absurd (cc)
object_one (Store n) (Register n') r s p q e = absurd (cc)
object_one (Store n) (Store n') r s p q e =
    let same = bytes_one n n' r s p q (rest_is 2 2 (bytes_field.spelling n ++ r) (bytes_field.spelling n' ++ s) e) in
    (ap (λ (z : List ℕ). Store z) same.0, same.1)
object_one (Store n) Tables r s p q e = absurd (cc)
object_one (Store n) Clock r s p q e = absurd (cc)
object_one (Store n) Dice r s p q e = absurd (cc)
object_one Tables (Register n') r s p q e = absurd (cc)
object_one Tables (Store n') r s p q e = absurd (cc)
object_one Tables Tables r s p q e = (refl, rest_is 3 3 r s e)
object_one Tables Clock r s p q e = absurd (cc)
object_one Tables Dice r s p q e = absurd (cc)
object_one Clock (Register n') r s p q e = absurd (cc)
object_one Clock (Store n') r s p q e = absurd (cc)
object_one Clock Tables r s p q e = absurd (cc)
object_one Clock Clock r s p q e = (refl, rest_is 4 4 r s e)
object_one Clock Dice r s p q e = absurd (cc)
object_one Dice (Register n') r s p q e = absurd (cc)
object_one Dice (Store n') r s p q e = absurd (cc)
object_one Dice Tables r s p q e = absurd (cc)
object_one Dice Clock r s p q e = absurd (cc)
object_one Dice Dice r s p q e = (refl, rest_is 5 5 r s e)

-- ---- acts

-- No two pairs of a key and a value are spelled alike.
put_one : HasOneSpelling put_field
put_one = both_one bytes_field value_field bytes_one value_one

-- No two lists of statements are spelled alike.
statements_one : HasOneSpelling statements_field
statements_one = list_one statement_field statement_one

-- No two acts are spelled alike.
pub act_one : HasOneSpelling act_field
act_one Read Read r s p q e = (refl, rest_is 1 1 r s e)
act_one Read (Write d') r s p q e = absurd (cc)
act_one Read (Get k') r s p q e = absurd (cc)
act_one Read (Put k' d') r s p q e = absurd (cc)
act_one Read (Remove k') r s p q e = absurd (cc)
act_one Read (Transact ss') r s p q e = absurd (cc)
act_one Read Now r s p q e = absurd (cc)
act_one Read (Roll n') r s p q e = absurd (cc)
act_one (Write d) Read r s p q e = absurd (cc)
act_one (Write d) (Write d') r s p q e =
    let same = value_one d d' r s p q (rest_is 2 2 (value_field.spelling d ++ r) (value_field.spelling d' ++ s) e) in
    (ap (λ (z : Datum). Write z) same.0, same.1)
act_one (Write d) (Get k') r s p q e = absurd (cc)
act_one (Write d) (Put k' d') r s p q e = absurd (cc)
act_one (Write d) (Remove k') r s p q e = absurd (cc)
act_one (Write d) (Transact ss') r s p q e = absurd (cc)
act_one (Write d) Now r s p q e = absurd (cc)
act_one (Write d) (Roll n') r s p q e = absurd (cc)
act_one (Get k) Read r s p q e = absurd (cc)
act_one (Get k) (Write d') r s p q e = absurd (cc)
act_one (Get k) (Get k') r s p q e =
    let same = bytes_one k k' r s p q (rest_is 3 3 (bytes_field.spelling k ++ r) (bytes_field.spelling k' ++ s) e) in
    (ap (λ (z : List ℕ). Get z) same.0, same.1)
act_one (Get k) (Put k' d') r s p q e = absurd (cc)
act_one (Get k) (Remove k') r s p q e = absurd (cc)
act_one (Get k) (Transact ss') r s p q e = absurd (cc)
act_one (Get k) Now r s p q e = absurd (cc)
act_one (Get k) (Roll n') r s p q e = absurd (cc)
act_one (Put k d) Read r s p q e = absurd (cc)
act_one (Put k d) (Write d') r s p q e = absurd (cc)
act_one (Put k d) (Get k') r s p q e = absurd (cc)
act_one (Put k d) (Put k' d') r s p q e =
    let same = put_one (k, d) (k', d') r s p q (rest_is 4 4 (put_field.spelling (k, d) ++ r) (put_field.spelling (k', d') ++ s) e) in
    (ap (λ (z : List ℕ × Datum). Put z.0 z.1) same.0, same.1)
act_one (Put k d) (Remove k') r s p q e = absurd (cc)
act_one (Put k d) (Transact ss') r s p q e = absurd (cc)
act_one (Put k d) Now r s p q e = absurd (cc)
act_one (Put k d) (Roll n') r s p q e = absurd (cc)
act_one (Remove k) Read r s p q e = absurd (cc)
act_one (Remove k) (Write d') r s p q e = absurd (cc)
act_one (Remove k) (Get k') r s p q e = absurd (cc)
act_one (Remove k) (Put k' d') r s p q e = absurd (cc)
act_one (Remove k) (Remove k') r s p q e =
    let same = bytes_one k k' r s p q (rest_is 5 5 (bytes_field.spelling k ++ r) (bytes_field.spelling k' ++ s) e) in
    (ap (λ (z : List ℕ). Remove z) same.0, same.1)
act_one (Remove k) (Transact ss') r s p q e = absurd (cc)
act_one (Remove k) Now r s p q e = absurd (cc)
act_one (Remove k) (Roll n') r s p q e = absurd (cc)
act_one (Transact ss) Read r s p q e = absurd (cc)
act_one (Transact ss) (Write d') r s p q e = absurd (cc)
act_one (Transact ss) (Get k') r s p q e = absurd (cc)
act_one (Transact ss) (Put k' d') r s p q e = absurd (cc)
act_one (Transact ss) (Remove k') r s p q e = absurd (cc)
act_one (Transact ss) (Transact ss') r s p q e =
    let same = statements_one ss ss' r s p q (rest_is 6 6 (statements_field.spelling ss ++ r) (statements_field.spelling ss' ++ s) e) in
    (ap (λ (z : List Statement). Transact z) same.0, same.1)
act_one (Transact ss) Now r s p q e = absurd (cc)
act_one (Transact ss) (Roll n') r s p q e = absurd (cc)
act_one Now Read r s p q e = absurd (cc)
act_one Now (Write d') r s p q e = absurd (cc)
act_one Now (Get k') r s p q e = absurd (cc)
act_one Now (Put k' d') r s p q e = absurd (cc)
act_one Now (Remove k') r s p q e = absurd (cc)
act_one Now (Transact ss') r s p q e = absurd (cc)
act_one Now Now r s p q e = (refl, rest_is 7 7 r s e)
act_one Now (Roll n') r s p q e = absurd (cc)
act_one (Roll n) Read r s p q e = absurd (cc)
act_one (Roll n) (Write d') r s p q e = absurd (cc)
act_one (Roll n) (Get k') r s p q e = absurd (cc)
act_one (Roll n) (Put k' d') r s p q e = absurd (cc)
act_one (Roll n) (Remove k') r s p q e = absurd (cc)
act_one (Roll n) (Transact ss') r s p q e = absurd (cc)
act_one (Roll n) Now r s p q e = absurd (cc)
act_one (Roll n) (Roll n') r s p q e =
    let same = integer_one n n' r s p q (rest_is 8 8 (integer_field.spelling n ++ r) (integer_field.spelling n' ++ s) e) in
    (ap (λ (z : ℤ). Roll z) same.0, same.1)
