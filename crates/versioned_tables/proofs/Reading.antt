-- What only reads leaves the tables.
use Rattle.std.proofs.Common.{◌≡◌, ℕ, ◌+◌, ◌≤◌, Bool, true, false, cond, List, [], ◌∷◌, Option, Some, None, refl, sym, ◌∙◌, ap, arith}
use Rattle.std.specs.Prelude.{option_and_then}
use Rattle.std.specs.Option.{option_map, option_map_or}
use Rattle.std.specs.Ordering.{int_eq}
use Rattle.std.proofs.lemmas.Bool.{leb-true}
use Rattle.script_tree.specs.Datum.{Datum, null, list, data_of}
use Rattle.script_tree.specs.Transactions.{Table, row_count, table_at, after_statements, after_transaction}
use Rattle.script_tree.specs.declared.transaction.Statement.{Statement}
use Rattle.script_tree.specs.declared.transaction.Statement.TheVariants.{Insert, Select, Update, Delete, Expect}
use Rattle.object_tables.specs.Keys.{row_at}
use Rattle.versioned_tables.specs.Reads.{only_read}
use Rattle.versioned_tables.specs.Standing.{RowsOverTime, AreFrom, Advances}
use Rattle.versioned_tables.proofs.Moving.{later}
use Rattle.versioned_tables.proofs.Noting.{from_later}

abbrev Keeps : List Table → Option (List Table × List Datum) → Type 0
Keeps ts None = Unit {0}
Keeps ts (Some r) = r.0 ≡ ts

in_front : (ts : List Table) (d : Datum) (o : Option (List Table × List Datum)) → Keeps ts o → Keeps ts (option_map (λ rest. (rest.0, d ∷ rest.1)) o)
in_front ts d None k = tt
in_front ts d (Some r) k = k

statements_keep : (ss : List Statement) → only_read ss ≡ true → (ts : List Table) → Keeps ts (after_statements ss ts)
statements_keep [] e ts = refl
statements_keep (Insert t row ∷ ss) e ts = cc
statements_keep (Select t columns tests ∷ ss) e ts = in_front ts _ (after_statements ss ts) (statements_keep ss e ts)
statements_keep (Update t changes tests ∷ ss) e ts = cc
statements_keep (Delete t tests ∷ ss) e ts = cc
statements_keep (Expect n t tests ∷ ss) e ts = by (int_eq n (row_count tests (table_at t ts))) (statements_keep ss e ts) where
  by : (b : Bool) → Keeps ts (after_statements ss ts)
      → Keeps ts (option_and_then {T = List Table × Datum}
      (λ r. option_map (λ rest. (rest.0, r.1 ∷ rest.1)) (after_statements ss r.0)) (cond b (Some (ts, null)) None))
  by true k = in_front ts null (after_statements ss ts) k
  by false k = tt

kept : (ts : List Table) (o : Option (List Table × List Datum)) → Keeps ts o
    → (option_map_or {U = List Table × Datum} (λ r. (r.0, list (data_of r.1))) o (ts, null)).0 ≡ ts
kept ts None k = refl
kept ts (Some r) k = k

pub reads_keep : (ss : List Statement) → only_read ss ≡ true → (ts : List Table) → (after_transaction ss ts).0 ≡ ts
reads_keep ss e ts = kept ts (after_statements ss ts) (statements_keep ss e ts)

-- what only reads moves nothing
pub stands_still : (widths : List ℕ) (p : ℕ) (ss : List Statement) (hs : RowsOverTime) → only_read ss ≡ true → AreFrom p hs → Advances widths p ss hs hs
stands_still widths p ss hs e from = record {
  before = λ q t k h. refl;
  after = λ tables fit standing q h t k.
      let up : p + 1 ≤ q = leb-true (p + 1) q h in
      later p q hs t k from (omega arith) ∙ standing t k ∙ ap (λ ts. row_at k (table_at t ts)) (sym (reads_keep ss e tables));
  until = from_later p (p + 1) hs (omega arith) from;
  count = refl;
  changes = λ c. c;
}
