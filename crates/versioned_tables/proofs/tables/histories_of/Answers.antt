use Rattle.std.proofs.Common.{◌≡◌, ◌∙◌, ◌∷◌, [], ℕ, List, reverse, ap, sym, subst, rules}
use Rattle.basis.specs.Lists.{or_else}
use Rattle.script_tree.specs.Transactions.{Row, Table}
use Rattle.script_fit.proofs.TableRows.{AreRows, rows_of_table}
use Rattle.object_tables.specs.Keys.{row_at}
use Rattle.versioned_cells.specs.Versions.{VersionsByKey, held_at}
use Rattle.versioned_cells.proofs.HistoryFacts.{notes_until, pushed}
use Rattle.versioned_tables.proofs.Building.{IsFresh, IfOk-map, row_more, fresh_more, fresh_key, row_changes, rows_all, rows_none, fresh_none, no_changes, until_none, begins_alike}
use Rattle.versioned_tables.proofs.tables.histories_of.Goals as goal

pub loop-row-init : goal.loop-row-init
loop-row-init c =
    let all : c.into_iter-row-iterator.result ≡ c.args.rows = c.into_iter-row-iterator.ensures.into_iter_gives in
    let none : reverse c.new-histories.result.items ≡ [] = ap (λ (ps : VersionsByKey Row). reverse ps) c.new-histories.ensures.items in
    record {
      rows = λ p k. ap (λ (r : Table). or_else (row_at k r) (held_at p (reverse c.new-histories.result.items) k)) all
          ∙ rows_none c.args.rows (reverse c.new-histories.result.items) none p k;
      are = (c.requires.0, subst (AreRows c.requires.0) (sym all) (rows_of_table c.requires.0 c.args.rows c.requires.1));
      until = until_none (reverse c.new-histories.result.items) none;
      fresh = fresh_none c.into_iter-row-iterator.result (reverse c.new-histories.result.items) none;
      changes = no_changes (reverse c.new-histories.result.items) none;
    }

pub loop-row-preserved : goal.loop-row-preserved
loop-row-preserved c =
    let x = c.in-Some.row.now in
    let copy = c.in_ok-clone.field-0 in
    let k0 = c.in_ok-key_of.field-0 in
    let rest = c.next.new.self in
    let old = reverse c.loop-row.histories.items in
    let new = reverse c.push.new.self.items in
    let first : c.loop-row.row-iterator ≡ x ∷ rest = search rules in
    let w = c.loop-row.invariant.are.0 in
    let are : AreRows w (x ∷ rest) = subst (AreRows w) first c.loop-row.invariant.are.1 in
    let at : (p : ℕ) (k : List ℕ) → or_else (row_at k (x ∷ rest)) (held_at p old k) ≡ row_at k c.args.rows =
    subst (λ (r : Table). (p : ℕ) (k : List ℕ) → or_else (row_at k r) (held_at p old k) ≡ row_at k c.args.rows) first c.loop-row.invariant.rows in
    let fresh = subst (λ (r : Table). IsFresh r old) first c.loop-row.invariant.fresh in
    let notes = pushed k0 0 _ c.begun-history.result c.loop-row.histories.items c.push.new.self.items
    (fresh_key x k0 rest old c.in_ok-key_of.ensures fresh) c.begun-history.ensures c.in_ok-push.ensures.items in
    record {
      rows = row_more w c.args.rows x copy k0 rest old new (search rules) c.in_ok-key_of.ensures are at notes;
      are = (w, are.2);
      fresh = fresh_more w x copy k0 rest old new c.in_ok-key_of.ensures are fresh notes;
      changes = row_changes x copy k0 rest old new c.in_ok-key_of.ensures fresh notes c.loop-row.invariant.changes;
      until = notes_until 0 k0 _ old new notes c.loop-row.invariant.until;
    }

pub returns : goal.returns
returns c =
    let pairs = c.loop-row.histories.items in
    let none : c.loop-row.row-iterator ≡ [] = search rules in
    let all = rows_all c.args.rows c.loop-row.row-iterator (reverse pairs) none c.loop-row.invariant.rows c.loop-row.invariant.until c.loop-row.invariant.changes in
    IfOk-map c.from_vec.result (λ es last. begins_alike c.args.rows (reverse pairs) es last all) c.from_vec.ensures
