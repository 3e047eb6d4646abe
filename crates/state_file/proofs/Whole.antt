-- Objects in which all that is given is stored.
use Rattle.std.proofs.Common.{◌≡◌, ◌∙◌, ℕ, List, [], Some, true, ◌&&◌, is_some, unwrap_or, pos, refl, sym, ap}
use Rattle.std.specs.List.{list_all}
use Rattle.std.specs.Prelude.{int_le}
use Rattle.basis.proofs.Booleans.{both-left, both-right}
use Rattle.object_cells.specs.Cells.{held}
use Rattle.object_cells.specs.Stores.{has_store, held_in}
use Rattle.object_set.specs.ObjectSets.{HeldObjects, IsSetOf, IsEmptySet, objects_of}
use Rattle.object_tables.specs.TableSets.{no_rows}
use Rattle.script_tree.specs.Declarations.{table_from}
use Rattle.script_tree.specs.Fit.{declares_store, table_widths}
use Rattle.script_tree.specs.Objects.{one, many, rows}
use Rattle.script_tree.specs.Programs.{Program}
use Rattle.script_tree.specs.Transactions.{Row}
use Rattle.script_tree.specs.declared.operation.Object.{Object}
use Rattle.script_tree.specs.declared.operation.Object.TheVariants.{Register, Store, Tables, Clock, Dice}
use Rattle.state_file.specs.Faults.{are_declared, are_within_limits, are_entries_within_limits, are_rows_within_limits}
use Rattle.json_texts.specs.Shapes.{Named}
use Rattle.state_file.specs.Givens.{Entry}
use Rattle.state_file.specs.Puts.{PutsRegisters, PutsStores, ChangesTables}
use Rattle.state_file.specs.Starts.{Holds}
use Rattle.state_file.specs.Stored.{given_objects, with_tables, given_tables}
use Rattle.state_file.specs.declared.given.Given.{Given}
use Rattle.state_file.proofs.Entries.{all_same}

-- the stores that are given are still there
pub there_still : (program : Program) (given : Given) (old mid : HeldObjects) → IsSetOf program old
    → mid.stores ≡ old.stores → are_declared program given ≡ true
    → list_all (λ s. has_store mid.stores s.0) given.stores ≡ true
there_still program given old mid of same declared =
    let now = λ (s : Named (List Entry)). has_store mid.stores s.0 in
    let known = λ (s : Named (List Entry)). declares_store program.declarations s.0 in
    all_same now known given.stores (λ s. ap (λ stores. has_store stores s.0) same ∙ of.stores s.0)
    ∙ both-left (list_all known given.stores) (list_all (λ t. is_some (table_from 0 t.0 program.declarations)) given.tables) declared

pub stores_within : (given : Given) → are_within_limits given ≡ true → list_all (λ s. are_entries_within_limits s.1) given.stores ≡ true
stores_within given h =
    let a = are_entries_within_limits given.registers in
    let b = list_all (λ (s : Named (List Entry)). are_entries_within_limits s.1) given.stores in
    let d = list_all (λ (t : Named (List Row)). are_rows_within_limits t.1) given.tables in
    both-right a b (both-left (a && b) d (both-left (a && b && d) (int_le (pos 0) given.clock) h))

-- the tables from none are those that are given
stored_tables : (program : Program) (given : Given) (old mid new : HeldObjects) → IsEmptySet old → IsSetOf program old → mid.tables ≡ old.tables
    → with_tables program.declarations given.tables mid.tables.tables ≡ Some new.tables.tables
    → new.tables.tables ≡ unwrap_or (given_tables program given.tables) []
stored_tables program given old mid new empty of same put =
    let ds = program.declarations in
    let none : mid.tables.tables ≡ no_rows (table_widths ds) = ap (λ t. t.tables) same ∙ empty.tables ∙ ap no_rows of.widths in
    sym (ap (λ o. unwrap_or o []) (ap (with_tables ds given.tables) (sym none) ∙ put))

pub holds : (program : Program) (given : Given) (h a b d : HeldObjects) → IsEmptySet h → IsSetOf program h
    → PutsRegisters given.registers h a → PutsStores given.stores a b
    → with_tables program.declarations given.tables b.tables.tables ≡ Some d.tables.tables → ChangesTables b d
    → Holds program given (record d { clock = given.clock })
holds program given h a b d empty of registers stores tables rest = record {
  declared = record {
    stores = λ (s : List ℕ). ap (λ ss. has_store ss s) rest.stores ∙ stores.others.same s ∙ ap (λ ss. has_store ss s) registers.stores ∙ of.stores s;
    widths = rest.widths ∙ ap (λ t. t.widths) (stores.others.tables ∙ registers.tables) ∙ of.widths;
  };
  held = each;
} where
  each : (o : Object) → objects_of (record d { clock = given.clock }) o ≡ given_objects program given o
  each (Register x) = ap (λ rs. one (held rs x)) (rest.registers ∙ stores.others.registers) ∙ ap one (registers.registers x)
  each (Store s) = ap (λ ss. many (held_in ss s)) rest.stores ∙ (λ i. many (λ k. stores.cells s k i))
  each Tables = ap rows (stored_tables program given h b d empty of (stores.others.tables ∙ registers.tables) tables)
  each Clock = refl
  each Dice = refl
