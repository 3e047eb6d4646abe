use Rattle.std.proofs.Common.{◌≡◌, ◌∙◌, List, ◌&&◌, sym, ap, is_some}
use Rattle.std.specs.List.{list_all}
use Rattle.object_cells.specs.Stores.{has_store}
use Rattle.script_tree.specs.Declarations.{table_from}
use Rattle.script_tree.specs.Fit.{declares_store}
use Rattle.json_texts.specs.Shapes.{Named}
use Rattle.state_file.specs.Givens.{Entry}
use Rattle.script_tree.specs.Transactions.{Row}
use Rattle.state_file.proofs.Entries.{all_same}
use Rattle.state_file.proofs.stored.are_declared.Goals as goal

pub returns-then-are_stores_there : goal.returns-then-are_stores_there
returns-then-are_stores_there c =
    let ds = c.args.index.now.declarations in
    let given = c.args.given.now in
    let there = λ (s : Named (List Entry)). has_store c.args.objects.now.stores s.0 in
    let declared = λ (s : Named (List Entry)). declares_store ds s.0 in
    let known = λ (t : Named (List Row)). is_some (table_from 0 t.0 ds) in
    let stores : list_all declared given.stores ≡ c.are_stores_there.result =
    sym (all_same there declared given.stores (λ s. c.requires.stores s.0)) ∙ ap (list_all there) (sym c.as_slice.ensures) ∙ sym c.are_stores_there.ensures in
    c.are_tables_there.ensures ∙ ap (list_all known) c.as_slice-then-are_stores_there.ensures
    ∙ ap (λ b. b && list_all known given.tables) (sym (stores ∙ c.if-are_stores_there.true))

pub returns-else-are_stores_there : goal.returns-else-are_stores_there
returns-else-are_stores_there c =
    let ds = c.args.index.now.declarations in
    let given = c.args.given.now in
    let there = λ (s : Named (List Entry)). has_store c.args.objects.now.stores s.0 in
    let declared = λ (s : Named (List Entry)). declares_store ds s.0 in
    let known = λ (t : Named (List Row)). is_some (table_from 0 t.0 ds) in
    let stores : list_all declared given.stores ≡ c.are_stores_there.result =
    sym (all_same there declared given.stores (λ s. c.requires.stores s.0)) ∙ ap (list_all there) (sym c.as_slice.ensures) ∙ sym c.are_stores_there.ensures in
    c.if-are_stores_there.false ∙ ap (λ b. b && list_all known given.tables) (sym (stores ∙ c.if-are_stores_there.false))
