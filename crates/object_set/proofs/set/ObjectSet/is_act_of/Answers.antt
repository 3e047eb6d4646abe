use Rattle.std.proofs.Common.{◌∙◌, ℕ, List, ap, sym}
use Rattle.script_tree.specs.declared.operation.Object.{Object}
use Rattle.script_tree.specs.declared.operation.Object.TheVariants.{Tables}
use Rattle.script_fit.specs.OfProgram.{is_act_of}
use Rattle.object_cells.specs.Stores.{has_store}
use Rattle.object_tables.specs.TableSets.{TableSet}
use Rattle.object_set.proofs.set.ObjectSet.is_act_of.Goals as goal

pub returns-in-Register : goal.returns-in-Register
returns-in-Register c =
    let h = c.args.self.now in
    c.is_of_register.ensures (has_store h.stores) h.tables.widths
    ∙ ap (λ (o : Object). is_act_of (has_store h.stores) h.tables.widths o c.args.act.now) (sym c.in-Register.is)

pub returns-in-Store : goal.returns-in-Store
returns-in-Store c =
    let h = c.args.self.now in
    c.is_of_store.ensures h.tables.widths ∙ ap (λ (o : Object). is_act_of (has_store h.stores) h.tables.widths o c.args.act.now) (sym c.in-Store.is)

pub returns-in-Tables : goal.returns-in-Tables
returns-in-Tables c =
    let h = c.args.self.now in
    c.is_of_tables.ensures (has_store h.stores)
    ∙ ap (λ (widths : List ℕ). is_act_of (has_store h.stores) widths Tables c.args.act.now)
    (c.widths.ensures.widths ∙ ap (λ (t : TableSet). t.widths) c.tables.ensures)
    ∙ ap (λ (o : Object). is_act_of (has_store h.stores) h.tables.widths o c.args.act.now) (sym c.in-Tables.is)

pub returns-in-Clock : goal.returns-in-Clock
returns-in-Clock c =
    let h = c.args.self.now in
    c.is_of_clock.ensures (has_store h.stores) h.tables.widths
    ∙ ap (λ (o : Object). is_act_of (has_store h.stores) h.tables.widths o c.args.act.now) (sym c.in-Clock.is)

pub returns-in-Dice : goal.returns-in-Dice
returns-in-Dice c =
    let h = c.args.self.now in
    c.is_of_dice.ensures (has_store h.stores) h.tables.widths
    ∙ ap (λ (o : Object). is_act_of (has_store h.stores) h.tables.widths o c.args.act.now) (sym c.in-Dice.is)
