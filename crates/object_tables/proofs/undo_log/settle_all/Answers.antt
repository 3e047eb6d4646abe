use Rattle.std.proofs.Common.{◌∙◌}
use Rattle.object_tables.proofs.Places.{rows_settled_at, filed_settled_at}
use Rattle.object_tables.proofs.Whole.{noted_less, none_noted}
use Rattle.object_tables.proofs.undo_log.settle_all.Goals as goal

pub loop-undo-preserved : goal.loop-undo-preserved
loop-undo-preserved c = record {
  rows = rw c.settle_one.ensures.after (rows_settled_at c.loop-undo.tables.items _ _ ∙ c.loop-undo.invariant.rows);
  filed = λ f. rw c.settle_one.ensures.after (filed_settled_at c.loop-undo.tables.items _ _ (c.loop-undo.invariant.filed f));
  whole = noted_less c.args.undo_log.now c.loop-undo.undo-index c.undo-item.result c.loop-undo.tables.items _ c.loop-undo-test.true c.undo-item.is
      c.settle_one.ensures.ordered c.settle_one.ensures.after c.loop-undo.invariant.whole;
}

pub returns-clause-whole : goal.returns-clause-whole
returns-clause-whole c = none_noted c.args.undo_log.now c.loop-undo.undo-index c.loop-undo.tables.items c.loop-undo-test.false c.loop-undo.invariant.whole
