use Rattle.std.proofs.Common.{◌≡◌, ◌∙◌, ap, map, rules}
use Rattle.object_tables.specs.Slots.{rows_of}
use Rattle.object_tables.proofs.Keeping.{fit_empty}
use Rattle.object_tables.proofs.Places.{empty_slots, one_more_empty, all_empty, filed_empty, whole_empty, rows_empty}
use Rattle.object_tables.proofs.tables.Tables.without_rows.Goals as goal

pub loop-preserved : goal.loop-preserved
loop-preserved c = one_more_empty c.deref-items.result.now c.loop.index _ _ _ c.loop-test.true c.loop.invariant c.new.ensures c.in_ok-push.ensures.items

pub invariant_of-result : goal.invariant_of-result
invariant_of-result c =
    let all : c.loop.tables.items ≡ empty_slots c.args.widths.items =
    all_empty c.args.widths.items c.deref-items.result.now c.loop.index _ c.loop.invariant c.loop-test.false c.deref-items.ensures.value in
    record {
      fit = rw (all, rows_empty) (fit_empty c.args.widths.items);
      filed = rw all (filed_empty c.args.widths.items);
      whole = rw all (whole_empty c.args.widths.items);
      undo_log = search rules;
    }

pub returns-clause-rows : goal.returns-clause-rows
returns-clause-rows c =
    let all : c.loop.tables.items ≡ empty_slots c.args.widths.items =
    all_empty c.args.widths.items c.deref-items.result.now c.loop.index _ c.loop.invariant c.loop-test.false c.deref-items.ensures.value in
    ap (map rows_of) all ∙ rows_empty c.args.widths.items
