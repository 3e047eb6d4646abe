use Rattle.std.proofs.Common.{◌≡◌, length, List, ℕ, ap, arith}
use Rattle.versioned_tables.proofs.Building.{table_here, begin_more, begin_all, within}
use Rattle.versioned_tables.proofs.tables.begun.Goals as goal

pub histories_of-requires : goal.histories_of-requires
histories_of-requires c = table_here c.args.start.now.widths c.args.start.now.tables c.loop-table.table c.rows.result c.widths-count.ensures.fit c.rows.ensures

pub loop-table-preserved : goal.loop-table-preserved
loop-table-preserved c =
    let many : length c.widths-count.result.now ≡ length c.args.start.now.widths = ap (λ (ws : List ℕ). length ws) c.widths-count.ensures.widths in
    let inside = within c.args.start.now.widths c.args.start.now.tables c.loop-table.table c.widths-count.ensures.fit (omega (arith, many, c.loop-table-test.true)) in
    begin_more c.args.start.now.tables c.loop-table.table c.rows.result c.loop-table.tables.items c.push.new.self.items c.in_ok-histories_of.field-0 inside c.rows.ensures c.in_ok-push.ensures.items
    c.loop-table.invariant c.in_ok-histories_of.ensures

pub returns : goal.returns
returns c =
    let many : length c.widths-count.result.now ≡ length c.args.start.now.widths = ap (λ (ws : List ℕ). length ws) c.widths-count.ensures.widths in
    begin_all c.args.start.now c.loop-table.table c.loop-table.tables.items c.widths-count.ensures.fit
    (omega (arith, many, c.loop-table-test.false)) c.loop-table.invariant
