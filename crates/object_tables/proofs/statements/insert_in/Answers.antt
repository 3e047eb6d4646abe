use Rattle.std.proofs.Common.{refl, arith, ◌∙◌, sym}
use Rattle.object_tables.proofs.Places.{there}
use Rattle.object_tables.proofs.Effects.{insert_refused, insert_done, insert_filed}
use Rattle.object_tables.proofs.Whole.{whole_with}
use Rattle.object_tables.proofs.statements.insert_in.Goals as goal

pub returns-then-has_row-clause-done : goal.returns-then-has_row-clause-done
returns-then-has_row-clause-done c =
    let i = there c.args.tables.now.items c.args.table c.index.result.now (omega arith) c.index.ensures in (
      insert_refused c.args.tables.now.items c.args.table c.args.row c.in_ok-key.key c.in_ok-key.ensures (rw i at c.has_row.ensures.ordered) c.requires.filed
          (rw i at (sym c.has_row.ensures.is ∙ c.if-has_row.true)),
      refl,
    )

pub returns-clause-done : goal.returns-clause-done
returns-clause-done c =
    let i = there c.args.tables.now.items c.args.table c.index.result.now (omega arith) c.index.ensures in
    insert_done c.args.tables.now.items c.put_in.new.tables.items c.args.table c.args.row c.in_ok-key.key c.in_ok-key.ensures (rw i at c.has_row.ensures.ordered) c.requires.filed
    (rw i at (sym c.has_row.ensures.is ∙ c.if-has_row.false)) (c.in_ok-put_in.ensures.ok)

pub returns-clause-filed : goal.returns-clause-filed
returns-clause-filed c =
    insert_filed c.args.tables.now.items c.put_in.new.tables.items c.args.table c.args.row c.in_ok-key.key c.in_ok-key.ensures c.requires.filed
    (c.in_ok-put_in.ensures.ok)

pub returns-clause-whole : goal.returns-clause-whole
returns-clause-whole c = whole_with c.args.tables.now.items c.put_in.new.tables.items c.args.table c.in_ok-key.key c.args.row c.in_ok-put_in.ensures.ok
