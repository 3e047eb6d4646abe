use Rattle.std.proofs.Common.{◌≡◌, ap, vec_len, length, arith}
use Rattle.object_tables.specs.TableSets.{TableSet}
use Rattle.script_fit.specs.TransactionOf.{IsTransactionOf}
use Rattle.object_tables.proofs.Keeping.{can_run, result_kept, on_ok}
use Rattle.object_tables.proofs.tables.Tables.answered.Goals as goal

pub transact_on-requires-clause-fits : goal.transact_on-requires-clause-fits
transact_on-requires-clause-fits c =
    let w : c.self.inside.widths.items ≡ c.args.self.now.widths = ap (λ (s : TableSet). s.widths) c.self.view_is in
    let f : IsTransactionOf c.self.inside.widths.items c.args.statements.now = rw w c.requires in
    let n : vec_len c.self.inside.storage.tables ≡ length c.self.inside.storage.tables.items = omega arith in
    rw c.as_slice-statements.ensures (can_run c.self.inside.widths.items c.self.inside.storage.tables.items c.args.statements.now (vec_len c.self.inside.storage.tables) c.self.invariant.fit f n)

pub invariant_of-self : goal.invariant_of-self
invariant_of-self c =
    let w : c.self.inside.widths.items ≡ c.args.self.now.widths = ap (λ (s : TableSet). s.widths) c.self.view_is in
    let f : IsTransactionOf c.self.inside.widths.items c.as_slice-statements.result.now = rw (w, c.as_slice-statements.ensures) c.requires in
    record {
      fit = result_kept c.self.inside.widths.items c.as_slice-statements.result.now c.self.inside.storage.tables.items c.transact_on.new.storage.tables.items c.args.count c.transact_on.result
          f (c.store_within_limits.ensures.0 c.if-not-store_within_limits.false) c.self.invariant.fit c.transact_on.ensures.done c.transact_on.ensures.err;
      filed = c.transact_on.ensures.filed;
      whole = c.transact_on.ensures.whole;
      undo_log = c.transact_on.ensures.undo_log;
    }

pub returns-clause-fit : goal.returns-clause-fit
returns-clause-fit c = on_ok c.transact_on.result (invariant_of-self c).fit
