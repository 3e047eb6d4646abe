use Rattle.std.proofs.Common.{rules, arith, ap, ◌∙◌}
use mathlib.Core.Option.{none}
use Rattle.atomic_table.specs.Table.{step}
use Rattle.shared_desk.proofs.Told.{calls_of-length, put_in, counts_at, counted_is}
use Rattle.shared_desk.proofs.shared.Desk.count.Goals as goal

pub fetch_add-requires : goal.fetch_add-requires
fetch_add-requires g c =
    let steps = g.B.Bench.steps in
    let keeps = g.J.CallJournal.keeps in
    let start = c.args.self.now.table.shared.key.value in
    let seat = c.args.seat.now in
    let is = put_in seat.me c.exchange.new.seat.me c.args.held c.requires.slot c.exchange.ensures.3 in
    let n = c.len.ensures in let o = c.args.held.calls.ok.0 in let t = c.len.type_inv in (
      search rules,
      search rules,
      counts_at steps start keeps _ _ c.exchange.new.seat.me seat.me.0 c.args.held is c.requires.slot.turn c.requires.call (omega (arith, calls_of-length c.args.held)),
    )

pub returns-clause-call : goal.returns-clause-call
returns-clause-call g c =
    let counting = step c.args.self.now.table.shared.table_id.slots 2 1 0 none in
    let seat = c.args.seat.now in
    let is = put_in seat.me c.exchange.new.seat.me c.args.held c.requires.slot c.exchange.ensures.3 in
    counted_is counting c.exchange.new.seat.me _ c.fetch_add.result seat.me.0 c.args.held is c.fetch_add.ensures.2

pub returns-clause-own : goal.returns-clause-own
returns-clause-own g c =
    let new = c.requires.call in
    record {
      table = c.fetch_add.ensures.0 ∙ (c.exchange.ensures.0 ∙ c.requires.own.table);
      start = ap (λ m. m.0.start) ((returns-clause-call g c).left new.new_call new.calls) ∙ c.requires.own.start;
    }
