use Rattle.std.proofs.Common.{rules}
use Rattle.shared_desk.proofs.Told.{ends_at}
use Rattle.shared_desk.proofs.shared.Desk.end_turn.Goals as goal

pub fetch_add-ended-requires : goal.fetch_add-ended-requires
fetch_add-ended-requires g c =
    let steps = g.B.Bench.steps in
    let keeps = g.J.CallJournal.keeps in
    let start = c.args.self.now.table.shared.key.value in
    (search rules, search rules, ends_at steps start keeps _ _ c.args.seat.now.me c.requires.slot)
