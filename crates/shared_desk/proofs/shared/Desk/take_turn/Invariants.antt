use Rattle.std.proofs.Common.{◌≡◌, ℕ, ◌%◌, ◌^◌, []}
use Rattle.std.specs.Prelude.{Some}
use Rattle.shared_desk.specs.Steps.{with_ticket}
use Rattle.shared_desk.proofs.shared.Desk.take_turn.Given as goal

abbrev pub invariant-loop : goal.invariant-loop
invariant-loop g l = (k : ℕ) × (l.seat.me ≡ (with_ticket l.fn.seat.me.0 (Some k), [])) × (l.ticket ≡ k % 2 ^ 64) × (l.seat.table_id ≡ l.fn.seat.table_id)
