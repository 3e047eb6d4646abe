use Rattle.std.proofs.Common.{rules, sym, ◌∙◌, ap, subst, ℕ, ◌<◌, ◌^◌}
use Rattle.claims.specs.Seats.{Numbers, Seat}
use Rattle.claims.proofs.Keeps.{draws}
use Rattle.claims.proofs.claims.Claims.draw.Goals as goal

pub fetch_add-number-requires : goal.fetch_add-number-requires
fetch_add-number-requires c =
    let key = c.self.invariant.key in
    let own = ap (λ (s : Seat). s.view.limit) c.seat.view_is ∙ (c.requires.1 ∙ (sym (ap (λ (n : Numbers). n.limit) c.self.view_is) ∙ sym key)) in (
      search rules,
      search rules,
      draws c.self.inside.table.shared.key _ _ _ (sym c.seat.invariant.none_left ∙ c.if-seat.false) c.seat.invariant.part own
          (subst (λ (n : ℕ). n < 2 ^ 63) (sym key) c.self.invariant.room),
    )
