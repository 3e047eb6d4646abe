use Rattle.std.proofs.Common.{sym, ap, ◌∙◌, subst, ℕ, min}
use Rattle.claims.specs.declared.view.View.{View}
use Rattle.claims.specs.Seats.{Numbers, Seat}
use Rattle.claims.proofs.Ends.{ends, IsEnd}
use Rattle.claims.proofs.claims.Claims.close.Goals as goal

-- the end, by the limit and the view that contracts see
at_end : (c : goal.After-min) → IsEnd c.args.self.limit c.args.seat.view c.min.result c.word-least.result
at_end c =
    let inside = c.self.inside in
    let view = ap (λ (s : Seat). s.view) c.seat.view_is in
    let end = ends inside.table.shared.key c.seat.inside.seat.id c.seat.inside.seat.me.0 _ _ _ _ c.min.result
    (ap (λ (v : View). v.parts) view ∙ c.requires.whole)
    c.close_with-closed.ensures.values.2 c.word-next.ensures c.word-least.ensures
    (c.min.ensures ∙ ap (min c.word-next.result) (sym c.self.invariant.key)) in
    subst (λ (n : ℕ). IsEnd n c.args.seat.view c.min.result c.word-least.result) (c.self.invariant.key ∙ ap (λ (n : Numbers). n.limit) c.self.view_is)
    (subst (λ (v : View). IsEnd inside.table.shared.key v c.min.result c.word-least.result) view end)

pub returns-clause-once : goal.returns-clause-once
returns-clause-once c = (at_end c).once

pub returns-clause-all : goal.returns-clause-all
returns-clause-all c = (at_end c).all

pub returns-clause-least : goal.returns-clause-least
returns-clause-least c = (at_end c).lowest

pub returns-clause-bound : goal.returns-clause-bound
returns-clause-bound c = (at_end c).bound
