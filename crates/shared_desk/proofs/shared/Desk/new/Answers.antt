use Rattle.std.proofs.Common.{ap, sym, ◌∙◌, ◌++◌, [], ◌∷◌}
use Rattle.std.specs.Prelude.{Some}
use Rattle.shared_desk.proofs.Seating.{opens_with}
use Rattle.shared_desk.proofs.shared.Desk.new.Goals as goal

pub new-requires : goal.new-requires
new-requires g c =
    let h = c.opened.result in
    let slots = c.push_reserved.ensures.items ∙ ap (λ l. l ++ Some h ∷ []) (c.reserve.ensures.items ∙ c.new-slots.ensures.items) in
    opens_with g.B.Bench.steps c.of-about.result.value g.J.CallJournal.keeps _ h slots c.opened.ensures.calls (c.opened.ensures.state ∙ sym c.of-about.ensures) c.opened.ensures.keeps
