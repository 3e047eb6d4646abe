use Rattle.std.proofs.Common.{◌≡◌, ◌∙◌, ◌++◌, ◌∷◌, [], None, true, false, cond, ap}
use Rattle.std.specs.Option.{option_eq, option_copied}
use Rattle.versioned_cells.specs.Versions.{as_of}
use Rattle.versioned_cells.proofs.HistoryFacts.{refs_equal, OnOk-map}
use Rattle.versioned_cells.proofs.history.History.change.Goals as goal

pub returns-then-eq : goal.returns-then-eq
returns-then-eq g c =
    let eq = g.T.PartialEq.eq in
    let vs = c.args.self.now in
    let told : true ≡ option_eq eq (as_of c.args.since None vs) c.args.value =
    c.if-eq.ensures ∙ refs_equal eq c.at.result c.as_ref.result ∙ ap (λ a. option_eq eq a (option_copied c.as_ref.result)) c.at.ensures
    ∙ ap (option_eq eq (as_of c.args.since None vs)) c.as_ref.ensures.value in
    ap (λ b. cond b vs (vs ++ (c.args.since, c.args.value) ∷ [])) told

pub returns : goal.returns
returns g c =
    let eq = g.T.PartialEq.eq in
    let vs = c.args.self.now in
    let told : false ≡ option_eq eq (as_of c.args.since None vs) c.args.value =
    c.if-eq.ensures ∙ refs_equal eq c.at.result c.as_ref.result ∙ ap (λ a. option_eq eq a (option_copied c.as_ref.result)) c.at.ensures
    ∙ ap (option_eq eq (as_of c.args.since None vs)) c.as_ref.ensures.value in
    OnOk-map c.note.result (λ more. more ∙ ap (λ b. cond b vs (vs ++ (c.args.since, c.args.value) ∷ [])) told) c.note.ensures.ok
