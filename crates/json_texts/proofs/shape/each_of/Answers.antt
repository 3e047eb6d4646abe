use Rattle.std.proofs.Common.{◌≡◌, ◌∙◌, ◌++◌, ◌∷◌, [], Some, None, sym, ap, option_map, rules}
use Rattle.std.specs.Prelude.{IsSomeAnd, string_bytes}
use Rattle.serde_json.specs.View.{view, members_view}
use Rattle.json_texts.specs.Shapes.{each_of}
use Rattle.json_texts.proofs.Members.{next_member, no_member, members_once}
use Rattle.json_texts.proofs.shape.each_of.Goals as goal

pub loop-name-preserved : goal.loop-name-preserved
loop-name-preserved g c =
    let read = g.S.Shape.given in
    let past = c.loop-name.given.items in
    let pushed = c.put_named.new.given.items in
    let put : IsSomeAnd (read (view c.in-Some.json)) (λ found. pushed ≡ past ++ (string_bytes c.in-Some.name, found) ∷ []) = search rules in
    c.loop-name.invariant ∙ ap (λ es. option_map (λ more. past ++ more) (each_of read (members_view es))) c.in-Some.ensures.steps
    ∙ next_member read past pushed c.in-Some.name c.in-Some.json c.next.new.self put

pub returns-in-Ok-false-clause-given : goal.returns-in-Ok-false-clause-given
returns-in-Ok-false-clause-given g c =
    let read = g.S.Shape.given in
    let past = c.loop-name.given.items in
    let none : read (view c.in-Some.json) ≡ None = search rules in
    sym (c.loop-name.invariant ∙ ap (λ es. option_map (λ more. past ++ more) (each_of read (members_view es))) c.in-Some.ensures.steps
    ∙ no_member read past c.in-Some.name c.in-Some.json c.next.new.self none)

pub returns-clause-once : goal.returns-clause-once
returns-clause-once g c =
    let read = g.S.Shape.given in
    let items = c.loop-name.given.items in
    let all : items ++ [] ≡ items = search rules in
    members_once read c.args.members.entries c.from_vec.result c.into_iter-left.ensures.into_iter_gives.5
    (sym (c.loop-name.invariant ∙ ap (λ es. option_map (λ more. items ++ more) (each_of read (members_view es))) c.in_default.ensures.steps.0
    ∙ ap Some (all ∙ sym c.from_vec.ensures)))
