use Rattle.std.proofs.Common.{◌≡◌, ◌∙◌, ◌++◌, ◌∷◌, [], None, sym, ap, option_map, rules}
use Rattle.std.specs.Prelude.{IsSomeAnd}
use Rattle.std.specs.Vec.Iter.{into_iter_items}
use Rattle.serde_json.specs.View.{view, items_view}
use Rattle.json_texts.specs.Shapes.{all_of}
use Rattle.json_texts.proofs.Members.{next_item, no_item}
use Rattle.json_texts.proofs.shape.all_of.Goals as goal

pub loop-item-preserved : goal.loop-item-preserved
loop-item-preserved g c =
    let read = g.S.Shape.given in
    let past = c.loop-item.given.items in
    let put : IsSomeAnd (read (view c.in-Some.item)) (λ found. c.put_given.new.given.items ≡ past ++ found ∷ []) = search rules in
    c.loop-item.invariant ∙ ap (λ vs. option_map (λ more. past ++ more) (all_of read (items_view vs))) c.in-Some.ensures.cases.0
    ∙ next_item read past c.put_given.new.given.items c.in-Some.item (into_iter_items c.next.new.self) put

pub returns-in-Ok-false : goal.returns-in-Ok-false
returns-in-Ok-false g c =
    let read = g.S.Shape.given in
    let past = c.loop-item.given.items in
    let none : read (view c.in-Some.item) ≡ None = search rules in
    sym (c.loop-item.invariant ∙ ap (λ vs. option_map (λ more. past ++ more) (all_of read (items_view vs))) c.in-Some.ensures.cases.0
    ∙ no_item read past c.in-Some.item (into_iter_items c.next.new.self) none)
