use Rattle.std.proofs.Common.{◌∙◌, ◌&&◌, map, sym, ap}
use Rattle.std.specs.List.{list_any}
use Rattle.std.specs.Str.{bytes_eq}
use Rattle.serde_json.specs.View.{members_view}
use Rattle.json_texts.specs.Shapes.{have_names}
use Rattle.json_texts.proofs.Members.{any_of_texts}
use Rattle.json_texts.proofs.shape.have_names.Goals as goal

pub returns-then-not-is_among : goal.returns-then-not-is_among
returns-then-not-is_among c =
    let names = c.args.names.now in
    let texts = map (λ name. name.now) names in
    let found = c.is_among.ensures ∙ any_of_texts (bytes_eq c.as_str.result.now) names ∙ ap (λ name. list_any (bytes_eq name) texts) c.as_str.ensures.value in
    sym (ap (λ es. have_names texts (members_view es)) c.in-Some.ensures.steps
    ∙ ap (λ b. b && have_names texts (members_view c.next.new.self)) (sym found ∙ c.if-not-is_among.true))
    ∙ c.loop-name.invariant

pub loop-name-preserved : goal.loop-name-preserved
loop-name-preserved c =
    let names = c.args.names.now in
    let texts = map (λ name. name.now) names in
    let found = c.is_among.ensures ∙ any_of_texts (bytes_eq c.as_str.result.now) names ∙ ap (λ name. list_any (bytes_eq name) texts) c.as_str.ensures.value in
    sym (ap (λ es. have_names texts (members_view es)) c.in-Some.ensures.steps
    ∙ ap (λ b. b && have_names texts (members_view c.next.new.self)) (sym found ∙ c.if-not-is_among.false))
    ∙ c.loop-name.invariant
