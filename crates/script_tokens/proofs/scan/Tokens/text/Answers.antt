use Rattle.std.proofs.Common.{◌≡◌, ap, sym, subst, ◌∙◌, rules, drop, None}
use Rattle.script_tokens.specs.Fronts.{IsFront}
use Rattle.script_tokens.specs.Texts.{text_from}
use Rattle.script_tokens.specs.Shapes.{content_of}
use Rattle.script_tokens.specs.declared.scan.Front.TheVariants.{Token}
use Rattle.script_tokens.specs.declared.shape.Shape.TheVariants.{Text}
use Rattle.script_tokens.specs.declared.text.Mode.TheVariants.{Plain}
use Rattle.script_tokens.proofs.Contents.{content_there}
use Rattle.script_tokens.proofs.Scans.{rest_slice}
use Rattle.script_tokens.proofs.scan.Tokens.text.Goals as goal

pub unreachable-requires : goal.unreachable-requires
unreachable-requires c =
    let rest = c.self.inside.rest.now in
    let e : c.self.inside.front ≡ Token Text c.in-Token-Text-default.field-1 = search rules in
    let h : IsFront (Token Text c.in-Token-Text-default.field-1) rest = subst (λ f. IsFront f rest) e c.self.invariant.0 in
    let n : content_of (text_from Plain (drop 1 rest)) ≡ None = ap (λ bs. content_of (text_from Plain bs)) (sym (rest_slice 1 rest)) ∙ sym c.in_ok-text-in-Token-Text-default.ensures ∙ c.in-None.is in
    content_there rest _ _ h.0 n
