use Rattle.std.proofs.Common.{◌≡◌, ◌∙◌, ◌<◌, Some, length, get_or, ap, sym, subst, arith}
use Rattle.std.proofs.lemmas.List.{length-map, get_or_default}
use Rattle.basis.specs.Lists.{nth}
use Rattle.wire.specs.Recorded.{payload_at}
use Rattle.wire.specs.Spellings.{IsFieldAt, NoneIsAt, bytes_field}
use Rattle.wire.proofs.RecordSteps.{payload_is, payload_there}
use Rattle.wire.proofs.records.Records.payload.Goals as goal

pub unreachable-requires : goal.unreachable-requires
unreachable-requires c =
    let bytes = c.self.inside.bytes.items in
    let places = c.self.inside.places.items in
    let within : c.args.place < length places = omega (arith, c.requires, ap length c.self.view_is, length-map places (payload_at bytes)) in
    let at : c.index.result.now ≡ get_or places c.args.place 0 = c.index.ensures ∙ get_or_default places c.args.place c.index.result.now 0 within in
    let stands = c.self.invariant c.args.place within in
    let none : NoneIsAt bytes_field bytes (get_or places c.args.place 0) =
    subst (NoneIsAt bytes_field bytes) at (subst (λ b. NoneIsAt bytes_field b c.index.result.now) c.deref.ensures.value c.in-Err.ensures.field.1) in
    none (payload_at bytes (get_or places c.args.place 0)) stands.0 stands.1

pub returns : goal.returns
returns c =
    let bytes = c.self.inside.bytes.items in
    let places = c.self.inside.places.items in
    let i = c.args.place in
    let payload = c.in-Ok.payload.now in
    let within : i < length places = omega (arith, c.requires, ap length c.self.view_is, length-map places (payload_at bytes)) in
    let at : c.index.result.now ≡ get_or places i 0 = c.index.ensures ∙ get_or_default places i c.index.result.now 0 within in
    let here : IsFieldAt bytes_field bytes (get_or places i 0) payload c.in-Ok.field-0-1 =
    subst (λ a. IsFieldAt bytes_field bytes a payload c.in-Ok.field-0-1) at (subst (λ b. IsFieldAt bytes_field b c.index.result.now payload c.in-Ok.field-0-1) c.deref.ensures.value c.in-Ok.ensures.field) in
    ap (λ ps. nth ps i) (sym c.self.view_is) ∙ payload_there bytes places i within
    ∙ ap (λ p. Some p) (payload_is bytes (get_or places i 0) payload c.in-Ok.field-0-1 here)
