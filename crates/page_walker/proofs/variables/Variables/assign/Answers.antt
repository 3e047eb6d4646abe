use Rattle.std.proofs.Common.{◌≡◌, ◌<◌, length, true, ◌∙◌, ap, sym, arith}
use Rattle.std.specs.Str.{bytes_eq}
use Rattle.script_meaning.specs.Variables.{assigned}
use Rattle.page_walker.proofs.Assigned.{assigned_here}
use Rattle.page_walker.proofs.variables.Variables.assign.Goals as goal

pub returns-then-eq : goal.returns-then-eq
returns-then-eq c =
    let vs = c.loop-place.self-inside.variables.items in
    let name = c.as_bytes.ensures in
    let known = c.as_bytes-in-loop-place.ensures in
    let within : c.loop-place.place < length vs = omega arith in
    let same : bytes_eq c.args.name.now c.index.result.now.name ≡ true = sym (c.if-eq.ensures ∙ (λ i. bytes_eq (name i) (known i))) in
    assigned_here vs c.loop-place.place c.index_mut.result.now c.index.result.now c.args.name.now c.args.value within c.index_mut.ensures.value c.index.ensures same
    ∙ c.loop-place.invariant.left c.args.value
    ∙ ap (λ xs. assigned xs c.args.name.now c.args.value) c.loop-place.invariant.same
