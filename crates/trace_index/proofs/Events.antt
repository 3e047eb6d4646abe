-- The events of heads that were read.
use Rattle.std.proofs.Common.{◌≡◌, ◌∙◌, ◌<◌, ℕ, List, length, Some, ap, sym}
use Rattle.basis.specs.Lists.{nth}
use Rattle.script_tree.specs.Requests.{Request}
use Rattle.script_tree.specs.declared.request.Response.{Response}
use Rattle.period.specs.declared.trace.TraceEvent.{TraceEvent}
use Rattle.period.specs.declared.trace.TraceEvent.TheVariants.{Asked, Answered}
use Rattle.trace_format.specs.declared.trace_file.EventHead.{EventHead}
use Rattle.trace_format.specs.declared.trace_file.EventHead.TheVariants.{Asks, Answers}
use Rattle.trace_index.specs.Places.{HasHeadAt}
use Rattle.trace_index.proofs.HeadFacts.{nth_got, there, is_asked, is_answered}

-- a request whose head was read
pub asked_at : (trace : List TraceEvent) (place r : ℕ) (head : EventHead) → place < length trace → HasHeadAt trace place head → head ≡ Asks r
    → (q : Request) × (nth trace place ≡ Some (Asked r q))
asked_at trace place r head lt has is =
    let e = there trace place lt in
    let q = is_asked e.0 r (sym is ∙ has e.0 e.1) in
    (q.0, nth_got trace place ∙ e.1 ∙ ap (λ x. Some x) q.1)

pub answered_at : (trace : List TraceEvent) (place r : ℕ) (head : EventHead) → place < length trace → HasHeadAt trace place head → head ≡ Answers r
    → (x : Response) × (nth trace place ≡ Some (Answered r x))
answered_at trace place r head lt has is =
    let e = there trace place lt in
    let x = is_answered e.0 r (sym is ∙ has e.0 e.1) in
    (x.0, nth_got trace place ∙ e.1 ∙ ap (λ y. Some y) x.1)
