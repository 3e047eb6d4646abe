use Rattle.std.proofs.Common.{◌≡◌, ◌∙◌, List, ℕ, ◌++◌, length, ap, append_assoc, arith}
use Rattle.std.proofs.lemmas.Result.{on_ok_weaker}
use Rattle.std.specs.Int.{w32, to_be_bytes}
use Rattle.period.specs.declared.trace.TraceEvent.TheVariants.{Answered}
use Rattle.trace_format.specs.Events.{event_spelling}
use Rattle.trace_format.proofs.appending.add_response.Goals as goal

pub returns : goal.returns
returns c =
    let old = c.args.out.now.items in
    let payload : List ℕ = event_spelling (Answered c.args.rid c.args.response.now) in
    let len : c.in_ok-len.len ≡ length payload = omega (arith, c.in_ok-len.ensures) in
    let head = c.in_ok-write_u32.ensures.ok ∙ ap (λ n. old ++ to_be_bytes w32 n) len in
    on_ok_weaker c.write_answered.result (λ written. written ∙ ap (λ (s : List ℕ). s ++ payload) head
    ∙ append_assoc old (to_be_bytes w32 (length payload)) payload) c.write_answered.ensures
