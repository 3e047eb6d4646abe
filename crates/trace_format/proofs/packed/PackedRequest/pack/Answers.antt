use Rattle.std.proofs.Common.{◌∙◌, ◌++◌, ap}
use Rattle.trace_format.specs.Events.{request_spelling}
use Rattle.trace_format.proofs.PackedRequests.{packs, packed_is}
use Rattle.trace_format.proofs.packed.PackedRequest.pack.Goals as goal

pub invariant_of-result : goal.invariant_of-result
invariant_of-result c =
    let is = c.in_ok-write_request.ensures ∙ ap (λ bytes. bytes ++ request_spelling c.args.request.now) c.in_ok-bytes.ensures.items in
    (packs c.write_request.new.out.items c.args.request.now is c.keeps_limits.ensures, tt)

pub returns : goal.returns
returns c =
    let is = c.in_ok-write_request.ensures ∙ ap (λ bytes. bytes ++ request_spelling c.args.request.now) c.in_ok-bytes.ensures.items in
    packed_is c.write_request.new.out.items c.args.request.now is c.keeps_limits.ensures c.result-1.given.0
