use Rattle.std.proofs.Common.{◌∙◌, ap}
use Rattle.trace_format.specs.Events.{request_spelling}
use Rattle.trace_format.proofs.PackedRequests.{packed_spelled}
use Rattle.trace_format.proofs.packed.PackedRequest.as_bytes.Goals as goal

pub returns : goal.returns
returns c = c.deref.ensures.value ∙ packed_spelled c.self.inside.bytes.items c.self.inside.packed ∙ ap request_spelling c.self.view_is
