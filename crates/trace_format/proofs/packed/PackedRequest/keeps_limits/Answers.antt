use Rattle.std.proofs.Common.{subst}
use Rattle.script_tree.specs.Requests.{IsRequestWithinLimits}
use Rattle.trace_format.proofs.PackedRequests.{packed_within}
use Rattle.trace_format.proofs.packed.PackedRequest.keeps_limits.Goals as goal

pub returns : goal.returns
returns c = subst IsRequestWithinLimits c.self.view_is (packed_within c.self.inside.bytes.items c.self.inside.packed)
