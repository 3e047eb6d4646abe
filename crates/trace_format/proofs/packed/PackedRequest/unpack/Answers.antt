use Rattle.std.proofs.Common.{◌∙◌, Err, List, ℕ, subst, sym}
use Rattle.script_tree.specs.Requests.{Request}
use Rattle.wire.specs.Spellings.{IsFieldAt, TakesPart}
use Rattle.trace_format.specs.Events.{request_field}
use Rattle.trace_format.specs.Packed.{Packed}
use Rattle.trace_format.proofs.PackedRequests.{unpacked, some_request}
use Rattle.trace_format.proofs.packed.PackedRequest.unpack.Goals as goal

pub unreachable-requires : goal.unreachable-requires
unreachable-requires c =
    some_request c.deref.result.now (subst Packed (sym c.deref.ensures.value) c.self.inside.packed)
    (subst (λ f. TakesPart {A = Request} {X = Request} (λ x. x) request_field c.deref.result.now 0 (Err f)) c.in-Err-Other.field-0-is c.in-Err-Other.ensures)

pub returns-in-Ok : goal.returns-in-Ok
returns-in-Ok c =
    unpacked c.self.inside.bytes.items c.self.inside.packed c.in-Ok.request c.in-Ok.field-0-1
    (subst (λ (bytes : List ℕ). IsFieldAt request_field bytes 0 c.in-Ok.request c.in-Ok.field-0-1) c.deref.ensures.value c.in-Ok.ensures) ∙ c.self.view_is
