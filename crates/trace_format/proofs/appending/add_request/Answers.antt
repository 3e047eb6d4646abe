use Rattle.std.proofs.Common.{◌≡◌, ◌++◌, OnOk, refl, rules}
use Rattle.std.proofs.lemmas.Result.{on_ok_weaker}
use Rattle.trace_format.proofs.PackedRequests.{record_added}
use Rattle.trace_format.proofs.appending.add_request.Goals as goal

pub returns : goal.returns
returns c =
    let old = c.args.out.now.items in
    let counted = c.write_u32.new.out.items in
    let headed = c.write_asked_head.new.out.items in
    let new = c.extend_from_slice.new.self.items in
    let spelled = c.as_bytes-spelled.result.now in
    let extended : OnOk c.extend_from_slice.result (new ≡ headed ++ spelled) = search rules in
    on_ok_weaker c.extend_from_slice.result
    (record_added old counted headed new spelled c.args.rid _ c.args.request.now c.as_bytes-spelled.ensures refl c.in_ok-write_u32.ensures.ok c.in_ok-write_asked_head.ensures)
    extended
