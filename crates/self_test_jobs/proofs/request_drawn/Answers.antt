use Rattle.std.proofs.Common.{◌∙◌, sym, subst}
use Rattle.script_tree.specs.Requests.{request_with, IsRequestWithinLimits}
use Rattle.self_test_jobs.proofs.Drawing.{drawn_fits}
use Rattle.self_test_jobs.proofs.request_drawn.Goals as goal

pub unreachable-requires : goal.unreachable-requires
unreachable-requires c =
    let method = sym c.in_ok-method.ensures in
    let path = sym (c.in_ok-path.ensures ∙ c.path_drawn.ensures) in
    let parameters = sym c.in_ok-parameters.ensures in
    let body = sym (c.from_vec.ensures ∙ c.new.ensures.items) in
    c.in-None.ensures (subst IsRequestWithinLimits (λ i. request_with (method i) (path i) (parameters i) (body i)) (drawn_fits c.args.d))
