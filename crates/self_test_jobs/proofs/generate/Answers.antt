use Rattle.std.proofs.Common.{◌≡◌, ◌∙◌, ◌+◌, ◌-◌, ◌++◌, sym, ap, arith}
use Rattle.self_test_jobs.specs.Generated.{upper_half, request_drawn, drawn_from}
use Rattle.self_test_jobs.proofs.Drawing.{next_draw}
use Rattle.self_test_jobs.proofs.generate.Goals as goal

pub loop-preserved : goal.loop-preserved
loop-preserved c =
    let x = c.loop.draws.x in
    let left = c.args.n - c.loop.counter in
    let more = c.args.n - (c.loop.counter + 1) in
    let pushed = c.push.new.self.items in
    let one : left ≡ more + 1 = omega arith in
    let drawn = c.in_ok-pack.ensures ∙ c.in_ok-request.ensures ∙ ap request_drawn (c.draw.ensures.drawn ∙ ap upper_half c.draw.ensures.next) in
    c.loop.invariant ∙ next_draw left more x c.loop.requests.items pushed c.in_ok-pack.field-0 one drawn c.in_ok-push.ensures.items ∙ ap (λ y. pushed ++ drawn_from more y) (sym c.draw.ensures.next)
