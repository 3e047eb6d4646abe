use Rattle.std.proofs.Common.{◌∙◌, ◌++◌, length, sym, ap, rules, append-nil}
use Rattle.std.proofs.lemmas.Slice.Zip.{zip_end}
use Rattle.script_nodes.proofs.Filled.{no_tests_left}
use Rattle.script_nodes.proofs.filling.tests_with.Goals as goal

pub returns : goal.returns
returns c =
    let shapes = c.args.shapes.now in
    let ds = c.args.values.now in
    let tests = c.loop-shape.tests in
    let over = zip_end shapes ds c.loop-shape.yielded c.into_iter-shape-iterator.result c.loop-shape.shape-iterator c.next.new.self c.next.result (search rules) (search rules) c.loop-shape.yielded_by c.in-None.is c.next.ensures.steps in
    sym (append-nil tests) ∙ ap (λ left. tests ++ left) (sym (no_tests_left (length c.loop-shape.yielded) shapes ds over)) ∙ c.loop-shape.invariant
