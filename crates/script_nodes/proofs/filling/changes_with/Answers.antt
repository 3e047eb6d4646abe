use Rattle.std.proofs.Common.{◌∙◌, ◌++◌, length, sym, ap, rules, append-nil}
use Rattle.std.proofs.lemmas.Slice.Zip.{zip_end}
use Rattle.script_nodes.proofs.Filled.{no_changes_left}
use Rattle.script_nodes.proofs.filling.changes_with.Goals as goal

pub returns : goal.returns
returns c =
    let columns = c.args.columns.now in
    let ds = c.args.values.now in
    let changes = c.loop-column.changes in
    let over = zip_end columns ds c.loop-column.yielded c.into_iter-column-iterator.result c.loop-column.column-iterator c.next.new.self c.next.result (search rules) (search rules) c.loop-column.yielded_by c.in-None.is c.next.ensures.steps in
    sym (append-nil changes) ∙ ap (λ left. changes ++ left) (sym (no_changes_left (length c.loop-column.yielded) columns ds over)) ∙ c.loop-column.invariant
