use Rattle.std.proofs.Common.{rules}
use Rattle.indexmap.specs.Entry.{map_with_value, entry_value}
use Rattle.script_tree.specs.contracts.operation.ObjectPartialEq.TheImpl as object_eq
use Rattle.report_format.specs.Spelled.{spelled}
use Rattle.script_tree.specs.Objects.{is_same}
use Rattle.trace_and_report.specs.Grouped.{and_member}
use Rattle.trace_and_report.proofs.Alike.{by_object}
use Rattle.trace_and_report.proofs.Groups.{before_seen, written_seen}
use Rattle.trace_and_report.proofs.logs.add_entry.Goals as goal

pub returns : goal.returns
returns c = λ gs are.
    let entry = c.in_ok-logs.field-0 in
    let of = c.in_ok-logs.ensures in
    let eq = (object_eq.ghosts).eq in
    let before = before_seen spelled eq c.args.object c.args.entry.now c.args.logs.now gs (entry_value entry) c.new.result c.or_insert-entries.result.now are of.value c.new.ensures
    c.or_insert-entries.ensures.value in
    written_seen spelled eq c.args.object c.args.entry.now c.args.logs.now (map_with_value entry c.push.new.self) _ gs
    (and_member is_same c.args.object c.args.entry.now gs) c.push.new.self are (search rules) (of.update.1 c.push.new.self) (c.in_ok-push.ensures _ before)
    (by_object c.args.object c.args.entry.now gs)
