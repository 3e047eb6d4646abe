use Rattle.std.proofs.Common.{rules}
use Rattle.indexmap.specs.Entry.{map_with_value, entry_value}
use Rattle.trace_and_report.proofs.Groups.{written}
use Rattle.trace_and_report.proofs.grouped.add_member.Goals as goal

pub returns : goal.returns
returns g c =
    let entry = c.in_ok-groups.field-0 in
    let of = c.in_ok-groups.ensures in
    written g.K.PartialEq.eq c.args.key c.args.member c.args.groups.now (map_with_value entry c.put_behind.new.members) _
    (entry_value entry) c.new.result c.or_insert-members.result.now c.put_behind.new.members
    (search rules) (of.update.1 c.put_behind.new.members) of.value c.new.ensures.items c.or_insert-members.ensures.value c.in_ok-put_behind.ensures
