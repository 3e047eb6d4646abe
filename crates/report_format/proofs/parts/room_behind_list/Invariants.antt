use Rattle.std.proofs.Common.{◌≡◌, ◌+◌, length, drop}
use Rattle.report_format.specs.Parts.{all_spelled, list_field}
use Rattle.report_format.proofs.parts.room_behind_list.Given as goal

-- what is left behind those before is what is left behind all, and those that come
abbrev pub invariant-loop-item : goal.invariant-loop-item
invariant-loop-item g l =
    l.room + length (all_spelled g.F.FieldKind.field (drop l.item-index l.items))
    ≡ l.left + length ((list_field g.F.FieldKind.field).spelling l.items)
