use Rattle.std.proofs.Common.{◌≡◌, ◌++◌, drop}
use Rattle.report_format.specs.Parts.{all_spelled, AllAllowed, list_field}
use Rattle.report_format.proofs.parts.write_list.Given as goal

-- what is written, and those that come
abbrev pub invariant-loop-item : goal.invariant-loop-item
invariant-loop-item g l = record {
  allowed : AllAllowed g.F.FieldKind.field (drop l.item-index l.items);
  written : l.out.items ++ all_spelled g.F.FieldKind.field (drop l.item-index l.items) ≡ l.fn.out.items ++ (list_field g.F.FieldKind.field).spelling l.items;
}
