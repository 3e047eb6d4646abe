use Rattle.std.proofs.Common.{◌++◌, ap, ◌∙◌, length, w32, append_assoc}
use Rattle.std.specs.Int.{to_be_bytes}
use Rattle.report_format.specs.Parts.{all_spelled}
use Rattle.report_format.proofs.Lists.{allowed_at, next_spelled, all_spelled_at_end}
use Rattle.report_format.proofs.parts.write_list.Goals as goal

pub write-requires : goal.write-requires
write-requires g t =
    (allowed_at g.F.FieldKind.field t.args.items.now t.loop-item.item-index t.item-item.result t.item-item.result t.loop-item-test.true t.item-item.is
    t.loop-item.invariant.allowed).0

pub loop-item-init : goal.loop-item-init
loop-item-init g t = record {
  allowed = t.requires.1;
  written = ap (λ l. l ++ all_spelled g.F.FieldKind.field t.args.items.now) t.in_ok-write_u32.ensures.ok
      ∙ append_assoc t.args.out.now.items (to_be_bytes w32 (length t.args.items.now)) (all_spelled g.F.FieldKind.field t.args.items.now);
}

pub loop-item-preserved : goal.loop-item-preserved
loop-item-preserved g t = record {
  allowed = (allowed_at g.F.FieldKind.field t.args.items.now t.loop-item.item-index t.item-item.result t.item-item.result t.loop-item-test.true t.item-item.is
      t.loop-item.invariant.allowed).1;
  written = next_spelled g.F.FieldKind.field t.args.items.now t.loop-item.item-index t.item-item.result _ _ _
      t.loop-item-test.true t.item-item.is t.in_ok-write.ensures t.loop-item.invariant.written;
}

pub returns : goal.returns
returns g t = all_spelled_at_end g.F.FieldKind.field t.args.items.now t.loop-item.item-index _ _ t.loop-item-test.false t.loop-item.invariant.written
