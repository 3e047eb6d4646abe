use Rattle.std.proofs.lemmas.Grind.{common_steps}
use Rattle.std.proofs.Common.{◌≤◌, arith}
use Rattle.script_tree.specs.Datum.{size, members_size, data_of}
use Rattle.wire.proofs.ValueSizes.{members_len, member_size, list_written}
use Rattle.wire.proofs.value_writing.+write_any.Goals as goal

pub write_all-overflow_cast-values : goal.write_all-overflow_cast-values
write_all-overflow_cast-values t c = record { fits = omega (arith, members_len c.args.values.now, c.requires) }

pub write_all-write_any-requires : goal.write_all-write_any-requires
write_all-write_any-requires t c =
    let small : size c.value-item.result ≤ members_size (data_of c.args.values.now) = member_size c.args.values.now c.loop-value.value-index c.value-item.result c.loop-value-test.true c.value-item.is in
    (omega (arith, small, c.decreases), omega (arith, small, c.requires))

pub write_node-returns-in_ok-write_u8-in-List-clause-ok : goal.write_node-returns-in_ok-write_u8-in-List-clause-ok
write_node-returns-in_ok-write_u8-in-List-clause-ok t c =
    rw c.in-List.is (list_written c.write_all.result c.in-List.values c.as_slice.result.now c.args.out.now.items c.write_u8-in-List.new.out.items c.write_all.new.out.items c.as_slice.ensures c.in_ok-write_u8-in-List.ensures.ok c.write_all.ensures.ok)

pub write_all-loop-value-init : goal.write_all-loop-value-init
write_all-loop-value-init c = grind (arith, common_steps)

pub write_all-loop-value-preserved : goal.write_all-loop-value-preserved
write_all-loop-value-preserved c = grind (arith, common_steps)

pub write_all-returns-clause-ok : goal.write_all-returns-clause-ok
write_all-returns-clause-ok c = grind (arith, common_steps)
