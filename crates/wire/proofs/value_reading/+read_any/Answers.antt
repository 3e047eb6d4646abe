use Rattle.std.proofs.Common.{◌+◌, ◌∷◌, [], ap, refl, ◌∙◌, true, false, arith}
use Rattle.std.proofs.lemmas.List.{length-append}
use Rattle.script_tree.specs.Datum.{null, bool, list, data_of}
use Rattle.wire.proofs.ValueTags.{value_fault, tail_fault, tail_gives, leaf_given, no_room, no_byte, no_tag}
use Rattle.wire.proofs.ValueSteps.{one_read, list_given, no_depth, no_count, member_fault}
use Rattle.wire.proofs.value_reading.+read_any.Goals as goal

pub read_any-returns-in_err-tag : goal.read_any-returns-in_err-tag
read_any-returns-in_err-tag t c =
    value_fault c.args.depth c.args.room c.args.bytes.now c.args.at _ c.from_residual.result c.from_residual.ensures.1
    (no_byte c.args.depth c.args.room c.args.bytes.now c.args.at c.in_err-tag.ensures.field.1)

pub read_any-returns-in_default : goal.read_any-returns-in_default
read_any-returns-in_default t c = λ d next bound p. no_room c.args.depth c.args.room d (omega (arith, c.in_default.ensures)) bound

pub read_any-read_list-requires : goal.read_any-read_list-requires
read_any-read_list-requires t c = (omega (arith, c.decreases), omega (arith, c.requires, c.in-Some.ensures))

pub read_any-returns-in-0 : goal.read_any-returns-in-0
read_any-returns-in-0 t c =
    leaf_given c.args.bytes.now c.args.at c.in_ok-tag.tag c.in_ok-tag.next c.args.depth c.args.room c.in-Some.left c.null.result null c.in_ok-tag.ensures.field c.null.ensures c.in-0.is (omega (arith, c.in-Some.ensures)) refl refl refl tt

pub read_any-returns-in-1 : goal.read_any-returns-in-1
read_any-returns-in-1 t c =
    leaf_given c.args.bytes.now c.args.at c.in_ok-tag.tag c.in_ok-tag.next c.args.depth c.args.room c.in-Some.left c.bool.result (bool false) c.in_ok-tag.ensures.field c.bool.ensures c.in-1.is (omega (arith, c.in-Some.ensures)) refl refl refl tt

pub read_any-returns-in-2 : goal.read_any-returns-in-2
read_any-returns-in-2 t c =
    leaf_given c.args.bytes.now c.args.at c.in_ok-tag.tag c.in_ok-tag.next c.args.depth c.args.room c.in-Some.left c.bool-in-2.result (bool true) c.in_ok-tag.ensures.field c.bool-in-2.ensures c.in-2.is (omega (arith, c.in-Some.ensures)) refl refl refl tt

pub read_any-returns-in-3 : goal.read_any-returns-in-3
read_any-returns-in-3 t c =
    tail_gives c.args.bytes.now c.args.at c.in_ok-tag.tag 3 c.in_ok-tag.next c.args.depth c.args.room c.in-Some.left c.read_number.result c.in_ok-tag.ensures.field c.in-3.is (omega (arith, c.in-Some.ensures)) (c.read_number.ensures c.args.depth)

pub read_any-returns-in-4 : goal.read_any-returns-in-4
read_any-returns-in-4 t c =
    tail_gives c.args.bytes.now c.args.at c.in_ok-tag.tag 4 c.in_ok-tag.next c.args.depth c.args.room c.in-Some.left c.read_text.result c.in_ok-tag.ensures.field c.in-4.is (omega (arith, c.in-Some.ensures)) (c.read_text.ensures c.args.depth)

pub read_any-returns-in-5 : goal.read_any-returns-in-5
read_any-returns-in-5 t c =
    tail_gives c.args.bytes.now c.args.at c.in_ok-tag.tag 5 c.in_ok-tag.next c.args.depth c.args.room c.in-Some.left c.read_list.result c.in_ok-tag.ensures.field c.in-5.is (omega (arith, c.in-Some.ensures)) c.read_list.ensures

pub read_any-returns-in_default-tag : goal.read_any-returns-in_default-tag
read_any-returns-in_default-tag t c =
    no_tag c.args.depth c.args.room c.args.bytes.now c.args.at c.in_ok-tag.tag c.in_ok-tag.next c.in_ok-tag.ensures.field (omega (arith, c.in_default-tag))

pub read_list-returns-in_default : goal.read_list-returns-in_default
read_list-returns-in_default t c = no_depth c.args.depth (c.args.room + 1) c.args.bytes.now c.args.at (omega (arith, c.in_default.ensures))

pub read_list-returns-in_err-count : goal.read_list-returns-in_err-count
read_list-returns-in_err-count t c =
    tail_fault 5 c.args.depth (c.args.room + 1) c.args.bytes.now c.args.at _ c.from_residual.result c.from_residual.ensures.1 (no_count c.args.depth c.in-Some.below c.args.room c.args.bytes.now c.args.at c.requires (omega (arith, c.in-Some.ensures)) c.in_err-count.ensures.field.1)

pub read_list-returns-in_err-part : goal.read_list-returns-in_err-part
read_list-returns-in_err-part t c =
    member_fault c.args.depth c.in-Some.below c.args.room c.args.bytes.now c.args.at c.in_ok-count.count c.in_ok-count.next c.loop.values.items c.loop.place c.loop.left c.in_err-part.field-0.0 c.from_residual-in_err-part.result c.requires (omega (arith, c.in-Some.ensures)) c.in_ok-count.ensures.field (omega (arith, c.loop.invariant.counted, c.loop-test.true)) c.loop.invariant.read c.in_err-part.ensures c.from_residual-in_err-part.ensures.1

pub read_list-loop-preserved : goal.read_list-loop-preserved
read_list-loop-preserved t c =
    rw c.in_ok-push.ensures.items (record {
      counted = omega (arith, length-append c.loop.values.items (c.in_ok-part.part.value ∷ []), c.loop.invariant.counted);
      read = one_read c.in-Some.below c.args.room c.args.bytes.now c.in_ok-count.next c.loop.values.items c.loop.place c.loop.left c.in_ok-part.part c.loop.invariant.read c.in_ok-part.ensures;
    })

pub read_list-returns : goal.read_list-returns
read_list-returns t c =
    list_given c.args.bytes.now c.args.at c.in_ok-count.count c.in_ok-count.next c.args.depth c.in-Some.below c.args.room c.loop.values.items c.loop.place c.loop.left c.list.result c.in_ok-count.ensures.field (omega (arith, c.loop.invariant.counted, c.loop-test.false, c.loop.auto.counter-end)) (omega (arith, c.in-Some.ensures)) c.loop.invariant.read (c.list.ensures ∙ ap (λ ds. list (data_of ds)) c.in_ok-members.ensures)
