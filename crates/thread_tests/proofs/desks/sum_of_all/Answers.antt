use mathlib.Core.List.{List, [], ◌∷◌}
use Prim.Native.Nat.{ℕ}
use denote.Exit.{no}
use denote.RattleType.{RattleType}
use denote.Param.{param}
use denote.Param.Send.{IsSend, IsSync, arg_send, param_send, sendable, shr_send}
use denote.Param.SendFields.{as_row_send, declared_send}
use denote.Ref.{NamedLft}
use denote.Struct.Field.{row_field, shr_ref_field, u64-field, unit-field}
use denote.Struct.Tuple.{TupleAt, type_at}
use Rattle.std.proofs.Crossing.{crosses}
use Rattle.std.specs.contracts.alloc.Global
use Rattle.std.specs.contracts.impls.GlobalAllocator.TheImpl as allocator
use Rattle.std.specs.contracts.vec.Vec
use Rattle.desk.specs.contracts.bench.Call
use Rattle.shared_desk.proofs.Sends as desks
use Rattle.shared_desk.specs.contracts.kept.VecCallCallJournal.TheImpl as keeping
use Rattle.shared_desk.specs.contracts.shared.Desk
use Rattle.shared_desk.specs.contracts.shared.DeskSeat
use Rattle.thread_tests.specs.contracts.desks.Counter
use Rattle.thread_tests.specs.contracts.desks.CounterBench.TheImpl as bench
use Rattle.thread_tests.proofs.desks.sum_of_all.Goals as goal

abbrev Counts : RattleType
Counts = Vec.the_row (Call.the_row unit-field.row u64-field.row) Global.the_row allocator.ghosts

abbrev CounterDesk : RattleType
CounterDesk =
    Desk.the_row Counter.the_row Counts u64-field.row unit-field.row u64-field.row bench.ghosts
    (keeping.ghosts unit-field.row u64-field.row keeping.no_dict keeping.no_dict)

abbrev CounterSeat : RattleType
CounterSeat = DeskSeat.the_row Counter.the_row Counts u64-field.row unit-field.row u64-field.row bench.ghosts

count_send : IsSend u64-field.row
count_send = search sendable depth 20

counts_send : IsSend Counts
counts_send = search (crosses, sendable) depth 60 fits 20000

desk_sync : IsSync CounterDesk
desk_sync =
    desks.desk_sync Counter.the_row Counts u64-field.row unit-field.row u64-field.row bench.ghosts
    (keeping.ghosts unit-field.row u64-field.row keeping.no_dict keeping.no_dict) count_send counts_send

seat_send : IsSend CounterSeat
seat_send = desks.seat_send Counter.the_row Counts u64-field.row unit-field.row u64-field.row bench.ghosts count_send counts_send

-- what the closure of a thread takes along
abbrev captures : (R : RattleType) → (i j : NamedLft) → List RattleType
captures R i j = (shr_ref_field i (param 0 R) tt).row ∷ (shr_ref_field j CounterDesk tt).row ∷ CounterSeat ∷ []

calls_send : (R : RattleType) → IsSync (param 0 R) → (name : List ℕ) (i j : NamedLft) → IsSend (TupleAt name (captures R i j))
calls_send R r name i j =
    declared_send (type_at name (captures R i j)) (
      as_row_send (row_field (shr_ref_field i (param 0 R) tt).row) (shr_send i.mir i.lft (param 0 R) r),
      (search (desk_sync, sendable) depth 30, (search (seat_send, sendable) depth 30, tt)),
    )

pub join-ours-requires-send-F : goal.join-ours-requires-send-F
join-ours-requires-send-F g c κs within = param_send 1 _ (arg_send _ no _ (calls_send g.row.R c.type_bounds.sync-R _ _ _))
