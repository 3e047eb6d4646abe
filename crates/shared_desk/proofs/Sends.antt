-- A desk may be shared by threads, and its seats may go to another, where its state and its journal may.
use denote.RattleType.{RattleType}
use denote.Param.Send.{IsSend, IsSync, sendable}
use denote.Param.SendFields.{as_row_send, declared_send, declared_sync, variants_send}
use denote.Struct.Field.{row_field}
use Rattle.std.proofs.Crossing.{crosses, send, sync, frees}
use Rattle.std.specs.contracts.alloc.Global
use Rattle.std.specs.contracts.impls.GlobalAllocator.TheImpl as allocator
use Rattle.std.specs.contracts.option.Option
use Rattle.std.specs.contracts.snapshot.Snapshot
use Rattle.atomic_table.proofs.owned.Table.TheSendSync as tables
use Rattle.atomic_table.proofs.shared.Seat.TheSendSync as seats
use Rattle.desk.specs.declared.bench.Bench.{Ghosts as BenchGhosts}
use Rattle.shared_desk.specs.declared.kept.CallJournal.{Ghosts as JournalGhosts}
use Rattle.shared_desk.specs.contracts.shared.Desk
use Rattle.shared_desk.specs.contracts.shared.DeskSeat
use Rattle.shared_desk.specs.contracts.kept.Kept
use Rattle.shared_desk.specs.contracts.rule.OneHistory
use Rattle.shared_desk.specs.contracts.rule.OneHistoryTableRuleOptionKeptOfViewOfSnapshotState.TheImpl as rule
use Rattle.shared_desk.specs.contracts.rule.View

option_send : (T : RattleType) → IsSend T → IsSend (Option.the_row T)
option_send T s = variants_send (Option.enum T) (tt, ((as_row_send (row_field T) s, tt), tt))

kept_send : (S E R J : RattleType) → IsSend S → IsSend J → IsSend (Kept.the_row S E R J)
kept_send S E R J s j =
    declared_send (Kept.the_type S E R J) (
      search (crosses, sendable) depth 60 fits 20000,
      (as_row_send (row_field S) s, (option_send J j, tt)),
    )

slot_send : (S E R J : RattleType) → IsSend S → IsSend J → IsSend (Option.the_row (Kept.the_row S E R J))
slot_send S E R J s j = option_send (Kept.the_row S E R J) (kept_send S E R J s j)

module _ (X J S E R : RattleType) (g : BenchGhosts X.Denot S.Denot E.Denot R.Denot) where
  pub seat_send : IsSend S → IsSend J → IsSend (DeskSeat.the_row X J S E R g)
  seat_send s j =
      declared_send (DeskSeat.the_type X J S E R g) (
        seats.the_send (Option.the_row (Kept.the_row S E R J)) (View.the_row S E R) (slot_send S E R J s j),
        (search sendable depth 20, (search sendable depth 20, (search sendable depth 20, tt))),
      )

module _ (X J S E R : RattleType) (g : BenchGhosts X.Denot S.Denot E.Denot R.Denot) (k : JournalGhosts J.Denot E.Denot R.Denot) where
  pub desk_sync : IsSend S → IsSend J → IsSync (Desk.the_row X J S E R g k)
  desk_sync s j =
      declared_sync (Desk.the_type X J S E R g k) (
        tables.the_sync (Option.the_row (Kept.the_row S E R J)) (View.the_row S E R) (Snapshot.the_row S) (OneHistory.the_row X J) Global.the_row
            (rule.ghosts X J S E R g rule.no_dict k rule.no_dict rule.no_dict rule.no_dict rule.no_dict rule.no_dict) allocator.ghosts
            (slot_send S E R J s j) send sync frees,
        tt,
      )
