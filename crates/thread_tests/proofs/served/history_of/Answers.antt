use denote.Exit.{no}
use denote.Hole.{as_row}
use denote.Param.Send.{IsSend, arg_send, param_send, sendable}
use denote.Param.SendFields.{variants_send}
use denote.Struct.Field.{u32-field}
use Rattle.std.proofs.Crossing.{crosses}
use Rattle.basis.proofs.items.Items.TheSendSync as items
use Rattle.basis.specs.contracts.items.Items
use Rattle.script_tree.proofs.Sends as operations
use Rattle.history.specs.contracts.happening.Happening
use Rattle.server_workers.proofs.Sends.{packed_send, packed_sync, path_send, response_send}
use Rattle.thread_tests.proofs.served.history_of.Goals as goal

number : IsSend (as_row u32-field)
number = search sendable depth 20

happening_send : IsSend Happening.the_row
happening_send = variants_send Happening.enum (
  (number, (number, (search (crosses, packed_send, packed_sync, sendable) depth 60 fits 20000, tt))),
  (
    (
      number,
      (
        number,
        (number, (search (crosses, operations.op, sendable) depth 60 fits 20000, (search (crosses, sendable) depth 60 fits 20000, tt))),
      ),
    ),
    ((number, (number, (response_send, (path_send, tt)))), tt),
  ),
)

history_send : IsSend (Items.the_row Happening.the_row)
history_send = search (crosses, items.the_send, happening_send, sendable) depth 60 fits 20000

pub serve_jobs-requires-send-J : goal.serve_jobs-requires-send-J
serve_jobs-requires-send-J g c κs within = param_send 3 _ (arg_send _ no _ history_send)
