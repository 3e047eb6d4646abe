-- An operation may go to another thread. The search finds it of no enum as large as these.
use denote.Builtin as builtin
use denote.Hole.{as_row}
use denote.Param.Send.{IsSend, sendable}
use denote.Param.SendFields.{as_row_send, declared_send, variants_send}
use denote.Struct.Field.{i64-field, u32-field}
use Rattle.basis.proofs.items.Items.TheSendSync as items
use Rattle.basis.specs.contracts.items.Items
use Rattle.script_tree.proofs.value.Members.TheLaws.TheKnot as values
use Rattle.script_tree.specs.contracts.operation.Act
use Rattle.script_tree.specs.contracts.operation.Object
use Rattle.script_tree.specs.contracts.operation.Op
use Rattle.script_tree.specs.contracts.text.Text
use Rattle.script_tree.specs.contracts.transaction.Change
use Rattle.script_tree.specs.contracts.transaction.Statement
use Rattle.script_tree.specs.contracts.transaction.Test
use Rattle.script_tree.specs.contracts.value.Value
use Rattle.script_tree.specs.contracts.value.Values
use Rattle.std.proofs.Crossing.{crosses}

-- of a type, where the search finds it
text : IsSend Text.the_row
text = search (crosses, values.crosses, sendable) depth 60 fits 20000

value : IsSend Value.the_row
value = search (crosses, values.crosses, sendable) depth 60 fits 20000

list : IsSend Values.the_row
list = search (crosses, values.crosses, sendable) depth 60 fits 20000

test : IsSend Test.the_row
test = search (crosses, values.crosses, sendable) depth 60 fits 20000

change : IsSend Change.the_row
change = search (crosses, values.crosses, sendable) depth 60 fits 20000

-- of a field
number_field : IsSend (as_row u32-field)
number_field = search sendable depth 20

signed_field : IsSend (as_row i64-field)
signed_field = search sendable depth 20

text_field : IsSend (as_row Text.the_field)
text_field = as_row_send Text.the_field text

value_field : IsSend (as_row Value.the_field)
value_field = as_row_send Value.the_field value

list_field : IsSend (as_row Values.the_field)
list_field = as_row_send Values.the_field list

columns_field : IsSend (as_row (Items.the_field builtin.u32))
columns_field = as_row_send (Items.the_field builtin.u32) (items.the_send builtin.u32 (search sendable))

tests_field : IsSend (as_row (Items.the_field Test.the_row))
tests_field = as_row_send (Items.the_field Test.the_row) (items.the_send Test.the_row test)

changes_field : IsSend (as_row (Items.the_field Change.the_row))
changes_field = as_row_send (Items.the_field Change.the_row) (items.the_send Change.the_row change)

-- of an enum, variant by variant
statement : IsSend Statement.the_row
statement = variants_send Statement.enum (
  (number_field, (list_field, tt)),
  (
    (number_field, (columns_field, (tests_field, tt))),
    (
      (number_field, (changes_field, (tests_field, tt))),
      (
        (number_field, (tests_field, tt)),
        ((signed_field, (number_field, (tests_field, tt))), tt),
      ),
    ),
  ),
)

statements_field : IsSend (as_row (Items.the_field Statement.the_row))
statements_field = as_row_send (Items.the_field Statement.the_row) (items.the_send Statement.the_row statement)

act : IsSend Act.the_row
act = variants_send Act.enum (
  tt,
  (
    (value_field, tt),
    (
      (text_field, tt),
      (
        (text_field, (value_field, tt)),
        (
          (text_field, tt),
          ((statements_field, tt), (tt, ((signed_field, tt), tt))),
        ),
      ),
    ),
  ),
)

object : IsSend Object.the_row
object = variants_send Object.enum ((text_field, tt), ((text_field, tt), (tt, (tt, (tt, tt)))))

pub op : IsSend Op.the_row
op = declared_send Op.the_type (object, (act, tt))
