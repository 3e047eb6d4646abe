use Rattle.script_values.proofs.builtins.call_with.Goals as goal

pub returns-in-Len : goal.returns-in-Len
returns-in-Len c = rw (c.in-Len.is) (c.value_made.ensures _ c.length_of.ensures)

pub returns-in-Str : goal.returns-in-Str
returns-in-Str c = rw (c.in-Str.is) (c.value_made-in-Str.ensures _ c.as_text.ensures)

pub returns-in-Escape : goal.returns-in-Escape
returns-in-Escape c = rw (c.in-Escape.is) (c.value_made-in-Escape.ensures _ c.escaped.ensures)

pub returns-in-Num : goal.returns-in-Num
returns-in-Num c = rw (c.in-Num.is) (c.value_made-in-Num.ensures _ c.as_number.ensures)

pub returns-in-Slice : goal.returns-in-Slice
returns-in-Slice c = rw (c.in-Slice.is) (c.value_made-in-Slice.ensures _ c.sliced.ensures)

pub returns-in-Append : goal.returns-in-Append
returns-in-Append c = rw (c.in-Append.is) (c.value_made-in-Append.ensures _ c.appended.ensures)

pub returns-in-Param : goal.returns-in-Param
returns-in-Param c = rw (c.in-Param.is) (c.value_made-in-Param.ensures _ c.parameter_in.ensures)

pub returns-in-Read : goal.returns-in-Read
returns-in-Read c = rw (c.in-Read.is) (c.operation_made.ensures _ c.read_op.ensures)

pub returns-in-Write : goal.returns-in-Write
returns-in-Write c = rw (c.in-Write.is) (c.operation_made-in-Write.ensures _ c.write_op.ensures)

pub returns-in-Get : goal.returns-in-Get
returns-in-Get c = rw (c.in-Get.is) (c.operation_made-in-Get.ensures _ c.get_op.ensures)

pub returns-in-Put : goal.returns-in-Put
returns-in-Put c = rw (c.in-Put.is) (c.operation_made-in-Put.ensures _ c.put_op.ensures)

pub returns-in-Remove : goal.returns-in-Remove
returns-in-Remove c = rw (c.in-Remove.is) (c.operation_made-in-Remove.ensures _ c.remove_op.ensures)

pub returns-in-Random : goal.returns-in-Random
returns-in-Random c = rw (c.in-Random.is) (c.operation_made-in-Random.ensures _ c.random_op.ensures)
