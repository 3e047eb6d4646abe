-- What is tested of an operation is what a program declares, where the set is that of the program.
use Rattle.std.proofs.Common.{◌≡◌, true, ◌&&◌, ap, refl}
use Rattle.std.specs.List.{list_all}
use Rattle.std.specs.Prelude.{nat_lt, length}
use Rattle.script_tree.specs.Programs.{Program}
use Rattle.script_tree.specs.declared.operation.Act.{Act}
use Rattle.script_tree.specs.declared.operation.Act.TheVariants.{Read, Write, Get, Put, Remove, Transact, Now, Roll}
use Rattle.script_tree.specs.declared.operation.Object.{Object}
use Rattle.script_tree.specs.declared.operation.Object.TheVariants.{Register, Store, Tables, Clock, Dice}
use Rattle.script_fit.specs.OfProgram.{is_key, statement_is_of, is_act_of, is_of_program}
use Rattle.script_fit.proofs.ActTested.{act_tested}
use Rattle.object_cells.specs.Stores.{has_store}
use Rattle.object_set.specs.Applied.{IsOpOf, op_of}
use Rattle.object_set.specs.ObjectSets.{HeldObjects, IsSetOf}

pub of_program : (program : Program) (h : HeldObjects) (o : Object) (a : Act) → IsSetOf program h
    → is_act_of (has_store h.stores) h.tables.widths o a ≡ is_of_program program o a
of_program program h (Register x) Read of = refl
of_program program h (Register x) (Write d) of = refl
of_program program h (Store s) (Get k) of = ap (λ b. b && is_key k) (of.stores s)
of_program program h (Store s) (Put k d) of = ap (λ b. b && is_key k) (of.stores s)
of_program program h (Store s) (Remove k) of = ap (λ b. b && is_key k) (of.stores s)
of_program program h Tables (Transact ss) of = ap (λ widths. nat_lt 0 (length ss) && list_all (statement_is_of widths) ss) of.widths
of_program program h Clock Now of = refl
of_program program h Dice (Roll bound) of = refl
of_program program h (Register x) a of = refl
of_program program h (Store s) a of = refl
of_program program h Tables a of = refl
of_program program h Clock a of = refl
of_program program h Dice a of = refl

-- what passes is an operation of the set
pub is_op : (h : HeldObjects) (o : Object) (a : Act) → is_act_of (has_store h.stores) h.tables.widths o a ≡ true → IsOpOf h (op_of o a)
is_op h o a e = act_tested (has_store h.stores) h.tables.widths o a e
