-- A set of a program's objects takes what fits the program.
use Rattle.std.proofs.Common.{◌∙◌, sym, subst}
use Rattle.script_tree.specs.Fit.{declares_store, table_widths}
use Rattle.script_tree.specs.Programs.{Program}
use Rattle.script_tree.specs.declared.operation.Act.{Act}
use Rattle.script_tree.specs.declared.operation.Object.{Object}
use Rattle.script_tree.specs.declared.operation.Object.TheVariants.{Register, Store, Tables, Clock, Dice}
use Rattle.script_tree.specs.declared.operation.Op.{Op}
use Rattle.script_fit.proofs.ActOf.{act_of}
use Rattle.script_fit.specs.FitsOperation.{FitsAct, FitsTables}
use Rattle.object_cells.specs.Stores.{has_store}
use Rattle.object_set.specs.Applied.{FitsSet, IsOpOf}
use Rattle.object_set.specs.ObjectSets.{HeldObjects, IsSetOf}

pub fits_set : (program : Program) (h : HeldObjects) (object : Object) (act : Act) → IsSetOf program h
    → FitsAct (declares_store program.declarations) (table_widths program.declarations) object act → FitsAct (has_store h.stores) h.tables.widths object act
fits_set program h (Register x) act of f = f
fits_set program h (Store s) act of f = (of.stores s ∙ f.0, f.1)
fits_set program h Tables act of f = subst (λ widths. FitsTables widths act) (sym of.widths) f
fits_set program h Clock act of f = f
fits_set program h Dice act of f = f

-- an operation that fits is one of the set
pub fits_op : (h : HeldObjects) (op : Op) → FitsSet h op → IsOpOf h op
fits_op h op f = act_of (has_store h.stores) h.tables.widths op.object op.act f
