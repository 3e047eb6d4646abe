-- Objects that are kept fit the program whose set they are.
use Rattle.std.proofs.Common.{refl, subst}
use Rattle.script_tree.specs.Fit.{Fit, AreTables}
use Rattle.script_tree.specs.Programs.{Program}
use Rattle.script_tree.specs.declared.operation.Object.TheVariants.{Register, Store, Tables, Clock, Dice}
use Rattle.object_cells.proofs.Fits.{register_fits, store_fits}
use Rattle.object_set.specs.ObjectSets.{HeldObjects, objects_of, IsSetOf, AreKept}

pub fit : (program : Program) (h : HeldObjects) → AreKept h → IsSetOf program h → Fit program (objects_of h)
fit program h kept of (Register x) = register_fits program h.registers kept.registers x
fit program h kept of (Store s) = store_fits program h.stores of.stores kept.stores s
fit program h kept of Tables = (h.tables.tables, refl, subst (λ widths. AreTables widths h.tables.tables) of.widths kept.tables)
fit program h kept of Clock = (h.clock, refl, kept.clock)
fit program h kept of Dice = refl
