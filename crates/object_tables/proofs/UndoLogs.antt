-- Changes that are noted can be taken back.
use Rattle.std.proofs.Common.{◌≡◌, List, [], ◌∷◌, ◌++◌, refl, ap}
use Rattle.object_tables.specs.declared.undo_log.Undo.{Undo}
use Rattle.object_tables.specs.Slots.{Slots}
use Rattle.object_tables.specs.UndoLog.{undone, put_back}

pub undone-push : (us : List Undo) (u : Undo) (ts : List Slots) → undone (us ++ u ∷ []) ts ≡ undone us (put_back u ts)
undone-push [] u ts = refl
undone-push (v ∷ us) u ts = ap (put_back v) (undone-push us u ts)
