-- What a function of the checker found.
use Rattle.std.specs.Prelude.{◌≡◌, ◌++◌, ◌||◌, ℕ, List, [], not, is_some, Result, OnOk}
use Rattle.std.specs.BTreeMap.{BTreeMap}
use denote.Ref.{Bor}
use Rattle.script_tree.specs.Builtins.{builtin_of}
use Rattle.script_tree.specs.declared.syntax.name.Name.{Name}
use Rattle.script_tree.specs.declared.syntax.tree.Version.{Version}
use Rattle.script_check.specs.Indexes.{at_text}
use Rattle.script_check.specs.Least.{lower}
use Rattle.script_check.specs.Validity.{fault_unless, declared_in_turn}
use Rattle.script_check.specs.declared.fault.CheckFault.{CheckFault}
use Rattle.script_check.specs.declared.fault.CheckFaultKind.TheVariants.{DeclaredTwice}
use Rattle.script_check.specs.declared.found.Found.{Found}

-- Afterwards it is the least of these faults and of the one before.
abbrev pub Finds : List CheckFault → Found → Found → Type 0
Finds faults before after = after.least ≡ lower before.least faults

-- the same of a call that may run out of memory, where it didn't
abbrev pub Notes : {A E : Type 0} → Result A E → List CheckFault → Found → Found → Type 0
Notes result faults before after = OnOk result (Finds faults before after)

-- the same of a table that is declared where the map has those before it
abbrev pub FindsTable : Name → List Name → BTreeMap (Bor (List ℕ)) (List Name) → Found → Found → Type 0
FindsTable name columns tables before after =
    Finds (fault_unless (not (is_some (at_text tables name.text))) name.at DeclaredTwice
    ++ declared_in_turn [] columns) before after

-- the same of a function
abbrev pub FindsFunction : Version → Name → BTreeMap (Bor (List ℕ)) ℕ → Found → Found → Type 0
FindsFunction version name functions before after = Finds (fault_unless (not (is_some (builtin_of version name.text) || is_some (at_text functions name.text))) name.at DeclaredTwice) before after
