-- How objects, entries and events are told.
use Rattle.std.specs.Prelude.{ℕ, List, ◌++◌, codes, flat_map}
use Rattle.std.specs.Fmt.{decimal}
use Rattle.script_tokens.specs.PrintedTexts.{printed_text}
use Rattle.script_tree.specs.declared.operation.Object.{Object}
use Rattle.script_tree.specs.declared.operation.Object.TheVariants.{Register, Store, Tables, Clock, Dice}
use Rattle.audit_meaning.specs.declared.node.Node.{Node}
use Rattle.audit_meaning.specs.declared.node.Node.TheVariants.{Number, End}

-- an object; a name stands as a text of a program
abbrev pub object_text : Object → List ℕ
object_text (Register name) = codes "register " ++ printed_text name
object_text (Store name) = codes "store " ++ printed_text name
object_text Tables = codes "tables"
object_text Clock = codes "clock"
object_text Dice = codes "dice"

-- an entry, by its place in its object's log
abbrev pub entry_text : Object → ℕ → List ℕ
entry_text object position = object_text object ++ (codes " position " ++ decimal position)

-- an event of a cycle, behind a space
abbrev pub node_text : Node → List ℕ
node_text (Number rid number) = codes " " ++ (decimal rid ++ (codes "." ++ decimal number))
node_text (End rid) = codes " " ++ (decimal rid ++ codes ".end")

-- a cycle of events
abbrev pub cycle_text : List Node → List ℕ
cycle_text nodes = codes "cycle" ++ flat_map node_text nodes
