-- What each member has at hand.
use Rattle.std.specs.Prelude.{ℕ, List, [], ◌∷◌, reverse}
use Rattle.script_tree.specs.Datum.{Datum}
use Rattle.script_nodes.specs.NodeLaws.{without}
use Rattle.multivalue.specs.Many.{member_value}
use Rattle.multi_state.specs.declared.stack.Cell.{Cell}
use Rattle.multi_state.specs.declared.stack.Cell.TheVariants.{Value, Loop}
use Rattle.multi_state.specs.declared.stack.Stack.{Stack}

-- a member's values of cells, the topmost first
abbrev pub values_at : ℕ → List Cell → List Datum
values_at i [] = []
values_at i (Value m ∷ cs) = member_value m i ∷ values_at i cs
values_at i (Loop m passed ∷ cs) = without passed (member_value m i) ∷ member_value m i ∷ values_at i cs

-- a member's stack
abbrev pub stack_at : ℕ → Stack → List Datum
stack_at i s = values_at i (reverse s.cells.items)
