-- Event graphs, and their order.
use Rattle.std.specs.Prelude.{◌≡◌, ℕ, ◌+◌, ◌<◌, ◌≤◌, Bool, true, false, List, length, take, slice_index, Some, None, nat_eq}
use Rattle.std.specs.List.{slice_get, list_any}
use Rattle.event_order.specs.declared.graph.Graph.{Graph}
use Rattle.event_order.specs.declared.graph.Node.{Node}
use Rattle.event_order.specs.declared.graph.Event.{Event}
use Rattle.event_order.specs.declared.graph.Event.TheVariants.{Arrival, Departure}

-- the node x of a graph
abbrev pub NodeIs : Graph → ℕ → Node → Type 0
NodeIs g x node = slice_get g.nodes.items x ≡ Some node

-- what stands in the trace at i
abbrev pub EventIs : Graph → ℕ → Event → Type 0
EventIs g i event = slice_get g.trace.items i ≡ Some event

-- the edges: along a request, along a log, and from a departure to each later arrival
pub data Precedes (g : Graph) (y x : ℕ) : Type 0 where
  in_request : (node : Node) → NodeIs g x node → node.is_arrival ≡ false → y + 1 ≡ x → Precedes g y x
  in_log : (node : Node) → NodeIs g x node → node.log_before ≡ Some y → Precedes g y x
  in_time : (i j : ℕ) → i < j → EventIs g i (Departure y) → EventIs g j (Arrival x) → Precedes g y x

-- whether a number is in a list
abbrev pub has : List ℕ → ℕ → Bool
has xs x = list_any (nat_eq x) xs

-- a node that is not in xs, and all of whose predecessors are
pub record IsFree (g : Graph) (xs : List ℕ) (x : ℕ) : Type 0 where
  pub inside : x < length g.nodes.items
  pub left : has xs x ≡ false
  pub ready : (y : ℕ) → Precedes g y x → has xs y ≡ true

-- no lesser node is free
pub record IsLeastFree (g : Graph) (xs : List ℕ) (x : ℕ) : Type 0 where
  pub free : IsFree g xs x
  pub least : (y : ℕ) → IsFree g xs y → x ≤ y

-- Each next node is the least that is free.
abbrev pub IsPlaced : Graph → List ℕ → Type 0
IsPlaced g xs = (k : ℕ) → k < length xs → IsLeastFree g (take k xs) (slice_index xs k)

-- It goes on for as long as a node is free.
pub record IsOrder (g : Graph) (xs : List ℕ) : Type 0 where
  pub placed : IsPlaced g xs
  pub ended : (x : ℕ) → ¬ IsFree g xs x

-- Nodes and trace fit together: an arrival stands once in the trace, where its node says, and no log holds it back; a node departs
-- at most once; and where a node names the one before it in its log, that one names it as the one after.
pub record IsEventGraph (g : Graph) : Type 0 where
  pub first : (node : Node) → NodeIs g 0 node → node.is_arrival ≡ true
  pub arrives : (x : ℕ) (node : Node) → NodeIs g x node → node.is_arrival ≡ true → EventIs g node.at (Arrival x)
  pub since : (x : ℕ) (node : Node) → NodeIs g x node → node.is_arrival ≡ true → node.since ≤ node.at
  pub arrival : (i x : ℕ) → EventIs g i (Arrival x)
      → (node : Node) × NodeIs g x node × (node.is_arrival ≡ true) × (node.log_before ≡ None) × (node.at ≡ i)
  pub departure : (i y : ℕ) → EventIs g i (Departure y) → y < length g.nodes.items
  pub departs_once : (i j y : ℕ) → EventIs g i (Departure y) → EventIs g j (Departure y) → i ≡ j
  pub log_before : (x y : ℕ) (node : Node) → NodeIs g x node → node.log_before ≡ Some y
      → (other : Node) × NodeIs g y other × (other.log_after ≡ Some x)
  pub log_after : (y x : ℕ) (node : Node) → NodeIs g y node → node.log_after ≡ Some x → x < length g.nodes.items
