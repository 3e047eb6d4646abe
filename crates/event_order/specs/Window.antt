-- What holds each arrival back, by a window on the trace both of whose ends rise.
use Rattle.std.specs.Prelude.{◌≡◌, ℕ, ◌<◌, ◌≤◌, Bool, true, false, List, Some, Option}
use Rattle.std.specs.BTreeSet.{contains}
use Rattle.std.specs.List.{slice_get}
use Rattle.std.specs.Ordering.{nat_cmp}
use Rattle.event_order.specs.declared.graph.Graph.{Graph}
use Rattle.event_order.specs.declared.graph.Node.{Node}
use Rattle.event_order.specs.declared.graph.Event.TheVariants.{Departure}
use Rattle.event_order.specs.declared.placing.Placing.{Placing}
use Rattle.event_order.specs.declared.window.Window.{Window}
use Rattle.event_order.specs.Order.{NodeIs, EventIs, has}
use Rattle.event_order.specs.Cycle.{IsLeast}

-- a node that is not placed, and departs at i or later, before j
abbrev pub IsDeparted : Graph → List ℕ → ℕ → ℕ → ℕ → Type 0
IsDeparted g xs i j y = (k : ℕ) × (i ≤ k) × (k < j) × EventIs g k (Departure y) × (has xs y ≡ false)

-- the set has these nodes, and no others
pub record HasDeparted (g : Graph) (xs : List ℕ) (set : ℕ → Bool) (i j : ℕ) : Type 0 where
  pub each : (y : ℕ) → IsDeparted g xs i j y → set y ≡ true
  pub only : (y : ℕ) → set y ≡ true → IsDeparted g xs i j y

-- no arrival at j or later reaches back before i
abbrev pub IsBehind : Graph → ℕ → ℕ → Type 0
IsBehind g i j = (x : ℕ) (node : Node) → NodeIs g x node → node.is_arrival ≡ true → j ≤ node.at → i ≤ node.since

-- The window up to j has what departs in it and is not placed, and later arrivals reach back no further.
pub record IsWindow (g : Graph) (s : Placing) (w : Window) (j : ℕ) : Type 0 where
  pub in_order : w.start ≤ j
  pub departed : HasDeparted g s.order.items (contains nat_cmp w.left) w.start j
  pub behind : IsBehind g w.start j

-- The departures below a place are gone, and no others, wherever the window ends.
abbrev pub Slides : Graph → Window → Window → ℕ → Type 0
Slides g old new place = (xs : List ℕ) (j : ℕ) → place ≤ j
    → HasDeparted g xs (contains nat_cmp old.left) old.start j → HasDeparted g xs (contains nat_cmp new.left) place j

-- of an arrival at j, the least node that departs in its window and is not placed
abbrev pub IsLeastDeparted : Graph → Placing → ℕ → Option ℕ → Type 0
IsLeastDeparted g s j least = (x : ℕ) (node : Node) → NodeIs g x node → node.is_arrival ≡ true → node.at ≡ j
    → IsLeast (IsDeparted g s.order.items node.since j) least

-- for each place of the trace, as far as the list goes
abbrev pub AreLeastDeparted : Graph → Placing → List (Option ℕ) → Type 0
AreLeastDeparted g s leasts = (i : ℕ) (least : Option ℕ) → slice_get leasts i ≡ Some least → IsLeastDeparted g s i least
