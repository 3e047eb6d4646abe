-- What follows of every order.
use Rattle.std.specs.Prelude.{◌≡◌, ℕ, ◌+◌, ◌-◌, ◌<◌, true, List, length, take, slice_index, nat_eq}
use Rattle.std.specs.List.{IsDistinct}
use Rattle.event_order.specs.declared.graph.Graph.{Graph}
use Rattle.event_order.specs.Order.{Precedes, has, IsPlaced, IsOrder, IsEventGraph}
use Rattle.event_order.specs.Thin.{IsThin}
use Rattle.event_order.specs.Cycle.{IsDirect, IsCycle, NoWalk}

-- A graph has one order.
abbrev pub Unique : Type 0
Unique = (g : Graph) (xs ys : List ℕ) → IsOrder g xs → IsOrder g ys → xs ≡ ys

-- It has each node once, after all that precede it.
pub record IsProper (g : Graph) (xs : List ℕ) : Type 0 where
  pub once : IsDistinct nat_eq xs
  pub inside : (x : ℕ) → has xs x ≡ true → x < length g.nodes.items
  pub after : (y k : ℕ) → k < length xs → Precedes g y (slice_index xs k) → has (take k xs) y ≡ true
  pub whole : length xs ≡ length g.nodes.items → (x : ℕ) → x < length g.nodes.items → has xs x ≡ true

-- What is placed is so.
abbrev pub Proper : Type 0
Proper = (g : Graph) (xs : List ℕ) → IsPlaced g xs → IsProper g xs

-- A walk that finds no cycle says that each node is placed.
abbrev pub NoCycleNoneLeft : Type 0
NoCycleNoneLeft = (g : Graph) (xs : List ℕ) → IsEventGraph g → IsThin g → IsOrder g xs → NoWalk g xs
    → (x : ℕ) → x < length g.nodes.items → has xs x ≡ true

-- Each node has an edge to the next, and the last to the first.
pub record IsRing (g : Graph) (zs : List ℕ) : Type 0 where
  pub runs : (i j : ℕ) → j ≡ i + 1 → j < length zs → IsDirect g (slice_index zs i) (slice_index zs j)
  pub closes : 0 < length zs → IsDirect g (slice_index zs (length zs - 1)) (slice_index zs 0)

-- A cycle is so.
abbrev pub CyclesRun : Type 0
CyclesRun = (g : Graph) (xs cycle : List ℕ) → IsCycle g xs cycle → IsRing g cycle
