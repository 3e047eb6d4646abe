-- The cycle of a graph in which xs are placed, and no node is free.
use Rattle.std.specs.Prelude.{◌≡◌, ℕ, ◌+◌, ◌-◌, ◌<◌, ◌≤◌, ◌⊎◌, min, Bool, true, false, Some, None, Option, nat_eq}
use Rattle.std.specs.Prelude.{List, ◌++◌, length, take, drop, reverse, slice_index, All, Vec}
use Rattle.std.specs.declared.alloc.Global.{Global}
use Rattle.std.specs.List.{IsDistinct, slice_get}
use Rattle.event_order.specs.declared.graph.Graph.{Graph}
use Rattle.event_order.specs.declared.graph.Node.{Node}
use Rattle.event_order.specs.declared.graph.Event.TheVariants.{Arrival, Departure}
use Rattle.event_order.specs.Order.{NodeIs, EventIs, has}
use Rattle.event_order.specs.Thin.{LiesBetween}

-- the edges, but of those in time only such as have no request between
pub data IsDirect (g : Graph) (y x : ℕ) : Type 0 where
  by_request : (node : Node) → NodeIs g x node → node.is_arrival ≡ false → y + 1 ≡ x → IsDirect g y x
  by_log : (node : Node) → NodeIs g x node → node.is_arrival ≡ false → node.log_before ≡ Some y → IsDirect g y x
  by_time : (i j : ℕ) → i < j → EventIs g i (Departure y) → EventIs g j (Arrival x) → ¬ LiesBetween g i j → IsDirect g y x

-- the least number for which P holds, if there is one
abbrev pub IsLeast : (ℕ → Type 0) → Option ℕ → Type 0
IsLeast P None = (y : ℕ) → ¬ P y
IsLeast P (Some x) = P x × ((y : ℕ) → P y → x ≤ y)

-- a node that is not placed
abbrev pub IsLeft : Graph → List ℕ → ℕ → Type 0
IsLeft g xs x = (x < length g.nodes.items) × (has xs x ≡ false)

-- the same by its mark
abbrev pub IsUnmarked : List Bool → ℕ → Type 0
IsUnmarked marks x = slice_get marks x ≡ Some false

-- a node before x that is not placed
abbrev pub HoldsBack : Graph → List ℕ → ℕ → ℕ → Type 0
HoldsBack g xs x y = IsDirect g y x × (has xs y ≡ false)

-- from the least node left to its least predecessor left, and so on, with no node twice
pub record IsWalk (g : Graph) (xs walk : List ℕ) : Type 0 where
  pub starts : 0 < length walk → IsLeast (IsLeft g xs) (Some (slice_index walk 0))
  pub steps : (k : ℕ) → k + 1 < length walk → IsLeast (HoldsBack g xs (slice_index walk k)) (Some (slice_index walk (k + 1)))
  pub once : IsDistinct nat_eq walk

-- the part of a walk from the node that repeats on, as edges run, turned so that the least node stands first
pub record IsCycle (g : Graph) (xs cycle : List ℕ) : Type 0 where
  pub walk : List ℕ
  pub is_walk : IsWalk g xs walk
  pub start : ℕ
  pub inside : start < length walk
  pub closes : IsLeast (HoldsBack g xs (slice_index walk (length walk - 1))) (Some (slice_index walk start))
  pub turn : ℕ
  pub is : cycle ≡ drop turn (reverse (drop start walk)) ++ take turn (reverse (drop start walk))
  pub least_first : All (λ y. slice_index cycle 0 ≤ y) cycle

-- no node is left, or one is left that nothing left holds back
abbrev pub NoWalk : Graph → List ℕ → Type 0
NoWalk g xs = ((x : ℕ) → ¬ IsLeft g xs x) ⊎ ((x : ℕ) × IsLeft g xs x × ((y : ℕ) → ¬ HoldsBack g xs x y))

-- a cycle, or None where a walk ends without one
abbrev pub FindsCycle : Graph → List ℕ → Option (Vec ℕ Global) → Type 0
FindsCycle g xs (Some cycle) = IsCycle g xs cycle.items
FindsCycle g xs None = NoWalk g xs

-- the same ring of numbers, from another one on
abbrev pub IsRotated : List ℕ → List ℕ → Type 0
IsRotated xs ys = (k : ℕ) × (ys ≡ drop k xs ++ take k xs)

-- the least so far, once x is considered, that counts only where it isn't placed
abbrev pub considered : Bool → Option ℕ → ℕ → Option ℕ
considered true least x = least
considered false None x = Some x
considered false (Some y) x = Some (min y x)
