-- Requests that lie between a departure and an arrival.
use Rattle.std.specs.Prelude.{◌≡◌, ℕ, ◌+◌, ◌<◌, ◌≤◌, true, false}
use Rattle.event_order.specs.declared.graph.Graph.{Graph}
use Rattle.event_order.specs.declared.graph.Node.{Node}
use Rattle.event_order.specs.declared.graph.Event.TheVariants.{Arrival, Departure}
use Rattle.event_order.specs.Order.{NodeIs, EventIs}

-- a request with an arrival at the place k, m nodes more, and a departure at the place l
pub record IsRequest (g : Graph) (a m k l : ℕ) : Type 0 where
  pub arrival : EventIs g k (Arrival a)
  pub departure : EventIs g l (Departure (a + m))
  pub nodes : (n : ℕ) → n < m → (node : Node) × NodeIs g (a + (n + 1)) node × (node.is_arrival ≡ false)

-- a whole request lies between the places i and j of the trace
pub record LiesBetween (g : Graph) (i j : ℕ) : Type 0 where
  pub node : ℕ
  pub more : ℕ
  pub arrived : ℕ
  pub departed : ℕ
  pub request : IsRequest g node more arrived departed
  pub after : i < arrived
  pub inner : arrived < departed
  pub before : departed < j

-- An arrival's `since` cuts off the departures with a request between, and no other; of a later arrival it isn't less.
pub record IsThin (g : Graph) : Type 0 where
  pub cut : (x : ℕ) (node : Node) (i y : ℕ) → NodeIs g x node → node.is_arrival ≡ true
      → EventIs g i (Departure y) → i < node.since → LiesBetween g i node.at
  pub kept : (x : ℕ) (node : Node) (i : ℕ) → NodeIs g x node → node.is_arrival ≡ true → LiesBetween g i node.at → i < node.since
  pub rises : (x y : ℕ) (v w : Node) → NodeIs g x v → NodeIs g y w → v.is_arrival ≡ true → w.is_arrival ≡ true
      → v.at ≤ w.at → v.since ≤ w.since
