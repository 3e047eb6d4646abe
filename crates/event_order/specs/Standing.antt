-- What holds while nodes are placed: xs are placed, `free` is the set, and the trace is passed up to p.
use Rattle.std.specs.Prelude.{◌≡◌, ℕ, ◌<◌, ◌≤◌, Bool, true, false, List, length, slice_index_or, Some}
use Rattle.std.specs.BTreeSet.{contains}
use Rattle.std.specs.Ordering.{nat_cmp}
use Rattle.event_order.specs.declared.graph.Graph.{Graph}
use Rattle.event_order.specs.declared.graph.Node.{Node}
use Rattle.event_order.specs.declared.graph.Event.TheVariants.{Arrival, Departure}
use Rattle.event_order.specs.declared.placing.Placing.{Placing}
use Rattle.event_order.specs.Order.{NodeIs, EventIs, has, IsFree, IsLeastFree, IsPlaced}

-- the marks are those of the order, and the set has no node but free ones
pub record Standing (g : Graph) (xs : List ℕ) (marks : List Bool) (free : ℕ → Bool) (p : ℕ) : Type 0 where
  pub marks_all : length marks ≡ length g.nodes.items
  pub marked : (q : ℕ) → q < length g.nodes.items → slice_index_or marks q false ≡ has xs q
  pub frees : (q : ℕ) → free q ≡ true → IsFree g xs q
  pub departed : (i y : ℕ) → i < p → EventIs g i (Departure y) → has xs y ≡ true
  pub waiting : (i q : ℕ) → p ≤ i → EventIs g i (Arrival q) → has xs q ≡ false
  pub placed : IsPlaced g xs

-- a free node that is not in the set is an arrival that has not been passed
abbrev pub Covering : Graph → List ℕ → (ℕ → Bool) → ℕ → Type 0
Covering g xs free p = (q : ℕ) → IsFree g xs q → free q ≡ false → (i : ℕ) × (p ≤ i) × EventIs g i (Arrival q)

-- the trace has been passed up to its end, or to a departure that is not placed
pub record Stops (g : Graph) (xs : List ℕ) (p : ℕ) : Type 0 where
  pub no_arrival : (q : ℕ) → ¬ EventIs g p (Arrival q)
  pub not_departed : (y : ℕ) → EventIs g p (Departure y) → has xs y ≡ false

-- the set has each free node
pub record Settled (g : Graph) (xs : List ℕ) (marks : List Bool) (free : ℕ → Bool) (p : ℕ) : Type 0 where
  pub holds : Standing g xs marks free p
  pub covers : (q : ℕ) → IsFree g xs q → free q ≡ true
  pub stops : Stops g xs p

-- the least free node x has just been taken out of the set
pub record Taken (g : Graph) (xs : List ℕ) (marks : List Bool) (free : ℕ → Bool) (p x : ℕ) : Type 0 where
  pub holds : Standing g xs marks free p
  pub covers : (q : ℕ) → IsFree g xs q → free q ≡ false → q ≡ x
  pub stops : Stops g xs p
  pub absent : free x ≡ false
  pub least : IsLeastFree g xs x

-- the marks and the set are right
abbrev pub IsStanding : Graph → Placing → Type 0
IsStanding g s = Standing g s.order.items s.is_placed.items (contains nat_cmp s.free) s.passed

-- the set has all free nodes but such arrivals
abbrev pub IsCovering : Graph → Placing → Type 0
IsCovering g s = Covering g s.order.items (contains nat_cmp s.free) s.passed

-- the set has all free nodes
abbrev pub IsSettled : Graph → Placing → Type 0
IsSettled g s = Settled g s.order.items s.is_placed.items (contains nat_cmp s.free) s.passed

-- the set has all free nodes but the least, which is to be placed
abbrev pub IsTaken : Graph → Placing → ℕ → Type 0
IsTaken g s x = Taken g s.order.items s.is_placed.items (contains nat_cmp s.free) s.passed x

-- a node that is no arrival
abbrev pub IsLater : Graph → ℕ → Type 0
IsLater g x = (node : Node) × NodeIs g x node × (node.is_arrival ≡ false)

-- such a node that is free
abbrev pub IsFreeLater : Graph → Placing → ℕ → Type 0
IsFreeLater g s x = IsLater g x × IsFree g s.order.items x

-- the same but for the set, which keeps its nodes
pub record Grows (s t : Placing) : Type 0 where
  pub order : t.order ≡ s.order
  pub is_placed : t.is_placed ≡ s.is_placed
  pub passed : t.passed ≡ s.passed
  pub kept : (q : ℕ) → contains nat_cmp s.free q ≡ true → contains nat_cmp t.free q ≡ true

-- the set has the node, if it is free and no arrival
abbrev pub Offers : Graph → Placing → ℕ → Type 0
Offers g s x = IsFreeLater g s x → contains nat_cmp s.free x ≡ true

-- the set has the node after x in its log, in the same sense
abbrev pub OffersLog : Graph → Placing → ℕ → Type 0
OffersLog g s x = (q : ℕ) (node : Node) → NodeIs g x node → node.log_after ≡ Some q → Offers g s q
