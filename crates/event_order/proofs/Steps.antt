-- The steps of a placing.
use Rattle.std.proofs.Common.{◌≡◌, ℕ, zero, suc, ◌+◌, ◌-◌, ◌<◌, ◌≤◌, Bool, true, false, List, [], ◌∷◌, ◌++◌, length, take, get_or, slice_set}
use Rattle.std.proofs.Common.{Some, None, ◌⊎◌, inl, inr, refl, sym, ap, subst, ◌∙◌, arith, true≢false, nat_eq, nat_lt}
use Rattle.std.specs.List.{slice_get, IsDistinct}
use Rattle.std.proofs.lemmas.Map.Keys.{any_passes_from_place, IsDistinct-from_apart}
use Rattle.std.proofs.lemmas.Map.Steps.{length-le_from_distinct_below}
use Rattle.std.proofs.lemmas.Bool.{cases_eq, cases_lt, cases_Bool, true_from_ne_false, ltb-true, eqb-true, eq-eqb, ne_eqb, or_cases, or_left, or_right}
use Rattle.std.proofs.lemmas.List.{length-set, get_or-set_same, get_or-set_other, get_or_append_left, take-append-le, take_all, length_push}
use Rattle.std.proofs.lemmas.List.{get_or_push, get_or_default, get_or-take, length-take}
use Rattle.std.proofs.lemmas.Option.{slice_get-get_or, slice_get_within, slice_get_read, slice_get_cases}
use Rattle.event_order.specs.declared.graph.Graph.{Graph}
use Rattle.event_order.specs.declared.graph.Node.{Node}
use Rattle.event_order.specs.declared.graph.Event.{Event}
use Rattle.event_order.specs.declared.graph.Event.TheVariants.{Arrival, Departure}
use Rattle.event_order.specs.Order.{NodeIs, EventIs, Precedes, in_request, in_log, in_time, has, IsFree, IsLeastFree, IsPlaced, IsEventGraph}
use Rattle.event_order.specs.Standing.{Standing, Covering, Stops, Settled, Taken, IsLater}
use Rattle.event_order.proofs.Members.{has_push_old, has_push_new, has_push_not, has_push_cases, has_push_before, has_push_other, Enters}

-- one thing stands at a place
pub same_node : (g : Graph) (x : ℕ) (a b : Node) → NodeIs g x a → NodeIs g x b → a ≡ b
same_node g x a b p q = let e : Some a ≡ Some b = sym p ∙ q in cc

pub one_event : (g : Graph) (i : ℕ) (a b : Event) → EventIs g i a → EventIs g i b → a ≡ b
one_event g i a b p q = let e : Some a ≡ Some b = sym p ∙ q in cc

same_arrival : (g : Graph) (i x y : ℕ) → EventIs g i (Arrival x) → EventIs g i (Arrival y) → x ≡ y
same_arrival g i x y p q = let e = one_event g i (Arrival x) (Arrival y) p q in cc

pub same_departure : (g : Graph) (i x y : ℕ) → EventIs g i (Departure x) → EventIs g i (Departure y) → x ≡ y
same_departure g i x y p q = let e = one_event g i (Departure x) (Departure y) p q in cc

pub not_both : (g : Graph) (i x y : ℕ) → EventIs g i (Arrival x) → EventIs g i (Departure y) → ⊥
not_both g i x y p q = let e = one_event g i (Arrival x) (Departure y) p q in cc

-- something stands at each place of a list
pub there : {A : Type 0} (xs : List A) (i : ℕ) → i < length xs → (x : A) × (slice_get xs i ≡ Some x)
there xs i l = elim (slice_get_cases xs i).1 [
  | inl found ↦ (found.0, found.2)
  | inr past ↦ absurd (omega (arith, past.0))
]

-- an arrival stands once in the trace
pub once : (g : Graph) → IsEventGraph g → (i j x : ℕ) → EventIs g i (Arrival x) → EventIs g j (Arrival x) → i ≡ j
once g graph i j x at_i at_j =
    let a = graph.arrival i x at_i in
    let b = graph.arrival j x at_j in
    sym a.4 ∙ ap (λ n. n.at) (same_node g x a.0 b.0 a.1 b.1) ∙ b.4

-- it names a node
pub arrival_inside : (g : Graph) → IsEventGraph g → (i x : ℕ) → EventIs g i (Arrival x) → x < length g.nodes.items
arrival_inside g graph i x at = let here = graph.arrival i x at in slice_get_within g.nodes.items x here.0 here.1

-- a node is an arrival or it is none
pub not_later : (g : Graph) (x : ℕ) (a b : Node) → NodeIs g x a → a.is_arrival ≡ true → NodeIs g x b → b.is_arrival ≡ false → ⊥
not_later g x a b is arrives other later = true≢false (sym arrives ∙ ap (λ n. n.is_arrival) (same_node g x a b is other) ∙ later)

-- a node that is no arrival doesn't arrive
pub not_arriving : (g : Graph) → IsEventGraph g → (j x : ℕ) (node : Node) → EventIs g j (Arrival x) → NodeIs g x node → node.is_arrival ≡ false → ⊥
not_arriving g graph j x node at is later = let here = graph.arrival j x at in not_later g x here.0 node here.1 here.2 is later

-- no log holds an arrival back
pub no_log_at : (g : Graph) → IsEventGraph g → (j x y : ℕ) (node : Node) → EventIs g j (Arrival x) → NodeIs g x node → node.log_before ≡ Some y → ⊥
no_log_at g graph j x y node at is log =
    let here = graph.arrival j x at in
    let bad : None ≡ Some y = sym here.3 ∙ ap (λ n. n.log_before) (same_node g x here.0 node here.1 is) ∙ log in cc

-- ---- what free nodes are

-- a node stays free while another is placed
free_still : (g : Graph) (xs : List ℕ) (x q : ℕ) → IsFree g xs q → ¬ (q ≡ x) → IsFree g (xs ++ x ∷ []) q
free_still g xs x q f ne = record {
  inside = f.inside;
  left = has_push_not xs x q f.left ne;
  ready = λ y p. has_push_old xs x y (f.ready y p);
}

-- where the trace stops, no later arrival is free
nothing_behind : (g : Graph) (xs : List ℕ) (p i q : ℕ) → Stops g xs p → p ≤ i → EventIs g i (Arrival q) → ((y : ℕ) → Precedes g y q → has xs y ≡ true) → ⊥
nothing_behind g xs p i q stops l at ready = elim (cases_eq p i) [
  | inl e ↦ stops.no_arrival q (subst (λ k. EventIs g k (Arrival q)) (sym e) at)
  | inr ne ↦
      let within : i < length g.trace.items = slice_get_within g.trace.items i (Arrival q) at in
      let below : p < i = omega (arith, ne) in
      let here = there g.trace.items p (omega arith) in
      go here.0 here.1 below
]
  where
    go : (event : Event) → EventIs g p event → p < i → ⊥
    go (Arrival r) e below = stops.no_arrival r e
    go (Departure y) e below = true≢false (sym (ready y (in_time p i below e at)) ∙ stops.not_departed y e)

-- ---- the trace is passed

module _ (g : Graph) (xs : List ℕ) (marks : List Bool) (f : ℕ → Bool) (p : ℕ) where
  -- an arrival that no departure holds back is free
  arrival_free : IsEventGraph g → Standing g xs marks f p → (x : ℕ) → EventIs g p (Arrival x) → IsFree g xs x
  arrival_free graph holds x at = record {
    inside = arrival_inside g graph p x at;
    left = holds.waiting p x (omega arith) at;
    ready = ready;
  }
    where
      ready : (y : ℕ) → Precedes g y x → has xs y ≡ true
      ready y (in_request node is later e) = absurd (not_arriving g graph p x node at is later)
      ready y (in_log node is e) = absurd (no_log_at g graph p x y node at is e)
      ready y (in_time i j l departs at_j) = let e : j ≡ p = once g graph j p x at_j at in holds.departed i y (omega arith) departs

  -- ---- an arrival is passed

  -- what stands
  pub pass_arrival : (h : ℕ → Bool) (x : ℕ) → IsEventGraph g → Standing g xs marks f p → EventIs g p (Arrival x) → Enters f h x → Standing g xs marks h (p + 1)
  pass_arrival h x graph holds at enters = record {
    marks_all = holds.marks_all;
    marked = holds.marked;
    frees = λ q t. elim (enters.only q t) [ inl old ↦ holds.frees q old | inr e ↦ subst (IsFree g xs) (sym e) (arrival_free graph holds x at) ];
    departed = λ i y l d. elim (cases_eq i p) [
      | inl e ↦ absurd (not_both g p x y at (subst (λ k. EventIs g k (Departure y)) e d))
      | inr ne ↦ holds.departed i y (omega (arith, ne)) d
    ];
    waiting = λ i q l a. holds.waiting i q (omega arith) a;
    placed = holds.placed;
  }

  -- and what is covered
  pub pass_arrival_covers : (h : ℕ → Bool) (x : ℕ) → Covering g xs f p → EventIs g p (Arrival x) → Enters f h x → Covering g xs h (p + 1)
  pass_arrival_covers h x covers at enters q free out =
      let was : f q ≡ false = elim (cases_Bool (f q)) [ inl t ↦ absurd (true≢false (sym (enters.kept q t) ∙ out)) | inr t ↦ t ] in
      let old = covers q free was in (
        old.0,
        elim (cases_eq p old.0) [
          | inl e ↦ absurd (true≢false (sym (ap h (same_arrival g p q x (subst (λ k. EventIs g k (Arrival q)) (sym e) old.2) at) ∙ enters.there) ∙ out))
          | inr ne ↦ omega (arith, ne, old.1)
        ],
        old.2,
      )

  -- the same of a departure that is placed
  pub pass_departure : (y : ℕ) → Standing g xs marks f p → EventIs g p (Departure y) → has xs y ≡ true → Standing g xs marks f (p + 1)
  pass_departure y holds at there = record {
    marks_all = holds.marks_all;
    marked = holds.marked;
    frees = holds.frees;
    departed = λ i z l d. elim (cases_eq i p) [
      | inl e ↦ ap (has xs) (same_departure g p z y (subst (λ k. EventIs g k (Departure z)) e d) at) ∙ there
      | inr ne ↦ holds.departed i z (omega (arith, ne)) d
    ];
    waiting = λ i q l a. holds.waiting i q (omega arith) a;
    placed = holds.placed;
  }

  pub pass_departure_covers : (y : ℕ) → Covering g xs f p → EventIs g p (Departure y) → Covering g xs f (p + 1)
  pass_departure_covers y covers at q free out =
      let old = covers q free out in (
        old.0,
        elim (cases_eq p old.0) [
          | inl e ↦ absurd (not_both g p q y (subst (λ k. EventIs g k (Arrival q)) (sym e) old.2) at)
          | inr ne ↦ omega (arith, ne, old.1)
        ],
        old.2,
      )

  -- the set is whole where the trace stops
  pub settles : Standing g xs marks f p → Covering g xs f p → Stops g xs p → Settled g xs marks f p
  settles holds covers stops = record {
    holds = holds;
    covers = λ q free. true_from_ne_false (f q) (λ out.
        let behind = covers q free out in
        nothing_behind g xs p behind.0 q stops behind.1 behind.2 free.ready);
    stops = stops;
  }

  -- it stops at its end, and at a departure that is not placed
  pub stops_at_end : length g.trace.items ≤ p → Stops g xs p
  stops_at_end l = record {
    no_arrival = λ q a. let m : p < length g.trace.items = slice_get_within g.trace.items p (Arrival q) a in absurd (omega arith);
    not_departed = λ y d. let m : p < length g.trace.items = slice_get_within g.trace.items p (Departure y) d in absurd (omega arith);
  }

  pub stops_at_departure : (y : ℕ) → EventIs g p (Departure y) → has xs y ≡ false → Stops g xs p
  stops_at_departure y at out = record {
    no_arrival = λ q a. not_both g p q y a at;
    not_departed = λ z d. ap (has xs) (same_departure g p z y d at) ∙ out;
  }

-- ---- a node is placed

-- one more, that is the least free
placed_more : (g : Graph) (xs : List ℕ) (x : ℕ) → IsPlaced g xs → IsLeastFree g xs x → IsPlaced g (xs ++ x ∷ [])
placed_more g xs x placed least k l = elim (cases_lt k (length xs)) [
  | inl low ↦
      let same : take k (xs ++ x ∷ []) ≡ take k xs = take-append-le k xs (x ∷ []) (omega arith) in
      let item : get_or (xs ++ x ∷ []) k 0 ≡ get_or xs k 0 = get_or_append_left xs (x ∷ []) 0 k low in
      rw (same, item) (placed k low)
  | inr high ↦
      let more : length (xs ++ x ∷ []) ≡ length xs + 1 = length_push xs x in
      let e : length xs ≡ k = omega arith in
      let same : take k (xs ++ x ∷ []) ≡ xs = take-append-le k xs (x ∷ []) (omega arith) ∙ take_all k xs (omega arith) in
      let item : get_or (xs ++ x ∷ []) k 0 ≡ x = get_or_push xs x 0 k e in
      rw (same, item) least
]

module _ (g : Graph) (xs : List ℕ) (marks : List Bool) (f : ℕ → Bool) (p x : ℕ) where
  -- what stands then
  pub places : Taken g xs marks f p x → (ms : List Bool) → ms ≡ slice_set marks x true → Standing g (xs ++ x ∷ []) ms f p
  places taken ms e = subst (λ m. Standing g (xs ++ x ∷ []) m f p) (sym e) (record {
    marks_all = length-set marks x true ∙ taken.holds.marks_all;
    marked = λ q l. elim (cases_eq q x) [
      | inl e ↦
          let m : x < length marks = omega (arith, taken.holds.marks_all) in
          ap (λ k. get_or (slice_set marks x true) k false) e ∙ get_or-set_same marks x true false m ∙ sym (ap (has (xs ++ x ∷ [])) e ∙ has_push_new xs x)
      | inr ne ↦ get_or-set_other marks x q true false ne ∙ taken.holds.marked q l ∙ sym (has_push_other xs x q ne)
    ];
    frees = λ q t. free_still g xs x q (taken.holds.frees q t) (λ e. true≢false (sym t ∙ ap f e ∙ taken.absent));
    departed = λ i y l d. has_push_old xs x y (taken.holds.departed i y l d);
    waiting = λ i q l a. has_push_not xs x q (taken.holds.waiting i q l a)
        (λ e. nothing_behind g xs p i q taken.stops l a (subst (λ k. (y : ℕ) → Precedes g y k → has xs y ≡ true) (sym e) taken.least.free.ready));
    placed = placed_more g xs x taken.holds.placed taken.least;
  })

  -- what may be missing after x is placed: the nodes that x precedes
  pub places_covers : IsEventGraph g → Taken g xs marks f p x → (h : ℕ → Bool)
      → ((q : ℕ) → f q ≡ true → h q ≡ true)
      → ((q : ℕ) → q ≡ x + 1 → IsLater g q → IsFree g (xs ++ x ∷ []) q → h q ≡ true)
      → ((q : ℕ) (node : Node) → NodeIs g x node → node.log_after ≡ Some q → IsLater g q → IsFree g (xs ++ x ∷ []) q → h q ≡ true)
      → Covering g (xs ++ x ∷ []) h p
  places_covers graph taken h kept next log q free out =
      let here = there g.nodes.items q free.inside in
      elim (cases_Bool here.0.is_arrival) [
        | inl first ↦
            let place = graph.arrives q here.0 here.1 first in
            elim (cases_lt here.0.at p) [
              | inl low ↦ absurd (was (λ y before. arrived here.0.at place low y before))
              | inr high ↦ (here.0.at, high, place)
            ]
        | inr later ↦ absurd (was (λ y before. came here.0 here.1 later y before (has_push_cases xs x y (free.ready y before))))
      ]
    where
      -- were q free before, it would be in the set
      was : ((y : ℕ) → Precedes g y q → has xs y ≡ true) → ⊥
      was ready =
          let old : IsFree g xs q = record { inside = free.inside; left = has_push_before xs x q free.left; ready = ready } in
          elim (cases_Bool (f q)) [
            | inl t ↦ true≢false (sym (kept q t) ∙ out)
            | inr t ↦ true≢false (sym (has_push_new xs x) ∙ ap (has (xs ++ x ∷ [])) (sym (taken.covers q old t)) ∙ free.left)
          ]

      arrived : (k : ℕ) → EventIs g k (Arrival q) → k < p → (y : ℕ) → Precedes g y q → has xs y ≡ true
      arrived k at low y (in_request node is later e) = absurd (not_arriving g graph k q node at is later)
      arrived k at low y (in_log node is e) = absurd (no_log_at g graph k q y node at is e)
      arrived k at low y (in_time i j l departs at_j) =
          let e : j ≡ k = once g graph j k q at_j at in taken.holds.departed i y (omega arith) departs

      came : (node : Node) → NodeIs g q node → node.is_arrival ≡ false → (y : ℕ) → Precedes g y q → (has xs y ≡ true) ⊎ (y ≡ x) → has xs y ≡ true
      came node is later y before (inl t) = t
      came node is later y (in_request other o l e) (inr same) =
          absurd (true≢false (sym (next q (sym e ∙ ap (λ k. k + 1) same) (node, is, later) free) ∙ out))
      came node is later y (in_log other o e) (inr same) =
          let link = graph.log_before q y other o e in
          absurd (true≢false (sym (log q link.0 (subst (λ k. NodeIs g k link.0) same link.1) link.2 (node, is, later) free) ∙ out))
      came node is later y (in_time i j l departs at_j) (inr same) = absurd (not_arriving g graph j q node at_j is later)

-- ---- the start

-- a free node is an arrival
pub start_covers : (g : Graph) (f : ℕ → Bool) → IsEventGraph g → Covering g [] f 0
start_covers g f graph q free out =
    let here = there g.nodes.items q free.inside in
    elim (cases_Bool here.0.is_arrival) [
      | inl first ↦ let place = graph.arrives q here.0 here.1 first in (here.0.at, omega arith, place)
      | inr later ↦ absurd (go q here.0 here.1 later free.ready)
    ]
  where
    go : (k : ℕ) (node : Node) → NodeIs g k node → node.is_arrival ≡ false → ((y : ℕ) → Precedes g y k → has [] y ≡ true) → ⊥
    go zero node is later ready = true≢false (sym (graph.first node is) ∙ later)
    go (suc k) node is later ready = true≢false (sym (ready k (in_request node is later (omega arith))))

-- ---- the test of a node

module _ (g : Graph) (xs : List ℕ) (marks : List Bool) (f : ℕ → Bool) (p : ℕ) where
  -- what is tested is enough
  pub tests_free : IsEventGraph g → Standing g xs marks f p → (x : ℕ) (node : Node) → NodeIs g x node → node.is_arrival ≡ false
      → get_or marks x false ≡ false → get_or marks (x - 1) false ≡ true → ((y : ℕ) → node.log_before ≡ Some y → get_or marks y false ≡ true) → IsFree g xs x
  tests_free graph holds x node is later out before log = record {
    inside = inside;
    left = sym (holds.marked x inside) ∙ out;
    ready = ready;
  }
    where
      inside : x < length g.nodes.items
      inside = slice_get_within g.nodes.items x node is

      ready : (y : ℕ) → Precedes g y x → has xs y ≡ true
      ready y (in_request other o l e) =
          let k : x - 1 ≡ y = omega arith in
          sym (holds.marked y (omega (arith, inside))) ∙ ap (λ n. get_or marks n false) (sym k) ∙ before
      ready y (in_log other o e) =
          let link = graph.log_before x y other o e in
          sym (holds.marked y (slice_get_within g.nodes.items y link.0 link.1)) ∙ log y (ap (λ n. n.log_before) (same_node g x node other is o) ∙ e)
      ready y (in_time i j l departs at_j) = absurd (not_arriving g graph j x node at_j is later)

  -- and is so of a free node
  pub free_out : Standing g xs marks f p → (x : ℕ) → IsFree g xs x → get_or marks x false ≡ false
  free_out holds x free = holds.marked x free.inside ∙ free.left

  pub free_before : IsEventGraph g → Standing g xs marks f p → (x : ℕ) (node : Node) → NodeIs g x node → node.is_arrival ≡ false → IsFree g xs x
      → get_or marks (x - 1) false ≡ true
  free_before graph holds zero node is later free = absurd (true≢false (sym (graph.first node is) ∙ later))
  free_before graph holds (suc k) node is later free =
      let e : suc k - 1 ≡ k = omega arith in
      let l : k < length g.nodes.items = omega (arith, free.inside) in
      ap (λ n. get_or marks n false) e ∙ holds.marked k l ∙ free.ready k (in_request node is later (omega arith))

  pub free_log : IsEventGraph g → Standing g xs marks f p → (x y : ℕ) (node : Node) → NodeIs g x node → node.log_before ≡ Some y → IsFree g xs x
      → get_or marks y false ≡ true
  free_log graph holds x y node is e free =
      let link = graph.log_before x y node is e in
      holds.marked y (slice_get_within g.nodes.items y link.0 link.1) ∙ free.ready y (in_log node is e)

-- ---- reads

pub mark_read : (marks : List Bool) (i : ℕ) (v : Bool) → v ≡ get_or marks i v → i < length marks → get_or marks i false ≡ v
mark_read marks i v e l = get_or_default marks i false v l ∙ sym e

-- what `get` finds
pub node_got : (g : Graph) (x : ℕ) (ns : List Node) (node : Node) → ns ≡ g.nodes.items
    → true ≡ nat_lt x (length ns) → node ≡ get_or ns x node → NodeIs g x node
node_got g x ns node e l r =
    subst (λ (ms : List Node). slice_get ms x ≡ Some node) e (slice_get_read ns (length ns) x node refl (ltb-true x (length ns) (sym l)) r)

-- what an index finds
pub node_at : (g : Graph) (x : ℕ) (node : Node) → x < length g.nodes.items → node ≡ get_or g.nodes.items x node → NodeIs g x node
node_at g x node l e = slice_get_read g.nodes.items (length g.nodes.items) x node refl l e

pub event_at : (g : Graph) (i : ℕ) (event other : Event) → i < length g.trace.items → event ≡ get_or g.trace.items i event → event ≡ other → EventIs g i other
event_at g i event other l e is = slice_get_read g.trace.items (length g.trace.items) i event refl l e ∙ ap (λ n. Some n) is

-- a mark that was read says whether the node is placed
pub mark_is : (g : Graph) (xs : List ℕ) (marks : List Bool) (f : ℕ → Bool) (p : ℕ) → Standing g xs marks f p
    → (x : ℕ) (v : Bool) → x < length g.nodes.items → v ≡ get_or marks x v → has xs x ≡ v
mark_is g xs marks f p holds x v l e = sym (holds.marked x l) ∙ mark_read marks x v e (omega (arith, holds.marks_all))

-- ---- no node is placed twice

-- what stands at a place is in the list
pub has_from_place : (xs : List ℕ) (i : ℕ) → i < length xs → has xs (get_or xs i 0) ≡ true
has_from_place xs i l = any_passes_from_place (nat_eq (get_or xs i 0)) xs i (get_or xs i 0) (slice_get-get_or xs i 0 l) (eq-eqb _ _ refl)

-- also in the list up to a later place
earlier : (xs : List ℕ) (i j : ℕ) → i < j → j < length xs → has (take j xs) (get_or xs i 0) ≡ true
earlier xs i j l m =
    let low : i < length (take j xs) = omega (arith, length-take {A = ℕ}) in
    subst (λ n. has (take j xs) n ≡ true) (get_or-take j xs i 0 l) (has_from_place (take j xs) i low)

-- no node is placed twice
pub placed_once : (g : Graph) (xs : List ℕ) → IsPlaced g xs → IsDistinct nat_eq xs
placed_once g xs placed = IsDistinct-from_apart nat_eq xs (λ i j d l m. ne_eqb _ _ (λ e.
    let same : get_or xs j 0 ≡ get_or xs i 0 = get_or_default xs j 0 d m ∙ sym e ∙ get_or_default xs i d 0 (omega arith) in
    true≢false (sym (earlier xs i j l m) ∙ sym (ap (has (take j xs)) same) ∙ (placed j m).free.left)))

-- a place of what is in the list
pub place_of : (xs : List ℕ) (q : ℕ) → has xs q ≡ true → (i : ℕ) × (i < length xs) × (get_or xs i 0 ≡ q)
place_of [] q h = absurd (true≢false (sym h))
place_of (x ∷ xs) q h = elim (or_cases (nat_eq q x) (has xs q) h) [
  | inl e ↦ (0, omega arith, sym (eqb-true q x e))
  | inr t ↦ let more = place_of xs q t in (suc more.0, omega (arith, more.1), more.2)
]

-- only nodes are placed, so there are no more
pub placed_inside : (g : Graph) (xs : List ℕ) (q : ℕ) → IsPlaced g xs → has xs q ≡ true → q < length g.nodes.items
placed_inside g xs q placed h = let i = place_of xs q h in subst (λ n. n < length g.nodes.items) i.2 (placed i.0 i.1).free.inside

pub placed_few : (g : Graph) (xs : List ℕ) → IsPlaced g xs → length xs ≤ length g.nodes.items
placed_few g xs placed = length-le_from_distinct_below xs (length g.nodes.items) (placed_once g xs placed) (λ q h. placed_inside g xs q placed h)

-- the node before in a log is a node
pub log_inside : (g : Graph) → IsEventGraph g → (x y : ℕ) (node : Node) → NodeIs g x node → node.log_before ≡ Some y → y < length g.nodes.items
log_inside g graph x y node is e = let link = graph.log_before x y node is e in slice_get_within g.nodes.items y link.0 link.1

-- what is in a part is in the list
pub has_take : (xs : List ℕ) (k q : ℕ) → has (take k xs) q ≡ true → has xs q ≡ true
has_take xs zero q h = absurd (true≢false (sym h))
has_take [] (suc k) q h = h
has_take (x ∷ xs) (suc k) q h = elim (or_cases (nat_eq q x) (has (take k xs) q) h) [
  | inl e ↦ or_left (nat_eq q x) (has xs q) e
  | inr t ↦ or_right (nat_eq q x) (has xs q) (has_take xs k q t)
]
