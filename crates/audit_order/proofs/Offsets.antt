-- Where the nodes of requests stand among all nodes.
use Rattle.std.proofs.Common.{◌≡◌, ◌∙◌, ℕ, zero, suc, ◌<◌, ◌≤◌, ◌+◌, List, [], ◌∷◌, ◌++◌, length, take, map, flat_map, Some, refl, ap, arith}
use Rattle.std.proofs.lemmas.List.{length-append}
use Rattle.basis.specs.Lists.{nth}
use Rattle.script_tree.specs.Requests.{Request}
use Rattle.period.specs.Traces.{IsBalanced}
use Rattle.period.specs.declared.trace.TraceEvent.{TraceEvent}
use Rattle.period.specs.declared.trace.TraceEvent.TheVariants.{Asked}
use Rattle.period.specs.declared.report.Report.{Report}
use Rattle.audit_meaning.specs.Lists.{numbers}
use Rattle.audit_meaning.specs.Nodes.{nodes, nodes_in, node_at}
use Rattle.audit_meaning.specs.Spots.{count_of}
use Rattle.audit_meaning.specs.declared.node.Node.{Node}
use Rattle.audit_meaning.proofs.GraphOrder.{node_in_event, apart_nodes}
use Rattle.audit_meaning.proofs.Places.{in_flat_back}
use Rattle.audit_meaning.proofs.Words.{map_nth}
use Rattle.basis.proofs.Options.{some_is, none_is_not}
use Rattle.audit_order.specs.Shows.{offset}

nth_behind : {A : Type 0} (xs ys : List A) (i : ℕ) → nth (xs ++ ys) (length xs + i) ≡ nth ys i
nth_behind [] ys i = ap (nth ys) (let e : 0 + i ≡ i = omega arith in e)
nth_behind (x ∷ xs) ys i = ap (nth (x ∷ xs ++ ys)) (let e : suc (length xs) + i ≡ suc (length xs + i) = omega arith in e) ∙ nth_behind xs ys i

nth_front : {A : Type 0} (xs ys : List A) (i : ℕ) → i < length xs → nth (xs ++ ys) i ≡ nth xs i
nth_front [] ys i lt = absurd (omega arith)
nth_front (x ∷ xs) ys zero lt = refl
nth_front (x ∷ xs) ys (suc i) lt = nth_front xs ys i (omega arith)

nth_numbers : (k n i : ℕ) → i < n → nth (numbers k n) i ≡ Some (k + i)
nth_numbers k zero i lt = absurd (omega arith)
nth_numbers k (suc n) zero lt = ap (λ m. Some m) (let e : k ≡ k + 0 = omega arith in e)
nth_numbers k (suc n) (suc i) lt = nth_numbers (suc k) n i (omega arith) ∙ ap (λ m. Some m) (let e : suc k + i ≡ k + suc i = omega arith in e)

length_numbers : (k n : ℕ) → length (numbers k n) ≡ n
length_numbers k zero = refl
length_numbers k (suc n) = ap suc (length_numbers (suc k) n)

map_length : {A B : Type 0} (f : A → B) (xs : List A) → length (map f xs) ≡ length xs
map_length f [] = refl
map_length f (x ∷ xs) = ap suc (map_length f xs)

-- how many nodes a request has
pub own_length : (report : Report) (r : ℕ) (q : Request) → length (nodes_in report (Asked r q)) ≡ count_of report r + 2
own_length report r q = map_length (node_at (count_of report r) r) (numbers 0 (count_of report r + 2)) ∙ length_numbers 0 (count_of report r + 2)

own : (report : Report) (r k : ℕ) (q : Request) → k < count_of report r + 2 → nth (nodes_in report (Asked r q)) k ≡ Some (node_at (count_of report r) r k)
own report r k q lt = map_nth (node_at (count_of report r) r) (numbers 0 (count_of report r + 2)) k k (nth_numbers 0 (count_of report r + 2) k lt ∙ ap (λ m. Some m) (let e : 0 + k ≡ k = omega arith in e))

stands : (report : Report) (trace : List TraceEvent) (i r k : ℕ) (q : Request) → nth trace i ≡ Some (Asked r q) → k < count_of report r + 2
    → nth (flat_map (nodes_in report) trace) (offset trace report i + k) ≡ Some (node_at (count_of report r) r k)
stands report [] i r k q e lt = absurd (none_is_not e)
stands report (t ∷ trace) zero r k q e lt =
    let here : nodes_in report t ≡ nodes_in report (Asked r q) = ap (nodes_in report) (some_is e) in
    ap (λ n. nth (flat_map (nodes_in report) (t ∷ trace)) n) (let z : 0 + k ≡ k = omega arith in z)
    ∙ ap (λ l. nth (l ++ flat_map (nodes_in report) trace) k) here
    ∙ nth_front (nodes_in report (Asked r q)) (flat_map (nodes_in report) trace) k (omega (arith, own_length report r q))
    ∙ own report r k q lt
stands report (t ∷ trace) (suc i) r k q e lt =
    ap (nth (flat_map (nodes_in report) (t ∷ trace)))
    (let l : length (nodes_in report t ++ flat_map (nodes_in report) (take i trace)) ≡ length (nodes_in report t) + length (flat_map (nodes_in report) (take i trace)) = length-append (nodes_in report t) (flat_map (nodes_in report) (take i trace)) in
    let s : offset (t ∷ trace) report (suc i) + k ≡ length (nodes_in report t) + (offset trace report i + k) = omega (arith, l) in s)
    ∙ nth_behind (nodes_in report t) (flat_map (nodes_in report) trace) (offset trace report i + k)
    ∙ stands report trace i r k q e lt

-- a node of a request stands behind its arrival by its number
pub numbered : (report : Report) (trace : List TraceEvent) (i r k : ℕ) (q : Request) → nth trace i ≡ Some (Asked r q)
    → k < count_of report r + 2 → nth (nodes trace report) (offset trace report i + k)
    ≡ Some (node_at (count_of report r) r k)
unfolding nodes
numbered report trace i r k q e lt = stands report trace i r k q e lt

-- the request of a node
pub record Of (trace : List TraceEvent) (report : Report) (x : ℕ) (n : Node) : Type 0 where
  pub place : ℕ
  pub rid : ℕ
  pub request : Request
  pub asked : nth trace place ≡ Some (Asked rid request)
  pub number : ℕ
  pub within : number < count_of report rid + 2
  pub is : x ≡ offset trace report place + number
  pub names : node_at (count_of report rid) rid number ≡ n

pub once_each : (report : Report) (trace : List TraceEvent) → IsBalanced trace → (n : Node) (x y : ℕ)
    → nth (nodes trace report) x ≡ Some n → nth (nodes trace report) y ≡ Some n → x ≡ y
unfolding nodes
once_each report trace b n x y ex ey = apart_nodes report trace b.asked_once n x y ex ey

pub of_number : (report : Report) (trace : List TraceEvent) → IsBalanced trace → (x : ℕ) (n : Node) → nth (nodes trace report) x ≡ Some n → Of trace report x n
unfolding nodes
of_number report trace b x n e =
    let f = in_flat_back (nodes_in report) trace n x e in
    let m = node_in_event report f.0 n f.2 in
    let asked : nth trace f.1.0 ≡ Some (Asked m.0 m.1) = f.1.1 ∙ ap (λ t. Some t) m.2 in
    record {
      place = f.1.0;
      rid = m.0;
      request = m.1;
      asked = asked;
      number = m.3;
      within = m.4;
      is = apart_nodes report trace b.asked_once n x (offset trace report f.1.0 + m.3) e
          (stands report trace f.1.0 m.0 m.3 m.1 asked m.4 ∙ ap (λ t. Some t) m.5);
      names = m.5;
    }

-- a request that comes later has its nodes behind
pub later_behind : (report : Report) (trace : List TraceEvent) (i j r : ℕ) (q : Request) (e : TraceEvent)
    → nth trace i ≡ Some (Asked r q) → nth trace j ≡ Some e → i < j
    → offset trace report i + (count_of report r + 2) ≤ offset trace report j
later_behind report [] i j r q e ei ej lt = absurd (none_is_not ei)
later_behind report (t ∷ trace) i zero r q e ei ej lt = absurd (omega arith)
later_behind report (t ∷ trace) zero (suc j) r q e ei ej lt =
    let l : length (nodes_in report t ++ flat_map (nodes_in report) (take j trace)) ≡ length (nodes_in report t) + length (flat_map (nodes_in report) (take j trace)) = length-append (nodes_in report t) (flat_map (nodes_in report) (take j trace)) in
    let o : length (nodes_in report t) ≡ count_of report r + 2 = ap (λ f. length (nodes_in report f)) (some_is ei) ∙ own_length report r q in
    omega (arith, l, o)
later_behind report (t ∷ trace) (suc i) (suc j) r q e ei ej lt =
    let l : length (nodes_in report t ++ flat_map (nodes_in report) (take j trace)) ≡ length (nodes_in report t) + length (flat_map (nodes_in report) (take j trace)) = length-append (nodes_in report t) (flat_map (nodes_in report) (take j trace)) in
    let m : length (nodes_in report t ++ flat_map (nodes_in report) (take i trace)) ≡ length (nodes_in report t) + length (flat_map (nodes_in report) (take i trace)) = length-append (nodes_in report t) (flat_map (nodes_in report) (take i trace)) in
    let more = later_behind report trace i j r q e ei ej (omega arith) in
    omega (arith, l, m, more)
