-- Nodes and places, one after another.
use Rattle.std.proofs.Common.{◌≡◌, ◌∙◌, ℕ, suc, ◌<◌, ◌≤◌, ◌+◌, List, [], ◌∷◌, ◌++◌, length, take, map, flat_map, Some, None, inl, inr, refl, ap, sym, subst, arith, append_assoc}
use Rattle.std.proofs.lemmas.Bool.{cases_eq}
use Rattle.basis.specs.Lists.{nth}
use Rattle.audit_meaning.proofs.Filters.{numbers_more}
use Rattle.audit_meaning.proofs.Places.{first_none}
use Rattle.audit_meaning.proofs.Words.{node_at-step, node_at-close}
use Rattle.basis.proofs.Options.{none_is_not}
use Rattle.basis.proofs.Places.{nth_next, nth_left}
use Rattle.script_tree.specs.Requests.{Request}
use Rattle.period.specs.Traces.{IsBalanced}
use Rattle.script_tree.specs.declared.request.Response.{Response}
use Rattle.period.specs.declared.trace.TraceEvent.{TraceEvent}
use Rattle.period.specs.declared.trace.TraceEvent.TheVariants.{Asked, Answered}
use Rattle.period.specs.declared.report.Report.{Report}
use Rattle.audit_meaning.specs.Lists.{numbers}
use Rattle.audit_meaning.specs.Nodes.{node_at, nodes, nodes_in}
use Rattle.audit_meaning.specs.declared.node.Node.{Node}
use Rattle.audit_meaning.specs.declared.node.Node.TheVariants.{Number as step, End as close}
use Rattle.log_checker.proofs.EntryFacts.{next_take}
use Rattle.log_checker.proofs.Tables.{all_taken}
use Rattle.audit_order.specs.Numbers.{own_nodes}
use Rattle.std.proofs.Common.{cond}
use Rattle.std.specs.Prelude.{unwrap_or}
use Rattle.std.proofs.lemmas.Bool.{eq-eqb}
use Rattle.period.specs.Traces.{request_of, request_in}
use Rattle.audit_meaning.specs.Spots.{count_of}
use Rattle.log_checker.specs.OpMaps.{IsMapOf, count_in}
use Rattle.log_checker.specs.declared.op_map.OpMap.{OpMap}
use Rattle.trace_index.specs.Places.{request_place}
use Rattle.trace_index.proofs.PlaceFacts.{request_absent, request_here}
use Rattle.trace_index.proofs.HeadFacts.{nth_got}

map_both : {A B : Type 0} (f : A → B) (xs ys : List A) → map f (xs ++ ys) ≡ map f xs ++ map f ys
map_both f [] ys = refl
map_both f (x ∷ xs) ys = ap (λ zs. f x ∷ zs) (map_both f xs ys)

flat_both : {A B : Type 0} (f : A → List B) (xs ys : List A) → flat_map f (xs ++ ys) ≡ flat_map f xs ++ flat_map f ys
flat_both f [] ys = refl
flat_both f (x ∷ xs) ys = ap (λ zs. f x ++ zs) (flat_both f xs ys) ∙ sym (append_assoc (f x) (flat_map f xs) (flat_map f ys))

right_none : {A : Type 0} (xs : List A) → xs ++ [] ≡ xs
right_none [] = refl
right_none (x ∷ xs) = ap (λ ys. x ∷ ys) (right_none xs)

-- ---- the nodes of a request

pub own_start : {B : Type 0} (f : ℕ → B) (xs : List B) → xs ≡ xs ++ map f (numbers 0 0)
own_start f xs = sym (right_none xs)

own_push : (f : ℕ → Node) (first xs : List Node) (n : ℕ) (y : Node) → xs ≡ first ++ map f (numbers 0 n) → f n ≡ y
    → xs ++ y ∷ [] ≡ first ++ map f (numbers 0 (n + 1))
own_push f first xs n y e is =
    let next : numbers 0 n ++ n ∷ [] ≡ numbers 0 (n + 1) =
    ap (λ k. numbers 0 n ++ k ∷ []) (let z : n ≡ 0 + n = omega arith in z) ∙ numbers_more 0 n ∙ ap (numbers 0) (let z : suc n ≡ n + 1 = omega arith in z) in
    ap (λ l. l ++ y ∷ []) e
    ∙ append_assoc first (map f (numbers 0 n)) (y ∷ [])
    ∙ ap (λ z. first ++ (map f (numbers 0 n) ++ z ∷ [])) (sym is)
    ∙ ap (λ l. first ++ l) (sym (map_both f (numbers 0 n) (n ∷ [])))
    ∙ ap (λ l. first ++ map f l) next

pub own_more : (count r n : ℕ) (first xs : List Node) → xs ≡ first ++ map (node_at count r) (numbers 0 n) → n ≤ count
    → xs ++ step r n ∷ [] ≡ first ++ map (node_at count r) (numbers 0 (n + 1))
own_more count r n first xs e le = own_push (node_at count r) first xs n (step r n) e (node_at-step count r n le)

pub own_all : (count r n : ℕ) (first xs ys zs : List Node) → xs ≡ first ++ map (node_at count r) (numbers 0 n)
    → n ≡ count → ys ≡ xs ++ step r count ∷ [] → zs ≡ ys ++ close r ∷ [] → zs ≡ first ++ own_nodes count r
own_all count r n first xs ys zs e same ey ez =
    let last = own_more count r count first xs (e ∙ ap (λ k. first ++ map (node_at count r) (numbers 0 k)) same) (omega arith) in
    ez ∙ own_push (node_at count r) first ys (count + 1) (close r) (ey ∙ last) (node_at-close count r (count + 1) (omega arith)) ∙ ap (λ k. first ++ map (node_at count r) (numbers 0 k)) (let z : count + 1 + 1 ≡ count + 2 = omega arith in z)

-- ---- all nodes

pub names_more : (report : Report) (trace : List TraceEvent) (i : ℕ) (e : TraceEvent) (xs : List Node)
    → nth trace i ≡ Some e → xs ≡ flat_map (nodes_in report) (take i trace)
    → xs ++ nodes_in report e ≡ flat_map (nodes_in report) (take (i + 1) trace)
names_more report trace i e xs at is =
    ap (λ l. l ++ nodes_in report e) is
    ∙ sym (ap (flat_map (nodes_in report)) (next_take trace i e at)
    ∙ flat_both (nodes_in report) (take i trace) (e ∷ [])
    ∙ ap (λ l. flat_map (nodes_in report) (take i trace) ++ l) (right_none (nodes_in report e)))

pub names_same : (report : Report) (trace : List TraceEvent) (i r : ℕ) (x : Response) (xs : List Node)
    → nth trace i ≡ Some (Answered r x) → xs ≡ flat_map (nodes_in report) (take i trace)
    → xs ≡ flat_map (nodes_in report) (take (i + 1) trace)
names_same report trace i r x xs at is = sym (right_none xs) ∙ names_more report trace i (Answered r x) xs at is

pub names_all : (report : Report) (trace : List TraceEvent) (n : ℕ) (xs : List Node) → n ≡ length trace
    → xs ≡ flat_map (nodes_in report) (take n trace) → xs ≡ nodes trace report
unfolding nodes
names_all report trace n xs e is = is ∙ ap (flat_map (nodes_in report)) (all_taken trace n e)

-- one member more, of which something holds at its place
pub each_more : {A : Type 0} (P : ℕ → A → Type 0) (xs : List A) (x : A) (n : ℕ) → length xs ≡ n
    → ((i : ℕ) → i < n → (y : A) × (nth xs i ≡ Some y) × P i y) → P n x → (i : ℕ) → i < n + 1
    → (y : A) × (nth (xs ++ x ∷ []) i ≡ Some y) × P i y
each_more P xs x n e h p i lt =
    elim (cases_eq i n) [
      | inl same ↦ (x, ap (nth (xs ++ x ∷ [])) (same ∙ sym e) ∙ nth_next xs [] x, subst (λ k. P k x) (sym same) p)
      | inr apart ↦ let q = h i (omega arith) in (q.0, nth_left xs (x ∷ []) i q.0 q.1, q.2)
    ]

pub places_more : (f : ℕ → ℕ) (xs : List ℕ) (x n : ℕ) → length xs ≡ n → ((i : ℕ) → i < n → nth xs i ≡ Some (f i))
    → x ≡ f n → (i : ℕ) → i < n + 1 → nth (xs ++ x ∷ []) i ≡ Some (f i)
places_more f xs x n e h p i lt =
    elim (cases_eq i n) [
      | inl same ↦ ap (nth (xs ++ x ∷ [])) (same ∙ sym e) ∙ nth_next xs [] x ∙ ap (λ y. Some y) p ∙ ap (λ k. Some (f k)) (sym same)
      | inr apart ↦ nth_left xs (x ∷ []) i (f i) (h i (omega arith))
    ]

-- ---- counts and places

pub counted : (report : Report) (map : OpMap) (r : ℕ) → IsMapOf report map → count_in map r ≡ count_of report r
unfolding count_of
counted report map r h = ap (λ o. unwrap_or o 0) (h.counts r)

-- the request of a response has a place
pub asked_place : (trace : List TraceEvent) (i r : ℕ) (x : Response) → IsBalanced trace → nth trace i ≡ Some (Answered r x) → request_place trace r ≡ None → ⊥
unfolding request_of
asked_place trace i r x b at none =
    let a = b.was_asked r i x at in
    none_is_not (sym (first_none (request_in r) trace a.0 (Asked r a.1) (request_absent r trace none) a.2) ∙ ap (λ t. cond t (Some a.1) None) (eq-eqb r r refl))

pub place_asked : (trace : List TraceEvent) (r p : ℕ) → request_place trace r ≡ Some p → (q : Request) × (nth trace p ≡ Some (Asked r q))
place_asked trace r p e = let h = request_here r trace p e in (h.0, nth_got trace p ∙ h.1)
