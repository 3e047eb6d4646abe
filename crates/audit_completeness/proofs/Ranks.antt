-- In a run that is over, each request comes, does its operations by number, and goes.
use Rattle.std.proofs.Common.{◌≡◌, ℕ, suc, ◌<◌, ◌≤◌, Bool, true, false, cond, List, length, take, filter_map, Some, None, inl, inr, refl, sym, ap, subst, ◌∙◌, arith, nat_eq}
use Rattle.std.proofs.lemmas.Bool.{cases_order, eq-eqb, eqb-true}
use Rattle.std.proofs.lemmas.List.{take_all}
use Rattle.script_tree.specs.Programs.{Program}
use Rattle.script_tree.specs.declared.operation.Op.{Op}
use Rattle.script_tree.specs.declared.path.Path.{Path}
use Rattle.basis.specs.Lists.{nth}
use Rattle.basis.proofs.Options.{some_is, none_is_not}
use Rattle.basis.proofs.Places.{In, nth_take}
use Rattle.audit_meaning.specs.Lists.{numbers}
use Rattle.script_tree.specs.declared.operation.Choice.{Choice}
use Rattle.script_tree.specs.Requests.{Request}
use Rattle.script_tree.specs.declared.request.Response.{Response}
use Rattle.script_tree.specs.Objects.{Objects}
use Rattle.audit_meaning.specs.declared.node.Node.{Node}
use Rattle.audit_meaning.specs.declared.node.Node.TheVariants.{Number as step, End as close}
use Rattle.history.specs.Names.{Named, came, did, went}
use Rattle.history.specs.ReportOf.{did_in}
use Rattle.audit_meaning.proofs.Words.{owner}
use Rattle.audit_meaning.proofs.Places.{in_numbers, numbers_in, take_nth}
use Rattle.audit_meaning.proofs.Filters.{from, in_filter, length_numbers}
use Rattle.audit_completeness.proofs.Runs.{Visit, Hall, hall, Takes, IsRun, id_of, Standing, absent, present, gone, before_each, at_last}

-- M(r)
abbrev pub total : List Named → ℕ → ℕ
total E r = length (filter_map (did_in r) E)

abbrev pub rank : List Named → Named → ℕ
rank E (came r q) = 0
rank E (did r k op c) = k
rank E (went r x p) = suc (total E r)

abbrev pub node_in : Named → Node
node_in (came r q) = step r 0
node_in (did r k op c) = step r k
node_in (went r x p) = close r

pub did_in_some : (r k : ℕ) (e : Named) → did_in r e ≡ Some k → (op : Op) × (c : Choice) × (e ≡ did r k op c)
did_in_some r k (came a q) h = absurd (none_is_not h)
did_in_some r k (went a x p) h = absurd (none_is_not h)
did_in_some r k (did a j op c) h = go (nat_eq r a) refl h
  where
    go : (b : Bool) → nat_eq r a ≡ b → cond b (Some j) None ≡ Some k → (o : Op) × (d : Choice) × (did a j op c ≡ did r k o d)
    go true p q = (op, c, λ i. did (sym (eqb-true r a p) i) (some_is q i) op c)
    go false p q = absurd (none_is_not q)

pub did_in_itself : (r k : ℕ) (op : Op) (c : Choice) → did_in r (did r k op c) ≡ Some k
did_in_itself r k op c = ap (λ b. cond b (Some k) None) (eq-eqb r r refl)

module _ (P : Program) (O : Objects) (E : List Named) (run : IsRun P (hall O) E) where
  -- what a request has done in the end
  pub record Whole (r : ℕ) : Type 0 where
    pub dids : filter_map (did_in r) E ≡ numbers 1 (total E r)
    pub request : Request
    pub comes : In E (came r request)
    pub response : Response
    pub path : Path
    pub goes : In E (went r response path)

  pub whole : (i : ℕ) (e : Named) → nth E i ≡ Some e → Whole (id_of e)
  whole i e h = by (at_last P O E run).0 ((at_last P O E run).1.standing (id_of e)) ((at_last P O E run).2 (id_of e))
    where
      all : take (length E) E ≡ E
      all = take_all (length E) E (omega arith)

      by : (z : Hall) → Standing (take (length E) E) z.arrived (id_of e) (z.visits (id_of e)) → z.visits (id_of e) ≡ None → Whole (id_of e)
      by z (absent none l never dids) closed = absurd (never e (subst (λ x. In x e) (sym all) (i, h)) refl)
      by z (present q ans some l m dids stays) closed = absurd (none_is_not (sym closed ∙ some))
      by z (gone n q x p none l m dids left) closed =
          let is : filter_map (did_in (id_of e)) E ≡ numbers 1 n = ap (filter_map (did_in (id_of e))) (sym all) ∙ dids in
          record {
            dids = is ∙ ap (numbers 1) (sym (ap length is ∙ length_numbers 1 n));
            request = q;
            comes = subst (λ y. In y (came (id_of e) q)) all m;
            response = x;
            path = p;
            goes = subst (λ y. In y (went (id_of e) x p)) all left;
          }

  -- an operation's number is within the total
  pub did_range : (i r k : ℕ) (op : Op) (c : Choice) → nth E i ≡ Some (did r k op c) → (1 ≤ k) × (k ≤ total E r)
  did_range i r k op c h =
      let w = whole i (did r k op c) h in
      let m = in_filter (did_in r) E i (did r k op c) k h (did_in_itself r k op c) in
      let range = numbers_in 1 (total E r) k m.0 (ap (λ xs. nth xs m.0) (sym w.dids) ∙ m.1) in
      (range.0, omega (arith, range.1))

  pub did_there : (r k : ℕ) → Whole r → 1 ≤ k → k ≤ total E r → (i : ℕ) × (op : Op) × (c : Choice) × (nth E i ≡ Some (did r k op c))
  did_there r k w l m =
      let n = in_numbers 1 (total E r) k l (omega arith) in
      let f = from (did_in r) E n.0 k (ap (λ xs. nth xs n.0) w.dids ∙ n.1) in
      let is = did_in_some r k f.x f.gives in
      (f.place, is.0, is.1, f.here ∙ ap (λ e. Some e) is.2)

  -- what a request does later has a greater rank
  pub later : (i j : ℕ) (e f : Named) → nth E i ≡ Some e → nth E j ≡ Some f → id_of e ≡ id_of f → i < j → rank E e < rank E f
  later i j e f at_i at_j same l =
      let b = before_each P O E run j f at_j in
      by f at_j same b.0 b.2 (b.1.standing (id_of f))
    where
      seen : In (take j E) e
      seen = (i, nth_take E j i e l at_i)

      done_before : (r k n : ℕ) (op : Op) (c : Choice) → In (take j E) (did r k op c) → filter_map (did_in r) (take j E) ≡ numbers 1 n → (1 ≤ k) × (k ≤ n)
      done_before r k n op c m h =
          let p = in_filter (did_in r) (take j E) m.0 (did r k op c) k m.1 (did_in_itself r k op c) in
          let range = numbers_in 1 n k p.0 (ap (λ xs. nth xs p.0) (sym h) ∙ p.1) in
          (range.0, omega (arith, range.1))

      -- what was seen of a request that is open with n answers has a rank below n + 1
      below : (g : Named) (r n : ℕ) → In (take j E) g → id_of g ≡ r → filter_map (did_in r) (take j E) ≡ numbers 1 n
          → ((x : Response) (p : Path) → In (take j E) (went r x p) → ⊥) → rank E g < suc n
      below (came a q) r n m is dids stays = omega arith
      below (did a k op c) r n m is dids stays = let h = done_before a k n op c m (subst (λ x. filter_map (did_in x) (take j E) ≡ numbers 1 n) (sym is) dids) in omega (arith, h.1)
      below (went a x p) r n m is dids stays = absurd (stays x p (subst (λ y. In (take j E) (went y x p)) is m))

      by : (g : Named) → nth E j ≡ Some g → id_of e ≡ id_of g → (z : Hall) → Takes P z g
          → Standing (take j E) z.arrived (id_of g) (z.visits (id_of g)) → rank E e < rank E g
      by g at_g is z takes (absent none low never dids) = absurd (never e seen is)
      by (came r q) at_g is z takes (present p ans some low m dids stays) = absurd (omega (arith, takes, low))
      by (came r q) at_g is z takes (gone n p x y none low m dids left) = absurd (omega (arith, takes, low))
      by (did r k op c) at_g is z takes (gone n p x y none low m dids left) = absurd (none_is_not (sym none ∙ takes.1))
      by (went r a b) at_g is z takes (gone n p x y none low m dids left) = absurd (none_is_not (sym none ∙ takes.1))
      by (did r k op c) at_g is z takes (present p ans some low m dids stays) =
          let v : takes.0 ≡ (p, ans) = some_is (sym takes.1 ∙ some) in
          let n : k ≡ suc (length ans) = takes.2 ∙ ap (λ (w : Visit). suc (length w.1)) v in
          let h = below e r (length ans) seen is dids stays in
          omega (arith, h)
      by (went r a b) at_g is z takes (present p ans some low m dids stays) = last_rank e is seen
        where
          last_rank : (g : Named) → id_of g ≡ r → In (take j E) g → rank E g < suc (total E r)
          last_rank (came a2 q) eq s = omega arith
          last_rank (did a2 k op c) eq s = let h = (did_range s.0 a2 k op c (take_nth E j s.0 (did a2 k op c) s.1)).1 in subst (λ w. k < suc (total E w)) eq (omega (arith, h))
          last_rank (went a2 x y) eq s = absurd (stays x y (subst (λ w. In (take j E) (went w x y)) eq s))

  pub same_rank : (i j : ℕ) (e f : Named) → nth E i ≡ Some e → nth E j ≡ Some f → id_of e ≡ id_of f → rank E e ≡ rank E f → i ≡ j
  same_rank i j e f at_i at_j same eq = elim (cases_order i j) [
    | inl p ↦ p
    | inr (inl low) ↦ let h : rank E e < rank E f = later i j e f at_i at_j same low in absurd (omega (arith, eq))
    | inr (inr high) ↦ let h : rank E f < rank E e = later j i f e at_j at_i (sym same) high in absurd (omega (arith, eq))
  ]

  pub earlier : (i j : ℕ) (e f : Named) → nth E i ≡ Some e → nth E j ≡ Some f → id_of e ≡ id_of f → rank E e < rank E f → i < j
  earlier i j e f at_i at_j same less = elim (cases_order i j) [
    | inl p ↦ let is : e ≡ f = some_is (sym at_i ∙ ap (nth E) p ∙ at_j) in let h : rank E e ≡ rank E f = ap (rank E) is in absurd (omega arith)
    | inr (inl low) ↦ low
    | inr (inr high) ↦ let h : rank E f < rank E e = later j i f e at_j at_i (sym same) high in absurd (omega arith)
  ]

pub node_owner : (e : Named) → owner (node_in e) ≡ id_of e
node_owner (came r q) = refl
node_owner (did r k op c) = refl
node_owner (went r x p) = refl
