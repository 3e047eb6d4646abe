-- A schedule that goes through the logs and the requests in order is a run.
use Rattle.std.proofs.Common.{◌≡◌, ℕ, zero, suc, ◌+◌, ◌<◌, ◌≤◌, Bool, true, false, cond, List, [], ◌∷◌, ◌++◌, length, take, drop, map, Some, None, Option, inl, inr, refl, sym, ap, subst, ◌∙◌, arith, nat_le, if◌then◌else◌, true≢false}
use Rattle.std.proofs.lemmas.Bool.{cases_eq, cases_lt, le-leb, lt-leb}
use Rattle.script_tree.specs.Datum.{Datum}
use Rattle.script_tree.specs.Programs.{Program}
use Rattle.script_tree.specs.declared.operation.Object.{Object}
use Rattle.script_tree.specs.declared.operation.Op.{Op}
use Rattle.script_meaning.specs.Conduct.{Ending, Wants, Ends, Undefined}
use Rattle.script_tree.specs.declared.path.Path.{Path}
use Rattle.basis.specs.Lists.{nth}
use Rattle.basis.proofs.Options.{some_is}
use Rattle.basis.proofs.Places.{nth_within}
use Rattle.script_tree.specs.Requests.{Request}
use Rattle.script_tree.specs.declared.request.Response.{Response}
use Rattle.period.specs.declared.trace.TraceEvent.{TraceEvent}
use Rattle.period.specs.declared.report.LogEntry.{LogEntry}
use Rattle.period.specs.declared.report.Report.{Report}
use Rattle.script_tree.specs.declared.operation.Choice.{Choice}
use Rattle.period.specs.declared.schedule.Moment.{Moment}
use Rattle.period.specs.declared.schedule.Moment.TheVariants.{Arrive, Act as Acts, Depart}
use Rattle.script_tree.specs.Objects.{Cell, Objects, acted, plausible, is_same, holding}
use Rattle.audit_meaning.specs.Spots.{Spot, spot_of, count_of}
use Rattle.period.specs.LeftBy.{left_by}
use Rattle.period.specs.Traces.{request_of, response_of, Precedes}
use Rattle.script_meaning.specs.Replay.{Scene, opening, ending_of, ending_with, next_of, IsAllowed, IsAsTraced, after, after_act, and_answer, with_request, Plays}
use Rattle.script_meaning.specs.Explains.{rid_of, IsWhole, Explains}
use Rattle.audit_meaning.specs.Members.{answer_at, told}
use Rattle.audit_meaning.specs.Nodes.{Node, step, close, node_at, node_of, moment, choice_at, log_of}
use Rattle.audit_meaning.proofs.Cuts.{Chain, Cut, Once, cut_start, cut_here, cut_more, cut_same}
use Rattle.audit_meaning.proofs.Words.{nth_there, nth_map, map_nth, rest_nth, rest_more, folded_more, with_request-here, with_request-there, node_at-step, node_at-close, node_at-owner, owner, step_number, step_is_not, holding-here, holding-there, same_itself}
use Rattle.script_fit.proofs.Stay.{same_object}

-- after k answers the program wants the operation that the report has next_of
pub record IsGood (P : Program) (O : Objects) (R : Report) (r : ℕ) (q : Request) (k : ℕ) : Type 0 where
  pub op : Op
  pub spot : Spot
  pub wants : ending_of P q (told R O r k) ≡ Wants op
  pub found : spot_of R r (suc k) ≡ Some spot
  pub object : spot.object ≡ op.object
  pub act : spot.entry.act ≡ op.act

-- all operations are good and none is left, and the response is the trace's
pub record IsSoundMember (P : Program) (O : Objects) (T : List TraceEvent) (R : Report) (r : ℕ) (q : Request) : Type 0 where
  pub good : (k : ℕ) → k < count_of R r → IsGood P O R r q k
  pub response : Response
  pub path : Path
  pub ends : ending_of P q (told R O r (count_of R r)) ≡ Ends response path
  pub right : response_of T r ≡ Some response

-- what the checks leave
pub record Facts (P : Program) (O : Objects) (T : List TraceEvent) (R : Report) : Type 0 where
  pub in_range : (o : Object) (i : ℕ) (e : LogEntry) → nth (log_of R o) i ≡ Some e
      → (q : Request) × (request_of T e.rid ≡ Some q) × (1 ≤ e.number) × (e.number ≤ count_of R e.rid)
  pub one_log : (o p : Object) (i k : ℕ) (e f : LogEntry) → nth (log_of R o) i ≡ Some e → nth (log_of R p) k ≡ Some f → node_of e ≡ node_of f → o ≡ p
  pub names : (r k : ℕ) (s : Spot) → spot_of R r k ≡ Some s → node_of s.entry ≡ step r k
  pub stands : (r k : ℕ) (s : Spot) → spot_of R r k ≡ Some s → nth (log_of R s.object) (length s.past) ≡ Some s.entry
  pub stands_after : (r k : ℕ) (s : Spot) → spot_of R r k ≡ Some s → take (length s.past) (log_of R s.object) ≡ s.past
  pub fits : (o : Object) (i : ℕ) (e : LogEntry) → nth (log_of R o) i ≡ Some e → plausible e.act e.choice (left_by (take i (log_of R o)) (O o)) ≡ true
  pub members : (r : ℕ) (q : Request) → request_of T r ≡ Some q → IsSoundMember P O T R r q

abbrev pub IsNode : List TraceEvent → Report → Node → Type 0
IsNode T R (step r k) = (q : Request) × (request_of T r ≡ Some q) × (k ≤ count_of R r)
IsNode T R (close r) = (q : Request) × (request_of T r ≡ Some q)

-- what is asked of the order of the nodes
pub record IsOrder (T : List TraceEvent) (R : Report) (N : List Node) : Type 0 where
  pub listed : (x : Node) → IsNode T R x → (i : ℕ) × (nth N i ≡ Some x)
  pub only : (i : ℕ) (x : Node) → nth N i ≡ Some x → IsNode T R x
  pub once : Once N
  pub by_request : (r : ℕ) (q : Request) → request_of T r ≡ Some q → (i k a b : ℕ) → i < k → k < count_of R r + 2
      → nth N a ≡ Some (node_at (count_of R r) r i) → nth N b ≡ Some (node_at (count_of R r) r k) → a < b
  pub by_log : (o : Object) (i k : ℕ) (e f : LogEntry) → i < k → nth (log_of R o) i ≡ Some e
      → nth (log_of R o) k ≡ Some f → (a b : ℕ) → nth N a ≡ Some (node_of e) → nth N b ≡ Some (node_of f) → a < b
  pub by_time : (a b i j : ℕ) → Precedes T a b → nth N i ≡ Some (close a) → nth N j ≡ Some (step b 0) → i < j

abbrev pub or_close : Option LogEntry → Node
or_close None = close 0
or_close (Some e) = node_of e

-- the node of the entry at a place of an object's log
abbrev pub log_node : Report → Object → ℕ → Node
log_node R o i = or_close (nth (log_of R o) i)

-- the answers of a request of which k nodes were played
abbrev opened : Report → Objects → ℕ → ℕ → Option (List Datum)
opened R O r zero = None
opened R O r (suc k) = if nat_le k (count_of R r) then Some (told R O r k) else None

-- an object is the fold of a prefix of its log
record Held (O : Objects) (R : Report) (N : List Node) (t : ℕ) (o : Object) (cell : Cell) : Type 0 where
  taken : ℕ
  cut : Cut N (log_node R o) (length (log_of R o)) taken t
  is : cell ≡ left_by (take taken (log_of R o)) (O o)

-- an open request's answers are a prefix of those of its member's run
record Called (O : Objects) (R : Report) (N : List Node) (t r : ℕ) (a : Option (List Datum)) : Type 0 where
  stage : ℕ
  cut : Cut N (node_at (count_of R r) r) (count_of R r + 2) stage t
  is : a ≡ opened R O r stage

-- what holds after t moments
record Kept (O : Objects) (T : List TraceEvent) (R : Report) (N : List Node) (t : ℕ) (s : Scene) : Type 0 where
  objects : (o : Object) → Held O R N t o (s.objects o)
  requests : (r : ℕ) (q : Request) → request_of T r ≡ Some q → Called O R N t r (s.answers r)

opened-open : (R : Report) (O : Objects) (r k : ℕ) → k ≤ count_of R r → opened R O r (suc k) ≡ Some (told R O r k)
opened-open R O r k l = ap (λ b. cond b (Some (told R O r k)) None) (le-leb k (count_of R r) l)

opened-closed : (R : Report) (O : Objects) (r k : ℕ) → count_of R r < k → opened R O r (suc k) ≡ None
opened-closed R O r k l = ap (λ b. cond b (Some (told R O r k)) None) (lt-leb k (count_of R r) l)

-- the response of an end
response_in : Ending → Response → Response
response_in (Wants op) y = y
response_in (Ends x path) y = x
response_in Undefined y = y

response_by : {x y : Response} {p q : Path} → Ends x p ≡ Ends y q → x ≡ y
unfolding response_in
response_by {x} {y} e = ap (λ z. response_in z x) e

module _ (P : Program) (O : Objects) (T : List TraceEvent) (R : Report) (N : List Node) (facts : Facts P O T R) (order : IsOrder T R N) where
  entry_node : (o : Object) (i : ℕ) (e : LogEntry) → nth (log_of R o) i ≡ Some e → log_node R o i ≡ node_of e
  entry_node o i e h = ap or_close h

  log_chain : (o : Object) → Chain N (log_node R o) (length (log_of R o))
  log_chain o = record {
    listed = λ i l.
        let there = nth_there (log_of R o) i l in
        let range = facts.in_range o i there.0 there.1 in
        let spot = order.listed (node_of there.0) (range.0, range.1, range.3) in
        (spot.0, spot.1 ∙ ap (λ x. Some x) (sym (entry_node o i there.0 there.1)));
    rising = λ i k a b l m at_a at_b.
        let e = nth_there (log_of R o) i (omega arith) in
        let f = nth_there (log_of R o) k m in
        order.by_log o i k e.0 f.0 l e.1 f.1 a b (at_a ∙ ap (λ x. Some x) (entry_node o i e.0 e.1)) (at_b ∙ ap (λ x. Some x) (entry_node o k f.0 f.1));
  }

  call_chain : (r : ℕ) (q : Request) → request_of T r ≡ Some q → Chain N (node_at (count_of R r) r) (count_of R r + 2)
  call_chain r q asked = record {
    listed = λ i l.
        elim (cases_lt i (count_of R r + 1)) [
          | inl low ↦
              let spot = order.listed (step r i) (q, asked, omega arith) in
              (spot.0, spot.1 ∙ ap (λ x. Some x) (sym (node_at-step (count_of R r) r i (omega arith))))
          | inr high ↦
              let spot = order.listed (close r) (q, asked) in
              (spot.0, spot.1 ∙ ap (λ x. Some x) (sym (node_at-close (count_of R r) r i (omega arith))))
        ];
    rising = λ i k a b l m at_a at_b. order.by_request r q asked i k a b l m at_a at_b;
  }

  -- a node of another request leaves a request as it was
  other_request : (t r x : ℕ) (node : Node) (a : Option (List Datum)) → nth N t ≡ Some node → (owner node ≡ x → ⊥)
      → Called O R N t x a → Called O R N (suc t) x a
  other_request t r x node a at_t n c = record {
    stage = c.stage;
    cut = cut_same c.cut (λ i l e. n (ap owner (some_is (sym at_t ∙ e)) ∙ node_at-owner (count_of R x) x i));
    is = c.is;
  }

  -- and so does a node that is no entry of an object's log
  other_object : (t : ℕ) (o : Object) (node : Node) (cell : Cell) → nth N t ≡ Some node
      → ((i : ℕ) (e : LogEntry) → nth (log_of R o) i ≡ Some e → node_of e ≡ node → ⊥) → Held O R N t o cell
      → Held O R N (suc t) o cell
  other_object t o node cell at_t n h = record {
    taken = h.taken;
    cut = cut_same h.cut (λ i l e.
        let there = nth_there (log_of R o) i l in
        n i there.0 there.1 (sym (entry_node o i there.0 there.1) ∙ some_is (sym e ∙ at_t)));
    is = h.is;
  }

  -- ---- an arrival

  arrival : (t : ℕ) (s : Scene) (r : ℕ) → Kept O T R N t s → nth N t ≡ Some (step r 0)
      → IsAllowed P T s (Arrive r) × Kept O T R N (suc t) (after P T s (Arrive r))
  arrival t s r kept at_t =
      let node = order.only t (step r 0) at_t in
      let called = kept.requests r node.0 node.1 in
      let at_0 : nth N t ≡ Some (node_at (count_of R r) r 0) = at_t ∙ ap (λ x. Some x) (sym (node_at-step (count_of R r) r 0 (omega arith))) in
      let here : 0 ≡ called.stage = cut_here (call_chain r node.0 node.1) called.cut 0 (omega arith) at_0 in (
        called.is ∙ ap (opened R O r) (sym here),
        record {
          objects = λ o. other_object t o (step r 0) (s.objects o) at_t (λ i e h same_node. let range = facts.in_range o i e h in let z : e.number ≡ 0 = step_number same_node in absurd (omega (arith, range.2))) (kept.objects o);
          requests = λ x q asked. elim (cases_eq r x) [
            | inl p ↦
                let answers : ℕ → Option (List Datum) = with_request r (Some []) s.answers in
                subst (λ y. Called O R N (suc t) y (answers y)) p (record {
                  stage = 1;
                  cut = subst (λ c. Cut N (node_at (count_of R r) r) (count_of R r + 2) (suc c) (suc t)) (sym here)
                      (cut_more order.once (call_chain r node.0 node.1) called.cut (omega arith)
                      (at_0 ∙ ap (λ c. Some (node_at (count_of R r) r c)) here));
                  is = with_request-here r (Some []) s.answers ∙ sym (opened-open R O r 0 (omega arith));
                })
            | inr n ↦ subst (λ a. Called O R N (suc t) x a) (sym (with_request-there r x (Some []) s.answers n))
                (other_request t r x (step r 0) (s.answers x) at_t n (kept.requests x q asked))
          ];
        },
      )

  -- ---- an operation

  acted_upon : (t : ℕ) (s : Scene) (r k : ℕ) → Kept O T R N t s → nth N t ≡ Some (step r (suc k)) → (q : Request) → suc k ≤ count_of R r
      → (good : IsGood P O R r q k) → s.answers r ≡ Some (told R O r k) → next_of P T s r ≡ Some (Wants good.op)
      → Cut N (node_at (count_of R r) r) (count_of R r + 2) (suc (suc k)) (suc t)
      → IsAllowed P T s (moment R (step r (suc k))) × Kept O T R N (suc t) (after P T s (moment R (step r (suc k))))
  acted_upon t s r k kept at_t q l good answers wants cut =
      subst (λ x. IsAllowed P T s (Acts r (choice_at x)) × Kept O T R N (suc t) (after P T s (Acts r (choice_at x)))) (sym good.found) (
        (good.op, wants, subst (λ a. plausible a c cell ≡ true) good.act (subst (λ x. plausible e.act c x ≡ true) (sym cell_is) (facts.fits o p e stands))),
        subst (λ n. Kept O T R N (suc t) (after_act r c n s)) (sym wants) (record {
          objects = λ x. objects x (is_same o x) refl;
          requests = λ x q' asked'. elim (cases_eq r x) [
            | inl eq ↦ subst (λ y. Called O R N (suc t) y (with_request r (and_answer (s.answers r) answer) s.answers y)) eq (record {
              stage = suc (suc k);
              cut = cut;
              is = with_request-here r (and_answer (s.answers r) answer) s.answers
                  ∙ ap (λ a. and_answer a answer) answers ∙ ap (λ d. Some (told R O r k ++ d ∷ [])) answer_is
                  ∙ sym (opened-open R O r (suc k) l);
            })
            | inr n ↦ subst (λ a. Called O R N (suc t) x a)
                (sym (with_request-there r x (and_answer (s.answers r) answer) s.answers n))
                (other_request t r x (step r (suc k)) (s.answers x) at_t n (kept.requests x q' asked'))
          ];
        }),
      )
    where
      o : Object
      o = good.op.object

      e : LogEntry
      e = good.spot.entry

      c : Choice
      c = e.choice

      cell : Cell
      cell = s.objects o

      p : ℕ
      p = length good.spot.past

      answer : Datum
      answer = (acted good.op.act c cell).1

      named : node_of e ≡ step r (suc k)
      named = facts.names r (suc k) good.spot good.found

      stands : nth (log_of R o) p ≡ Some e
      stands = subst (λ x. nth (log_of R x) p ≡ Some e) good.object (facts.stands r (suc k) good.spot good.found)

      held : Held O R N t o cell
      held = kept.objects o

      at_p : nth N t ≡ Some (log_node R o p)
      at_p = at_t ∙ ap (λ x. Some x) (sym (entry_node o p e stands ∙ named))

      within : p < length (log_of R o)
      within = nth_within (log_of R o) p e stands

      here : p ≡ held.taken
      here = cut_here (log_chain o) held.cut p within at_p

      cell_is : cell ≡ left_by (take p (log_of R o)) (O o)
      cell_is = held.is ∙ ap (λ x. left_by (take x (log_of R o)) (O o)) (sym here)

      answer_is : answer ≡ answer_at O (spot_of R r (suc k))
      answer_is =
          ap (λ a. (acted a c cell).1) (sym good.act)
          ∙ ap (λ x. (acted e.act c x).1) cell_is
          ∙ ap (λ x. (acted e.act c (left_by (take p (log_of R x)) (O x))).1) (sym good.object)
          ∙ ap (λ x. (acted e.act c (left_by x (O good.spot.object))).1) (facts.stands_after r (suc k) good.spot good.found)
          ∙ ap (answer_at O) (sym good.found)

      new : Cell
      new = (acted good.op.act c cell).0

      new_is : new ≡ left_by (take (suc p) (log_of R o)) (O o)
      new_is =
          ap (λ a. (acted a c cell).0) (sym good.act)
          ∙ ap (λ x. (acted e.act c x).0) cell_is
          ∙ sym (folded_more (log_of R o) p e (O o) stands)

      objects : (x : Object) (b : Bool) → is_same o x ≡ b → Held O R N (suc t) x (holding o new s.objects x)
      objects x true eq = subst (λ y. Held O R N (suc t) y (holding o new s.objects y)) (same_object o x eq) (record {
        taken = suc p;
        cut = subst (λ y. Cut N (log_node R o) (length (log_of R o)) (suc y) (suc t)) (sym here)
            (cut_more order.once (log_chain o) held.cut (subst (λ y. y < length (log_of R o)) here within)
            (at_p ∙ ap (λ y. Some (log_node R o y)) here));
        is = holding-here o new s.objects ∙ new_is;
      })
      objects x false ne = subst (λ y. Held O R N (suc t) x y) (sym (holding-there o x new s.objects ne))
          (other_object t x (step r (suc k)) (s.objects x) at_t
          (λ i f h same_node. true≢false (sym (subst (λ y. is_same o y ≡ true) (facts.one_log o x p i e f stands h (named ∙ sym same_node)) (same_itself o)) ∙ ne))
          (kept.objects x))

  acting : (t : ℕ) (s : Scene) (r k : ℕ) → Kept O T R N t s → nth N t ≡ Some (step r (suc k))
      → IsAllowed P T s (moment R (step r (suc k))) × Kept O T R N (suc t) (after P T s (moment R (step r (suc k))))
  acting t s r k kept at_t =
      let node = order.only t (step r (suc k)) at_t in
      let called = kept.requests r node.0 node.1 in
      let at_k : nth N t ≡ Some (node_at (count_of R r) r (suc k)) = at_t ∙ ap (λ x. Some x) (sym (node_at-step (count_of R r) r (suc k) node.2)) in
      let here : suc k ≡ called.stage = cut_here (call_chain r node.0 node.1) called.cut (suc k) (omega (arith, node.2)) at_k in
      let good = (facts.members r node.0 node.1).good k node.2 in
      let answers : s.answers r ≡ Some (told R O r k) = called.is ∙ ap (opened R O r) (sym here) ∙ opened-open R O r k (omega (arith, node.2)) in
      let wants : next_of P T s r ≡ Some (Wants good.op) =
      ap (λ q. ending_with P q (s.answers r)) node.1 ∙ ap (ending_with P (Some node.0)) answers ∙ ap (λ x. Some x) good.wants in
      acted_upon t s r k kept at_t node.0 node.2 good answers wants
      (subst (λ c. Cut N (node_at (count_of R r) r) (count_of R r + 2) (suc c) (suc t)) (sym here)
      (cut_more order.once (call_chain r node.0 node.1) called.cut (omega (arith, node.2))
      (at_k ∙ ap (λ c. Some (node_at (count_of R r) r c)) here)))

  -- ---- a departure

  departure : (t : ℕ) (s : Scene) (r : ℕ) → Kept O T R N t s → nth N t ≡ Some (close r)
      → IsAllowed P T s (Depart r) × IsAsTraced P T s (Depart r) × Kept O T R N (suc t) (after P T s (Depart r))
  departure t s r kept at_t =
      let node = order.only t (close r) at_t in
      let m = count_of R r in
      let called = kept.requests r node.0 node.1 in
      let at_m : nth N t ≡ Some (node_at (count_of R r) r (suc (count_of R r))) = at_t ∙ ap (λ x. Some x) (sym (node_at-close (count_of R r) r (suc (count_of R r)) (omega arith))) in
      let here : suc (count_of R r) ≡ called.stage = cut_here (call_chain r node.0 node.1) called.cut (suc (count_of R r)) (omega arith) at_m in
      let member = facts.members r node.0 node.1 in
      let answers : s.answers r ≡ Some (told R O r (count_of R r)) = called.is ∙ ap (opened R O r) (sym here) ∙ opened-open R O r (count_of R r) (omega arith) in
      let ends : next_of P T s r ≡ Some (Ends member.response member.path)
      = ap (λ q. ending_with P q (s.answers r)) node.1 ∙ ap (ending_with P (Some node.0)) answers ∙ ap (λ x. Some x) member.ends in (
        (member.response, member.path, ends),
        (λ response path e. member.right ∙ ap (λ x. Some x) (response_by (some_is (sym ends ∙ e)))),
        record {
          objects = λ o. other_object t o (close r) (s.objects o) at_t (λ i e h same_node. step_is_not same_node) (kept.objects o);
          requests = λ x q asked. elim (cases_eq r x) [
            | inl p ↦
                let answers : ℕ → Option (List Datum) = with_request r None s.answers in
                subst (λ y. Called O R N (suc t) y (answers y)) p (record {
                  stage = suc (suc (count_of R r));
                  cut = subst (λ c. Cut N (node_at (count_of R r) r) (count_of R r + 2) (suc c) (suc t)) (sym here)
                      (cut_more order.once (call_chain r node.0 node.1) called.cut (omega arith)
                      (at_m ∙ ap (λ c. Some (node_at (count_of R r) r c)) here));
                  is = with_request-here r None s.answers ∙ sym (opened-closed R O r (suc (count_of R r)) (omega arith));
                })
            | inr n ↦ subst (λ a. Called O R N (suc t) x a) (sym (with_request-there r x None s.answers n))
                (other_request t r x (close r) (s.answers x) at_t n (kept.requests x q asked))
          ];
        },
      )

  one_moment : (t : ℕ) (s : Scene) (node : Node) → Kept O T R N t s → nth N t ≡ Some node
      → IsAllowed P T s (moment R node) × IsAsTraced P T s (moment R node) × Kept O T R N (suc t) (after P T s (moment R node))
  one_moment t s (step r zero) kept at_t = let m = arrival t s r kept at_t in (m.0, tt, m.1)
  one_moment t s (step r (suc k)) kept at_t = let m = acting t s r k kept at_t in (m.0, tt, m.1)
  one_moment t s (close r) kept at_t = departure t s r kept at_t

  all_moments : (rest : List Node) (t : ℕ) (s : Scene) → drop t N ≡ rest → Kept O T R N t s → Plays P T s (map (moment R) rest)
  all_moments [] t s is kept = tt
  all_moments (node ∷ rest) t s is kept =
      let one = one_moment t s node kept (rest_nth N t node rest is) in
      (one.0, one.1, all_moments rest (suc t) (after P T s (moment R node)) (rest_more N t node rest is) one.2)

  kept_start : Kept O T R N 0 (opening O)
  kept_start = record {
    objects = λ o. record { taken = 0; cut = cut_start N (log_node R o) (length (log_of R o)); is = refl };
    requests = λ r q asked. record { stage = 0; cut = cut_start N (node_at (count_of R r) r) (count_of R r + 2); is = refl };
  }

  pub plays : Plays P T (opening O) (map (moment R) N)
  plays = all_moments N 0 (opening O) refl kept_start

abbrev IsArrive : Moment → Type 0
IsArrive (Arrive r) = Unit {0}
IsArrive (Acts r c) = ⊥
IsArrive (Depart r) = ⊥

abbrev IsActs : Moment → Type 0
IsActs (Arrive r) = ⊥
IsActs (Acts r c) = Unit {0}
IsActs (Depart r) = ⊥

abbrev IsDepart : Moment → Type 0
IsDepart (Arrive r) = ⊥
IsDepart (Acts r c) = ⊥
IsDepart (Depart r) = Unit {0}

pub about_moment : (R : Report) (x : Node) → rid_of (moment R x) ≡ owner x
about_moment R (step r zero) = refl
about_moment R (step r (suc k)) = refl
about_moment R (close r) = refl

pub arrive_node : (R : Report) (x : Node) (r : ℕ) → moment R x ≡ Arrive r → x ≡ step r 0
arrive_node R (step a zero) r e = ap (λ m. step (rid_of m) 0) e
arrive_node R (step a (suc k)) r e = absurd (subst IsActs e tt)
arrive_node R (close a) r e = absurd (subst IsDepart e tt)

pub depart_node : (R : Report) (x : Node) (r : ℕ) → moment R x ≡ Depart r → x ≡ close r
depart_node R (step a zero) r e = absurd (subst IsArrive e tt)
depart_node R (step a (suc k)) r e = absurd (subst IsActs e tt)
depart_node R (close a) r e = ap (λ m. close (rid_of m)) e

pub acts_node : (R : Report) (x : Node) (r : ℕ) (c : Choice) → moment R x ≡ Acts r c → (k : ℕ) × (x ≡ step r (suc k))
acts_node R (step a zero) r c e = absurd (subst IsArrive e tt)
acts_node R (step a (suc k)) r c e = (k, ap (λ m. step (rid_of m) (suc k)) e)
acts_node R (close a) r c e = absurd (subst IsDepart e tt)

module _ (T : List TraceEvent) (R : Report) (N : List Node) (order : IsOrder T R N) where
  request_of_node : (x : Node) → IsNode T R x → (q : Request) × (request_of T (owner x) ≡ Some q)
  request_of_node (step r k) h = (h.0, h.1)
  request_of_node (close r) h = h

  moments_of_trace : (i : ℕ) (m : Moment) → nth (map (moment R) N) i ≡ Some m → (q : Request) × (request_of T (rid_of m) ≡ Some q)
  moments_of_trace i m e =
      let node = nth_map (moment R) N i m e in
      let asked = request_of_node node.0 (order.only i node.0 node.1) in
      (asked.0, ap (request_of T) (ap rid_of (sym node.2) ∙ about_moment R node.0) ∙ asked.1)

  at_node : (i : ℕ) (x : Node) (m : Moment) → nth (map (moment R) N) i ≡ Some m → ((y : Node) → moment R y ≡ m → y ≡ x) → nth N i ≡ Some x
  at_node i x m e only = let node = nth_map (moment R) N i m e in node.1 ∙ ap (λ y. Some y) (only node.0 node.2)

  moments_whole : (r : ℕ) (q : Request) → request_of T r ≡ Some q → IsWhole (map (moment R) N) r
  moments_whole r q asked =
      let a = order.listed (step r 0) (q, asked, omega arith) in
      let d = order.listed (close r) (q, asked) in
      let at_a : nth N a.0 ≡ Some (node_at (count_of R r) r 0) = a.1 ∙ ap (λ x. Some x) (sym (node_at-step (count_of R r) r 0 (omega arith))) in
      let at_d : nth N d.0 ≡ Some (node_at (count_of R r) r (suc (count_of R r))) = d.1 ∙ ap (λ x. Some x) (sym (node_at-close (count_of R r) r (suc (count_of R r)) (omega arith))) in
      record {
        arrival = a.0;
        departure = d.0;
        arrives = map_nth (moment R) N a.0 (step r 0) a.1;
        departs = map_nth (moment R) N d.0 (close r) d.1;
        arrives_once = λ i e. order.once (step r 0) i a.0 (at_node i (step r 0) (Arrive r) e (λ y h. arrive_node R y r h)) a.1;
        departs_once = λ i e. order.once (close r) i d.0 (at_node i (close r) (Depart r) e (λ y h. depart_node R y r h)) d.1;
        in_order = order.by_request r q asked 0 (suc (count_of R r)) a.0 d.0 (omega arith) (omega arith) at_a at_d;
        acts_between = λ i c e.
            let node = nth_map (moment R) N i (Acts r c) e in
            let k = acts_node R node.0 r c node.2 in
            let at_i : nth N i ≡ Some (step r (suc k.0)) = node.1 ∙ ap (λ x. Some x) k.1 in
            let range = order.only i (step r (suc k.0)) at_i in
            let at_k : nth N i ≡ Some (node_at (count_of R r) r (suc k.0)) = at_i ∙ ap (λ x. Some x) (sym (node_at-step (count_of R r) r (suc k.0) range.2)) in (
              order.by_request r q asked 0 (suc k.0) a.0 i (omega arith) (omega (arith, range.2)) at_a at_k,
              order.by_request r q asked (suc k.0) (suc (count_of R r)) i d.0 (omega (arith, range.2))
                  (omega arith) at_k at_d,
            );
      }

-- a schedule by such an order explains the trace
pub explains : (P : Program) (O : Objects) (T : List TraceEvent) (R : Report) (N : List Node) → Facts P O T R
    → IsOrder T R N → Explains P O T (map (moment R) N)
explains P O T R N facts order = record {
  whole = moments_whole T R N order;
  of_trace = moments_of_trace T R N order;
  in_time = λ a b i j before e f. order.by_time a b i j before
      (at_node T R N order i (close a) (Depart a) e (λ y h. depart_node R y a h))
      (at_node T R N order j (step b 0) (Arrive b) f (λ y h. arrive_node R y b h));
  plays = plays P O T R N facts order;
}
