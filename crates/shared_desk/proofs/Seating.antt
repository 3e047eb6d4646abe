-- A desk opens and closes, and its seats are split off and taken in, by the rule.
use Rattle.std.proofs.Common.{◌≡◌, ◌≢◌, ℕ, ◌+◌, ◌<◌, ◌≤◌, List, [], ◌∷◌, ◌++◌, false, eqb, cond, refl, sym, ap, ◌∙◌, subst, set, length}
use Rattle.std.proofs.Common.{length-set, length-append, arith, append-nil}
use Rattle.std.specs.Prelude.{Option, Some, None, sum_by}
use Rattle.std.proofs.lemmas.List.Sums.{sum_by-append}
use mathlib.Core.Logic.{dite}
use mathlib.Core.Option.{Option as May, some, some-ne-none}
use native.Mathlib.Decide.{ℕ_discrete, dec_le}
use lib.ListN.{get_elem?}
use Rattle.atomic_table.specs.Table.{opening, Splits, Joins, Final, Seen}
use Rattle.atomic_table.proofs.Lists.{set_else}
use Rattle.desk.specs.declared.bench.Call.{Call}
use Rattle.shared_desk.specs.declared.kept.Kept.{Kept}
use Rattle.shared_desk.specs.Kept.{calls_of, KeepsCalls}
use Rattle.desk.specs.Runs.{Runs, calls_by, StartsWith}
use Rattle.shared_desk.specs.declared.rule.View.{View}
use Rattle.shared_desk.specs.declared.shared.TheConstants.{MOST_SEATS}
use Rattle.shared_desk.specs.Views.{seats, HasAllSeats, first_view, with_split, new_view, with_joined, spent_view}
use Rattle.shared_desk.specs.Calls.{HaveSameCalls}
use Rattle.shared_desk.specs.InOrder.{DeskSlot, DeskState, times_held, once_below, KnowsHistory, HasItsCalls, AreNumbered}
use Rattle.shared_desk.specs.InOrder.{IsInOrder}
use Rattle.shared_desk.proofs.Histories.{calls_by-append, starts_with_longer, starts_with_shorter}
use Rattle.shared_desk.proofs.Sums.{once_below-one, once_below-le, once_below-in, once_below-out, times_one, times_self, times_none, same_at}
use Rattle.shared_desk.proofs.Sums.{each_set, each_end, sum_by-set, sum_by-two, sum_by-alone}
use Rattle.shared_desk.proofs.Parts.{none_some, false_true, numbered_set, numbered_end, line_set, line_end, turn_idle, turn_end, called_set}

module _ {S E R J : Type 0} (steps : S → ℕ → E → R → S → Type 0) (start : S) (keeps : List (Call E R) → J → Type 0) where
  -- a fact of the one view that a desk opens with
  only : (P : ℕ → View S E R → Type 0) → P 0 (first_view start) → (j : ℕ) (v : View S E R) → get_elem? (first_view start ∷ []) j ≡ some v → P j v
  only P here j v at = each_end P [] (first_view start) here (λ j v at. absurd (some-ne-none v (sym at))) j v at

  opens : (h : Kept S E R J) → calls_of h ≡ [] → h.state ≡ start → KeepsCalls keeps h
      → IsInOrder steps start keeps (opening (0 ∷ 0 ∷ 0 ∷ []) (Some h ∷ []) (first_view start))
  opens h empty same journal = record {
    history = [];
    served = 0;
    next = 0;
    made = 1;
    who = None;
    words_are = refl;
    numbered = record { one_each = refl; few = omega arith; seated = refl; once = once_below-one };
    in_line = record {
      count = refl;
      between = λ j v k at t. only (λ j v. v.ticket ≡ Some k → (0 ≤ k) × (k < 0)) (λ t. absurd (none_some k t)) j v at t;
      apart = λ i j v w k at at' t t'. only (λ i v. v.ticket ≡ Some k → i ≡ j) (λ t. absurd (none_some k t)) i v at t;
    };
    one_turn = record {
      served_is = λ j v at t. absurd (false_true v.turn (only (λ j v. v.turn ≡ false) refl j v at) t);
      has_turn = λ j e. absurd (none_some j e);
    };
    called = record { own = only (λ j v. HasItsCalls [] v) record { held = λ p e. refl; bare = λ p e. refl }; unmade = λ p far. refl };
    known = only (λ j v. 0 < seats v → KnowsHistory start [] 1 j v)
        (λ live. record { opened = refl; numbered = refl; own = refl; counted = λ e. refl; seen = ([], refl); front = ([], refl) });
    kept = record {
      home = λ e. (h, refl, record { calls = empty; runs = sym same; journal = journal });
      away = λ j e. absurd (none_some j e);
    };
  }

  pub opens_with : (xs : List (DeskSlot S E R J)) (h : Kept S E R J) → xs ≡ Some h ∷ [] → calls_of h ≡ [] → h.state ≡ start → KeepsCalls keeps h
      → IsInOrder steps start keeps (opening (0 ∷ 0 ∷ 0 ∷ []) xs (first_view start))
  opens_with xs h is empty same journal =
      subst (λ (l : List (DeskSlot S E R J)). IsInOrder steps start keeps (opening (0 ∷ 0 ∷ 0 ∷ []) l (first_view start))) (sym is) (opens h empty same journal)

module _ {S E R J : Type 0} (steps : S → ℕ → E → R → S → Type 0) (start : S) (keeps : List (Call E R) → J → Type 0) (id : ℕ) (v : View S E R) where
  -- a seat is split off by the first
  pub splits_on : v.number ≡ 0 → 0 < seats v → v.turn ≡ false → v.split_off + 1 < MOST_SEATS
      → Splits (IsInOrder steps start keeps) id v (with_split v) (new_view v)
  splits_on first live no_turn few s r at =
      let left = with_split v in let right = new_view v in
      let views = set s.views id left in
      let k = r.known id v at live in
      let id_is : id ≡ 0 = sym k.numbered ∙ first in
      let all_made : v.split_off + 1 ≡ r.made = k.counted id_is in
      let numbered = numbered_set s.views id v left at r.made refl r.numbered in
      let place : length views ≡ r.made = numbered.one_each in
      let has = r.called.own id v at in
      let called = called_set s.views id v left at r.history r.made record { held = has.held; bare = has.bare } r.called in
      record {
        history = r.history;
        served = r.served;
        next = r.next;
        made = r.made + 1;
        who = r.who;
        words_are = r.words_are;
        numbered = numbered_end views r.made right (omega arith) (ap (λ (n : ℕ). n ∷ []) all_made) numbered;
        in_line = line_end views r.served r.next right refl (line_set s.views id v left at r.served r.next refl r.in_line);
        one_turn = turn_end views r.history r.served r.who right refl
            (turn_idle s.views id v left at r.history r.served r.who no_turn no_turn r.one_turn);
        called = record {
          own = each_end (λ j u. HasItsCalls r.history u) views right
              record { held = λ p e. sym (r.called.unmade p (let q = times_one p (v.split_off + 1) e in omega arith)); bare = λ p e. refl } called.own;
          unmade = λ p far. r.called.unmade p (omega arith);
        };
        known = each_end (λ j u. 0 < seats u → KnowsHistory start r.history (r.made + 1) j u) views right
            (λ l. record {
              opened = k.opened;
              numbered = all_made ∙ sym place;
              own = times_self (length views) (v.split_off + 1) (place ∙ sym all_made);
              counted = λ e. absurd (omega arith);
              seen = k.seen;
              front = (r.history, refl);
            })
            (each_set (λ j u. 0 < seats u → KnowsHistory start r.history (r.made + 1) j u) s.views id left
            (λ l. record { opened = k.opened; numbered = k.numbered; own = k.own; counted = λ e. omega arith; seen = k.seen; front = k.front })
            (λ j u ne e l. let o = r.known j u e l in record {
              opened = o.opened;
              numbered = o.numbered;
              own = o.own;
              counted = λ e. absurd (ne (e ∙ sym id_is));
              seen = o.seen;
              front = o.front;
            }));
        kept = r.kept;
      }

  -- the calls of a number that one of two seats has
  both_have : (w : View S E R) (history : List (Call E R)) (p : ℕ) → HasItsCalls history v → HasItsCalls history w
      → times_held p v + times_held p w ≡ 1 → calls_by p (v.calls ++ w.calls) ≡ calls_by p history
  both_have w history p of_v of_w one = dite (ℕ_discrete (times_held p v) 1)
      (λ (e : times_held p v ≡ 1). calls_by-append p v.calls w.calls
      ∙ (ap (λ l. calls_by p v.calls ++ l) (of_w.bare p (omega arith)) ∙ (append-nil (calls_by p v.calls) ∙ of_v.held p e)))
      (λ (n : times_held p v ≢ 1). calls_by-append p v.calls w.calls
      ∙ (ap (λ l. l ++ calls_by p w.calls) (of_v.bare p (omega arith)) ∙ of_w.held p (omega arith)))

  times_held-joined : (p : ℕ) (w : View S E R) → times_held p (with_joined v w) ≡ times_held p v + times_held p w
  times_held-joined p w = sum_by-append (λ n. cond (eqb n p) 1 0) v.numbers w.numbers

  -- the numbers of two seats are each held once in all
  numbered_joined : (views : List (View S E R)) (other : ℕ) (w : View S E R) (made : ℕ) → get_elem? views id ≡ some v
      → get_elem? (set views id (with_joined v w)) other ≡ some w
      → AreNumbered made views → AreNumbered made (set (set views id (with_joined v w)) other spent_view)
  numbered_joined views other w made at at' a =
      let both = with_joined v w in
      let one = set views id both in
      let n_both : seats both ≡ seats v + seats w = length-append v.numbers w.numbers in
      let seated = a.seated in record {
        one_each = length-set one other spent_view ∙ (length-set views id both ∙ a.one_each);
        few = a.few;
        seated = omega (arith, sum_by-set seats views id v both at, sum_by-set seats one other w spent_view at');
        once = λ p.
            let once = a.once p in
            let n : times_held p both ≡ times_held p v + times_held p w = times_held-joined p w in
            omega (arith, sum_by-set (times_held p) views id v both at, sum_by-set (times_held p) one other w spent_view at');
      }

  -- a seat takes in another
  pub joins_on : (other : ℕ) (w : View S E R) → 0 < seats v → 0 < seats w → v.turn ≡ false → w.turn ≡ false → w.ticket ≡ None
      → Joins (IsInOrder steps start keeps) id v other w (with_joined v w) spent_view
  joins_on other w live live' no_turn no_turn' no_ticket' s r at ne at' =
      let both = with_joined v w in
      let views = set s.views id both in
      let old : get_elem? s.views other ≡ some w = sym (set_else s.views id other both ne) ∙ at' in
      let k = r.known id v at live in
      let k' = r.known other w old live' in
      let has = r.called.own id v at in let has' = r.called.own other w old in
      let n = λ (p : ℕ). times_held-joined p w in
      let two = λ (p : ℕ). sum_by-two (times_held p) s.views id other v w (λ e. ne (sym e)) at old in
      let has_both : HasItsCalls r.history both = record {
        held = λ p e. both_have w r.history p has has' (sym (n p) ∙ e);
        bare = λ p e. let m = n p in
            calls_by-append p v.calls w.calls ∙ (ap (λ l. l ++ calls_by p w.calls) (has.bare p (omega arith)) ∙ has'.bare p (omega arith));
      } in
      record {
        history = r.history;
        served = r.served;
        next = r.next;
        made = r.made;
        who = r.who;
        words_are = r.words_are;
        numbered = numbered_joined s.views other w r.made at at' r.numbered;
        in_line = line_set views other w spent_view at' r.served r.next (sym no_ticket') (line_set s.views id v both at r.served r.next refl r.in_line);
        one_turn = turn_idle views other w spent_view at' r.history r.served r.who no_turn' refl
            (turn_idle s.views id v both at r.history r.served r.who no_turn no_turn r.one_turn);
        called = called_set views other w spent_view at' r.history r.made record { held = λ p e. absurd (omega arith); bare = λ p e. refl }
            (called_set s.views id v both at r.history r.made has_both r.called);
        known = each_set (λ j u. 0 < seats u → KnowsHistory start r.history r.made j u) views other spent_view (λ l. absurd (omega arith))
            (λ j u _ e. each_set (λ j u. 0 < seats u → KnowsHistory start r.history r.made j u) s.views id both
            (λ l. record {
              opened = k.opened;
              numbered = k.numbered;
              own = let m = n id in let t = two id in let o = r.numbered.once id in let le = once_below-le id r.made in let own = k.own in omega arith;
              counted = k.counted;
              seen = starts_with_longer r.history v.seen w.seen k.seen k'.seen;
              front = starts_with_shorter r.history v.seen w.seen k.seen k'.seen;
            })
            (λ j u _ e. r.known j u e) j u e);
        kept = r.kept;
      }

-- what the slot holds at the end, where one seat has taken in all others
pub record IsClosed {S E R J : Type 0} (steps : S → ℕ → E → R → S → Type 0) (start : S) (keeps : List (Call E R) → J → Type 0) (v : View S E R)
    (h : Kept S E R J) : Type 0 where
  pub runs : Runs steps start (calls_of h) h.state
  pub calls : HaveSameCalls (calls_of h) v.calls
  pub seen : StartsWith (calls_of h) v.seen
  pub journal : KeepsCalls keeps h

module _ {S E R J : Type 0} (steps : S → ℕ → E → R → S → Type 0) (start : S) (keeps : List (Call E R) → J → Type 0) (id : ℕ) (v : View S E R) where
  -- nobody has the turn but a seat that isn't spent
  no_turn_left : (s : DeskState S E R J) (r : IsInOrder steps start keeps s) → get_elem? s.views id ≡ some v → v.turn ≡ false
      → sum_by seats s.views ≡ seats v → (who : Option ℕ) → r.who ≡ who → r.who ≡ None
  no_turn_left s r at no_turn mine None e = e
  no_turn_left s r at no_turn mine (Some j) e =
      let t = r.one_turn.has_turn j e in
      let its = r.one_turn.served_is j t.0 t.1 t.2 in
      let other : j ≢ id = λ (q : j ≡ id).
      let at_id = subst (λ (n : ℕ). get_elem? s.views n ≡ some t.0) q t.1 in
      false_true v.turn no_turn (ap (λ (z : View S E R). z.turn) (same_at s.views id v t.0 at at_id) ∙ t.2) in
      let two = sum_by-two seats s.views j id t.0 v other t.1 at in
      let live = its.live in
      absurd (omega arith)

  all_calls : (history : List (Call E R)) (made p : ℕ) → HasItsCalls history v → (made ≤ p → calls_by p history ≡ [])
      → times_held p v ≡ once_below p made
      → calls_by p v.calls ≡ calls_by p history
  all_calls history made p has unmade n = dite (dec_le made p)
      (λ (far : made ≤ p). has.bare p (n ∙ once_below-out p made far) ∙ sym (unmade far))
      (λ (near : ¬ (made ≤ p)). has.held p (n ∙ once_below-in p made (omega arith)))

  -- the slot is at home, with all calls
  closed_at : (s : DeskState S E R J) (r : IsInOrder steps start keeps s) → get_elem? s.views id ≡ some v → v.number ≡ 0 → 0 < seats v → v.turn ≡ false → HasAllSeats v
      → (h : Kept S E R J) × (s.homes ≡ some (Some h) ∷ []) × IsClosed steps start keeps v h
  closed_at s r at first live no_turn all =
      let k = r.known id v at live in
      let all_made : v.split_off + 1 ≡ r.made = k.counted (sym k.numbered ∙ first) in
      let seated = r.numbered.seated in
      let mine : sum_by seats s.views ≡ seats v = omega arith in
      let home = r.kept.home (no_turn_left s r at no_turn mine r.who refl) in
      let h = home.0 in let after = home.2 in (
        h,
        home.1,
        record {
          runs = subst (λ (l : List (Call E R)). Runs steps start l h.state) (sym {A = List (Call E R)} after.calls) after.runs;
          calls = λ p.
              let alone = sum_by-alone (times_held p) seats s.views id v at mine (λ (z : View S E R) (e : seats z ≡ 0). times_none p z.numbers e) in
              ap (calls_by p) after.calls ∙ sym {A = List (Call E R)} (all_calls r.history r.made p (r.called.own id v at) (r.called.unmade p)
              (sym alone ∙ r.numbered.once p));
          seen = subst (λ (l : List (Call E R)). StartsWith l v.seen) (sym {A = List (Call E R)} after.calls) k.seen;
          journal = after.journal;
        },
      )

  pub closes : (ws : List ℕ) (xs : List (DeskSlot S E R J)) → v.number ≡ 0 → 0 < seats v → v.turn ≡ false → HasAllSeats v
      → Final (Seen (IsInOrder steps start keeps) id v) ws xs → (h : Kept S E R J) × (get_elem? xs 0 ≡ some (Some h)) × IsClosed steps start keeps v h
  closes ws xs first live no_turn all final =
      let c = closed_at final.0 final.1.0 final.1.1 first live no_turn all in
      (c.0, final.4 0 (Some c.0) (ap (λ (hs : List (May (DeskSlot S E R J))). get_elem? hs 0) c.1), c.2)
