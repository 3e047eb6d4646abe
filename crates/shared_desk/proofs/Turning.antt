-- The steps of a call keep the rule: a ticket is drawn, the one that is served is read, a call is counted, and the turn is ended.
use Rattle.std.proofs.Common.{◌≡◌, ◌≢◌, ℕ, ◌+◌, ◌%◌, ◌^◌, ◌<◌, ◌≤◌, List, [], ◌∷◌, ◌++◌, Bool, true, false, eqb, refl, sym, ap, ◌∙◌, subst}
use Rattle.std.proofs.Common.{length, length-append, arith, slice_index, slice_set, MatchBool, eqb-true}
use Rattle.std.specs.Prelude.{Option, Some, None, unwrap_or, sum_by}
use mathlib.Core.Option.{Option as May, none, some}
use lib.ListN.{get_elem?}
use Rattle.atomic_table.specs.Table.{Act, Valid, step, keeps, takes, gives, stepped, carried_after, Allows}
use Rattle.atomic_table.proofs.Lists.{set_again, one_turn}
use Rattle.desk.specs.declared.bench.Call.{Call}
use Rattle.shared_desk.specs.declared.kept.Kept.{Kept}
use Rattle.shared_desk.specs.Kept.{calls_of}
use Rattle.desk.specs.Runs.{Runs, calls_by, StartsWith}
use Rattle.shared_desk.specs.declared.rule.View.{View}
use Rattle.shared_desk.specs.Views.{seats}
use Rattle.shared_desk.specs.InOrder.{DeskSlot, DeskState, waiting, times_held, KnowsHistory, HasItsCalls, IsOneTurn}
use Rattle.shared_desk.specs.InOrder.{IsAfter, IsInOrder}
use Rattle.shared_desk.specs.Steps.{Hand, with_ticket, with_turn, with_call, HoldsCall, TicketIsDrawn, CallIsCounted, TurnIsEnded, IsTurned}
use Rattle.shared_desk.specs.Steps.{TurnIsSeen, FrontIsSeen}
use Rattle.shared_desk.proofs.Histories.{calls_by-append, calls_by-other, starts_with_more, starts_with_all, front_of, last_call}
use Rattle.shared_desk.proofs.Sums.{once_below-le, place_below, same_at, each_set, sum_by-two, sum_by-le-length}
use Rattle.shared_desk.proofs.Parts.{some_same, none_some, first_slot, false_true, ticket_count-le, numbered_set, line_set, line_drawn, line_served}
use Rattle.shared_desk.proofs.Parts.{turn_idle, turn_taken, turn_kept, turn_ended, called_set}

module _ {S E R J : Type 0} (steps : S → ℕ → E → R → S → Type 0) (start : S) (keep : List (Call E R) → J → Type 0) (slots id : ℕ)
    (v : View S E R) where
  pub draws_on : v.ticket ≡ None → v.turn ≡ false
      → Allows (IsInOrder steps start keep) slots id (v, []) 0 (λ x. (x + 1) % 2 ^ 64) (TicketIsDrawn (step slots 0 1 0 none) (v, []))
  draws_on no_ticket no_turn s r _ at _ =
      let w = with_ticket v (Some r.next) in
      let found : slice_index s.words 0 ≡ r.next % 2 ^ 64 = ap (λ (ws : List ℕ). slice_index ws 0) r.words_are in
      let n : (slice_index s.words 0 + 1) % 2 ^ 64 ≡ (r.next + 1) % 2 ^ 64 = omega arith in (
        w,
        keeps,
        tt,
        record {
          history = r.history;
          served = r.served;
          next = r.next + 1;
          made = r.made;
          who = r.who;
          words_are = ap (λ (ws : List ℕ). slice_set ws 0 ((slice_index s.words 0 + 1) % 2 ^ 64)) r.words_are
              ∙ ap (λ (k : ℕ). k ∷ r.served % 2 ^ 64 ∷ length r.history ∷ []) n;
          numbered = numbered_set s.views id v w at r.made refl r.numbered;
          in_line = line_drawn s.views id v w at r.served r.next no_ticket refl r.in_line;
          one_turn = turn_idle s.views id v w at r.history r.served r.who no_turn refl r.one_turn;
          called = called_set s.views id v w at r.history r.made (let h = r.called.own id v at in record { held = h.held; bare = h.bare }) r.called;
          known = each_set (λ j u. 0 < seats u → KnowsHistory start r.history r.made j u) s.views id w
              (λ live. let k = r.known id v at live in
              record { opened = k.opened; numbered = k.numbered; own = k.own; counted = k.counted; seen = k.seen; front = k.front })
              (λ j u ne e. r.known j u e);
          kept = r.kept;
        },
        record { ticket = r.next; left = refl; shown = found },
      )

  -- nothing changes
  unmoved : (s : DeskState S E R J) (r : IsInOrder steps start keep s) (word : ℕ) → slice_set s.words word (slice_index s.words word) ≡ s.words
      → get_elem? s.views id ≡ some v
      → IsInOrder steps start keep (stepped s word (slice_index s.words word) id [] v keeps)
  unmoved s r word same at =
      subst (IsInOrder steps start keep) (λ i. record { words = sym same i; homes = s.homes; views = sym (set_again s.views id v at) i }) r

  pub front_on : 0 < seats v → Allows (IsInOrder steps start keep) slots id (v, []) 1 (λ x. x) (FrontIsSeen (step slots 1 0 0 none) (v, []))
  front_on live s r _ at _ =
      let k = r.known id v at live in (
        v,
        keeps,
        tt,
        unmoved s r 1 (ap (λ (ws : List ℕ). slice_set ws 1 (slice_index ws 1)) r.words_are ∙ sym r.words_are) at,
        (refl, λ short. front_of v.front v.seen k.front.0 k.seen.0 (sym k.front.1 ∙ k.seen.1) short),
      )

  -- who has a ticket that is served, and not the turn: then nobody has the turn
  no_turn_yet : (s : DeskState S E R J) (r : IsInOrder steps start keep s) → get_elem? s.views id ≡ some v → v.ticket ≡ Some r.served → v.turn ≡ false
      → (who : Option ℕ) → r.who ≡ who → r.who ≡ None
  no_turn_yet s r at ticket no_turn None e = e
  no_turn_yet s r at ticket no_turn (Some j) e =
      let t = r.one_turn.has_turn j e in
      let its = r.one_turn.served_is j t.0 t.1 t.2 in
      let me : j ≡ id = r.in_line.apart j id t.0 v r.served t.1 at its.ticket_is ticket in
      let same : t.0 ≡ v = same_at s.views id t.0 v (subst (λ (n : ℕ). get_elem? s.views n ≡ some t.0) me t.1) at in
      absurd (false_true v.turn no_turn (sym (ap (λ (z : View S E R). z.turn) same) ∙ t.2))

  -- the seat's ticket is served, and the slot is at home
  turn_begins : (s : DeskState S E R J) (r : IsInOrder steps start keep s) → get_elem? s.views id ≡ some v → 0 < seats v → v.ticket ≡ Some r.served
      → r.who ≡ None → (h : Kept S E R J) → s.homes ≡ some (Some h) ∷ [] → IsAfter steps start keep r.history h
      → (w : View S E R) × (a : Act (DeskSlot S E R J)) × Valid s.homes [] a × IsInOrder steps start keep (stepped s 1 (slice_index s.words 1) id [] w a)
      × IsTurned steps keep (v, []) (w, carried_after [] a)
  turn_begins s r at live ticket free h home after =
      let w = with_turn v (calls_of h) in
      let k = r.known id v at live in
      let has = r.called.own id v at in (
        w,
        takes 0 (Some h),
        ap (λ (hs : List (May (DeskSlot S E R J))). get_elem? hs 0) home,
        record {
          history = r.history;
          served = r.served;
          next = r.next;
          made = r.made;
          who = Some id;
          words_are = ap (λ (ws : List ℕ). slice_set ws 1 (slice_index ws 1)) r.words_are;
          numbered = numbered_set s.views id v w at r.made refl r.numbered;
          in_line = line_set s.views id v w at r.served r.next refl r.in_line;
          one_turn = turn_taken s.views id v w at r.history r.served refl record { who_is = refl; ticket_is = ticket; seen_is = after.calls; live = live }
              (subst (λ (who : Option ℕ). IsOneTurn r.history r.served who s.views) free r.one_turn);
          called = called_set s.views id v w at r.history r.made record { held = has.held; bare = has.bare } r.called;
          known = each_set (λ j u. 0 < seats u → KnowsHistory start r.history r.made j u) s.views id w
              (λ live. record {
                opened = k.opened;
                numbered = k.numbered;
                own = k.own;
                counted = k.counted;
                seen = starts_with_all r.history (calls_of h) after.calls;
                front = k.front;
              })
              (λ j u ne e. r.known j u e);
          kept = record {
            home = λ e. absurd (none_some id (sym e));
            away = λ j e. ap (λ (hs : List (May (DeskSlot S E R J))). slice_set hs 0 none) home;
          };
        },
        record {
          held = h;
          left = refl;
          found = λ s' e.
              let same : start ≡ s' = some_same start s' (sym k.opened ∙ e) in record {
                seen = subst (λ (l : List (Call E R)). StartsWith l v.seen) (sym {A = List (Call E R)} after.calls) k.seen;
                runs = subst (λ (z : S × List (Call E R)). Runs steps z.0 z.1 h.state) (λ i. (same i, sym after.calls i)) after.runs;
                own = subst (λ (z : ℕ × List (Call E R)). calls_by z.0 z.1 ≡ calls_by z.0 v.calls) (λ i. (sym k.numbered i, sym after.calls i))
                    (sym (has.held id k.own));
              };
          journal = after.journal;
        },
      )

  -- the word shows the seat's ticket, hence it is the one that is served
  served_now : (s : DeskState S E R J) (r : IsInOrder steps start keep s) (k : ℕ) → get_elem? s.views id ≡ some v → v.ticket ≡ Some k
      → slice_index s.words 1 ≡ k % 2 ^ 64 → r.served ≡ k
  served_now s r k at ticket found =
      let shown : r.served % 2 ^ 64 ≡ k % 2 ^ 64 = sym (ap (λ (ws : List ℕ). slice_index ws 1) r.words_are) ∙ found in
      let between = r.in_line.between id v k at ticket in
      let few : sum_by waiting s.views ≤ length s.views = sum_by-le-length waiting (λ (u : View S E R). ticket_count-le u.ticket) s.views in
      let count = r.in_line.count in let one_each = r.numbered.one_each in let most = r.numbered.few in
      one_turn r.served k (2 ^ 64) between.0 (omega arith) shown

  pub looks_on : (k : ℕ) → 0 < seats v → v.ticket ≡ Some k → v.turn ≡ false
      → Allows (IsInOrder steps start keep) slots id (v, []) 1 (λ x. x) (TurnIsSeen steps keep (step slots 1 0 0 none) (v, []))
  looks_on k live ticket no_turn s r _ at _ = go (eqb (slice_index s.words 1) (k % 2 ^ 64)) refl
    where
      Told : Bool → Hand S E R J → Type 0
      Told b n = MatchBool b (IsTurned steps keep (v, []) n) (n ≡ (v, []))

      same_test : eqb (slice_index s.words 1) (unwrap_or v.ticket 0 % 2 ^ 64) ≡ eqb (slice_index s.words 1) (k % 2 ^ 64)
      same_test = ap (λ (o : Option ℕ). eqb (slice_index s.words 1) (unwrap_or o 0 % 2 ^ 64)) ticket

      go : (b : Bool) → eqb (slice_index s.words 1) (k % 2 ^ 64) ≡ b
          → (w : View S E R) × (a : Act (DeskSlot S E R J)) × Valid s.homes [] a × IsInOrder steps start keep (stepped s 1 (slice_index s.words 1) id [] w a)
          × TurnIsSeen steps keep (step slots 1 0 0 none) (v, []) (slice_index s.words 1) (w, carried_after [] a)
      go true e =
          let now = served_now s r k at ticket (eqb-true (slice_index s.words 1) (k % 2 ^ 64) e) in
          let served = ticket ∙ ap Some (sym now) in
          let free = no_turn_yet s r at served no_turn r.who refl in
          let home = r.kept.home free in
          let t = turn_begins s r at live served free home.0 home.1 home.2 in
          (t.0, t.1, t.2, t.3, subst (λ b. Told b (t.0, carried_after [] t.1)) (sym (same_test ∙ e)) t.4)
      go false e = (
        v,
        keeps,
        tt,
        unmoved s r 1 (ap (λ (ws : List ℕ). slice_set ws 1 (slice_index ws 1)) r.words_are ∙ sym r.words_are) at,
        subst (λ b. Told b (v, [])) (sym (same_test ∙ e)) refl,
      )

  -- the call is counted: the history grows by it
  pub counts_on : (c : Call E R) (h : Kept S E R J) → v.turn ≡ true → c.seat ≡ v.number → calls_of h ≡ v.seen ++ c ∷ []
      → length (calls_of h) < 2 ^ 64
      → Allows (IsInOrder steps start keep) slots id (v, (0, Some h) ∷ []) 2 (λ x. (x + 1) % 2 ^ 64)
      (CallIsCounted (step slots 2 1 0 none) (v, (0, Some h) ∷ []))
  counts_on c h turn by_seat grown small s r _ at _ =
      let w = with_call v c in
      let its = r.one_turn.served_is id v at turn in
      let k = r.known id v at its.live in
      let has = r.called.own id v at in
      let more : List (Call E R) = r.history ++ c ∷ [] in
      let seen_all : v.seen ++ c ∷ [] ≡ more = ap (λ l. l ++ c ∷ []) its.seen_is in
      let mine : c.seat ≡ id = by_seat ∙ k.numbered in
      let n_more : length more ≡ length r.history + 1 = length-append r.history (c ∷ []) in
      let n_held : length (calls_of h) ≡ length more = ap length (grown ∙ seen_all) in
      let n : (length r.history + 1) % 2 ^ 64 ≡ length more = omega arith in (
        w,
        keeps,
        tt,
        record {
          history = more;
          served = r.served;
          next = r.next;
          made = r.made;
          who = r.who;
          words_are = ap (λ (ws : List ℕ). slice_set ws 2 ((slice_index ws 2 + 1) % 2 ^ 64)) r.words_are
              ∙ ap (λ (k : ℕ). r.next % 2 ^ 64 ∷ r.served % 2 ^ 64 ∷ k ∷ []) n;
          numbered = numbered_set s.views id v w at r.made refl r.numbered;
          in_line = line_set s.views id v w at r.served r.next refl r.in_line;
          one_turn = turn_kept s.views id v w at r.history more r.served r.who its.who_is turn
              record { who_is = its.who_is; ticket_is = its.ticket_is; seen_is = seen_all; live = its.live } r.one_turn;
          called = record {
            own = each_set (λ j u. HasItsCalls more u) s.views id w
                record {
                  held = λ p e. calls_by-append p v.calls (c ∷ [])
                      ∙ (ap (λ l. l ++ calls_by p (c ∷ [])) (has.held p e) ∙ sym (calls_by-append p r.history (c ∷ [])));
                  bare = λ p e. calls_by-other p v.calls c (not_its c.seat p mine k.own e) ∙ has.bare p e;
                }
                (λ j u ne e. let other = r.called.own j u e in record {
                  held = λ p q.
                      let two = sum_by-two (times_held p) s.views j id u v ne e at in
                      let once = r.numbered.once p in let most = once_below-le p r.made in
                      other.held p q ∙ sym (calls_by-other p r.history c (not_its c.seat p mine k.own (omega arith)));
                  bare = other.bare;
                });
            unmade = λ p far.
                let below = place_below s.views id v at in let one_each = r.numbered.one_each in
                let other : c.seat ≢ p = omega arith in
                calls_by-other p r.history c other ∙ r.called.unmade p far;
          };
          known = each_set (λ j u. 0 < seats u → KnowsHistory start more r.made j u) s.views id w
              (λ live. record {
                opened = k.opened;
                numbered = k.numbered;
                own = k.own;
                counted = k.counted;
                seen = starts_with_all more (v.seen ++ c ∷ []) seen_all;
                front = starts_with_more r.history v.front c k.front;
              })
              (λ j u ne e live. let o = r.known j u e live in record {
                opened = o.opened;
                numbered = o.numbered;
                own = o.own;
                counted = o.counted;
                seen = starts_with_more r.history u.seen c o.seen;
                front = starts_with_more r.history u.front c o.front;
              });
          kept = record { home = λ e. absurd (none_some id (sym e ∙ its.who_is)); away = r.kept.away };
        },
        record { left = λ d holds. ap (λ (z : Call E R). (with_call v z, (0, Some h) ∷ [])) (same_call d holds) },
      )
    where
      -- a number that the seat doesn't have isn't the one that it has once
      not_its : (seat p : ℕ) → seat ≡ id → times_held id v ≡ 1 → times_held p v ≡ 0 → seat ≢ p
      not_its seat p mine one bare same =
          let e : times_held p v ≡ times_held id v = ap (λ (q : ℕ). times_held q v) (sym same ∙ mine) in absurd (omega arith)

      same_call : (d : Call E R) → HoldsCall (v, (0, Some h) ∷ []) d → c ≡ d
      same_call d holds =
          let same = ap (λ (z : Kept S E R J). calls_of z) (some_same h holds.held (first_slot (Some h) (Some holds.held) [] [] holds.slot)) in
          last_call v.seen c d (sym grown ∙ (same ∙ holds.calls))

  -- the turn is ended, and the slot goes home
  pub ends_on : (h : Kept S E R J) → v.turn ≡ true → IsAfter steps start keep v.seen h
      → Allows (IsInOrder steps start keep) slots id (v, (0, Some h) ∷ []) 1 (λ x. (x + 1) % 2 ^ 64)
      (TurnIsEnded (step slots 1 1 0 none) (v, (0, Some h) ∷ []))
  ends_on h turn after s r _ at _ =
      let w = with_ticket v None in
      let its = r.one_turn.served_is id v at turn in
      let found : slice_index s.words 1 ≡ r.served % 2 ^ 64 = ap (λ (ws : List ℕ). slice_index ws 1) r.words_are in
      let n : (slice_index s.words 1 + 1) % 2 ^ 64 ≡ (r.served + 1) % 2 ^ 64 = omega arith in (
        w,
        gives,
        tt,
        record {
          history = r.history;
          served = r.served + 1;
          next = r.next;
          made = r.made;
          who = None;
          words_are = ap (λ (ws : List ℕ). slice_set ws 1 ((slice_index s.words 1 + 1) % 2 ^ 64)) r.words_are
              ∙ ap (λ (k : ℕ). r.next % 2 ^ 64 ∷ k ∷ length r.history ∷ []) n;
          numbered = numbered_set s.views id v w at r.made refl r.numbered;
          in_line = line_served s.views id v w at r.served r.next its.ticket_is refl r.in_line;
          one_turn = turn_ended s.views id v w at r.history r.served (r.served + 1) r.who its.who_is refl r.one_turn;
          called = called_set s.views id v w at r.history r.made (let h = r.called.own id v at in record { held = h.held; bare = h.bare }) r.called;
          known = each_set (λ j u. 0 < seats u → KnowsHistory start r.history r.made j u) s.views id w
              (λ live. let k = r.known id v at live in
              record { opened = k.opened; numbered = k.numbered; own = k.own; counted = k.counted; seen = k.seen; front = k.front })
              (λ j u ne e. r.known j u e);
          kept = record {
            home = λ e. (
              h,
              ap (λ (hs : List (May (DeskSlot S E R J))). slice_set hs 0 (some (Some h))) (r.kept.away id its.who_is),
              subst (λ (l : List (Call E R)). IsAfter steps start keep l h) its.seen_is after,
            );
            away = λ j e. absurd (none_some j e);
          };
        },
        record { left = refl },
      )
