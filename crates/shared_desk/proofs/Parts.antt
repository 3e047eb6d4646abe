-- Each part of the rule, when one view changes, and when one is added.
use Rattle.std.proofs.Common.{◌≡◌, ◌≢◌, ℕ, ◌+◌, ◌<◌, ◌≤◌, List, [], ◌∷◌, ◌++◌, true, false, Bool, length, length-set, length-append, refl, sym, ap}
use Rattle.std.proofs.Common.{◌∙◌, subst, set, arith}
use Rattle.std.specs.Prelude.{Option, Some, None}
use Rattle.std.proofs.lemmas.List.Sums.{sum_by_push}
use mathlib.Core.Option.{some}
use lib.ListN.{get_elem?}
use Rattle.atomic_table.proofs.Lists.{set_here, set_else, at_longer}
use Rattle.desk.specs.declared.bench.Call.{Call}
use Rattle.shared_desk.specs.declared.rule.View.{View}
use Rattle.shared_desk.specs.declared.shared.TheConstants.{MOST_SEATS}
use Rattle.shared_desk.specs.Views.{seats}
use Rattle.shared_desk.specs.InOrder.{ticket_count, waiting, times_held, AreNumbered, AreInLine, IsServed, IsOneTurn, HasItsCalls, AreCalled}
use Rattle.shared_desk.proofs.Sums.{times, once_below-suc, place_below, same_at, each_set, each_end, sum_by-set}

pub some_same : {A : Type 0} (x y : A) → Some x ≡ Some y → x ≡ y
some_same x y e = cc

pub none_some : {A : Type 0} (x : A) → None ≡ Some x → ⊥
none_some x e = cc

-- the value in the first of the slots
pub first_slot : {A : Type 0} (x y : A) (l k : List (ℕ × A)) → ◌≡◌ {A = List (ℕ × A)} ((0, x) ∷ l) ((0, y) ∷ k) → x ≡ y
first_slot {A} x y l k e = ap (λ (z : ℕ × A). z.1) (front (0, x) (0, y) l k e)
  where
    front : (a b : ℕ × A) (l k : List (ℕ × A)) → a ∷ l ≡ b ∷ k → a ≡ b
    front a b l k e = cc

pub false_true : (b : Bool) → b ≡ false → b ≡ true → ⊥
false_true b f t = cc

pub ticket_count-le : (t : Option ℕ) → ticket_count t ≤ 1
ticket_count-le None = omega arith
ticket_count-le (Some k) = omega arith

module _ {S E R : Type 0} (views : List (View S E R)) where
  -- a seat that is added has the next number
  pub numbered_end : (made : ℕ) (w : View S E R) → made < MOST_SEATS → w.numbers ≡ made ∷ [] → AreNumbered made views
      → AreNumbered (made + 1) (views ++ w ∷ [])
  numbered_end made w few is a =
      let one : seats w ≡ 1 = ap length is in
      let one_each = a.one_each in let seated = a.seated in record {
        one_each = omega (arith, length-append views (w ∷ []));
        few = omega arith;
        seated = omega (arith, sum_by_push seats views w);
        once = λ p.
            let has : times_held p w ≡ times p (made ∷ []) = ap (times p) is in
            let once = a.once p in omega (arith, sum_by_push (times_held p) views w, once_below-suc p made);
      }

  pub line_end : (served next : ℕ) (w : View S E R) → w.ticket ≡ None → AreInLine served next views → AreInLine served next (views ++ w ∷ [])
  line_end served next w no_ticket l =
      let none : waiting w ≡ 0 = ap ticket_count no_ticket in
      let count = l.count in record {
        count = omega (arith, sum_by_push waiting views w);
        between = λ j u k e t. each_end (λ j u. u.ticket ≡ Some k → (served ≤ k) × (k < next)) views w
            (λ t. absurd (none_some k (sym no_ticket ∙ t))) (λ j u e t. l.between j u k e t) j u e t;
        apart = λ i j u u' k e e' t t'. each_end (λ i u. u.ticket ≡ Some k → i ≡ j) views w
            (λ t. absurd (none_some k (sym no_ticket ∙ t)))
            (λ i u e t. each_end (λ j u'. u'.ticket ≡ Some k → i ≡ j) views w
            (λ t'. absurd (none_some k (sym no_ticket ∙ t'))) (λ j u' e' t'. l.apart i j u u' k e e' t t') j u' e' t') i u e t;
      }

  pub turn_end : (history : List (Call E R)) (served : ℕ) (who : Option ℕ) (w : View S E R) → w.turn ≡ false
      → IsOneTurn history served who views → IsOneTurn history served who (views ++ w ∷ [])
  turn_end history served who w no_turn o = record {
    served_is = λ j u e t. each_end (λ j u. u.turn ≡ true → IsServed history served who j u) views w
        (λ t. absurd (false_true w.turn no_turn t)) (λ j u e t. o.served_is j u e t) j u e t;
    has_turn = λ j is. let t = o.has_turn j is in (t.0, at_longer views (w ∷ []) j t.0 t.1, t.2);
  }

module _ {S E R : Type 0} (views : List (View S E R)) (id : ℕ) (v w : View S E R) (at : get_elem? views id ≡ some v) where
  pub numbered_set : (made : ℕ) → w.numbers ≡ v.numbers → AreNumbered made views → AreNumbered made (set views id w)
  numbered_set made same a =
      let n : seats w ≡ seats v = ap length same in
      let seated = a.seated in record {
        one_each = length-set views id w ∙ a.one_each;
        few = a.few;
        seated = omega (arith, sum_by-set seats views id v w at);
        once = λ p.
            let has : times_held p w ≡ times_held p v = ap (times p) same in
            let once = a.once p in omega (arith, sum_by-set (times_held p) views id v w at);
      }

  pub line_set : (served next : ℕ) → w.ticket ≡ v.ticket → AreInLine served next views → AreInLine served next (set views id w)
  line_set served next same l =
      let n : waiting w ≡ waiting v = ap ticket_count same in
      let count = l.count in record {
        count = omega (arith, sum_by-set waiting views id v w at);
        between = λ j u k e t. each_set (λ j u. u.ticket ≡ Some k → (served ≤ k) × (k < next)) views id w
            (λ t. l.between id v k at (sym same ∙ t)) (λ j u ne e t. l.between j u k e t) j u e t;
        apart = λ i j u u' k e e' t t'. each_set (λ i u. u.ticket ≡ Some k → i ≡ j) views id w
            (λ t. each_set (λ j u'. u'.ticket ≡ Some k → id ≡ j) views id w (λ t'. refl)
            (λ j u' ne e' t'. l.apart id j v u' k at e' (sym same ∙ t) t') j u' e' t')
            (λ i u ne e t. each_set (λ j u'. u'.ticket ≡ Some k → i ≡ j) views id w
            (λ t'. l.apart i id u v k e at t (sym same ∙ t')) (λ j u' ne e' t'. l.apart i j u u' k e e' t t') j u' e' t') i u e t;
      }

  -- the next ticket is drawn
  pub line_drawn : (served next : ℕ) → v.ticket ≡ None → w.ticket ≡ Some next → AreInLine served next views
      → AreInLine served (next + 1) (set views id w)
  line_drawn served next none is l =
      let old : waiting v ≡ 0 = ap ticket_count none in
      let new : waiting w ≡ 1 = ap ticket_count is in
      let count = l.count in
      let fresh = λ (j : ℕ) (u : View S E R) (k : ℕ) (e : get_elem? views j ≡ some u) (t : u.ticket ≡ Some k) (t' : w.ticket ≡ Some k).
      below_next next k (l.between j u k e t).1 (some_same next k (sym is ∙ t')) in record {
        count = omega (arith, sum_by-set waiting views id v w at);
        between = λ j u k e t. each_set (λ j u. u.ticket ≡ Some k → (served ≤ k) × (k < next + 1)) views id w
            (λ t. let same : next ≡ k = some_same next k (sym is ∙ t) in omega arith)
            (λ j u ne e t. let b = l.between j u k e t in omega arith) j u e t;
        apart = λ i j u u' k e e' t t'. each_set (λ i u. u.ticket ≡ Some k → i ≡ j) views id w
            (λ t. each_set (λ j u'. u'.ticket ≡ Some k → id ≡ j) views id w (λ t'. refl)
            (λ j u' ne e' t'. absurd (fresh j u' k e' t' t)) j u' e' t')
            (λ i u ne e t. each_set (λ j u'. u'.ticket ≡ Some k → i ≡ j) views id w
            (λ t'. absurd (fresh i u k e t t')) (λ j u' ne e' t'. l.apart i j u u' k e e' t t') j u' e' t') i u e t;
      }
    where
      below_next : (next k : ℕ) → k < next → next ≡ k → ⊥
      below_next next k h e = absurd (omega arith)

  -- the ticket that was served is given up
  pub line_served : (served next : ℕ) → v.ticket ≡ Some served → w.ticket ≡ None → AreInLine served next views
      → AreInLine (served + 1) next (set views id w)
  line_served served next was none l =
      let old : waiting v ≡ 1 = ap ticket_count was in
      let new : waiting w ≡ 0 = ap ticket_count none in
      let count = l.count in record {
        count = omega (arith, sum_by-set waiting views id v w at);
        between = λ j u k e t. each_set (λ j u. u.ticket ≡ Some k → (served + 1 ≤ k) × (k < next)) views id w
            (λ t. absurd (none_some k (sym none ∙ t)))
            (λ j u ne e t. let b = l.between j u k e t in
            let other : served ≢ k = λ (q : served ≡ k). ne (l.apart j id u v k e at t (was ∙ ap Some q)) in omega arith) j u e t;
        apart = λ i j u u' k e e' t t'. each_set (λ i u. u.ticket ≡ Some k → i ≡ j) views id w
            (λ t. absurd (none_some k (sym none ∙ t)))
            (λ i u ne e t. each_set (λ j u'. u'.ticket ≡ Some k → i ≡ j) views id w
            (λ t'. absurd (none_some k (sym none ∙ t'))) (λ j u' ne e' t'. l.apart i j u u' k e e' t t') j u' e' t') i u e t;
      }

  -- a seat without the turn stays without it
  pub turn_idle : (history : List (Call E R)) (served : ℕ) (who : Option ℕ) → v.turn ≡ false → w.turn ≡ false
      → IsOneTurn history served who views → IsOneTurn history served who (set views id w)
  turn_idle history served who was is o = record {
    served_is = λ j u e t. each_set (λ j u. u.turn ≡ true → IsServed history served who j u) views id w
        (λ t. absurd (false_true w.turn is t)) (λ j u ne e t. o.served_is j u e t) j u e t;
    has_turn = λ j e.
        let t = o.has_turn j e in
        let other : j ≢ id = λ (q : j ≡ id).
        let at_id = subst (λ (n : ℕ). get_elem? views n ≡ some t.0) q t.1 in
        false_true v.turn was (ap (λ (z : View S E R). z.turn) (same_at views id v t.0 at at_id) ∙ t.2) in
        (t.0, set_else views id j w other ∙ t.1, t.2);
  }

  -- nobody had the turn, and the seat has it now
  pub turn_taken : (history : List (Call E R)) (served : ℕ) → w.turn ≡ true → IsServed history served (Some id) id w
      → IsOneTurn history served None views → IsOneTurn history served (Some id) (set views id w)
  turn_taken history served is serves o = record {
    served_is = λ j u e t. each_set (λ j u. u.turn ≡ true → IsServed history served (Some id) j u) views id w
        (λ t. serves) (λ j u ne e t. absurd (none_some j (o.served_is j u e t).who_is)) j u e t;
    has_turn = λ j e. let same : id ≡ j = some_same id j e in
        (w, subst (λ (n : ℕ). get_elem? (set views id w) n ≡ some w) same (set_here views id w (place_below views id v at)), is);
  }

  -- the seat has the turn, and the history grows
  pub turn_kept : (history longer_one : List (Call E R)) (served : ℕ) (who : Option ℕ) → who ≡ Some id → w.turn ≡ true
      → IsServed longer_one served who id w
      → IsOneTurn history served who views → IsOneTurn longer_one served who (set views id w)
  turn_kept history longer_one served who mine is serves o = record {
    served_is = λ j u e t. each_set (λ j u. u.turn ≡ true → IsServed longer_one served who j u) views id w
        (λ t. serves) (λ j u ne e t. absurd (ne (some_same j id (sym (o.served_is j u e t).who_is ∙ mine)))) j u e t;
    has_turn = λ j e. let same : id ≡ j = some_same id j (sym mine ∙ e) in
        (w, subst (λ (n : ℕ). get_elem? (set views id w) n ≡ some w) same (set_here views id w (place_below views id v at)), is);
  }

  -- the seat had the turn, and nobody has it now
  pub turn_ended : (history : List (Call E R)) (served next_served : ℕ) (who : Option ℕ) → who ≡ Some id → w.turn ≡ false
      → IsOneTurn history served who views → IsOneTurn history next_served None (set views id w)
  turn_ended history served next_served who mine is o = record {
    served_is = λ j u e t. each_set (λ j u. u.turn ≡ true → IsServed history next_served None j u) views id w
        (λ t. absurd (false_true w.turn is t)) (λ j u ne e t. absurd (ne (some_same j id (sym (o.served_is j u e t).who_is ∙ mine)))) j u e t;
    has_turn = λ j e. absurd (none_some j e);
  }

  -- the calls of each seat stay
  pub called_set : (history : List (Call E R)) (made : ℕ) → HasItsCalls history w → AreCalled history made views
      → AreCalled history made (set views id w)
  called_set history made has a = record {
    own = each_set (λ j u. HasItsCalls history u) views id w has (λ j u ne e. a.own j u e);
    unmade = a.unmade;
  }
