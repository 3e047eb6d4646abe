-- What the steps of a call come to, one after the other.
use Rattle.std.proofs.Common.{◌≡◌, ℕ, ◌+◌, ◌%◌, ◌^◌, ◌<◌, List, [], ◌∷◌, ◌++◌, true, false, refl, sym, ap, ◌∙◌, subst, length, arith}
use Rattle.std.proofs.Common.{MatchBool, eq-eqb}
use Rattle.std.specs.Prelude.{Option, Some, None, IfSome}
use Rattle.std.specs.declared.snapshot.Snapshot.{Snapshot}
use Rattle.std.proofs.lemmas.List.{length-map}
use mathlib.Core.Option.{none, some, some-injective}
use lib.ListN.{get_elem?}
use Rattle.atomic_table.specs.Table.{Step, step, rest, Allows}
use Rattle.desk.specs.declared.bench.Call.{Call}
use Rattle.shared_desk.specs.declared.kept.Kept.{Kept}
use Rattle.shared_desk.specs.Kept.{calls_of, KeepsCalls}
use Rattle.desk.specs.Runs.{Runs, call}
use Rattle.shared_desk.specs.declared.rule.View.{View}
use Rattle.shared_desk.specs.Views.{seats}
use Rattle.shared_desk.specs.Calls.{HasCalled, HasSeen}
use Rattle.shared_desk.specs.InOrder.{DeskSlot, ticket_count, IsAfter, IsInOrder}
use Rattle.shared_desk.specs.Steps.{Hand, Rests, with_ticket, with_turn, with_call, HasEmptySlot, HasFullSlot, HasTurn, HasTaken, HasNewCall}
use Rattle.shared_desk.specs.Steps.{HasCounted, EndsWithCall, TicketIsDrawn, CallIsCounted, TurnIsEnded, IsTurned, TurnIsSeen, FrontIsSeen}
use Rattle.shared_desk.proofs.Parts.{some_same, none_some, first_slot}
use Rattle.shared_desk.proofs.Turning.{draws_on, front_on, looks_on, counts_on, ends_on}
use Rattle.shared_desk.proofs.Seating.{IsClosed}

pub no_slot_left : {A : Type 0} (l : List A) → length l ≡ 0 → l ≡ []
no_slot_left [] e = refl
no_slot_left (x ∷ xs) e = absurd (omega arith)

pub no_ticket_left : (t : Option ℕ) → ticket_count t ≡ 0 → t ≡ None
no_ticket_left None e = refl
no_ticket_left (Some k) e = absurd (omega arith)

module _ {S E R J : Type 0} where
  pub calls_of-length : (h : Kept S E R J) → length (calls_of h) ≡ length h.calls.items
  calls_of-length h = length-map h.calls.items (λ (c : Snapshot (Call E R)). c.value)

  pub slot_rest : (m : Hand S E R J) (x : DeskSlot S E R J) → m.1 ≡ (0, x) ∷ [] → m.1 ≡ (0, x) ∷ rest m.1
  slot_rest m x e = subst (λ (l : List (ℕ × DeskSlot S E R J)). l ≡ (0, x) ∷ rest l) (sym e) refl

  -- a value was put into the slot that the seat has
  pub put_in : (m n : Hand S E R J) (h : Kept S E R J) → HasEmptySlot m → n ≡ (m.0, (0, Some h) ∷ rest m.1) → n ≡ (m.0, (0, Some h) ∷ [])
  put_in m n h empty is = is ∙ ap (λ l. (m.0, (0, Some h) ∷ rest l)) empty.slot

  pub counted_is : (st : Step (DeskSlot S E R J)) (m n : Hand S E R J) (found : ℕ) (v : View S E R) (h : Kept S E R J) → m ≡ (v, (0, Some h) ∷ [])
      → CallIsCounted st m found n → HasCounted v h n
  counted_is st m n found v h is told =
      let t : CallIsCounted st (v, (0, Some h) ∷ []) found n = subst (λ (z : Hand S E R J). CallIsCounted st z found n) is told in
      record { left = λ c grown. t.left c record { held = h; slot = refl; calls = grown } }

module _ {S E R J : Type 0} (steps : S → ℕ → E → R → S → Type 0) (start : S) (keeps : List (Call E R) → J → Type 0) (slots id : ℕ) where
  pub looks_at : (m : Hand S E R J) (v : View S E R) (k : ℕ) → m ≡ (with_ticket v (Some k), []) → 0 < seats v
      → Allows (IsInOrder steps start keeps) slots id m 1 (λ x. x) (TurnIsSeen steps keeps (step slots 1 0 0 none) m)
  looks_at m v k is live =
      subst (λ (z : Hand S E R J). Allows (IsInOrder steps start keeps) slots id z 1 (λ x. x) (TurnIsSeen steps keeps (step slots 1 0 0 none) z)) (sym is)
      (looks_on steps start keeps slots id (with_ticket v (Some k)) k live refl refl)

  pub front_at : (m : Hand S E R J) → m.1 ≡ [] → 0 < seats m.0
      → Allows (IsInOrder steps start keeps) slots id m 1 (λ x. x) (FrontIsSeen (step slots 1 0 0 none) m)
  front_at m no_slot live =
      subst (λ (c : List (ℕ × DeskSlot S E R J)).
      Allows (IsInOrder steps start keeps) slots id (m.0, c) 1 (λ x. x) (FrontIsSeen (step slots 1 0 0 none) (m.0, c)))
      (sym no_slot)
      (front_on steps start keeps slots id m.0 live)

  pub draws_at : (m : Hand S E R J) → Rests m
      → Allows (IsInOrder steps start keeps) slots id m 0 (λ x. (x + 1) % 2 ^ 64) (TicketIsDrawn (step slots 0 1 0 none) m)
  draws_at m rests =
      subst (λ (c : List (ℕ × DeskSlot S E R J)).
      Allows (IsInOrder steps start keeps) slots id (m.0, c) 0 (λ x. (x + 1) % 2 ^ 64) (TicketIsDrawn (step slots 0 1 0 none) (m.0, c)))
      (sym rests.no_slot)
      (draws_on steps start keeps slots id m.0 rests.no_ticket rests.no_turn)

  pub counts_at : (m : Hand S E R J) (v : View S E R) (h : Kept S E R J) → m ≡ (v, (0, Some h) ∷ []) → v.turn ≡ true → HasNewCall steps start keeps v h
      → length (calls_of h) < 2 ^ 64
      → Allows (IsInOrder steps start keeps) slots id m 2 (λ x. (x + 1) % 2 ^ 64) (CallIsCounted (step slots 2 1 0 none) m)
  counts_at m v h is turn new small =
      subst (λ (z : Hand S E R J). Allows (IsInOrder steps start keeps) slots id z 2 (λ x. (x + 1) % 2 ^ 64) (CallIsCounted (step slots 2 1 0 none) z)) (sym is)
      (counts_on steps start keeps slots id v new.new_call h turn new.by_seat new.calls small)

  pub ends_at : (m : Hand S E R J) → HasFullSlot steps start keeps m
      → Allows (IsInOrder steps start keeps) slots id m 1 (λ x. (x + 1) % 2 ^ 64) (TurnIsEnded (step slots 1 1 0 none) m)
  ends_at m full =
      subst (λ (c : List (ℕ × DeskSlot S E R J)).
      Allows (IsInOrder steps start keeps) slots id (m.0, c) 1 (λ x. (x + 1) % 2 ^ 64) (TurnIsEnded (step slots 1 1 0 none) (m.0, c)))
      (sym full.slot)
      (ends_on steps start keeps slots id m.0 full.held full.turn full.kept)

module _ {S E R J : Type 0} (steps : S → ℕ → E → R → S → Type 0) (start : S) (keeps : List (Call E R) → J → Type 0) where
  -- the value was put back, and the slot has what was seen
  pub put_full : (m n : Hand S E R J) (h : Kept S E R J) → HasEmptySlot m → n ≡ (m.0, (0, Some h) ∷ rest m.1) → IsAfter steps start keeps m.0.seen h
      → HasFullSlot steps start keeps n
  put_full m n h empty is after =
      let now = put_in m n h empty is in
      record {
        turn = ap (λ (z : Hand S E R J). z.0.turn) now ∙ empty.turn;
        held = h;
        slot = ap (λ (z : Hand S E R J). z.1) now;
        kept = subst (λ (z : Hand S E R J). IsAfter steps start keeps z.0.seen h) (sym now) after;
      }

module _ {S E R J : Type 0} (steps : S → ℕ → E → R → S → Type 0) (start : S) (keeps : List (Call E R) → J → Type 0) (v : View S E R) where
  -- the word shows the seat's ticket
  pub turn_told : (st : Step (DeskSlot S E R J)) (m n : Hand S E R J) (found k : ℕ) → m ≡ (with_ticket v (Some k), []) → v.start ≡ Some start
      → found ≡ k % 2 ^ 64
      → TurnIsSeen steps keeps st m found n → HasTurn steps start keeps v n
  turn_told st m n found k is opened served told =
      let waits : Hand S E R J = (with_ticket v (Some k), []) in
      let t : TurnIsSeen steps keeps st waits found n = subst (λ (z : Hand S E R J). TurnIsSeen steps keeps st z found n) is told in
      let u : IsTurned steps keeps waits n = subst (λ b. MatchBool b (IsTurned steps keeps waits n) (n ≡ waits)) (eq-eqb found (k % 2 ^ 64) served) t in
      let f = u.found start opened in
      record { ticket = k; held = u.held; left = u.left; found = record { seen = f.seen; runs = f.runs; own = f.own }; journal = u.journal }

  -- the call was counted, and the slot has the history with it
  pub counted_full : (h : Kept S E R J) (m : Hand S E R J) → v.turn ≡ true → HasNewCall steps start keeps v h → HasCounted v h m → HasFullSlot steps start keeps m
  counted_full h m turn new counted =
      let is = counted.left new.new_call new.calls in
      let after : IsAfter steps start keeps (with_call v new.new_call).seen h = record {
        calls = new.calls;
        runs = subst (λ (l : List (Call E R)). Runs steps start l h.state) new.calls new.runs;
        journal = new.journal;
      } in
      record {
        turn = ap (λ (z : Hand S E R J). z.0.turn) is ∙ turn;
        held = h;
        slot = ap (λ (z : Hand S E R J). z.1) is;
        kept = subst (λ (z : Hand S E R J). IsAfter steps start keeps z.0.seen h) (sym is) after;
      }

  pub slot_full : (m : Hand S E R J) (x : DeskSlot S E R J) (t : HasTurn steps start keeps v m) → m.1 ≡ (0, x) ∷ rest m.1 → x ≡ Some t.held
  slot_full m x t e = first_slot x (Some t.held) _ _ (sym e ∙ ap (λ (z : Hand S E R J). z.1) t.left)

  pub took_none : (m : Hand S E R J) (x : DeskSlot S E R J) → HasTurn steps start keeps v m → m.1 ≡ (0, x) ∷ rest m.1 → x ≡ None → ⊥
  took_none m x t e empty = none_some t.held (sym empty ∙ slot_full m x t e)

  pub took_told : (m n : Hand S E R J) (x : DeskSlot S E R J) (h : Kept S E R J) → HasTurn steps start keeps v m → m.1 ≡ (0, x) ∷ rest m.1
      → n ≡ (m.0, (0, None) ∷ rest m.1) → x ≡ Some h
      → HasTaken steps start keeps v h n
  took_told m n x h t e e' is =
      let same : t.held ≡ h = some_same t.held h (sym (slot_full m x t e) ∙ is) in
      subst (λ (z : Kept S E R J). HasTaken steps start keeps v z n) same
      record { ticket = t.ticket; left = e' ∙ ap (λ (z : Hand S E R J). (z.0, (0, None) ∷ rest z.1)) t.left; found = t.found; journal = t.journal }

  module _ (h : Kept S E R J) (m : Hand S E R J) (t : HasTaken steps start keeps v h m) where
    pub taken_empty : HasEmptySlot m
    taken_empty = record { turn = ap (λ (z : Hand S E R J). z.0.turn) t.left; slot = ap (λ (z : Hand S E R J). z.1) t.left }

    pub taken_after : (k : Kept S E R J) → calls_of k ≡ calls_of h → k.state ≡ h.state → k.journal ≡ h.journal
        → IsAfter steps start keeps m.0.seen k
    taken_after k calls state journal =
        let seen : m.0.seen ≡ calls_of h = ap (λ (z : Hand S E R J). z.0.seen) t.left in
        record {
          calls = calls ∙ sym seen;
          runs = subst (λ (z : S × List (Call E R)). Runs steps start z.1 z.0) (λ i. (sym state i, sym seen i)) t.found.runs;
          journal = subst (λ (z : List (Call E R) × Option J). IfSome z.1 (keeps z.0)) (λ i. (sym calls i, sym journal i)) t.journal;
        }

    pub new_call_of : (k : Kept S E R J) (n : ℕ) (e : E) (r : R) → n ≡ v.number → calls_of k ≡ calls_of h ++ call n e r ∷ []
        → Runs steps start (calls_of k) k.state → KeepsCalls keeps k
        → HasNewCall steps start keeps m.0 k
    new_call_of k n e r num grown runs journal =
        let seen : m.0.seen ≡ calls_of h = ap (λ (z : Hand S E R J). z.0.seen) t.left in
        let number : m.0.number ≡ v.number = ap (λ (z : Hand S E R J). z.0.number) t.left in
        record { new_call = call n e r; by_seat = num ∙ sym number; calls = grown ∙ ap (λ l. l ++ call n e r ∷ []) (sym seen); runs = runs; journal = journal }

    pub called_told : (k : Kept S E R J) (n : ℕ) (e : E) (r : R) (end : Hand S E R J) → v.ticket ≡ None → v.turn ≡ false → n ≡ v.number
        → calls_of k ≡ calls_of h ++ call n e r ∷ []
        → steps h.state n e r k.state → EndsWithCall m.0 k end → HasCalled steps start v e r end.0
    called_told k n e r end no_ticket no_turn num grown st ends =
        let c = call v.number e r in
        let grown' : calls_of k ≡ calls_of h ++ c ∷ [] = subst (λ (z : ℕ). calls_of k ≡ calls_of h ++ call z e r ∷ []) num grown in
        let its : View S E R = with_turn (with_ticket v (Some t.ticket)) (calls_of h) in
        let ends' : EndsWithCall its k end = subst (λ (z : Hand S E R J). EndsWithCall z.0 k end) t.left ends in
        let left = ends'.left c grown' in
        record {
          history = calls_of h;
          before = h.state;
          after = k.state;
          found = t.found;
          step = subst (λ (z : ℕ). steps h.state z e r k.state) num st;
          left = ap (λ (z : Hand S E R J). z.0) left
              ∙ (λ i. record v { calls = v.calls ++ c ∷ []; seen = calls_of h ++ c ∷ []; ticket = sym no_ticket i; turn = sym no_turn i });
        }

    pub seen_told : (end : Hand S E R J) → v.ticket ≡ None → v.turn ≡ false → end ≡ (with_ticket m.0 None, []) → HasSeen steps start v end.0
    seen_told end no_ticket no_turn is = record {
      history = calls_of h;
      state = h.state;
      found = t.found;
      left = ap (λ (z : Hand S E R J). z.0) (is ∙ ap (λ (z : Hand S E R J). (with_ticket z.0 None, [])) t.left)
          ∙ (λ i. record v { seen = calls_of h; ticket = sym no_ticket i; turn = sym no_turn i });
    }

    pub ended_slots : (k : Kept S E R J) (n : ℕ) (e : E) (r : R) (end : Hand S E R J) → n ≡ v.number → calls_of k ≡ calls_of h ++ call n e r ∷ []
        → EndsWithCall m.0 k end → end.1 ≡ []
    ended_slots k n e r end num grown ends =
        let seen : m.0.seen ≡ calls_of h = ap (λ (z : Hand S E R J). z.0.seen) t.left in
        ap (λ (z : Hand S E R J). z.1) (ends.left (call n e r) (grown ∙ ap (λ l. l ++ call n e r ∷ []) (sym seen)))

module _ {S E R J : Type 0} (steps : S → ℕ → E → R → S → Type 0) (start : S) (keeps : List (Call E R) → J → Type 0) (v : View S E R)
    (xs : List (DeskSlot S E R J)) where
  -- the value that was taken out at the end
  pub closed_some : (slot : DeskSlot S E R J) (h : Kept S E R J) → (k : Kept S E R J) × (get_elem? xs 0 ≡ some (Some k)) × IsClosed steps start keeps v k
      → get_elem? xs 0 ≡ some slot → slot ≡ Some h → IsClosed steps start keeps v h
  closed_some slot h c e is =
      subst (IsClosed steps start keeps v) (some_same c.0 h (some-injective (Some c.0) (Some h) (sym c.1 ∙ (e ∙ ap some is)))) c.2

  pub closed_none : (slot : DeskSlot S E R J) → (k : Kept S E R J) × (get_elem? xs 0 ≡ some (Some k)) × IsClosed steps start keeps v k
      → get_elem? xs 0 ≡ some slot → slot ≡ None → ⊥
  closed_none slot c e is = none_some c.0 (some-injective None (Some c.0) (sym (e ∙ ap some is) ∙ c.1))
