-- Each step keeps the rule.
use Rattle.std.proofs.Common.{◌≡◌, ◌≢◌, ℕ, ◌+◌, ◌%◌, ◌^◌, ◌<◌, ◌≤◌, List, [], ◌∷◌, ◌++◌, Bool, true, false, ◌||◌, IsPermutation, sum_by}
use Rattle.std.proofs.Common.{refl, sym, ap, ◌∙◌, subst, set, min, arith, nat_lt, slice_index, slice_set, ⊎_elim}
use Rattle.std.specs.List.{flat_map}
use Rattle.std.proofs.lemmas.Bool.Decides.{nat_tests}
use Rattle.std.proofs.lemmas.List.Elements.{All-push, All-weaker}
use Rattle.std.proofs.lemmas.List.Sorted.{IsPermutation-append_left, IsPermutation-cons, IsPermutation-trans}
use Rattle.std.proofs.lemmas.List.Sums.{sum_by_push}
use mathlib.Core.Option.{none, some}
use lib.ListN.{get_elem?}
use Rattle.atomic_table.specs.Table.{State, Me, Act, Valid, step, keeps, stepped, carried_after, Allows, Splits, Joins}
use Rattle.atomic_table.proofs.Lists.{at_set}
use Rattle.claims.specs.declared.view.View.{View}
use Rattle.claims.specs.Lists.{numbers_below, IsGreaterThanAll, IsLeastOf}
use Rattle.claims.specs.Rule.{drawing_parts, IsTrueOf, IsKept}
use Rattle.claims.specs.Steps.{Draws, Lowers, Looks}
use Rattle.claims.specs.Views.{all_parts, with_drawn, with_none_left, with_lowered, with_bound, rest_of, part_of, joint_view, spent_view}
use Rattle.claims.proofs.Gathering.{sum_by-changed, within-sum_by, flat_map-at, flat_map-more, flat_map-push, flat_map-moved}
use Rattle.claims.proofs.Known.{parts, drawn, lowered, drawing-within, seat-at, seats-set, once-same, lowest-same, seat-changed}
use Rattle.claims.proofs.Leasts.{numbers_below-next, least-permuted, least-more}
use Rattle.claims.proofs.Rising.{below_limit}

module _ (limit slots id : ℕ) (seat : Me (Unit {0}) View) where
  -- the next number is below the limit
  number-drawn : (s : State (Unit {0}) View) (r : IsKept limit s) → get_elem? s.views id ≡ some seat.0 → 0 < seat.0.parts → limit < 2 ^ 63 → r.next < limit
      → IsKept limit (stepped s 0 ((r.next + 1) % 2 ^ 64) id seat.1 (with_drawn r.next seat.0) keeps)
  number-drawn s r at live small left =
      let v = seat.0 in let w = with_drawn r.next v in
      let known = seat-at s.views id v r.seats at in
      let within = drawing-within s r in
      let one : (r.next + 1) % 2 ^ 64 ≡ r.next + 1 = omega arith in
      let now : min r.next limit ≡ r.next = omega arith in
      let then : r.next + 1 ≡ min (r.next + 1) limit = omega arith in
      let below : numbers_below (min r.next limit) ++ r.next ∷ [] ≡ numbers_below (min (r.next + 1) limit) =
      ap (λ (k : ℕ). numbers_below k ++ r.next ∷ []) now ∙ (sym (numbers_below-next r.next) ∙ ap numbers_below then) in
      let more = IsPermutation-append_left (r.next ∷ []) (flat_map drawn s.views) (numbers_below (min r.next limit)) r.once in
      seat-changed id v s r at w (slice_set s.words 0 ((r.next + 1) % 2 ^ 64)) (r.next + 1) r.least
      (ap (λ (l : List ℕ). slice_set l 0 ((r.next + 1) % 2 ^ 64)) r.words ∙ ap (λ (k : ℕ). k ∷ r.least ∷ []) one)
      (omega arith) (omega arith) refl (λ drawing. omega arith)
      (IsPermutation-trans (flat_map drawn (set s.views id w)) (flat_map drawn s.views ++ r.next ∷ []) (numbers_below (min (r.next + 1) limit))
      (flat_map-more drawn (r.next ∷ []) s.views id v w at refl)
      (subst (IsPermutation (flat_map drawn s.views ++ r.next ∷ [])) below more))
      (lowest-same id v s r at w refl)
      record {
        none_left = λ e. let a = known.none_left e in omega arith;
        bound = known.bound;
        drew_none = λ z. absurd (omega arith);
        lowered_none = known.lowered_none;
      }

  -- the next number isn't below the limit, so that none is left
  none-left : (s : State (Unit {0}) View) (r : IsKept limit s) → get_elem? s.views id ≡ some seat.0 → seat.0.none_left ≡ false → 0 < seat.0.parts
      → limit < 2 ^ 63 → limit ≤ r.next → IsKept limit (stepped s 0 ((r.next + 1) % 2 ^ 64) id seat.1 (with_none_left seat.0) keeps)
  none-left s r at may_draw live small over =
      let v = seat.0 in let w = with_none_left v in
      let drew : drawing_parts v ≡ v.parts = rw may_draw refl in
      let had = within-sum_by drawing_parts s.views id v at in
      let known = seat-at s.views id v r.seats at in
      let room = r.room in
      let within = drawing-within s r in
      let one : (r.next + 1) % 2 ^ 64 ≡ r.next + 1 = omega arith in
      let none_more : min r.next limit ≡ min (r.next + 1) limit = omega arith in
      seat-changed id v s r at w (slice_set s.words 0 ((r.next + 1) % 2 ^ 64)) (r.next + 1) r.least
      (ap (λ (l : List ℕ). slice_set l 0 ((r.next + 1) % 2 ^ 64)) r.words ∙ ap (λ (k : ℕ). k ∷ r.least ∷ []) one)
      (omega arith) (omega arith) refl (λ drawing. omega arith)
      (subst (λ (k : ℕ). IsPermutation (flat_map drawn (set s.views id w)) (numbers_below k)) none_more (once-same id v s r at w refl))
      (lowest-same id v s r at w refl)
      record { none_left = λ _. omega arith; bound = known.bound; drew_none = known.drew_none; lowered_none = known.lowered_none }

  -- the next number is greater than all that were drawn
  greater : (s : State (Unit {0}) View) (r : IsKept limit s) → get_elem? s.views id ≡ some seat.0 → IsGreaterThanAll seat.0.drawn r.next
  greater s r at =
      All-weaker (λ n. n < min r.next limit) (λ n. n < r.next) (λ n less. omega (arith, less)) seat.0.drawn
      (flat_map-at drawn (λ n. n < min r.next limit) s.views id seat.0 at (below_limit (min r.next limit) (flat_map drawn s.views) r.once))

  abbrev Drawn : State (Unit {0}) View → ℕ → Type 0
  Drawn s k =
      (w : View) × (a : Act (Unit {0})) × Valid s.homes seat.1 a × IsKept limit (stepped s 0 ((k + 1) % 2 ^ 64) id seat.1 w a)
      × Draws (step slots 0 1 0 none) seat k (w, carried_after seat.1 a)

  pub draws : seat.0.none_left ≡ false → 0 < seat.0.parts → seat.0.limit ≡ limit → limit < 2 ^ 63
      → Allows (IsKept limit) slots id seat 0 (λ n. (n + 1) % 2 ^ 64) (Draws (step slots 0 1 0 none) seat)
  draws may_draw live own small s r _ at _ =
      subst (Drawn s) (sym (ap (λ (l : List ℕ). slice_index l 0) r.words)) (go (nat_lt r.next limit) refl)
    where
      go : (b : Bool) → nat_lt r.next limit ≡ b → Drawn s r.next
      go true e = (
        with_drawn r.next seat.0,
        keeps,
        tt,
        number-drawn s r at live small (grind (arith, nat_tests)),
        rw (own, e) (greater s r at, refl),
      )
      go false e = (with_none_left seat.0, keeps, tt, none-left s r at may_draw live small (grind (arith, nat_tests)), rw (own, e) refl)

  pub lowers : (number : ℕ) → 0 < seat.0.parts → Allows (IsKept limit) slots id seat 1 (λ n. min n number) (Lowers (step slots 1 number 0 none) seat)
  lowers number live s r _ at _ =
      let v = seat.0 in let w = with_lowered number v in
      let known = seat-at s.views id v r.seats at in
      let below = known.bound live in
      let room = r.room in
      let gathered = flat_map lowered s.views in
      let lowest : IsLeastOf (limit ∷ flat_map lowered (set s.views id w)) (min r.least number) =
      least-permuted (limit ∷ flat_map lowered (set s.views id w)) ((limit ∷ gathered) ++ number ∷ []) (min r.least number)
      (IsPermutation-cons limit (flat_map lowered (set s.views id w)) (gathered ++ number ∷ [])
      (flat_map-more lowered (number ∷ []) s.views id v w at refl))
      (least-more (limit ∷ gathered) number r.least r.lowest) in (
        w,
        keeps,
        tt,
        subst (λ (k : ℕ). IsKept limit (stepped s 1 (min k number) id seat.1 w keeps)) (sym (ap (λ (l : List ℕ). slice_index l 1) r.words))
            (seat-changed id v s r at w (slice_set s.words 1 (min r.least number)) r.next (min r.least number)
            (ap (λ (l : List ℕ). slice_set l 1 (min r.least number)) r.words)
            (omega arith) (omega arith) refl (λ drawing. omega arith) (once-same id v s r at w refl) lowest
            record { none_left = known.none_left; bound = λ _. omega arith; drew_none = known.drew_none; lowered_none = λ z. absurd (omega arith) }),
        refl,
      )

  abbrev Looked : State (Unit {0}) View → ℕ → Type 0
  Looked s k =
      (w : View) × (a : Act (Unit {0})) × Valid s.homes seat.1 a × IsKept limit (stepped s 1 k id seat.1 w a)
      × Looks (step slots 1 0 0 none) seat k (w, carried_after seat.1 a)

  pub looks : 0 < seat.0.parts → Allows (IsKept limit) slots id seat 1 (λ n. n) (Looks (step slots 1 0 0 none) seat)
  looks live s r _ at _ =
      let v = seat.0 in let w = with_bound r.least v in
      let known = seat-at s.views id v r.seats at in
      let room = r.room in
      subst (Looked s) (sym (ap (λ (l : List ℕ). slice_index l 1) r.words)) (
        w,
        keeps,
        tt,
        seat-changed id v s r at w (slice_set s.words 1 r.least) r.next r.least (ap (λ (l : List ℕ). slice_set l 1 r.least) r.words)
            (omega arith) (omega arith) refl (λ drawing. omega arith) (once-same id v s r at w refl) (lowest-same id v s r at w refl)
            record { none_left = known.none_left; bound = λ _. omega arith; drew_none = known.drew_none; lowered_none = known.lowered_none },
        (known.bound live, refl),
      )

  pub splits : 1 < seat.0.parts → Splits (IsKept limit) id seat.0 (rest_of seat.0) (part_of seat.0)
  splits enough s r at =
      let v = seat.0 in let rest = rest_of v in let part = part_of v in let views = set s.views id rest in
      let drawing = sum_by-changed drawing_parts s.views id v rest at in
      let drawing' = sum_by_push drawing_parts views part in
      let shares = sum_by-changed parts s.views id v rest at in
      let shares' = sum_by_push parts views part in
      let cut = two_of_one v (omega arith) in
      let room = r.room in
      let whole : sum_by parts s.views ≡ all_parts = r.whole in
      let known = seat-at s.views id v r.seats at in
      record {
        next = r.next;
        least = r.least;
        words = r.words;
        once = subst (λ (l : List ℕ). IsPermutation l (numbers_below (min r.next limit))) (sym (flat_map-push drawn views part refl))
            (once-same id v s r at rest refl);
        lowest = subst (λ (l : List ℕ). IsLeastOf (limit ∷ l) r.least) (sym (flat_map-push lowered views part refl))
            (lowest-same id v s r at rest refl);
        whole = omega arith;
        room = omega arith;
        seats = All-push (IsTrueOf limit r.next r.least) views part
            (seats-set s.views id rest (omega arith) (omega arith)
            record {
              none_left = known.none_left;
              bound = λ _. known.bound (omega arith);
              drew_none = λ z. absurd (omega arith);
              lowered_none = λ z. absurd (omega arith);
            }
            r.seats)
            record { none_left = known.none_left; bound = λ _. known.bound (omega arith); drew_none = λ _. refl; lowered_none = λ _. refl };
      }
    where
      two_of_one : (v : View) → 0 < v.parts → drawing_parts (rest_of v) + drawing_parts (part_of v) ≡ drawing_parts v
      two_of_one v live = go v.none_left refl
        where
          go : (b : Bool) → v.none_left ≡ b → drawing_parts (rest_of v) + drawing_parts (part_of v) ≡ drawing_parts v
          go true e = rw e (omega arith)
          go false e = rw e (omega arith)

  drawing-joint : (v w : View) → drawing_parts (joint_view v w) ≤ drawing_parts v + drawing_parts w
  drawing-joint v w = go v.none_left w.none_left refl refl
    where
      go : (b c : Bool) → v.none_left ≡ b → w.none_left ≡ c → drawing_parts (joint_view v w) ≤ drawing_parts v + drawing_parts w
      go true c d e = rw d (omega arith)
      go false true d e = rw (d, e) (omega arith)
      go false false d e = rw (d, e) (omega arith)

  either-told : (b c : Bool) (next : ℕ) → (b ≡ true → limit ≤ next) → (c ≡ true → limit ≤ next) → (b || c) ≡ true → limit ≤ next
  either-told true c next first second told = first refl
  either-told false c next first second told = second told

  pub joins : (other : ℕ) (w : View) → 0 < seat.0.parts → 0 < w.parts → Joins (IsKept limit) id seat.0 other w (joint_view seat.0 w) spent_view
  joins other w live live' s r at apart there =
      let v = seat.0 in let both = joint_view v w in let views = set s.views id both in let last = set views other spent_view in
      let was : get_elem? s.views other ≡ some w =
      ⊎_elim (λ (t : (other ≡ id) × (both ≡ w)). absurd (apart t.0)) (λ (t : (other ≢ id) × (get_elem? s.views other ≡ some w)). t.1)
      (at_set s.views id other both w there) in
      let drawing = sum_by-changed drawing_parts s.views id v both at in
      let drawing' = sum_by-changed drawing_parts views other w spent_view there in
      let shares = sum_by-changed parts s.views id v both at in
      let shares' = sum_by-changed parts views other w spent_view there in
      let joint = drawing-joint v w in
      let room = r.room in
      let whole : sum_by parts s.views ≡ all_parts = r.whole in
      let known = seat-at s.views id v r.seats at in
      let known' = seat-at s.views other w r.seats was in
      let apart' : id ≢ other = λ same. apart (sym same) in
      record {
        next = r.next;
        least = r.least;
        words = r.words;
        once = IsPermutation-trans (flat_map drawn last) (flat_map drawn s.views) (numbers_below (min r.next limit))
            (flat_map-moved drawn s.views id other v w both spent_view at apart' was refl refl) r.once;
        lowest = least-permuted (limit ∷ flat_map lowered last) (limit ∷ flat_map lowered s.views) r.least
            (IsPermutation-cons limit (flat_map lowered last) (flat_map lowered s.views)
            (flat_map-moved lowered s.views id other v w both spent_view at apart' was refl refl)) r.lowest;
        whole = omega arith;
        room = omega arith;
        seats = seats-set {next = r.next} {least = r.least} views other spent_view (omega arith) (omega arith)
            record { none_left = λ e. cc; bound = λ p. absurd (omega arith); drew_none = λ _. refl; lowered_none = λ _. refl }
            (seats-set s.views id both (omega arith) (omega arith)
            record {
              none_left = either-told v.none_left w.none_left r.next known.none_left known'.none_left;
              bound = λ _. let a = known.bound live in let b = known'.bound live' in omega arith;
              drew_none = λ z. absurd (omega arith);
              lowered_none = λ z. absurd (omega arith);
            }
            r.seats);
      }
