-- Runs of the same jobs at one worker are one, where the clock stands still.
use Rattle.std.proofs.Common.{◌≡◌, ◌∙◌, ℕ, ◌<◌, List, [], ◌∷◌, length, All, Some, None, refl, ap, sym, subst, arith}
use Rattle.std.proofs.lemmas.List.Elements.{All-head, All-tail}
use Rattle.rand_chacha.specs.ChaCha.{ChaCha}
use Rattle.dice.specs.Rolls.{dice_of}
use Rattle.script_tree.specs.Objects.{Objects}
use Rattle.script_tree.specs.Programs.{Program}
use Rattle.script_tree.specs.Requests.{Request}
use Rattle.history.specs.Arrivals.{arrivals}
use Rattle.history.specs.Names.{names}
use Rattle.history.specs.Rooms.{Room, AreSteps, IsStep, empty_room, onward, room_after}
use Rattle.history.specs.declared.happening.Happening.{Happening}
use Rattle.history.specs.declared.happening.Happening.TheVariants.{Arrive, Act, Depart}
use Rattle.server_workers.specs.Served.{IsServed}
use Rattle.turns.specs.ByTurns.{seat_in}
use Rattle.turns.specs.Offers.{AreReadings, AreRolled, roll_at, rolls_at}
use Rattle.one_outcome.proofs.Alike.{Told, after_roll, alike, first_roll, later_rolls, none_some}

module _ (program : Program) (n : ℕ) where
  -- what holds of what happens from a room on, all of it at the first seat
  record Holds (room : Room) (dice : ChaCha) (hs : List Happening) : Type 0 where
    pub steps : AreSteps program room hs
    pub rolls : AreRolled dice (rolls_at 0 hs)
    pub reads : AreReadings n room hs
    pub closed : (room_after room hs).open_at 0 ≡ None
    pub here : All (λ h. seat_in h < 1) hs

  told : (room : Room) (dice : ChaCha) (x : Happening) (xs : List Happening) → Holds room dice (x ∷ xs)
      → Told program n 0 room dice x
  told room dice x xs holds = record {
    here = let at = All-head (λ h. seat_in h < 1) x xs holds.here in omega (arith, at);
    step = holds.steps.0;
    rolls = first_roll (roll_at 0 x) dice (rolls_at 0 xs) holds.rolls;
    reads = holds.reads.0;
  }

  later : (room : Room) (dice : ChaCha) (x : Happening) (xs : List Happening) → Holds room dice (x ∷ xs)
      → Holds (onward room x) (after_roll (roll_at 0 x) dice) xs
  later room dice x xs holds = record {
    steps = holds.steps.1;
    rolls = later_rolls (roll_at 0 x) dice (rolls_at 0 xs) holds.rolls;
    reads = holds.reads.1;
    closed = holds.closed;
    here = All-tail (λ h. seat_in h < 1) x xs holds.here;
  }

  -- where nothing is open at the seat and none arrives, nothing happens there
  nothing_more : (room : Room) (x : Happening) (xs : List Happening) → room.open_at 0 ≡ None → seat_in x ≡ 0
      → IsStep program room x → length (arrivals (x ∷ xs)) ≡ 0 → ⊥
  nothing_more room (Arrive a i q) xs empty here step none = omega (arith, none)
  nothing_more room (Act a i k op c) xs empty here step none = none_some _ (sym empty ∙ ap room.open_at (sym here) ∙ step.0.0.1)
  nothing_more room (Depart a i r p) xs empty here step none = none_some _ (sym empty ∙ ap room.open_at (sym here) ∙ step.0.1)

  one : (room : Room) (dice : ChaCha) (g h : List Happening) → Holds room dice g → Holds room dice h
      → arrivals g ≡ arrivals h → names g ≡ names h
  one room dice [] [] first second came = refl
  one room dice [] (y ∷ ys) first second came =
      absurd (nothing_more room y ys first.closed (told room dice y ys second).here second.steps.0 (ap length (sym came)))
  one room dice (x ∷ xs) [] first second came =
      absurd (nothing_more room x xs second.closed (told room dice x xs first).here first.steps.0 (ap length came))
  one room dice (x ∷ xs) (y ∷ ys) first second came =
      let both = alike program n 0 room dice x y xs ys (told room dice x xs first) (told room dice y ys second) came in
      let next = later room dice y ys second in
      let back = sym both.0.left in
      let left : Holds (onward room x) (after_roll (roll_at 0 y) dice) ys =
      subst (λ r. Holds r (after_roll (roll_at 0 y) dice) ys) back next in
      let next' : Holds (onward room x) (after_roll (roll_at 0 x) dice) ys =
      subst (λ o. Holds (onward room x) (after_roll o dice) ys) (sym (both.0.rolls 0)) left in
      let same = one (onward room x) (after_roll (roll_at 0 x) dice) xs ys (later room dice x xs first) next' both.1 in
      λ i. both.0.named i ∷ same i

-- what one worker did for the jobs
holds_of : (program : Program) (start : Objects) (jobs : List Request) (seed n : ℕ) (h : List Happening)
    → IsServed program start jobs 1 seed (Some n) h → Holds program n (empty_room start) (dice_of seed 0) h
holds_of program start jobs seed n h served = record {
  steps = served.legal;
  rolls = served.rolls 0;
  reads = served.readings n refl;
  closed = served.closed 0;
  here = served.seats;
}

pub served_is_one : (program : Program) (start : Objects) (jobs : List Request) (workers seed n : ℕ) (g h : List Happening)
    → workers ≡ 1 → IsServed program start jobs workers seed (Some n) g → IsServed program start jobs workers seed (Some n) h
    → names g ≡ names h
served_is_one program start jobs workers seed n g h alone first second =
    let g' = subst (λ w. IsServed program start jobs w seed (Some n) g) alone first in
    let h' = subst (λ w. IsServed program start jobs w seed (Some n) h) alone second in
    one program n (empty_room start) (dice_of seed 0) g h (holds_of program start jobs seed n g g')
    (holds_of program start jobs seed n h h') (g'.in_order refl ∙ sym (h'.in_order refl))
