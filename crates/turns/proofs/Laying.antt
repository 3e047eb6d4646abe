-- What a turn leaves at the seats.
use Rattle.std.proofs.Common.{◌≡◌, ◌≢◌, ◌∙◌, ℕ, zero, suc, ◌+◌, ◌<◌, List, [], ◌∷◌, ◌++◌, length, length-append, get_or, Option, None, ◌⊎◌, inl, inr, refl, ap, sym, subst, arith}
use Rattle.std.specs.Prelude.{slice_set, nat_eq, true, false}
use Rattle.std.specs.Vec.Iter.{into_iter_items, into_iter_len}
use Rattle.std.proofs.lemmas.Bool.Decides.{eqb_tells}
use Rattle.std.proofs.lemmas.List.{get_or-set_same, get_or-set_other, length-set}
use Rattle.rand_chacha.specs.ChaCha.{ChaCha}
use Rattle.dice.specs.Rolls.{dice_of}
use Rattle.script_tree.specs.Programs.{Program}
use Rattle.script_tree.specs.Requests.{Request}
use Rattle.script_check.specs.Validity.{IsValid}
use Rattle.script_code.specs.Translated.{IsCodeOf}
use Rattle.machine.specs.declared.machine.Machine.{Machine}
use Rattle.history.specs.Seats.{at_seat}
use Rattle.history.specs.Visits.{Visit}
use Rattle.history.specs.declared.happening.Happening.{Happening}
use Rattle.turns.specs.Seated.{IsSeated, IsLaid}
use Rattle.turns.specs.Turned.{Moves, Acts, dice_at, jobs_left}
use Rattle.turns.specs.declared.table.Table.{Table}
use Rattle.turns.proofs.Events.{stays}

-- A list differs at one place.
pub record Replaces {A : Type 0} (place : ℕ) (a : Option A) (old new : List (Option A)) : Type 0 where
  pub here : at_seat new place ≡ a
  pub others : (x : ℕ) → x ≢ place → at_seat new x ≡ at_seat old x
  pub same : length new ≡ length old

pub replaced : {A : Type 0} (place : ℕ) (a : Option A) (old new : List (Option A)) → place < length old → new ≡ slice_set old place a → Replaces place a old new
replaced place a old new within is = record {
  here = ap (λ xs. at_seat xs place) is ∙ get_or-set_same old place a None within;
  others = λ x ne. ap (λ xs. at_seat xs x) is ∙ get_or-set_other old place x a None ne;
  same = ap length is ∙ length-set old place a;
}

-- what is put at the place of a seat
pub put_once : {A : Type 0} (place seat : ℕ) (a : Option A) (xs : List (Option A)) → place ≡ seat → place < length xs
    → Replaces seat a xs (slice_set xs place a)
put_once place seat a xs is within = subst (λ s. Replaces s a xs (slice_set xs place a)) is (replaced place a xs (slice_set xs place a) within refl)

-- The dice of one seat go on, and the others stay.
pub record Throws (seed seat : ℕ) (before after : ChaCha) (old new : List ChaCha) : Type 0 where
  pub was : before ≡ get_or old seat (dice_of seed seat)
  pub is : after ≡ get_or new seat (dice_of seed seat)
  pub others : (x : ℕ) → x ≢ seat → get_or new x (dice_of seed x) ≡ get_or old x (dice_of seed x)

read : {A : Type 0} (xs : List A) (place : ℕ) (x d : A) → place < length xs → x ≡ get_or xs place x → x ≡ get_or xs place d
read [] place x d within is = absurd (omega arith)
read (y ∷ xs) zero x d within is = is
read (y ∷ xs) (suc place) x d within is = read xs place x d (omega arith) is

pub threw : (seed place seat : ℕ) (before after : ChaCha) (dice : List ChaCha) → place ≡ seat → place < length dice → before ≡ get_or dice place before
    → Throws seed seat before after dice (slice_set dice place after)
threw seed place seat before after dice is within here =
    subst (λ s. Throws seed s before after dice (slice_set dice place after)) is (record {
      was = read dice place before (dice_of seed place) within here;
      is = sym (get_or-set_same dice place after (dice_of seed place) within);
      others = λ x ne. get_or-set_other dice place x after (dice_of seed x) ne;
    })

-- as many jobs are left as are counted
pub counted : {A : Type 0} (before came left : List A) (was is : ℕ) → was ≡ length before → before ≡ came ++ left → is + length came ≡ was → is ≡ length left
counted before came left was is all parts less = omega (arith, all, ap length parts, length-append came left, less)

other_seats : (program : Program) (x : ℕ) (visits more : List (Option Visit)) (runs left : List (Option Machine))
    → at_seat more x ≡ at_seat visits x → at_seat left x ≡ at_seat runs x
    → IsSeated program (at_seat visits x) (at_seat runs x) → IsSeated program (at_seat more x) (at_seat left x)
other_seats program x visits more runs left is run seated =
    subst (λ o. IsSeated program o (at_seat left x)) (sym is) (subst (λ r. IsSeated program (at_seat visits x) r) (sym run) seated)

pub laid_on : (reading : Option ℕ) (seat : ℕ) (came : List Request) (h : Happening) (old new : Table) (before after : ChaCha) (left : Option Machine)
    → IsLaid old → Moves reading seat came h old.recording new.recording before after left → Replaces seat left old.runs.items new.runs.items
    → new.code ≡ old.code → length new.dice.items ≡ length old.dice.items → into_iter_len new.jobs ≡ length (into_iter_items new.jobs)
    → IsLaid new
laid_on reading seat came h old new before after left laid moves replaces code dice jobs =
    let program = moves.happens.program in
    record {
      code = subst (λ p. IsCodeOf p new.code.now) (sym program) (subst (λ k. IsCodeOf old.recording.program k.now) (sym code) laid.code);
      valid = subst (λ p. IsValid p) (sym program) laid.valid;
      seated = λ x. by x (eqb_tells x seat);
      runs = replaces.same ∙ laid.runs;
      dice = dice ∙ laid.dice;
      jobs = jobs;
    }
  where
    by : (x : ℕ) → ((nat_eq x seat ≡ true) × (x ≡ seat)) ⊎ ((nat_eq x seat ≡ false) × (x ≢ seat))
        → IsSeated new.recording.program (at_seat new.recording.visits x) (at_seat new.runs.items x)
    by x (inl (is, same)) =
        subst (λ y. IsSeated new.recording.program (at_seat new.recording.visits y) (at_seat new.runs.items y)) (sym same)
        (subst (λ r. IsSeated new.recording.program (at_seat new.recording.visits seat) r) (sym replaces.here) moves.seated)
    by x (inr (is, other)) =
        other_seats new.recording.program x old.recording.visits new.recording.visits old.runs.items new.runs.items
        (stays moves.happens x other) (replaces.others x other)
        (subst (λ p. IsSeated p (at_seat old.recording.visits x) (at_seat old.runs.items x)) (sym moves.happens.program) (laid.seated x))

-- with other dice, and what is at the seat
pub acts_on : (reading : Option ℕ) (seat : ℕ) (came : List Request) (h : Happening) (old new : Table) (before after : ChaCha) (left : Option Machine)
    → Moves reading seat came h old.recording new.recording before after left → jobs_left old ≡ came ++ jobs_left new
    → before ≡ dice_at old seat → after ≡ dice_at new seat → ((x : ℕ) → x ≢ seat → dice_at new x ≡ dice_at old x) → at_seat new.runs.items seat ≡ left
    → Acts reading seat h old new
acts_on reading seat came h old new before after left moves jobs was is others run = record {
  came = came;
  jobs = jobs;
  moves =
      subst (λ l. Moves reading seat came h old.recording new.recording (dice_at old seat) (dice_at new seat) l) (sym run)
      (subst (λ d. Moves reading seat came h old.recording new.recording (dice_at old seat) d left) is
      (subst (λ d. Moves reading seat came h old.recording new.recording d after left) was moves));
  others = others;
}
