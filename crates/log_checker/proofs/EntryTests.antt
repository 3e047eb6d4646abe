-- The tests of an entry, as the code makes them.
use Rattle.std.proofs.Common.{◌≡◌, ◌∙◌, ℕ, ℤ, Option, Some, None, Bool, true, false, ◌||◌, ◌&&◌, not, nat_eq, nat_lt, nat_le, unwrap_or, refl, ap, sym, arith, true≢false}
use Rattle.std.proofs.lemmas.Bool.{and_parts, eqb-true, eq-eqb, false_from_ne_true, not-false}
use Rattle.std.proofs.lemmas.Bool.Decides.{nat_tests}
use Rattle.std.specs.Option.{option_copied}
use denote.Ref.{Bor}
use Rattle.basis.proofs.Options.{some_is}
use Rattle.basis.specs.Lists.{first_answer}
use Rattle.script_tree.specs.Objects.{Cell, reading, none, plausible, is_nothing, is_reading, is_roll, acted}
use Rattle.script_tree.specs.Programs.{Program}
use Rattle.script_tree.specs.declared.operation.Act.{Act}
use Rattle.script_tree.specs.declared.operation.Act.TheVariants.{Read, Write, Get, Put, Remove, Transact, Now, Roll}
use Rattle.script_tree.specs.declared.operation.Choice.{Choice}
use Rattle.script_tree.specs.declared.operation.Choice.TheVariants.{Nothing, Number}
use Rattle.script_tree.specs.declared.operation.Object.{Object}
use Rattle.script_tree.specs.declared.operation.Object.TheVariants.{Register, Store, Tables, Clock, Dice}
use Rattle.period.specs.declared.report.LogEntry.{LogEntry}
use Rattle.period.specs.declared.report.Report.{Report}
use Rattle.script_fit.specs.OfProgram.{is_of_program, choice_is_of}
use Rattle.audit_meaning.specs.LogFaults.{is_foreign, is_uncounted, is_out_of_order}
use Rattle.audit_meaning.specs.Spots.{Spot, count_of, operations_in}
use Rattle.log_checker.specs.Counting.{IsCounted, operations_of}
use Rattle.log_checker.specs.Entries.{Awaits, Tracks, next_reading}
use Rattle.log_checker.specs.declared.counting.OperationCounts.{OperationCounts}

-- ---- choices

-- what the code tests of a choice
abbrev pub takes_now : ℤ → Act → Choice → Bool
takes_now time Read c = is_nothing c
takes_now time (Write d) c = is_nothing c
takes_now time (Get k) c = is_nothing c
takes_now time (Put k d) c = is_nothing c
takes_now time (Remove k) c = is_nothing c
takes_now time (Transact ss) c = is_nothing c
takes_now time Now c = is_reading c (reading time)
takes_now time (Roll bound) c = is_roll bound c none

pub plausible_is : (time : ℤ) (act : Act) (c : Choice) (cell : Cell) → Awaits time act cell → takes_now time act c ≡ plausible act c cell
unfolding plausible
plausible_is time Read c cell h = refl
plausible_is time (Write d) c cell h = refl
plausible_is time (Get k) c cell h = refl
plausible_is time (Put k d) c cell h = refl
plausible_is time (Remove k) c cell h = refl
plausible_is time (Transact ss) c cell h = refl
plausible_is time Now c cell h = ap (is_reading c) (sym h)
plausible_is time (Roll bound) c cell h = ap (is_roll bound c) (sym h)

-- ---- the program's operations

pub foreign_act : (program : Program) (spot : Spot) (b : Bool) → b ≡ is_of_program program spot.object spot.entry.act → b ≡ false
    → not b ≡ is_foreign program spot
unfolding is_foreign
foreign_act program spot b is fails = ap not fails ∙ ap (λ x. not (x && choice_is_of spot.entry.act spot.entry.choice)) (sym fails ∙ is)

pub foreign_choice : (program : Program) (spot : Spot) (b c : Bool) → b ≡ is_of_program program spot.object spot.entry.act → b ≡ true
    → c ≡ choice_is_of spot.entry.act spot.entry.choice → not c ≡ is_foreign program spot
unfolding is_foreign
foreign_choice program spot b c is passes chosen = ap not chosen ∙ ap (λ x. not (x && choice_is_of spot.entry.act spot.entry.choice)) (sym passes ∙ is)

pub fits_both : (program : Program) (spot : Spot) → is_foreign program spot ≡ false
    → (is_of_program program spot.object spot.entry.act ≡ true) × (choice_is_of spot.entry.act spot.entry.choice ≡ true)
unfolding is_foreign
fits_both program spot h = and_parts (is_of_program program spot.object spot.entry.act) (choice_is_of spot.entry.act spot.entry.choice) (not-false _ h)

-- ---- counts

pub uncounted_none : (report : Report) (entry : LogEntry) → entry.number ≡ 0 → true ≡ is_uncounted report entry
unfolding is_uncounted
uncounted_none report entry e = ap (λ b. b || nat_lt (count_of report entry.rid) entry.number) (sym (eq-eqb entry.number 0 e))

pub uncounted_is : (report : Report) (entry : LogEntry) (counts : OperationCounts) (n : ℕ) → (entry.number ≡ 0 → ⊥) → IsCounted report counts
    → n ≡ unwrap_or (operations_of counts entry.rid) 0
    → nat_lt n entry.number ≡ is_uncounted report entry
unfolding is_uncounted count_of
uncounted_is report entry counts n differ counted e =
    ap (λ m. nat_lt m entry.number) (e ∙ ap (λ o. unwrap_or o 0) (counted entry.rid))
    ∙ ap (λ b. b || nat_lt (unwrap_or (first_answer (operations_in entry.rid) report.counts) 0) entry.number) (sym (not_zero entry.number differ))
  where
    not_zero : (n : ℕ) → (n ≡ 0 → ⊥) → nat_eq n 0 ≡ false
    not_zero n h = false_from_ne_true (nat_eq n 0) (λ t. h (eqb-true n 0 t))

-- ---- the clock and the dice

-- what an act that fits awaits of its object
pub awaits : (program : Program) (object : Object) (act : Act) (time : ℤ) (cell : Cell) → is_of_program program object act ≡ true → Tracks object time cell
    → Awaits time act cell
awaits program object Read time cell fits tracks = tt
awaits program object (Write d) time cell fits tracks = tt
awaits program object (Get k) time cell fits tracks = tt
awaits program object (Put k d) time cell fits tracks = tt
awaits program object (Remove k) time cell fits tracks = tt
awaits program object (Transact ss) time cell fits tracks = tt
awaits program (Register x) Now time cell fits tracks = absurd (true≢false (sym fits))
awaits program (Store s) Now time cell fits tracks = absurd (true≢false (sym fits))
awaits program Tables Now time cell fits tracks = absurd (true≢false (sym fits))
awaits program Clock Now time cell fits tracks = tracks
awaits program Dice Now time cell fits tracks = absurd (true≢false (sym fits))
awaits program (Register x) (Roll bound) time cell fits tracks = absurd (true≢false (sym fits))
awaits program (Store s) (Roll bound) time cell fits tracks = absurd (true≢false (sym fits))
awaits program Tables (Roll bound) time cell fits tracks = absurd (true≢false (sym fits))
awaits program Clock (Roll bound) time cell fits tracks = absurd (true≢false (sym fits))
awaits program Dice (Roll bound) time cell fits tracks = tracks

-- what the object holds after an act that fits, with a choice that fits
pub tracks_on : (program : Program) (object : Object) (act : Act) (choice : Choice) (time : ℤ) (cell : Cell) → is_of_program program object act ≡ true
    → choice_is_of act choice ≡ true → Tracks object time cell
    → Tracks object (next_reading time choice) (acted act choice cell).0
unfolding acted
tracks_on program (Register x) act choice time cell fits chosen tracks = tt
tracks_on program (Store s) act choice time cell fits chosen tracks = tt
tracks_on program Tables act choice time cell fits chosen tracks = tt
tracks_on program Clock Now Nothing time cell fits chosen tracks = absurd (true≢false (sym chosen))
tracks_on program Clock Now (Number n) time cell fits chosen tracks = ap (λ x. (acted Now (Number n) x).0) tracks
tracks_on program Clock Read choice time cell fits chosen tracks = absurd (true≢false (sym fits))
tracks_on program Clock (Write d) choice time cell fits chosen tracks = absurd (true≢false (sym fits))
tracks_on program Clock (Get k) choice time cell fits chosen tracks = absurd (true≢false (sym fits))
tracks_on program Clock (Put k d) choice time cell fits chosen tracks = absurd (true≢false (sym fits))
tracks_on program Clock (Remove k) choice time cell fits chosen tracks = absurd (true≢false (sym fits))
tracks_on program Clock (Transact ss) choice time cell fits chosen tracks = absurd (true≢false (sym fits))
tracks_on program Clock (Roll bound) choice time cell fits chosen tracks = absurd (true≢false (sym fits))
tracks_on program Dice (Roll bound) Nothing time cell fits chosen tracks = absurd (true≢false (sym chosen))
tracks_on program Dice (Roll bound) (Number n) time cell fits chosen tracks = ap (λ x. (acted (Roll bound) (Number n) x).0) tracks
tracks_on program Dice Read choice time cell fits chosen tracks = absurd (true≢false (sym fits))
tracks_on program Dice (Write d) choice time cell fits chosen tracks = absurd (true≢false (sym fits))
tracks_on program Dice (Get k) choice time cell fits chosen tracks = absurd (true≢false (sym fits))
tracks_on program Dice (Put k d) choice time cell fits chosen tracks = absurd (true≢false (sym fits))
tracks_on program Dice (Remove k) choice time cell fits chosen tracks = absurd (true≢false (sym fits))
tracks_on program Dice (Transact ss) choice time cell fits chosen tracks = absurd (true≢false (sym fits))
tracks_on program Dice Now choice time cell fits chosen tracks = absurd (true≢false (sym fits))

-- ---- the entry before

not_below : (a b : ℕ) → nat_le a b ≡ not (nat_lt b a)
not_below a b = grind (arith, nat_tests)

pub out_same : (o : Option (Bor LogEntry)) (b : Bor LogEntry) (e : LogEntry) → o ≡ Some b → b.now.rid ≡ e.rid
    → nat_le e.number b.now.number ≡ is_out_of_order (option_copied o) e
unfolding is_out_of_order
out_same None b e is same = absurd (cc)
out_same (Some a) b e is same =
    not_below e.number b.now.number
    ∙ ap (λ t. t && not (nat_lt b.now.number e.number)) (sym (eq-eqb b.now.rid e.rid same))
    ∙ ap (λ (x : Bor LogEntry). nat_eq x.now.rid e.rid && not (nat_lt x.now.number e.number)) (sym (some_is is))

pub out_other : (o : Option (Bor LogEntry)) (b : Bor LogEntry) (e : LogEntry) → o ≡ Some b → (b.now.rid ≡ e.rid → ⊥)
    → nat_eq b.now.rid e.rid ≡ is_out_of_order (option_copied o) e
unfolding is_out_of_order
out_other None b e is differ = absurd (cc)
out_other (Some a) b e is differ =
    let no : nat_eq b.now.rid e.rid ≡ false = false_from_ne_true (nat_eq b.now.rid e.rid) (λ t. differ (eqb-true b.now.rid e.rid t)) in
    no
    ∙ ap (λ t. t && not (nat_lt b.now.number e.number)) (sym no)
    ∙ ap (λ (x : Bor LogEntry). nat_eq x.now.rid e.rid && not (nat_lt x.now.number e.number)) (sym (some_is is))

pub out_none : (o : Option (Bor LogEntry)) (e : LogEntry) → o ≡ None → false ≡ is_out_of_order (option_copied o) e
unfolding is_out_of_order
out_none None e is = refl
out_none (Some a) e is = absurd (cc)
