-- Good operations of a run, one after another.
use Rattle.std.proofs.Common.{◌≡◌, ◌∙◌, ◌<◌, ◌≤◌, ◌+◌, ℕ, zero, suc, Bool, true, false, cond, [], ◌∷◌, ◌++◌, Some, None, inl, inr, refl, ap, sym, arith}
use Rattle.std.proofs.lemmas.Bool.{cases_eq}
use Rattle.basis.proofs.Options.{some_is, none_is_not}
use Rattle.script_tree.specs.Datum.{Datum}
use Rattle.script_tree.specs.Programs.{Program}
use Rattle.script_tree.specs.Requests.{Request}
use Rattle.object_set.specs.ObjectSets.{objects_of}
use Rattle.script_meaning.specs.Conduct.{Ending, conduct}
use Rattle.script_meaning.specs.Replay.{ending_of}
use Rattle.script_tree.specs.declared.path.Path.{Path}
use Rattle.script_tree.specs.declared.request.Response.{Response}
use Rattle.machine.specs.Follows.{IsWaiting, WaitsAfter}
use Rattle.machine.specs.Told as told
use Rattle.machine.specs.declared.ending.MachineStep.{MachineStep}
use Rattle.machine.specs.declared.ending.MachineStep.TheVariants.{Wants, Ends}
use Rattle.machine.specs.declared.machine.Machine.{Machine}
use Rattle.log_checker.proofs.Firsts.{silent}
use Rattle.audit_meaning.specs.Lists.{answer_if}
use Rattle.audit_meaning.specs.Members.{answer_at, good_from, is_good, performed, wants_as}
use Rattle.audit_meaning.specs.Spots.{count_of, spot_of}
use Rattle.audit_meaning.proofs.Places.{answer_none}
use Rattle.group_runner.specs.Told.{Told, answers_to, answer_to}

-- ---- how many are good

all_good : (good : ℕ → Bool) (k n : ℕ) → ((j : ℕ) → k ≤ j → j < k + n → good j ≡ true) → good_from good k n ≡ k + n
all_good good k zero h = omega arith
all_good good k (suc n) h =
    ap (λ b. cond b (good_from good (suc k) n) k) (h k (omega arith) (omega arith))
    ∙ all_good good (suc k) n (λ j low high. h j (omega (arith, low)) (omega (arith, high))) ∙ omega arith

stops_at : (good : ℕ → Bool) (k n m : ℕ) → ((j : ℕ) → k ≤ j → j < m → good j ≡ true) → good m ≡ false → k ≤ m → m < k + n → good_from good k n ≡ m
stops_at good k zero m h isnt low high = absurd (omega (arith, low, high))
stops_at good k (suc n) m h isnt low high = elim (cases_eq k m) [
  | inl same ↦ ap (λ b. cond b (good_from good (suc k) n) k) (ap good same ∙ isnt) ∙ same
  | inr apart ↦
      ap (λ b. cond b (good_from good (suc k) n) k) (h k (omega arith) (omega (arith, low, apart)))
      ∙ stops_at good (suc k) n m (λ j l u. h j (omega (arith, l)) u) isnt (omega (arith, low, apart)) (omega (arith, high))
]

-- ---- answers where a test passes

answer_some : {A : Type 0} (b : Bool) (x y : A) → answer_if b x ≡ Some y → (b ≡ true) × (x ≡ y)
unfolding answer_if
answer_some true x y e = (refl, some_is e)
answer_some false x y e = absurd (none_is_not e)

-- ---- answers

-- the run is over
pub not_wanted : (t : Told) (r n : ℕ) (step : MachineStep) (x : Response) (path : Path) → step ≡ Ends x path → answer_to t r n (told.ending_of step) ≡ None
not_wanted t r n step x path is = silent (wants_as (told.ending_of step) (spot_of t.report r n))
    (answer_at (objects_of t.start) (spot_of t.report r n))
    (ap (λ s. wants_as (told.ending_of s) (spot_of t.report r n)) is)

-- it waits for the answer that it gets
pub waits_if_answered : (t : Told) (r n : ℕ) (step : MachineStep) (m : Machine) (d : Datum)
    → Some d ≡ answer_to t r n (told.ending_of step) → WaitsAfter step m → IsWaiting m
waits_if_answered t r n (Wants op) m d is waits = waits
waits_if_answered t r n (Ends x path) m d is waits = absurd (none_is_not (sym (not_wanted t r n (Ends x path) x path refl) ∙ sym is))

-- ---- a run

module _ (program : Program) (t : Told) (r : ℕ) (request : Request) where
  -- the first operations, so many, are good
  abbrev pub AreGood : ℕ → Type 0
  AreGood k = (j : ℕ) → j < k → is_good program (objects_of t.start) t.report r request j ≡ true

  -- what is wanted after k answers
  abbrev pub next : ℕ → Ending
  next k = (conduct program request (answers_to t r k)).ending

  good_told : (k : ℕ) → is_good program (objects_of t.start) t.report r request k ≡ wants_as (next k) (spot_of t.report r (suc k))
  unfolding ending_of
  good_told k = refl

  -- one more is answered
  pub good_more : (k n : ℕ) (d : Datum) → AreGood k → n ≡ suc k → answer_to t r n (next k) ≡ Some d
      → AreGood (suc k) × (answers_to t r k ++ d ∷ [] ≡ answers_to t r (suc k))
  good_more k n d good number answered =
      let both = answer_some (wants_as (next k) (spot_of t.report r (suc k))) (answer_at (objects_of t.start) (spot_of t.report r (suc k))) d (ap (λ m. answer_to t r m (next k)) (sym number) ∙ answered) in (
        λ j lt. elim (cases_eq j k) [
          | inl same ↦ ap (is_good program (objects_of t.start) t.report r request) same ∙ good_told k ∙ both.0
          | inr apart ↦ good j (omega (arith, lt, apart))
        ],
        ap (λ x. answers_to t r k ++ x ∷ []) (sym both.1),
      )

  -- the next one isn't good
  pub ends_at : (k n : ℕ) → AreGood k → k < count_of t.report r → n ≡ suc k → answer_to t r n (next k) ≡ None
      → k ≡ performed program (objects_of t.start) t.report r request
  ends_at k n good low number answered =
      sym (stops_at (is_good program (objects_of t.start) t.report r request) 0 (count_of t.report r) k (λ j l u. good j u)
      (good_told k ∙ answer_none (wants_as (next k) (spot_of t.report r (suc k)))
      (answer_at (objects_of t.start) (spot_of t.report r (suc k)))
      (ap (λ m. answer_to t r m (next k)) (sym number) ∙ answered))
      (omega arith) (omega (arith, low)))

  -- all are good
  pub all_done : (n : ℕ) → AreGood n → n ≡ count_of t.report r → n ≡ performed program (objects_of t.start) t.report r request
  all_done n good is = is ∙ sym (all_good (is_good program (objects_of t.start) t.report r request) 0
      (count_of t.report r) (λ j l u. good j (omega (arith, u, is))) ∙ omega arith)
