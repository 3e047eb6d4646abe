-- What is steady after a part of a run that spends no step.
use Rattle.std.proofs.Common.{◌≡◌, ◌++◌, ⊎_elim, inl, inr, ℕ, Bool, true, false, if◌then◌else◌, nat_lt, true≢false, List, [], ◌∷◌, length, Option, Some, None, pos, negsuc}
use Rattle.std.proofs.Common.{refl, sym, ◌∙◌, arith}
use Rattle.std.proofs.lemmas.List.{append-nil}
use Rattle.std.specs.Prelude.{◌==◌}
use Rattle.script_tree.specs.Datum.{Datum, null, bool, number, text, list}
use Rattle.script_tree.specs.declared.fault.ScriptFault.{ScriptFault}
use Rattle.script_tree.specs.declared.fault.ScriptFault.TheVariants.{TooDeep, TooLarge}
use Rattle.script_tree.specs.declared.limits.TheConstants.{MOST_BODY_BYTES, MOST_CALL_DEPTH}
use Rattle.script_meaning.specs.Evaluate.{Flow, on}
use Rattle.script_meaning.specs.Run.{Progress, Ran, goes, stops, Run, after, fails, give, ◌>>=◌, ◌>>◌}
use Rattle.script_meaning.specs.declared.run.Mark.TheVariants.{Decided as decided}
use Rattle.script_meaning.specs.declared.run.Stop.TheVariants.{Wants as wants, Fault as fault, AnswerFault as answer_fault}
use Rattle.script_code.specs.CodeRun.{Frame, Next, back_to, enter, lacking}
use Rattle.script_nodes.specs.NodeLaws.{noted, print_text, set_status_to}
use Rattle.group_laws.specs.Shown.{after_decision}
use Rattle.group_laws.specs.Steady.{progress_in, IsFurther, FailsLater, IsSteady, IsSteadyBut, IsSteadyNext, no_fault, only}
use Rattle.group_laws.proofs.Growth.{same, and_further}

-- for want of steps
pub lacks : {A : Type 0} → IsSteady (fails {A = A} lacking)
lacks = record { further = λ p. same p; later = λ p. inl refl }

pub ends : {A : Type 0} (a : A) → IsSteady (give a)
ends a = record { further = λ p. same p; later = λ p. tt }

-- back from a call
pub returning : (next : Next) → IsSteadyNext next → (fs : List Frame) (d : Datum) → IsSteady (back_to next fs d)
returning next steady [] d = ends (on [])
returning next steady (f ∷ fs) d = steady fs f.place (d ∷ f.stack) f.slots

module _ (faults : ScriptFault → Bool) where
  -- what is steady is so but for faults too
  pub but : {A : Type 0} (run : Run A) → IsSteady run → IsSteadyBut faults run
  but run h = record { further = h.further; later = λ p. by p (run p) (h.later p) }
    where
      by : {A : Type 0} (p : Progress) (o : Ran A) → FailsLater no_fault p o → FailsLater faults p o
      by p (goes a q) k = tt
      by p (stops (wants op) q) k = tt
      by p (stops (fault f) q) k =
          ⊎_elim (λ none. inl none) (λ rest. ⊎_elim (λ more. inr (inl more)) (λ no. absurd (true≢false (sym no))) rest) k
      by p (stops answer_fault q) k = k

  pub either : {A : Type 0} (b : Bool) (m n : Run A) → IsSteadyBut faults m → IsSteadyBut faults n → IsSteadyBut faults (if b then m else n)
  either true m n h k = h
  either false m n h k = k

  later_on : {A : Type 0} (p q : Progress) (o : Ran A) → p.steps ≡ q.steps → FailsLater faults q o → FailsLater faults p o
  later_on p q (goes a r) equal k = tt
  later_on p q (stops (wants op) r) equal k = tt
  later_on p q (stops (fault f) r) equal k =
      ⊎_elim (λ none. inl none) (λ rest. inr (⊎_elim (λ more. inl (omega (arith, more, equal))) (λ one. inr one) rest)) k
  later_on p q (stops answer_fault r) equal k = omega (arith, k, equal)

  module _ (p q : Progress) (further : IsFurther p q) (equal : p.steps ≡ q.steps) (run : Run Flow) (h : IsSteadyBut faults run) where
    pub further_on : IsFurther p (progress_in (run q))
    further_on = and_further p q (progress_in (run q)) further (h.further q)

    pub fails_later : FailsLater faults p (run q)
    fails_later = later_on p q (run q) equal (h.later q)

-- nothing is spent or noted
unmoved : (p q : Progress) → p.steps ≡ q.steps → q.trail ≡ p.trail → IsFurther p q
unmoved p q steps trail = record { steps' = omega (arith, steps); more = []; trail' = trail ∙ sym (append-nil p.trail) }

-- a decision's mark
pub noting : (b : Bool) (k : Bool → Run Flow) → IsSteady (k b) → IsSteady (noted (bool b) >>= k)
noting b k h = record {
  further = λ p. further_on no_fault p (after_decision b p) (marked p) refl (k b) h;
  later = λ p. fails_later no_fault p (after_decision b p) (marked p) refl (k b) h;
}
  where
    marked : (p : Progress) → IsFurther p (after_decision b p)
    marked p = record { steps' = omega arith; more = decided b ∷ []; trail' = refl }

-- a status
pub setting : (d : Datum) (k : Run Flow) → IsSteady k → IsSteady (set_status_to d >> k)
setting null k h = h
setting (bool b) k h = h
setting (number (pos n)) k h = record {
  further = λ p. further_on no_fault p (record p { status = n }) (unmoved p (record p { status = n }) refl refl) refl k h;
  later = λ p. fails_later no_fault p (record p { status = n }) (unmoved p (record p { status = n }) refl refl) refl k h;
}
setting (number (negsuc n)) k h = h
setting (text bytes) k h = h
setting (list ds) k h = h

-- a text that may be too large
module _ (bytes : List ℕ) (k : Run Flow) (h : IsSteady k) where
  abbrev printed_on : Progress → Progress
  printed_on p = record p { body = p.body ++ bytes }

  abbrev printed : Bool → Progress → Ran Flow
  printed b p = after (if b then stops (fault TooLarge) p else goes (tt {0}) (printed_on p)) (λ _. k)

  further' : (b : Bool) (p : Progress) → IsFurther p (progress_in (printed b p))
  further' true p = same p
  further' false p = further_on (only TooLarge) p (printed_on p) (unmoved p (printed_on p) refl refl) refl k (but (only TooLarge) k h)

  later' : (b : Bool) (p : Progress) → FailsLater (only TooLarge) p (printed b p)
  later' true p = inr (inr refl)
  later' false p = fails_later (only TooLarge) p (printed_on p) (unmoved p (printed_on p) refl refl) refl k (but (only TooLarge) k h)

  pub printing : IsSteadyBut (only TooLarge) (print_text (text bytes) >> k)
  printing = record {
    further = λ p. further' (nat_lt MOST_BODY_BYTES (length (p.body ++ bytes))) p;
    later = λ p. later' (nat_lt MOST_BODY_BYTES (length (p.body ++ bytes))) p;
  }

-- a call that may be too deep
pub entering : (next : Next) → IsSteadyNext next → (fs : List Frame) (at : Option ℕ) (frame : Frame) (ds : List Datum)
    → IsSteadyBut (only TooDeep) (enter next fs at frame ds)
entering next steady fs None frame ds = but (only TooDeep) (fails lacking) lacks
entering next steady fs (Some place) frame ds =
    either (only TooDeep) (length fs == MOST_CALL_DEPTH) (fails TooDeep) (next (frame ∷ fs) place [] ds)
    (record { further = λ p. same p; later = λ p. inr (inr refl) })
    (but (only TooDeep) (next (frame ∷ fs) place [] ds) (steady (frame ∷ fs) place [] ds))
