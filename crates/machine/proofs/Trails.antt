-- The trail of a run, and the marks that it stands for.
use Rattle.std.proofs.Common.{◌≡◌, Bool, List, [], ◌∷◌, ◌++◌, refl, sym, ap, ◌∙◌}
use Rattle.std.specs.Prelude.{reverse}
use Rattle.std.proofs.lemmas.List.{map-append, reverse-append, reverse-reverse}
use Rattle.script_meaning.specs.Conduct.{decisions}
use Rattle.script_meaning.specs.Operations.{Op}
use Rattle.script_meaning.specs.declared.run.Mark.{Mark}
use Rattle.script_meaning.specs.declared.run.Mark.TheVariants.{Decided as decided, Issued as issued}
use Rattle.machine.specs.Decided.{decided_in}
use Rattle.machine.specs.Gives.{marks_back, marks_of, untold}
use Rattle.machine.specs.Trail.{bare, bare_trail}
use Rattle.machine.specs.declared.account.BareMark.{BareMark}
use Rattle.machine.specs.declared.account.BareMark.TheVariants as left

last : {A : Type 0} (x : A) (xs : List A) → reverse (x ∷ xs) ≡ reverse xs ++ x ∷ []
last x xs = reverse-append (x ∷ []) xs

pub one_decided : (ts : List BareMark) (ops : List Op) (b : Bool) → marks_of (ts ++ left.Decided b ∷ []) ops ≡ marks_of ts ops ++ decided b ∷ []
one_decided ts ops b = ap (λ r. reverse (marks_back r ops)) (reverse-append ts (left.Decided b ∷ [])) ∙ last (decided b) (marks_back (reverse ts) ops)

pub one_issued : (ts : List BareMark) (ops : List Op) (op : Op) → marks_of (ts ++ left.Issued ∷ []) (op ∷ ops) ≡ marks_of ts ops ++ issued op ∷ []
one_issued ts ops op = ap (λ r. reverse (marks_back r (op ∷ ops))) (reverse-append ts (left.Issued ∷ [])) ∙ last (issued op) (marks_back (reverse ts) ops)

-- ---- decisions

decisions_both : (a b : List Mark) → decisions (a ++ b) ≡ decisions a ++ decisions b
decisions_both [] b = refl
decisions_both (decided c ∷ a) b = ap (λ ds. c ∷ ds) (decisions_both a b)
decisions_both (issued op ∷ a) b = decisions_both a b

decided_both : (a b : List BareMark) → decided_in (a ++ b) ≡ decided_in a ++ decided_in b
decided_both [] b = refl
decided_both (left.Decided c ∷ a) b = ap (λ ds. c ∷ ds) (decided_both a b)
decided_both (left.Issued ∷ a) b = decided_both a b

-- one mark more, and one trace
more_marks : (m : Mark) (ms : List Mark) → decisions (reverse (m ∷ ms)) ≡ decisions (reverse ms) ++ decisions (m ∷ [])
more_marks m ms = ap decisions (last m ms) ∙ decisions_both (reverse ms) (m ∷ [])

more_traces : (t : BareMark) (ts : List BareMark) → decided_in (reverse (t ∷ ts)) ≡ decided_in (reverse ts) ++ decided_in (t ∷ [])
more_traces t ts = ap decided_in (last t ts) ∙ decided_both (reverse ts) (t ∷ [])

backwards : (ts : List BareMark) (ops : List Op) → decisions (reverse (marks_back ts ops)) ≡ decided_in (reverse ts)
backwards [] ops = refl
backwards (left.Decided b ∷ ts) ops = more_marks (decided b) (marks_back ts ops)
    ∙ ap (λ ds. ds ++ b ∷ []) (backwards ts ops) ∙ sym (more_traces (left.Decided b) ts)
backwards (left.Issued ∷ ts) [] = more_marks (issued untold) (marks_back ts []) ∙ ap (λ ds. ds ++ []) (backwards ts []) ∙ sym (more_traces left.Issued ts)
backwards (left.Issued ∷ ts) (op ∷ ops) = more_marks (issued op) (marks_back ts ops) ∙ ap (λ ds. ds ++ []) (backwards ts ops) ∙ sym (more_traces left.Issued ts)

pub same_decisions : (ts : List BareMark) (ops : List Op) → decisions (marks_of ts ops) ≡ decided_in ts
same_decisions ts ops = backwards (reverse ts) ops ∙ ap decided_in (reverse-reverse ts)

-- ---- the marks without their operations

bare_reversed : (ms : List Mark) → bare_trail (reverse ms) ≡ reverse (bare_trail ms)
bare_reversed [] = refl
bare_reversed (m ∷ ms) = ap bare_trail (last m ms) ∙ map-append bare (reverse ms) (m ∷ [])
    ∙ ap (λ ts. ts ++ bare m ∷ []) (bare_reversed ms) ∙ sym (last (bare m) (bare_trail ms))

bare_back : (ts : List BareMark) (ops : List Op) → bare_trail (marks_back ts ops) ≡ ts
bare_back [] ops = refl
bare_back (left.Decided b ∷ ts) ops = ap (λ l. left.Decided b ∷ l) (bare_back ts ops)
bare_back (left.Issued ∷ ts) [] = ap (λ l. left.Issued ∷ l) (bare_back ts [])
bare_back (left.Issued ∷ ts) (op ∷ ops) = ap (λ l. left.Issued ∷ l) (bare_back ts ops)

pub bare_marks : (ts : List BareMark) (ops : List Op) → bare_trail (marks_of ts ops) ≡ ts
bare_marks ts ops = bare_reversed (marks_back (reverse ts) ops) ∙ ap reverse (bare_back (reverse ts) ops) ∙ reverse-reverse ts
