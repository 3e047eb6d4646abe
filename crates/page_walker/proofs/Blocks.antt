-- How a block and a loop go on.
use Rattle.std.proofs.Common.{◌≡◌, ◌<◌, ◌+◌, ◌-◌, ℕ, zero, suc, true, List, ◌∷◌, length, get_or, drop, refl, sym, ap, ◌∙◌, arith, add-one, drop-cons}
use Rattle.script_tree.specs.Datum.{Datum}
use Rattle.script_tree.specs.Syntax.{Expression, Statement, Statements, while_}
use Rattle.script_tree.specs.SyntaxLists.{statements_of}
use Rattle.script_tree.specs.declared.fault.ScriptFault.TheVariants.{OutOfSteps}
use Rattle.script_meaning.specs.Evaluate.{Setting, Later, Flow, on, back, eval, exec, block, then_on, scoped}
use Rattle.script_meaning.specs.Run.{Progress, Ran, goes, stops, after, decide}
use Rattle.script_meaning.specs.declared.run.Stop.TheVariants.{Fault as fault}
use Rattle.script_meaning.specs.Variables.{Variables}
use Rattle.page_walker.specs.Frames.{later_in}

-- the block from a statement on does it, and then the rest
pub block_from : (w : Setting) (later : Later) (depth : ℕ) (ss : List Statement) (i : ℕ) (s : Statement)
    → i < length ss → s ≡ get_or ss i s → (vs : Variables) (p : Progress)
    → block w later depth (statements_of (drop i ss)) vs p
    ≡ after (exec w later depth s vs p) (λ flow. then_on flow (block w later depth (statements_of (drop (i + 1) ss))))
block_from w later depth ss i s h e vs p =
    let d : drop i ss ≡ s ∷ drop (i + 1) ss = rw add-one (drop-cons ss i s h ∙ ap (λ t. t ∷ drop (suc i) ss) (sym e)) in
    ap (λ l. block w later depth (statements_of l) vs p) d

-- where a statement goes on, so does the block
pub goes_on : (w : Setting) (later : Later) (depth : ℕ) (ss : List Statement) (i : ℕ) (s : Statement) → i < length ss
    → s ≡ get_or ss i s → (vs us : Variables) (p q : Progress) (o : Ran Flow)
    → exec w later depth s vs p ≡ goes (on us) q → block w later depth (statements_of (drop i ss)) vs p ≡ o
    → block w later depth (statements_of (drop (i + 1) ss)) us q ≡ o
goes_on w later depth ss i s h e vs us p q o x told =
    sym (block_from w later depth ss i s h e vs p ∙ ap (λ r. after r (λ flow. then_on flow (block w later depth (statements_of (drop (i + 1) ss))))) x) ∙ told

-- nothing more changes nothing
then_nothing : (o : Ran Flow) → after o (λ flow. then_on flow (λ vs. goes (on vs))) ≡ o
then_nothing (goes (on vs) p) = refl
then_nothing (goes (back d) p) = refl
then_nothing (stops e p) = refl

-- a turn of a while leads to the loop with one run less left
pub while_turn : (w : Setting) (left depth at : ℕ) (e : Expression) (body : Statements) (vs us : Variables) (p p1 p2 p3 : Progress) (x : Datum) → 0 < left
    → eval w (later_in w left) depth vs e p ≡ goes x p1 → decide x p1 ≡ goes true p2 → scoped vs (block w (later_in w left) depth body vs) p2 ≡ goes (on us) p3
    → exec w (later_in w left) depth (while_ at e body) vs p ≡ exec w (later_in w (left - 1)) depth (while_ at e body) us p3
unfolding later_in
while_turn w zero depth at e body vs us p p1 p2 p3 x h a d b = absurd (omega arith)
while_turn w (suc n) depth at e body vs us p p1 p2 p3 x h a d b =
    let q : suc n - 1 ≡ n = omega arith in
    rw (q, a, d, b) (then_nothing (exec w (later_in w n) depth (while_ at e body) us p3))

-- with none left it is out of steps
pub while_out : (w : Setting) (left depth at : ℕ) (e : Expression) (body : Statements) (vs us : Variables) (p p1 p2 p3 : Progress) (x : Datum) → left ≡ 0
    → eval w (later_in w left) depth vs e p ≡ goes x p1 → decide x p1 ≡ goes true p2 → scoped vs (block w (later_in w left) depth body vs) p2 ≡ goes (on us) p3
    → exec w (later_in w left) depth (while_ at e body) vs p ≡ stops (fault OutOfSteps) p3
unfolding later_in
while_out w zero depth at e body vs us p p1 p2 p3 x h a d b = rw (a, d, b) refl
while_out w (suc n) depth at e body vs us p p1 p2 p3 x h a d b = absurd (omega arith)
