-- What the walker tells, as the definition sees it.
use Rattle.std.specs.Prelude.{◌≡◌, ◌≢◌, ℕ, List, []}
use Rattle.script_tree.specs.Datum.{Datum}
use Rattle.script_meaning.specs.Conduct.{conduct, Ending, Wants, Ends, Undefined, ended, start}
use Rattle.script_tree.specs.Syntax.{Statement}
use Rattle.script_tree.specs.SyntaxLists.{statements_of}
use Rattle.script_tree.specs.declared.limits.TheConstants.{MOST_STEPS}
use Rattle.script_meaning.specs.Evaluate.{Setting, block}
use Rattle.page_walker.specs.Frames.{later_in}
use Rattle.page_walker.specs.declared.ending.WalkerStep.{WalkerStep}
use Rattle.page_walker.specs.declared.ending.WalkerStep.TheVariants as code

-- the ending that a step of the walker tells
abbrev pub ending_told : WalkerStep → Ending
ending_told (code.Wants op) = Wants op
ending_told (code.Ends response path) = Ends response path

-- The step is this ending, where that is defined.
abbrev pub Tells : Ending → WalkerStep → Type 0
Tells ending step = ending ≢ Undefined → ending_told step ≡ ending

-- how the conduct with these answers ends
abbrev pub ending_after : Setting → List Datum → Ending
ending_after w answers = (conduct w.program w.request answers).ending

-- how the run of this page ends
abbrev pub page_ending : Setting → (answers : List Datum) → (page : ℕ) → List Statement → Ending
page_ending w answers page ss = (ended page (block w (later_in w MOST_STEPS) 0 (statements_of ss) [] (start answers))).ending
