-- From the run of a page to the conduct of a request.
use Rattle.std.proofs.Common.{◌≡◌, List, Some, sym, ap, subst}
use Rattle.script_tree.specs.Datum.{Datum}
use Rattle.script_tree.specs.Declarations.{NumberedPage, page_in}
use Rattle.script_meaning.specs.Conduct.{on_page}
use Rattle.script_meaning.specs.Evaluate.{Setting}
use Rattle.page_walker.specs.Frames.{later_in}
use Rattle.page_walker.specs.WalkerSteps.{Tells, ending_after, page_ending}
use Rattle.page_walker.specs.declared.ending.WalkerStep.{WalkerStep}

-- what is told of the run of a page is told of the conduct
pub page_told : (w : Setting) (answers : List Datum) (page : NumberedPage) (step : WalkerStep) → page_in w.program w.request.path ≡ Some page
    → Tells (page_ending w answers page.number page.body) step → Tells (ending_after w answers) step
unfolding later_in
page_told w answers page step here told =
    subst (λ e. Tells e step) (sym (ap (λ o. (on_page w.program w.request answers o).ending) here)) told
