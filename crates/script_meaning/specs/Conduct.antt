-- What a program does with a request, where these are the answers to its operations.
use Rattle.std.specs.Prelude.{ℕ, ◌+◌, Bool, List, [], ◌∷◌, ◌++◌, Option, Some, None, codes}
use Rattle.script_tree.specs.Datum.{Datum}
use Rattle.script_tree.specs.Faults.{fault_text}
use Rattle.script_tree.specs.Programs.{Program}
use Rattle.script_tree.specs.Requests.{Request}
use Rattle.script_tree.specs.SyntaxLists.{statements_of}
use Rattle.script_tree.specs.declared.fault.ScriptFault.{ScriptFault}
use Rattle.script_tree.specs.declared.fault.ScriptFault.TheVariants.{TooLarge}
use Rattle.script_tree.specs.declared.request.Response.{Response}
use Rattle.script_tree.specs.declared.path.End.{End}
use Rattle.script_tree.specs.declared.path.End.TheVariants.{Normal, Fault, AnswerFault}
use Rattle.script_tree.specs.declared.path.Path.{Path}
use Rattle.script_tree.specs.declared.limits.TheConstants.{MOST_STEPS}
use Rattle.script_meaning.specs.declared.status.TheConstants.{USUAL_STATUS, NO_PAGE_STATUS, FAULT_STATUS}
use Rattle.script_meaning.specs.Operations.{Op}
use Rattle.script_tree.specs.Declarations.{NumberedPage, page_in}
use Rattle.script_meaning.specs.Run.{Mark, decided, issued, Progress, wants, fault, answer_fault, Ran, goes, stops}
use Rattle.script_meaning.specs.Evaluate.{Flow, run}

-- where a run stands when its answers are used up
pub data Ending : Type 0 where
  -- an operation is issued, and the answers are used up
  Wants : Op → Ending
  -- the run is over, and the answers are used up
  Ends : Response → Path → Ending
  -- there are more answers than operations
  Undefined : Ending

-- what a run did with its answers, and where it stands then
pub record Conduct : Type 0 where
  -- the decisions and the answered operations, in order
  pub trail : List Mark
  pub ending : Ending

-- the decisions among these marks
abbrev pub decisions : List Mark → List Bool
decisions [] = []
decisions (decided b ∷ ms) = b ∷ decisions ms
decisions (issued op ∷ ms) = decisions ms

-- the path of a run of this page with this end
abbrev pub path_of : ℕ → Progress → End → Path
path_of page p end = record { page = Some page; decisions = decisions p.trail; steps = p.steps; end = end }

-- this ending, unless answers are left
abbrev pub unless_left : List Datum → Ending → Ending
unless_left [] ending = ending
unless_left (d ∷ ds) ending = Undefined

-- the response to a request that ends with a fault
abbrev pub fault_response : ScriptFault → Response
fault_response f = record { status = FAULT_STATUS; body = fault_text f ++ codes "\n" }

-- the ending of a run of this page that is over, with this response and this end
abbrev pub over : ℕ → Progress → Response → End → Ending
over page p response end = unless_left p.answers (Ends response (path_of page p end))

-- the response that a run has made
abbrev pub response_of : Progress → Response
response_of p = record { status = p.status; body = p.body }

-- the response to a path that no page has
abbrev pub no_page_response : Response
no_page_response = record { status = NO_PAGE_STATUS; body = codes "no page" ++ 10 ∷ [] }

-- the path of a request that no page takes
abbrev pub no_page_path : Path
no_page_path = record { page = None; decisions = []; steps = 0; end = Normal }

-- how the run of a page ends
abbrev pub ended : ℕ → Ran Flow → Conduct
ended page (goes flow p) = record { trail = p.trail; ending = over page p (response_of p) Normal }
ended page (stops (wants op) p) = record { trail = p.trail; ending = Wants op }
ended page (stops (fault f) p) = record { trail = p.trail; ending = over page p (fault_response f) (Fault f) }
ended page (stops answer_fault p) = record { trail = p.trail; ending = over page p (fault_response TooLarge) AnswerFault }

-- a run that begins, with these answers to take
abbrev pub start : List Datum → Progress
start answers = record {
  steps = 0;
  operations = 0;
  costs = None;
  trail = [];
  answers = answers;
  status = USUAL_STATUS;
  body = [];
}

-- what is done with a request whose path no page has
abbrev pub no_page : List Datum → Conduct
no_page answers = record {
  trail = [];
  ending = unless_left answers (Ends no_page_response no_page_path);
}

-- what the page that was found does with a request, where one was
abbrev pub on_page : Program → Request → List Datum → Option NumberedPage → Conduct
on_page program request answers None = no_page answers
on_page program request answers (Some page) =
    ended page.number (run (record { program = program; request = request }) (MOST_STEPS + 1) 0 (statements_of page.body) [] (start answers))

-- what a program does with a request, where these are the answers to its operations
abbrev pub conduct : Program → Request → List Datum → Conduct
conduct program request answers = on_page program request answers (page_in program request.path)
