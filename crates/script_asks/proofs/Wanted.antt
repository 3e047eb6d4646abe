-- A page of a valid program asks only for what fits.
use Rattle.std.proofs.Common.{◌≡◌, ℕ, ◌+◌, List, [], ◌∷◌, Option, Some, None, refl, subst}
use Rattle.script_tree.specs.Datum.{Datum}
use Rattle.script_tree.specs.Declarations.{NumberedPage, page_in}
use Rattle.script_tree.specs.Programs.{Program}
use Rattle.script_tree.specs.Requests.{Request, IsRequestWithinLimits}
use Rattle.script_tree.specs.SyntaxLists.{statements_of}
use Rattle.script_tree.specs.declared.limits.TheConstants.{MOST_STEPS}
use Rattle.script_tree.specs.declared.operation.Op.{Op}
use Rattle.script_tree.specs.declared.request.Response.{Response}
use Rattle.script_tree.specs.declared.path.Path.{Path}
use Rattle.script_check.specs.Validity.{IsValid}
use Rattle.script_meaning.specs.Conduct.{conduct, Wants, Ends, unless_left, ended, on_page, start}
use Rattle.script_meaning.specs.Evaluate.{Setting, Flow, run}
use Rattle.script_meaning.specs.Run.{Ran, goes, stops}
use Rattle.script_meaning.specs.declared.run.Stop.TheVariants.{Wants as wants, Fault as fault, AnswerFault as answer_fault}
use Rattle.script_fit.specs.FitsOperation.{FitsOperation}
use Rattle.script_asks.proofs.Asked.{IsRanOf, IsKeptFlow, run_well}
use Rattle.script_asks.proofs.Valid.{bodies_sound, page_sound}

over_is : (answers : List Datum) (response : Response) (path : Path) (op : Op) → unless_left answers (Ends response path) ≡ Wants op → ⊥
over_is [] response path op e = cc
over_is (d ∷ ds) response path op e = cc

wanted : (a b : Op) → Wants a ≡ Wants b → a ≡ b
wanted a b e = cc

module _ (program : Program) (request : Request) (answers : List Datum) (op : Op) (valid : IsValid program) (short : IsRequestWithinLimits request) where
  abbrev setting : Setting
  setting = record { program = program; request = request }

  by_ran : (page : ℕ) (r : Ran Flow) → IsRanOf setting short (bodies_sound program valid) IsKeptFlow r
      → (ended page r).ending ≡ Wants op → FitsOperation program op
  by_ran page (goes flow p) h e = absurd (over_is p.answers _ _ op e)
  by_ran page (stops (wants x) p) h e = subst (FitsOperation program) (wanted x op e) h
  by_ran page (stops (fault f) p) h e = absurd (over_is p.answers _ _ op e)
  by_ran page (stops answer_fault p) h e = absurd (over_is p.answers _ _ op e)

  by_page : (o : Option NumberedPage) → page_in program request.path ≡ o → (on_page program request answers o).ending ≡ Wants op → FitsOperation program op
  by_page None q e = absurd (over_is answers _ _ op e)
  by_page (Some page) q e =
      by_ran page.number (run setting (MOST_STEPS + 1) 0 (statements_of page.body) [] (start answers))
      (run_well setting short (bodies_sound program valid) (MOST_STEPS + 1) 0 (statements_of page.body) []
      (page_sound program valid request.path page q) tt (start answers)) e

  pub fits : (conduct program request answers).ending ≡ Wants op → FitsOperation program op
  fits e = by_page (page_in program request.path) refl e
