-- Worked examples of long runs, computed. Their endings are compared part by part: a list of 49,998 decisions is too long to
-- be compared at once.
use Rattle.std.proofs.Common.{◌≡◌, ℕ, List, [], ◌∷◌, codes, length, refl}
use Rattle.std.specs.Fmt.{digits}
use Rattle.script_tree.specs.Datum.{null}
use Rattle.script_tree.specs.declared.fault.ScriptFault.TheVariants.{OutOfSteps}
use Rattle.script_tree.specs.declared.path.End.{End}
use Rattle.script_tree.specs.declared.path.End.TheVariants.{Normal, Fault}
use Rattle.script_tree.specs.declared.request.Response.{Response}
use Rattle.script_meaning.specs.Conduct.{conduct, Ending, Ends}
use Rattle.script_meaning.proofs.Programs as p

-- its response, its steps and its end, and how many decisions it took
abbrev summary_of : Ending → Response × (ℕ × (End × ℕ))
summary_of (Ends response path) = (response, (path.steps, (path.end, length path.decisions)))
summary_of ending = (record { status = 0; body = [] }, (0, (Normal, 0)))

abbrev body_of : Ending → List ℕ
body_of (Ends response path) = response.body
body_of ending = []

endless : summary_of (conduct p.endless_page (p.get (codes "/w")) (null ∷ [])).ending
    ≡ (record { status = 500; body = codes "fault 6\n" }, (100000, (Fault OutOfSteps, 49998)))
unfolding digits
endless = refl

doubling : body_of (conduct p.doubling_page (p.get (codes "/s")) []).ending ≡ codes "65535"
unfolding digits
doubling = refl
