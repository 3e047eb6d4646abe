use Rattle.std.proofs.Common.{◌∙◌, ap}
use Rattle.script_check.specs.Least.{lower}
use Rattle.script_check.specs.Passes.{page_pass, bodies_faults}
use Rattle.script_check.specs.Validity.{faults_of}
use Rattle.script_check.proofs.Passes.{all_passes, is_least}
use Rattle.script_check.proofs.declaration.least_fault.Goals as goal

pub returns : goal.returns
returns c =
    let program = c.args.tree.now in
    let indexed = c.new.new.found.least in
    let paged = c.check_pages.new.found.least in
    let same = c.as_slice-declarations.ensures ∙ ap (λ p. p.declarations) c.tree.view_is in
    let pages = c.in_ok-check_pages.ensures ∙ ap (λ ds. lower indexed (page_pass ds)) same in
    let bodies =
    c.in_ok-check_bodies.ensures
    ∙ ap (λ p. lower paged (bodies_faults p c.as_slice-declarations.result.now)) c.in_ok-index.ensures.tree
    ∙ ap (λ ds. lower paged (bodies_faults program ds)) same in
    let all = all_passes program c.new-found.result.least indexed paged c.check_bodies.new.found.least c.in_ok-index.ensures.faults pages bodies in
    is_least program c.check_bodies.new.found.least (all ∙ ap (λ l. lower l (faults_of program)) c.new-found.ensures)
