use Rattle.std.proofs.Common.{◌≡◌, [], refl, ◌∙◌}
use Rattle.std.proofs.lemmas.Result.{IfOk-weaker}
use Rattle.script_tree.specs.declared.fault.ScriptFault.TheVariants.{TooLarge}
use Rattle.script_tree.specs.declared.path.End.TheVariants.{AnswerFault}
use Rattle.script_meaning.specs.Conduct.{Ends, conduct, fault_response, no_page, path_of}
use Rattle.machine.specs.Gives.{progress_of}
use Rattle.machine.specs.Told.{ending_of}
use Rattle.machine.proofs.Following.{refused_tells, refused_leaves, no_page_tells, no_page_leaves, waits_over}
use Rattle.machine.proofs.machine.Machine.next_step.Goals as goal

pub returns-in-NoPage-clause-tells : goal.returns-in-NoPage-clause-tells
returns-in-NoPage-clause-tells c program q answers f =
    IfOk-weaker c.no_page.result (λ step. ending_of step ≡ (no_page []).ending) (λ step. ending_of step ≡ (conduct program q answers).ending)
    (λ step e. e ∙ no_page_tells program q answers c.args.self.now f c.in-NoPage.is) c.no_page.ensures

pub returns-in-NoPage-clause-follows : goal.returns-in-NoPage-clause-follows
returns-in-NoPage-clause-follows c program q answers f =
    let trail = no_page_leaves program q answers c.args.self.now f c.in-NoPage.is in
    IfOk-weaker c.no_page.result _ _ (λ step e. record { code = f.code; request = f.request; stands = trail }) c.no_page.ensures

pub returns-in-Refused-clause-tells : goal.returns-in-Refused-clause-tells
returns-in-Refused-clause-tells c program q answers f =
    let m = c.args.self.now in
    let t = refused_tells program q answers m f c.in-Refused.is in
    IfOk-weaker c.faulted.result (λ step. ending_of step
    ≡ Ends (fault_response TooLarge) (path_of m.page (progress_of m.run.state.account t.0 []) AnswerFault))
    (λ step. ending_of step ≡ (conduct program q answers).ending)
    (λ step e. e ∙ t.1) (c.faulted.ensures t.0 [])

pub returns-in-Refused-clause-follows : goal.returns-in-Refused-clause-follows
returns-in-Refused-clause-follows c program q answers f =
    let trail = refused_leaves program q answers c.args.self.now f c.in-Refused.is in
    IfOk-weaker c.faulted.result _ _ (λ step e. record { code = f.code; request = f.request; stands = trail }) (c.faulted.ensures [] [])

pub returns-in-Refused-clause-waits : goal.returns-in-Refused-clause-waits
returns-in-Refused-clause-waits c = IfOk-weaker c.faulted.result _ _ (λ step e. waits_over step _ _ _ refl e) (c.faulted.ensures [] [])
