use Rattle.std.proofs.Common.{◌≡◌, sym, ap, ◌∙◌, Some}
use Rattle.std.proofs.lemmas.Result.{IfOk-weaker}
use Rattle.script_tree.specs.Declarations.{page_in}
use Rattle.script_check.specs.FoundByName.{page_of}
use Rattle.page_walker.proofs.Endings.{page_told}
use Rattle.page_walker.proofs.walker.Walker.next.Goals as goal

pub returns-in-Some : goal.returns-in-Some
returns-in-Some c =
    let w = c.args.self.now in
    let page = page_of c.in-Some.page in
    let path = c.as_bytes.ensures ∙ c.path.ensures ∙ ap (λ q. q.path) c.request.ensures in
    let here : page_in w.program w.request.path ≡ Some page = (λ i. page_in (sym c.index.ensures i) (sym path i)) ∙ sym c.in-Some.ensures in
    IfOk-weaker c.walk.result _ _ (λ step told. page_told w c.args.answers.now page step here told) c.walk.ensures
