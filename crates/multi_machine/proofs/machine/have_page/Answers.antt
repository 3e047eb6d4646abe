use Rattle.std.proofs.Common.{rules, ◌≡◌, ◌<◌, true, false, length, sym, ap, ◌∙◌, below_more}
use Rattle.std.proofs.lemmas.List.{get_or_default}
use Rattle.script_code.specs.Translated.{at_path}
use Rattle.multi_nodes.specs.Members.{request_at, nobody}
use Rattle.multi_machine.proofs.machine.have_page.Goals as goal

pub loop-request-preserved : goal.loop-request-preserved
loop-request-preserved c =
    let k = c.loop-request.request-index in
    let pages = c.args.code.now.pages in
    let same : c.is_same.result ≡ true = search rules in
    let item = c.request-item.is ∙ get_or_default c.args.requests.now k c.request-item.result nobody (search rules) in
    let here = ap (λ q. at_path pages q.path) (sym item) ∙ ap (at_path pages) (sym c.path.ensures) ∙ sym c.page.ensures ∙ c.is_same.ensures.same same in
    below_more (λ i. at_path pages (request_at c.args.requests.now i).path ≡ c.args.page) k c.loop-request.invariant here

pub returns-then-not-is_same-clause-some : goal.returns-then-not-is_same-clause-some
returns-then-not-is_same-clause-some c e =
    let k = c.loop-request.request-index in
    let pages = c.args.code.now.pages in
    let unlike : c.is_same.result ≡ false = search rules in
    let low : k < length c.args.requests.now = search rules in
    let item = c.request-item.is ∙ get_or_default c.args.requests.now k c.request-item.result nobody (search rules) in
    let here : at_path pages (request_at c.args.requests.now k).path ≡ c.page.result =
    ap (λ q. at_path pages q.path) (sym item) ∙ ap (at_path pages) (sym c.path.ensures) ∙ sym c.page.ensures in
    (k, low, λ same. c.is_same.ensures.other unlike (sym here ∙ same))
