use Rattle.std.proofs.Common.{rules, ◌≡◌, ◌+◌, [], true, false, sym, ap, subst, ◌∙◌, arith}
use Rattle.std.proofs.lemmas.List.{get_or_default}
use Rattle.script_code.specs.Translated.{at_path, entry_of}
use Rattle.multi_nodes.specs.Members.{nobody, request_at}
use Rattle.multi_machine.specs.Together.{HaveEntry, SomeLackEntry}
use Rattle.multi_machine.proofs.Apart.{pages_part}
use Rattle.multi_machine.proofs.Together.{end_without_page, have_page, stands_first}
use Rattle.multi_machine.proofs.machine.start.Goals as goal

pub returns-in-None : goal.returns-in-None
returns-in-None g c program means =
    let qs = c.args.group in
    let code = c.args.code.now in
    let yes : c.have_page.result ≡ true = search rules in
    let have = subst (λ r. HaveEntry r code c.page-page.result) c.requests-requests.ensures.requests (c.have_page.ensures.all yes) in
    let none = subst (HaveEntry qs code) c.in-None.is have in
    let same : c.args.evaluations.now ≡ c.args.evaluations.now + 0 = omega arith in
    (0, same, end_without_page program qs code means none)

pub returns : goal.returns
returns g c program means =
    let qs = c.args.group in
    let code = c.args.code.now in
    let entry = c.in-Some.entry in
    let yes : c.have_page.result ≡ true = search rules in
    let have = subst (λ r. HaveEntry r code c.page-page.result) c.requests-requests.ensures.requests (c.have_page.ensures.all yes) in
    let found = have_page qs code entry (subst (HaveEntry qs code) c.in-Some.is have) in
    let stands = stands_first program qs code (entry_of entry) c.in_ok-run-in-Some.run' means c.requests-requests.ensures.some found c.in_ok-run-in-Some.ensures in
    let same : c.args.evaluations.now ≡ c.args.evaluations.now + 0 = omega arith in
    c.go_on.ensures program (λ i. []) c.args.evaluations.now (0, same, stands)

pub returns-then-not-have_page : goal.returns-then-not-have_page
returns-then-not-have_page g c program means =
    let qs = c.args.group in
    let code = c.args.code.now in
    let no : c.have_page.result ≡ false = search rules in
    let lack = subst (λ r. SomeLackEntry r code c.page-page.result) c.requests-requests.ensures.requests (c.have_page.ensures.some no) in
    let requests = c.requests-requests.result.now in
    let item = c.index-requests-0.is ∙ get_or_default requests 0 c.index-requests-0.result nobody (search rules) in
    let own = item ∙ ap (λ rs. request_at rs 0) c.requests-requests.ensures.requests in
    let first : c.page-page.result ≡ at_path code.pages (request_at qs 0).path =
    c.page-page.ensures ∙ ap (at_path code.pages) (c.path.ensures ∙ ap (λ q. q.path) own) in
    pages_part program qs code c.page-page.result means first lack
