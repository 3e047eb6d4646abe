use Rattle.std.proofs.Common.{rules, ◌≡◌, ◌∙◌, subst, ap, get_or}
use Rattle.std.proofs.lemmas.List.{get_or_default}
use Rattle.basis.specs.UnlessMemory.{Answers}
use Rattle.multi_nodes.specs.Members.{nobody, members_at, request_at}
use Rattle.script_nodes.specs.Evaluated.{evaluated}
use Rattle.multi_nodes.proofs.evaluate.of_member.Goals as goal

pub returns-clause-answers : goal.returns-clause-answers
returns-clause-answers g c =
    let q : c.index-requests-member.result ≡ request_at c.args.group.now c.args.member =
    c.index-requests-member.is ∙ get_or_default c.requests-requests.result.now c.args.member c.index-requests-member.result nobody (search rules) ∙ ap (λ l. get_or l c.args.member nobody) c.requests-requests.ensures.requests in
    let ds : c.as_slice.result.now ≡ members_at c.args.member c.args.operands.now = search rules in
    subst (λ v. Answers (λ x. x) v c.evaluate.result) (λ z. evaluated (q z) c.args.primitive (ds z)) c.evaluate.ensures.answers
