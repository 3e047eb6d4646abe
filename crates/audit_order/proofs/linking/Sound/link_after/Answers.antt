use Rattle.std.proofs.Common.{◌≡◌, ◌∙◌, ◌+◌, ◌<◌, suc, length, ap, sym, subst, arith}
use Rattle.basis.specs.Lists.{nth}
use Rattle.log_checker.proofs.Firsts.{some_at}
use Rattle.basis.proofs.Options.{some_is}
use Rattle.audit_meaning.specs.Nodes.{nodes}
use Rattle.audit_order.specs.Links.{IsLink}
use Rattle.audit_order.proofs.linking.Sound.link_after.Goals as goal

pub returns : goal.returns
returns c =
    let e = c.index-entries-position.result in
    let next : c.args.position + 1 ≡ suc c.args.position = omega arith in
    let inside : c.args.position + 1 < length c.args.entries.now = let a = c.requires.inside in let b = c.if-position-entries.false in omega (arith, a, b) in
    let at = some_at c.args.entries.now (c.args.position + 1) e inside c.index-entries-position.is in
    record {
      none = λ z. absurd (omega (arith, z, inside));
      some = λ f there. subst (λ x. IsLink (nodes c.args.self.now.trace.now c.args.self.now.report.now) c.args.rid x c.link.result) (some_is (sym at ∙ ap (nth c.args.entries.now) next ∙ there)) c.link.ensures;
    }
