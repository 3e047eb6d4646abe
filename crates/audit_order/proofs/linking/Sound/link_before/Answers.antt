use Rattle.std.proofs.Common.{◌≡◌, ◌∙◌, ◌-◌, refl, ap, sym, subst, arith}
use Rattle.basis.specs.Lists.{nth}
use Rattle.log_checker.proofs.Firsts.{some_at}
use Rattle.basis.proofs.Options.{some_is}
use Rattle.audit_meaning.specs.Nodes.{nodes}
use Rattle.audit_order.specs.Links.{IsLink}
use Rattle.audit_order.proofs.linking.Sound.link_before.Goals as goal

pub returns-then-position-eq0 : goal.returns-then-position-eq0
returns-then-position-eq0 c = record { none = λ z. refl; some = λ j e at. absurd (let p = c.if-position-eq0.true in omega (arith, p, at)) }

pub link-requires-clause-stands : goal.link-requires-clause-stands
link-requires-clause-stands c =
    let e = c.index-entries-position.result in
    c.requires.known (c.args.position - 1) e (some_at c.args.entries.now (c.args.position - 1) e (omega arith) c.index-entries-position.is)

pub returns : goal.returns
returns c =
    let e = c.index-entries-position.result in
    let at = some_at c.args.entries.now (c.args.position - 1) e (omega arith) c.index-entries-position.is in
    record {
      none = λ z. absurd (c.if-position-eq0.false z);
      some = λ j f is there.
          let same : c.args.position - 1 ≡ j = omega (arith, is) in
          subst (λ x. IsLink (nodes c.args.self.now.trace.now c.args.self.now.report.now) c.args.rid x c.link.result)
          (some_is (sym at ∙ ap (nth c.args.entries.now) same ∙ there)) c.link.ensures;
    }
