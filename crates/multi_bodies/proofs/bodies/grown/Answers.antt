use Rattle.std.proofs.Common.{◌≡◌, length, get_or, min, ◌+◌, subst, rules}
use Rattle.multi_bodies.specs.BodiesOf.{AreGrown, IsTextOf}
use Rattle.multi_bodies.proofs.Prints.{grown_more, largest}
use Rattle.multi_bodies.proofs.bodies.grown.Goals as goal

pub loop-member-preserved : goal.loop-member-preserved
loop-member-preserved c =
    let k = c.loop-member.member in
    let own = c.args.own.now in
    let sum : c.saturating_add.result ≡ min (get_or own k 0 + c.in-Some-len_of.more) largest = search rules in
    grown_more k c.args.texts.now own c.loop-member.lens.items c.push.new.self.items c.saturating_add.result c.in-Some-len_of.more c.loop-member.invariant c.in_ok-push.ensures.items
    (subst (IsTextOf c.in-Some-len_of.more) c.in-Some.ensures.1 c.in-Some-len_of.ensures) sum

pub returns : goal.returns
returns c =
    let all : c.loop-member.member ≡ length c.args.own.now = search rules in
    subst (λ k. AreGrown k largest c.args.texts.now c.args.own.now c.loop-member.lens.items) all c.loop-member.invariant
