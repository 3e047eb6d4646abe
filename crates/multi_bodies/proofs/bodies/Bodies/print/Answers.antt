use Rattle.std.proofs.Common.{◌≡◌, ◌≤◌, ◌<◌, ◌+◌, Ok, length, refl, subst, rules}
use Rattle.script_tree.specs.declared.limits.TheConstants.{MOST_BODY_BYTES}
use Rattle.multi_bodies.specs.BodiesOf.{AreGrown, AreReached, AreWithin, body_at}
use Rattle.multi_bodies.specs.Printing.{PrintsAll, SomeLackRoom}
use Rattle.multi_bodies.proofs.Prints.{largest, one_text, one_prints, each_text, each_prints, none_prints, some_print}
use Rattle.multi_bodies.proofs.bodies.Bodies.print.Goals as goal

pub invariant_of-self-then-more-room : goal.invariant_of-self-then-more-room
invariant_of-self-then-more-room c =
    let b = c.self.inside in
    let room : b.common + c.in-Some.more + b.most ≤ MOST_BODY_BYTES = search rules in
    one_text b.pieces.items c.push.new.self.items c.args.texts b.common b.most b.own.items c.self.invariant c.in-Some.more c.in_ok-push.ensures.items c.in-Some.ensures room

pub returns-then-more-room : goal.returns-then-more-room
returns-then-more-room c =
    let b = c.self.inside in
    let room : b.common + c.in-Some.more + b.most ≤ MOST_BODY_BYTES = search rules in
    let len : length b.own.items ≡ c.args.members = search rules in
    subst (λ ps. PrintsAll c.args.members c.args.texts ps (Ok tt) c.push.new.self.items) c.self.view_is
    (one_prints b.pieces.items c.push.new.self.items c.args.texts b.common b.most b.own.items c.self.invariant c.args.members c.in-Some.more len c.in_ok-push.ensures.items c.in-Some.ensures room)

pub returns-then-room-least : goal.returns-then-room-least
returns-then-room-least c =
    let b = c.self.inside in
    let own = c.in-Ok.own.items in
    let least = c.bounds_of-least.result.least in
    let most = c.bounds_of-least.result.most in
    let len : length b.own.items ≡ c.args.members = search rules in
    let over : MOST_BODY_BYTES < b.common + least = search rules in
    let grown : AreGrown (length b.own.items) largest c.args.texts b.own.items own = subst (λ o. AreGrown (length o) largest c.args.texts o own) c.as_slice.ensures.value c.in-Ok.ensures in
    let within : AreWithin least most own = subst (AreWithin least most) c.as_slice-2.ensures.value c.bounds_of-least.ensures.within in (
      refl,
      λ i lt p body.
          let inner : p.body ≡ body_at i b.pieces.items = search (c.self.view_is, body) in
          none_prints b.pieces.items b.pieces.items c.args.texts b.common b.most b.own.items c.self.invariant c.args.members own least most len grown within over i lt p inner,
    )

pub invariant_of-self-2 : goal.invariant_of-self-2
invariant_of-self-2 c =
    let b = c.self.inside in
    let own = c.in-Ok.own.items in
    let least = c.bounds_of-least.result.least in
    let most = c.bounds_of-least.result.most in
    let room : b.common + most ≤ MOST_BODY_BYTES = search rules in
    let grown : AreGrown (length b.own.items) largest c.args.texts b.own.items own = subst (λ o. AreGrown (length o) largest c.args.texts o own) c.as_slice.ensures.value c.in-Ok.ensures in
    let within : AreWithin least most own = subst (AreWithin least most) c.as_slice-2.ensures.value c.bounds_of-least.ensures.within in
    each_text b.pieces.items c.push-2.new.self.items c.args.texts b.common b.most b.own.items c.self.invariant own least most c.in_ok-push-2.ensures.items grown within room

pub returns : goal.returns
returns c =
    let b = c.self.inside in
    let own = c.in-Ok.own.items in
    let least = c.bounds_of-least.result.least in
    let most = c.bounds_of-least.result.most in
    let len : length b.own.items ≡ c.args.members = search rules in
    let room : b.common + most ≤ MOST_BODY_BYTES = search rules in
    let grown : AreGrown (length b.own.items) largest c.args.texts b.own.items own = subst (λ o. AreGrown (length o) largest c.args.texts o own) c.as_slice.ensures.value c.in-Ok.ensures in
    let within : AreWithin least most own = subst (AreWithin least most) c.as_slice-2.ensures.value c.bounds_of-least.ensures.within in
    subst (λ ps. PrintsAll c.args.members c.args.texts ps (Ok tt) c.push-2.new.self.items) c.self.view_is
    (each_prints b.pieces.items c.push-2.new.self.items c.args.texts b.common b.most b.own.items c.self.invariant c.args.members own least most len c.in_ok-push-2.ensures.items grown within room)

pub returns-then-room-most : goal.returns-then-room-most
returns-then-room-most c =
    let b = c.self.inside in
    let own = c.in-Ok.own.items in
    let least = c.bounds_of-least.result.least in
    let most = c.bounds_of-least.result.most in
    let len : length b.own.items ≡ c.args.members = search rules in
    let room : b.common + least ≤ MOST_BODY_BYTES = search rules in
    let over : MOST_BODY_BYTES < b.common + most = search rules in
    let grown : AreGrown (length b.own.items) largest c.args.texts b.own.items own = subst (λ o. AreGrown (length o) largest c.args.texts o own) c.as_slice.ensures.value c.in-Ok.ensures in
    let reached : AreReached least most own = subst (AreReached least most) c.as_slice-2.ensures.value c.bounds_of-least.ensures.reached in
    subst (SomeLackRoom c.args.members c.args.texts) c.self.view_is
    (some_print b.pieces.items b.pieces.items c.args.texts b.common b.most b.own.items c.self.invariant c.args.members own least most len grown reached room over)
