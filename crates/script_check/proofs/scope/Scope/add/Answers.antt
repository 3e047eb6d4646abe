use Rattle.std.proofs.Common.{◌≡◌, [], false, sym, ap, ◌∙◌}
use Rattle.script_check.specs.Validity.{has, with_name}
use Rattle.script_check.specs.Scopes.{newest_first}
use Rattle.script_check.proofs.Names.{known_more, apart_more, names_push, with_new}
use Rattle.script_check.proofs.scope.Scope.add.Goals as goal

pub invariant_of-self-in-Ok : goal.invariant_of-self-in-Ok
invariant_of-self-in-Ok c =
    let xs = c.self.inside.declared.items in
    let name = c.args.name in
    let new : has (newest_first [] xs) name.now ≡ false = sym (c.self.invariant.known name.now) ∙ sym c.contains.ensures ∙ c.if-contains.false in
    record {
      known = rw c.in_ok-push.ensures.items (known_more c.self.inside.known c.insert.new.self xs name c.self.invariant.known c.in-Ok.ensures.updates);
      apart = rw c.in_ok-push.ensures.items (apart_more xs name c.self.invariant.apart new);
    }

pub returns-in-Ok-clause-declared : goal.returns-in-Ok-clause-declared
returns-in-Ok-clause-declared c =
    let xs = c.self.inside.declared.items in
    let name = c.args.name in
    let new : has (newest_first [] xs) name.now ≡ false = sym (c.self.invariant.known name.now) ∙ sym c.contains.ensures ∙ c.if-contains.false in
    ap (newest_first []) c.in_ok-push.ensures.items ∙ names_push [] xs name
    ∙ sym (with_new (newest_first [] xs) name.now new) ∙ ap (λ ys. with_name ys name.now) c.self.view_is
