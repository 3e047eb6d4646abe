use Rattle.std.proofs.Common.{◌≡◌, ◌++◌, ◌∷◌, [], sym, ap, ◌∙◌, drop}
use Rattle.script_check.specs.Scopes.{newest_first}
use Rattle.script_check.proofs.Names.{known_less, apart_less, names_push}
use Rattle.script_check.proofs.scope.Scope.forget.Goals as goal

pub invariant_of-self : goal.invariant_of-self
invariant_of-self c =
    let xs = c.pop.new.self.items in
    let name = c.in-Some.name in
    let is : c.self.inside.declared.items ≡ xs ++ name ∷ [] = c.in-Some.ensures.items in
    let told = rw is at c.self.invariant.known in
    let apart = rw is at c.self.invariant.apart in
    record {
      known = known_less c.self.inside.known c.remove.new.self xs name told apart c.remove.ensures.updates;
      apart = apart_less xs name apart;
    }

pub returns-in-Some : goal.returns-in-Some
returns-in-Some c =
    let xs = c.pop.new.self.items in
    let name = c.in-Some.name in
    let is : c.self.inside.declared.items ≡ xs ++ name ∷ [] = c.in-Some.ensures.items in
    ap (drop 1) (sym (names_push [] xs name) ∙ ap (newest_first []) (sym is) ∙ c.self.view_is)
