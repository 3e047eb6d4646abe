use Rattle.std.proofs.Common.{◌≡◌, Some, None, rules}
use Rattle.object_cells.proofs.StoreFacts.{replaced, changes_in}
use Rattle.object_cells.specs.Stores.{store_of}
use Rattle.object_cells.proofs.stores.Stores.remove.Goals as goal

pub returns : goal.returns
returns c =
    let name = c.args.name.now in
    let old = c.self.inside.by_name in
    let there : store_of old.entries name ≡ Some c.in-Some.store.now = search rules in
    let written = (c.get_mut.follows.holds c.remove.new.self).3 (search rules) in
    let replaces = replaced name c.remove.new.self old (c.get_mut.follows.lender c.remove.new.self) written.0 in
    rw (← c.self.view_is) (changes_in name c.args.key.now None old.entries _ _ _ there c.remove.ensures replaces)
