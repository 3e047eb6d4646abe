use Rattle.std.proofs.Common.{rules, subst}
use Rattle.object_cells.proofs.StoreFacts.{replaced, declared_too, Replaces}
use Rattle.object_cells.proofs.stores.add_declared.Goals as goal

pub returns-in_ok-insert : goal.returns-in_ok-insert
returns-in_ok-insert c =
    let old = c.args.by_name.now in
    let new = c.insert.new.self in
    let name = c.in_ok-clone.field-0 in
    let replaces = replaced name c.new.result old new c.in_ok-insert.ensures.updates.0 in
    declared_too c.args.declaration.now c.in-Store.at c.in-Store.name name old.entries new.entries c.in-Store.is
    (search rules) (subst (λ held. Replaces name held old.entries new.entries) c.new.ensures replaces)
