use Rattle.std.proofs.Common.{◌≡◌, ◌∙◌, Some, rules, ap, sym}
use Rattle.std.proofs.lemmas.Map.Steps.{set_value_same}
use Rattle.object_cells.proofs.StoreFacts.{replaced, changes_in, OnOk-map, OnErr-map}
use Rattle.object_cells.specs.Stores.{store_of}
use Rattle.object_cells.proofs.stores.Stores.put.Goals as goal

pub returns-clause-put : goal.returns-clause-put
returns-clause-put c =
    let name = c.args.name.now in
    let old = c.self.inside.by_name in
    let there : store_of old.entries name ≡ Some c.in-Some.store.now = search rules in
    let written = (c.get_mut.follows.holds c.put.new.self).3 (search rules) in
    let replaces = replaced name c.put.new.self old (c.get_mut.follows.lender c.put.new.self) written.0 in
    rw (← c.self.view_is) (OnOk-map c.put.result (λ changes. changes_in name c.args.key (Some c.args.value) old.entries _ _ _ there changes replaces) c.put.ensures.put)

pub returns-clause-err : goal.returns-clause-err
returns-clause-err c =
    let old = c.self.inside.by_name.entries in
    let there : store_of old c.args.name.now ≡ Some c.in-Some.store.now = search rules in
    let written = (c.get_mut.follows.holds c.put.new.self).0 in
    OnErr-map c.put.result (λ same. written ∙ set_value_same _ old c.put.new.self (there ∙ ap Some (sym same)) ∙ c.self.view_is) c.put.ensures.err
