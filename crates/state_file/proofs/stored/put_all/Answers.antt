use Rattle.std.proofs.Common.{◌≡◌, ◌∙◌, Some, ap, sym, subst, rules, to_z, of_z, w64}
use Rattle.std.specs.Bool.{OnTrue}
use Rattle.std.specs.List.{list_all}
use Rattle.std.specs.Map.{keys_of}
use Rattle.object_cells.specs.Stores.{has_store}
use Rattle.state_file.specs.Faults.{are_entries_within_limits}
use Rattle.state_file.specs.Puts.{PutsRegisters, PutsStores, if_done}
use Rattle.state_file.specs.Starts.{Holds}
use Rattle.json_texts.specs.Shapes.{has_twice}
use Rattle.state_file.specs.Stored.{with_tables}
use Rattle.state_file.proofs.Whole.{there_still, stores_within, holds}
use Rattle.state_file.proofs.stored.put_all.Goals as goal

pub put_stores-requires-clause-there : goal.put_stores-requires-clause-there
put_stores-requires-clause-there c =
    let old = c.args.objects.now in
    let mid = c.put_registers.new.objects in
    let put : PutsRegisters c.into_vec.result.items old mid = subst (λ done. OnTrue done (PutsRegisters c.into_vec.result.items old mid)) c.in-Ok-true.field-0-test c.in-Ok-true.ensures.put in
    ap (list_all (λ s. has_store mid.stores s.0)) c.into_vec-2.ensures
    ∙ there_still c.args.index.now c.args.given old mid c.requires.set put.stores c.requires.declared

pub put_stores-requires-clause-once : goal.put_stores-requires-clause-once
put_stores-requires-clause-once c = ap (λ ss. has_twice (keys_of ss)) c.into_vec-2.ensures ∙ c.requires.once

pub put_stores-requires-clause-within : goal.put_stores-requires-clause-within
put_stores-requires-clause-within c =
    ap (list_all (λ s. are_entries_within_limits s.1)) c.into_vec-2.ensures
    ∙ stores_within c.args.given c.requires.within

pub returns-clause-put : goal.returns-clause-put
returns-clause-put c =
    let program = c.args.index.now in
    let given = c.args.given in
    let old = c.args.objects.now in
    let a = c.put_registers.new.objects in
    let b = c.put_stores.new.objects in
    let d = c.put_tables.new.objects in
    let registers : PutsRegisters given.registers old a = subst (λ es. PutsRegisters es old a) c.into_vec.ensures (subst (λ done. OnTrue done (PutsRegisters c.into_vec.result.items old a)) c.in-Ok-true.field-0-test c.in-Ok-true.ensures.put) in
    let stores : PutsStores given.stores a b = subst (λ ss. PutsStores ss a b) c.into_vec-2.ensures (subst (λ done. OnTrue done (PutsStores c.into_vec-2.result.items a b)) c.in-Ok-true-put_stores.field-0-test c.in-Ok-true-put_stores.ensures.put) in
    let tables : with_tables program.declarations given.tables b.tables.tables ≡ Some d.tables.tables =
    ap (λ ts. with_tables program.declarations ts b.tables.tables) (sym c.into_vec-3.ensures)
    ∙ c.in_ok-put_tables.ensures.put ∙ ap (λ done. if_done done d.tables.tables) c.if-not-branch.false in
    let clock : given.clock ≡ to_z w64 (of_z w64 given.clock) = search rules in
    subst (Holds program given) (ap (λ z. record d { clock = z }) clock ∙ sym c.set_clock.ensures) (holds program given old a b d c.requires.empty c.requires.set registers stores tables c.in_ok-put_tables.ensures.others)
