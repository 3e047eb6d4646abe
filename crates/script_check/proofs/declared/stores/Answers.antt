use Rattle.std.proofs.Common.{◌≡◌, ◌+◌, take, sym, ap, ◌∙◌, subst, not}
use Rattle.script_tree.specs.Fit.{declares_store}
use Rattle.script_check.specs.Least.{lower}
use Rattle.script_check.specs.Indexes.{TellsStores}
use Rattle.script_check.specs.Passes.{store_twice}
use Rattle.script_check.specs.Validity.{fault_unless}
use Rattle.script_check.specs.declared.fault.CheckFaultKind.TheVariants.{DeclaredTwice}
use Rattle.script_check.proofs.InTurn.{store_more, store_same, no_store}
use Rattle.script_check.proofs.Least.{lower_none}
use Rattle.script_check.proofs.Lists.{taken, one_on, all_on}
use Rattle.script_check.proofs.declared.stores.Goals as goal
use Rattle.script_check.proofs.declared.stores.Goals.{in-Store+in_ok-is_new, in_default}

pub loop-declaration-preserved : goal.loop-declaration-preserved
loop-declaration-preserved c =
    let ds = c.args.declarations.now in
    let i = c.loop-declaration.declaration-index in
    let d = c.declaration-item.result in
    let earlier = take i ds in
    let next = taken ds i d c.loop-declaration-test.true c.declaration-item.is in
    let l = c.loop-declaration.found.least in
    let m = c.match-declaration.found.least in
    let told = c.loop-declaration.invariant.stores in
    let so_far = c.loop-declaration.invariant.faults in
    elim c.match-declaration.branch [
      | in-Store+in_ok-is_new w ↦
          let found : m ≡ lower l (store_twice earlier d) =
          ap (λ f. f.least) w.found-is ∙ w.unless.ensures
          ∙ ap (λ b. lower l (fault_unless b w.in-Store.name.at DeclaredTwice)) (w.in_ok-is_new.ensures.added ∙ ap not (told w.as_bytes.result.now ∙ ap (declares_store earlier) w.as_bytes.ensures))
          ∙ ap (λ e. lower l (store_twice earlier e)) (sym w.in-Store.is) in
          record {
            stores = subst (λ s. TellsStores (take (i + 1) ds) s) (sym w.stores-is) (subst (λ t. TellsStores t w.insert.new.self) (sym next)
                (store_more earlier d w.in-Store.at w.in-Store.name w.as_bytes.result c.loop-declaration.stores w.insert.new.self w.in-Store.is w.as_bytes.ensures told w.in_ok-is_new.ensures.updates));
            faults = one_on store_twice ds i d l m c.loop-declaration-test.true c.declaration-item.is found ∙ so_far;
          }
      | in_default w ↦
          let found : m ≡ lower l (store_twice earlier d) = ap (λ f. f.least) w.found-is ∙ sym (lower_none l) ∙ ap (lower l) (sym (no_store earlier d w.in_default.not-Store)) in
          record {
            stores = subst (λ s. TellsStores (take (i + 1) ds) s) (sym w.stores-is)
                (subst (λ t. TellsStores t c.loop-declaration.stores) (sym next)
                (store_same earlier d c.loop-declaration.stores w.in_default.not-Store told));
            faults = one_on store_twice ds i d l m c.loop-declaration-test.true c.declaration-item.is found ∙ so_far;
          }
    ]

pub returns-clause-faults : goal.returns-clause-faults
returns-clause-faults c = all_on store_twice c.args.declarations.now c.loop-declaration.declaration-index c.args.found.now.least c.loop-declaration.found.least c.loop-declaration-test.false c.loop-declaration.invariant.faults
