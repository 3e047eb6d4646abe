use Rattle.std.proofs.Common.{subst}
use Rattle.std.specs.Option.{option_copied}
use Rattle.versioned_store.specs.Logged.{Logged, IsCellBefore}
use Rattle.versioned_store.proofs.Telling.{logged_there}
use Rattle.versioned_store.proofs.store.VersionedStore.cell_at.Goals as goal

pub returns : goal.returns
returns c = λ o at.
    subst (λ (x : Logged). IsCellBefore x c.args.position (option_copied c.cell_at.result))
    (logged_there c.self.inside.logs.items c.args.self.now c.args.log c.args.position c.index.result.now o c.self.view_is c.requires c.index.ensures at)
    c.cell_at.ensures
