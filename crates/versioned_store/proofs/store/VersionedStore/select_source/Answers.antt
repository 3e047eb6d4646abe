use Rattle.std.proofs.Common.{subst}
use Rattle.versioned_store.specs.Logged.{Logged}
use Rattle.versioned_store.specs.Sources.{IsSource}
use Rattle.versioned_store.proofs.Telling.{logged_there}
use Rattle.versioned_store.proofs.store.VersionedStore.select_source.Goals as goal

pub returns : goal.returns
returns c = λ o at.
    subst (λ (x : Logged). IsSource x.log.entries c.args.position c.select_source.result)
    (logged_there c.self.inside.logs.items c.args.self.now c.args.log c.args.position c.index.result.now o c.self.view_is c.requires c.index.ensures at)
    c.select_source.ensures
