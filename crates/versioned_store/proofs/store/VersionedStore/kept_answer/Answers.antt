use Rattle.std.proofs.Common.{subst}
use Rattle.std.specs.Option.{option_copied}
use Rattle.versioned_store.specs.Logged.{Logged}
use Rattle.versioned_store.specs.Entries.{IsKept}
use Rattle.versioned_store.proofs.Telling.{logged_there}
use Rattle.versioned_store.proofs.store.VersionedStore.kept_answer.Goals as goal

pub returns : goal.returns
returns c = λ o at.
    subst (λ (x : Logged). IsKept x c.args.position (option_copied c.kept_answer.result))
    (logged_there c.self.inside.logs.items c.args.self.now c.args.log c.args.position c.index.result.now o c.self.view_is c.requires c.index.ensures at)
    c.kept_answer.ensures
