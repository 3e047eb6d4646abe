use Rattle.std.proofs.Common.{subst}
use Rattle.versioned_store.specs.Logged.{Logged, IsAnswer}
use Rattle.versioned_store.specs.Entries.{IsAnswerIn}
use Rattle.versioned_store.proofs.Kept.{IfOk-then}
use Rattle.versioned_store.proofs.Telling.{logged_there}
use Rattle.versioned_store.proofs.store.VersionedStore.answer_at.Goals as goal

pub returns : goal.returns
returns c =
    let p = c.args.position in
    IfOk-then c.answer_at.result (IsAnswer c.index.result.now p) (IsAnswerIn c.args.self.now c.args.log p)
    (λ d is o at. subst (λ (x : Logged). IsAnswer x p d)
    (logged_there c.self.inside.logs.items c.args.self.now c.args.log c.args.position c.index.result.now o c.self.view_is c.requires c.index.ensures at) is)
    c.answer_at.ensures
