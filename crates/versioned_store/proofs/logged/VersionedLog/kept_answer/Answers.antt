use Rattle.std.proofs.Common.{◌∙◌, sym, ap, subst}
use Rattle.std.specs.Option.{option_copied}
use Rattle.versioned_store.specs.Logged.{Logged, FitsLog}
use Rattle.versioned_store.specs.Tellings.{Tells}
use Rattle.versioned_store.proofs.Told.{has_none, nothing_kept, source_kept, is_of_tables}
use Rattle.versioned_store.proofs.logged.VersionedLog.kept_answer.Goals as goal

pub returns-in-Some : goal.returns-in-Some
returns-in-Some c =
    let o = c.args.self.now in
    let told = subst (λ (o : Logged). Tells o c.self.inside.versions) c.self.view_is c.self.invariant.tells in
    let of = sym c.as_tables.ensures ∙ ap option_copied c.in-Some.is in
    let selects = is_of_tables o c.self.inside.versions c.in-Some.tables.now of told in
    source_kept o c.in-Some.tables.now c.args.position (option_copied c.kept_answer.result) selects.0 selects.1 c.requires c.kept_answer.ensures

pub returns-in-None : goal.returns-in-None
returns-in-None c =
    let o = c.args.self.now in
    let told = subst (λ (o : Logged). Tells o c.self.inside.versions) c.self.view_is c.self.invariant.tells in
    let fits = subst (λ (o : Logged). FitsLog o.start o.log) c.self.view_is c.self.invariant.fits in
    let other = sym c.as_tables.ensures ∙ ap option_copied c.in-None.is in
    nothing_kept o c.args.position (has_none o c.self.inside.versions other told fits) c.requires
