use Rattle.std.proofs.Common.{◌∙◌, sym, ap, subst, arith}
use Rattle.std.specs.Option.{option_copied}
use Rattle.versioned_store.specs.Logged.{Logged, FitsLog}
use Rattle.versioned_store.specs.Tellings.{Tells}
use Rattle.versioned_store.specs.Sources.{IsSource}
use Rattle.versioned_store.proofs.Told.{has_none, own_source, is_of_tables}
use Rattle.versioned_store.proofs.logged.VersionedLog.select_source.Goals as goal

pub returns-in-Some : goal.returns-in-Some
returns-in-Some c =
    let o = c.args.self.now in
    let told = subst (λ (o : Logged). Tells o c.self.inside.versions) c.self.view_is c.self.invariant.tells in
    let of = sym c.as_tables.ensures ∙ ap option_copied c.in-Some.is in
    let selects = (is_of_tables o c.self.inside.versions c.in-Some.tables.now of told).1 in
    subst (IsSource o.log.entries c.args.position) (sym (c.source.ensures 0))
    (selects.sources.each c.args.position 0 (omega (arith, c.requires, selects.sources.count)))

pub returns-in-None : goal.returns-in-None
returns-in-None c =
    let o = c.args.self.now in
    let told = subst (λ (o : Logged). Tells o c.self.inside.versions) c.self.view_is c.self.invariant.tells in
    let fits = subst (λ (o : Logged). FitsLog o.start o.log) c.self.view_is c.self.invariant.fits in
    let other = sym c.as_tables.ensures ∙ ap option_copied c.in-None.is in
    own_source o c.args.position (has_none o c.self.inside.versions other told fits)
