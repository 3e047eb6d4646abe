use Rattle.std.proofs.Common.{◌≡◌, Some, rules, subst}
use Rattle.std.specs.BTreeMap.{is_at}
use Rattle.std.specs.Cmp.Lexicographic.{slice_cmp}
use Rattle.std.specs.Ordering.{nat_cmp}
use Rattle.std.specs.Map.{lookup}
use Rattle.versioned_cells.specs.Versions.{AreUntil}
use Rattle.versioned_cells.proofs.HistoryFacts.{there, changed_at, OnOk-map}
use Rattle.versioned_cells.proofs.histories.change_in.Goals as goal

pub change-requires : goal.change-requires
change-requires g c =
    let k = c.args.key.now in
    let es = c.args.by_key.now.entries in
    let is : lookup (is_at (slice_cmp nat_cmp k)) es ≡ Some c.in-Some.history.now = search rules in
    subst (AreUntil c.args.since) (there k es c.in-Some.history.now is) (c.requires k)

pub returns-in-Some : goal.returns-in-Some
returns-in-Some g c =
    let k = c.args.key.now in
    let old = c.args.by_key.now.entries in
    let is : lookup (is_at (slice_cmp nat_cmp k)) old ≡ Some c.in-Some.history.now = search rules in
    let written = (c.get_mut.follows.holds c.change.new.self).3 (search rules) in
    OnOk-map c.change.result
    (λ after. changed_at g.T.PartialEq.eq k c.args.since c.args.value c.in-Some.history.now c.change.new.self old _
    (there k old c.in-Some.history.now is) after written.0) c.change.ensures
