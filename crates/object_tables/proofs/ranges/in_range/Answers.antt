use Rattle.std.proofs.Common.{◌∙◌, sym, ap}
use Rattle.std.specs.Range.Bound.{bound_map}
use Rattle.std.specs.BTreeMap.Range.{range_contains}
use Rattle.std.specs.Ordering.{is_gt}
use Rattle.std.specs.declared.ops.Bound.TheVariants.{Included, Excluded}
use Rattle.std.proofs.lemmas.Cmp.{nat_list_cmp_total, tied_itself}
use Rattle.object_tables.specs.Slots.{by_bytes}
use Rattle.object_tables.proofs.RangeLemmas.{has_range, both_cover, none_pass}
use Rattle.object_tables.proofs.ranges.in_range.Goals as goal

pub returns-then-has_room-clause-all : goal.returns-then-has_room-clause-all
returns-then-has_room-clause-all g c =
    let lo = bound_map (λ x. x.now) c.lower_bound-lower.result in
    let hi = bound_map (λ x. x.now) c.upper_bound-upper.result in
    has_range c.args.tests.now lo hi c.args.map.now.entries c.range.result
    (both_cover c.args.tests.now lo hi c.lower_bound-lower.ensures c.upper_bound-upper.ensures) (c.range.ensures.between tt)

pub range-requires-in-Included : goal.range-requires-in-Included
range-requires-in-Included g c = ap is_gt (tied_itself nat_list_cmp_total c.in-Included.text.now)

pub range-requires-in-Excluded : goal.range-requires-in-Excluded
range-requires-in-Excluded g c = ap is_gt (tied_itself nat_list_cmp_total c.in-Excluded.text.now)

pub returns-in-Included-clause-all : goal.returns-in-Included-clause-all
returns-in-Included-clause-all g c =
    let lo = bound_map (λ x. x.now) c.lower_bound-lower.result in
    let hi = bound_map (λ x. x.now) c.upper_bound-upper.result in
    let a = Included c.in-Included.text.now in
    let b = Excluded c.in-Included.text.now in
    has_range c.args.tests.now a b c.args.map.now.entries _
    (none_pass c.args.tests.now lo hi (range_contains by_bytes a b) c.lower_bound-lower.ensures c.upper_bound-upper.ensures (sym c.has_room.ensures ∙ c.if-has_room.false)) (c.range-in-Included.ensures.between tt)

pub returns-in-Excluded-clause-all : goal.returns-in-Excluded-clause-all
returns-in-Excluded-clause-all g c =
    let lo = bound_map (λ x. x.now) c.lower_bound-lower.result in
    let hi = bound_map (λ x. x.now) c.upper_bound-upper.result in
    let a = Included c.in-Excluded.text.now in
    let b = Excluded c.in-Excluded.text.now in
    has_range c.args.tests.now a b c.args.map.now.entries _
    (none_pass c.args.tests.now lo hi (range_contains by_bytes a b) c.lower_bound-lower.ensures c.upper_bound-upper.ensures (sym c.has_room.ensures ∙ c.if-has_room.false)) (c.range-in-Excluded.ensures.between tt)
