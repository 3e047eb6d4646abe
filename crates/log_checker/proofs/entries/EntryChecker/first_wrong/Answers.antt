use Rattle.std.proofs.Common.{◌∙◌, not, true, false, ap, sym, subst}
use Rattle.std.proofs.Math.Facts.{to_z-of_z}
use Rattle.object_set.specs.ObjectSets.{objects_of}
use Rattle.audit_meaning.specs.LogFaults.{is_out_of_order}
use Rattle.period.specs.LeftBy.{left_by}
use Rattle.log_checker.specs.Entries.{Awaits, spot_at}
use Rattle.log_checker.proofs.EntryFacts.{at_first, at_second, at_third, at_fourth, at_fifth, at_sixth, at_none, unasked, second_is, implausible_is}
use Rattle.log_checker.proofs.EntryTests.{fits_both, awaits}
use Rattle.log_checker.proofs.entries.EntryChecker.first_wrong.Goals as goal

pub returns-then-is_foreign-clause-fault : goal.returns-then-is_foreign-clause-fault
returns-then-is_foreign-clause-fault c = λ program report earlier past of known.
    at_first _ _ _ _ _ _
    (sym (c.is_foreign.ensures program past of) ∙ c.if-is_foreign.true)

pub returns-then-is_none-clause-fault : goal.returns-then-is_none-clause-fault
returns-then-is_none-clause-fault c = λ program report earlier past of known.
    let spot = spot_at c.args.object.now past c.args.entry.now in
    at_second _ _ _ _ _ _
    (sym (c.is_foreign.ensures program past of) ∙ c.if-is_foreign.false)
    (sym (unasked c.args.self.now.trace.now spot c.place.result c.is_none.result c.place.ensures.place c.is_none.ensures) ∙ c.if-is_none.true)

pub returns-then-is_uncounted-clause-fault : goal.returns-then-is_uncounted-clause-fault
returns-then-is_uncounted-clause-fault c = λ program report earlier past of known.
    let spot = spot_at c.args.object.now past c.args.entry.now in
    at_third _ _ _ _ _ _
    (sym (c.is_foreign.ensures program past of) ∙ c.if-is_foreign.false)
    (sym (unasked c.args.self.now.trace.now spot c.place.result c.is_none.result c.place.ensures.place c.is_none.ensures) ∙ c.if-is_none.false)
    (sym (c.is_uncounted.ensures report known.knows.counts) ∙ c.if-is_uncounted.true)

pub returns-then-not-branch-clause-fault : goal.returns-then-not-branch-clause-fault
returns-then-not-branch-clause-fault c = λ program report earlier past of known.
    let spot = spot_at c.args.object.now past c.args.entry.now in
    at_fourth _ _ _ _ _ _
    (sym (c.is_foreign.ensures program past of) ∙ c.if-is_foreign.false)
    (sym (unasked c.args.self.now.trace.now spot c.place.result c.is_none.result c.place.ensures.place c.is_none.ensures) ∙ c.if-is_none.false)
    (sym (c.is_uncounted.ensures report known.knows.counts) ∙ c.if-is_uncounted.false)
    (second_is report earlier c.args.map.now c.args.entry.now c.in_ok-put.field-0 true known.knows c.in_ok-put.ensures.new (ap not c.if-not-branch.true))

pub returns-then-is_out_of_order-clause-fault : goal.returns-then-is_out_of_order-clause-fault
returns-then-is_out_of_order-clause-fault c = λ program report earlier past of known.
    let spot = spot_at c.args.object.now past c.args.entry.now in
    at_fifth _ _ _ _ _ _
    (sym (c.is_foreign.ensures program past of) ∙ c.if-is_foreign.false)
    (sym (unasked c.args.self.now.trace.now spot c.place.result c.is_none.result c.place.ensures.place c.is_none.ensures) ∙ c.if-is_none.false)
    (sym (c.is_uncounted.ensures report known.knows.counts) ∙ c.if-is_uncounted.false)
    (second_is report earlier c.args.map.now c.args.entry.now c.in_ok-put.field-0 false known.knows c.in_ok-put.ensures.new (ap not c.if-not-branch.false))
    (ap (λ o. is_out_of_order o c.args.entry.now) (sym known.before) ∙ sym c.is_out_of_order.ensures ∙ c.if-is_out_of_order.true)

pub returns-then-not-is_plausible-clause-fault : goal.returns-then-not-is_plausible-clause-fault
returns-then-not-is_plausible-clause-fault c = λ program report earlier past of known.
    let spot = spot_at c.args.object.now past c.args.entry.now in
    let cell = left_by past (objects_of c.args.self.now.start.now c.args.object.now) in
    let fits = fits_both program spot (sym (c.is_foreign.ensures program past of) ∙ c.if-is_foreign.false) in
    let awaited =
    subst (λ t. Awaits t c.args.entry.now.act cell) (sym (to_z-of_z c.ranges.time))
    (awaits program c.args.object.now c.args.entry.now.act c.args.time cell fits.0 known.tracks) in
    at_sixth _ _ _ _ _ _
    (sym (c.is_foreign.ensures program past of) ∙ c.if-is_foreign.false)
    (sym (unasked c.args.self.now.trace.now spot c.place.result c.is_none.result c.place.ensures.place c.is_none.ensures) ∙ c.if-is_none.false)
    (sym (c.is_uncounted.ensures report known.knows.counts) ∙ c.if-is_uncounted.false)
    (second_is report earlier c.args.map.now c.args.entry.now c.in_ok-put.field-0 false known.knows c.in_ok-put.ensures.new (ap not c.if-not-branch.false))
    (ap (λ o. is_out_of_order o c.args.entry.now) (sym known.before) ∙ sym c.is_out_of_order.ensures ∙ c.if-is_out_of_order.false)
    (sym (implausible_is (objects_of c.args.self.now.start.now) spot c.is_plausible.result (c.is_plausible.ensures cell awaited))
    ∙ ap not c.if-not-is_plausible.true)

pub returns-clause-fault : goal.returns-clause-fault
returns-clause-fault c = λ program report earlier past of known.
    let spot = spot_at c.args.object.now past c.args.entry.now in
    let cell = left_by past (objects_of c.args.self.now.start.now c.args.object.now) in
    let fits = fits_both program spot (sym (c.is_foreign.ensures program past of) ∙ c.if-is_foreign.false) in
    let awaited =
    subst (λ t. Awaits t c.args.entry.now.act cell) (sym (to_z-of_z c.ranges.time))
    (awaits program c.args.object.now c.args.entry.now.act c.args.time cell fits.0 known.tracks) in
    at_none _ _ _ _ _ _
    (sym (c.is_foreign.ensures program past of) ∙ c.if-is_foreign.false)
    (sym (unasked c.args.self.now.trace.now spot c.place.result c.is_none.result c.place.ensures.place c.is_none.ensures) ∙ c.if-is_none.false)
    (sym (c.is_uncounted.ensures report known.knows.counts) ∙ c.if-is_uncounted.false)
    (second_is report earlier c.args.map.now c.args.entry.now c.in_ok-put.field-0 false known.knows c.in_ok-put.ensures.new (ap not c.if-not-branch.false))
    (ap (λ o. is_out_of_order o c.args.entry.now) (sym known.before) ∙ sym c.is_out_of_order.ensures ∙ c.if-is_out_of_order.false)
    (sym (implausible_is (objects_of c.args.self.now.start.now) spot c.is_plausible.result (c.is_plausible.ensures cell awaited))
    ∙ ap not c.if-not-is_plausible.false)
