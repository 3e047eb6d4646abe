use Rattle.std.proofs.Common.{◌≡◌, ◌∙◌, [], ◌∷◌, ◌++◌, sym, subst, refl, ap, Some, arith}
use Rattle.std.specs.Prelude.{slice_set}
use Rattle.script_tree.specs.Objects.{plausible}
use Rattle.object_set.specs.ObjectSets.{objects_of}
use Rattle.history.specs.Recordings.{MayCome}
use Rattle.history.specs.Rooms.{WantsNext}
use Rattle.history.specs.Seats.{at_seat, seated}
use Rattle.history.specs.Visits.{visit_of}
use Rattle.history.specs.declared.event.Event.TheVariants as asks
use Rattle.history.specs.declared.event.Reply.TheVariants.{Acted}
use Rattle.history.specs.VisitView.{visit_in}
use Rattle.history.specs.RecordingView.{recorded_in}
use Rattle.history.proofs.Actions.{wanted_fits, chosen, taken, acts, acts_so}
use Rattle.history.proofs.Seated.{there, set_seated}
use Rattle.history.proofs.recording.Recording.act.Goals as goal

pub thrice-requires-clause-fits : goal.thrice-requires-clause-fits
thrice-requires-clause-fits c =
    let here : at_seat c.self.inside.visits.items c.args.seat ≡ Some (visit_in c.visit.inside)
    = there c.self.inside.visits.items c.args.seat _ (omega arith) c.index_mut.ensures.value ∙ c.in-Some.is ∙ ap Some (sym c.visit.view_is) in
    let may : MayCome (recorded_in c.self.inside) c.args.seat (asks.Act c.args.op.now c.args.offer)
    = subst (λ r. MayCome r c.args.seat (asks.Act c.args.op.now c.args.offer)) (sym c.self.view_is) c.requires in
    wanted_fits c.self.inside.program.value c.self.inside.objects (visit_in c.visit.inside) c.args.op.now c.self.invariant.objects c.self.invariant.valid
    c.visit.invariant.short (subst (λ h. WantsNext c.self.inside.program.value h c.args.op.now) here may.0)

pub thrice-requires-clause-taken : goal.thrice-requires-clause-taken
thrice-requires-clause-taken c =
    let may : MayCome (recorded_in c.self.inside) c.args.seat (asks.Act c.args.op.now c.args.offer)
    = subst (λ r. MayCome r c.args.seat (asks.Act c.args.op.now c.args.offer)) (sym c.self.view_is) c.requires in
    let fit = thrice-requires-clause-fits c in
    ap (λ x. plausible c.args.op.now.act x (objects_of c.self.inside.objects c.args.op.now.object))
    (c.choice_of-choice.ensures ∙ chosen c.self.inside.objects c.args.op.now.object c.args.op.now.act c.args.offer fit)
    ∙ taken c.self.inside.objects c.args.op.now.object c.args.op.now.act c.args.offer fit may.1

pub returns : goal.returns
returns c =
    let here : at_seat c.self.inside.visits.items c.args.seat ≡ Some (visit_in c.visit.inside)
    = there c.self.inside.visits.items c.args.seat _ (omega arith) c.index_mut.ensures.value ∙ c.in-Some.is ∙ ap Some (sym c.visit.view_is) in
    let may : MayCome (recorded_in c.self.inside) c.args.seat (asks.Act c.args.op.now c.args.offer)
    = subst (λ r. MayCome r c.args.seat (asks.Act c.args.op.now c.args.offer)) (sym c.self.view_is) c.requires in
    let fit = wanted_fits c.self.inside.program.value c.self.inside.objects (visit_in c.visit.inside) c.args.op.now c.self.invariant.objects c.self.invariant.valid
    c.visit.invariant.short (subst (λ h. WantsNext c.self.inside.program.value h c.args.op.now) here may.0) in
    let inside = c.self.inside in
    let answered : at_seat (slice_set inside.visits.items c.args.seat (Some (visit_of c.visit.inside.rid c.visit.inside.request.value c.push_reserved.new.self.items)))
    ≡ seated c.args.seat (Some (visit_of c.visit.inside.rid c.visit.inside.request.value (c.visit.inside.answers.items ++ c.in_ok-answer.answer ∷ []))) (at_seat inside.visits.items)
    = set_seated inside.visits.items c.args.seat _ (omega arith)
    ∙ ap (λ ds. seated c.args.seat (Some (visit_of c.visit.inside.rid c.visit.inside.request.value ds)) (at_seat inside.visits.items))
    (c.push_reserved.ensures.items ∙ ap (λ ds. ds ++ c.in_ok-answer.answer ∷ []) c.reserve.ensures.items) in
    let step = acts (recorded_in inside) _ c.args.seat c.args.op.now c.args.offer c.visit.inside.rid c.in_ok-number.number c.choice_of-choice.result c.in_ok-answer.answer
    (visit_in c.visit.inside) refl (omega (arith, c.in_ok-number.ensures, c.visit.invariant.counted)) may here fit c.choice_of-choice.ensures
    c.in_ok-answer.ensures.done refl refl answered in (
      acts_so (recorded_in inside) c.args.self.now _ c.args.seat _ c.visit.inside.rid c.in_ok-number.number c.choice_of-choice.result c.in_ok-answer.answer c.in_ok-answer.kept c.self.view_is c.in_ok-answer.ensures.same.0 step,
      ap (λ d. Acted c.visit.inside.rid c.in_ok-number.number c.choice_of-choice.result d) (c.in_ok-answer.ensures.same.0 ∙ sym c.in_ok-answer.ensures.same.1),
    )
