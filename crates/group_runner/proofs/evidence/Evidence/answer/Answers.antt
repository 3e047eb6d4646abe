use Rattle.std.proofs.Common.{◌∙◌, ℕ, refl, ap, sym, subst}
use Rattle.script_meaning.specs.Conduct.{Wants}
use Rattle.versioned_store.specs.Entries.{HasEntry, IsAnswerIn}
use Rattle.group_runner.specs.EvidenceView.{told_in}
use Rattle.group_runner.specs.Told.{answer_to}
use Rattle.group_runner.proofs.Entries.{read_at, within, points_to, points_nowhere, entry_read, no_entry, other_entry, own_entry, logged_there, has_entry}
use Rattle.group_runner.proofs.evidence.Evidence.answer.Goals as goal

pub returns-in_default : goal.returns-in_default
returns-in_default c =
    let a = c.self.inside in
    sym (no_entry (told_in a) c.args.rid c.args.number c.args.op.now
    (points_nowhere a.report.now a.map.now c.args.rid c.args.number c.self.invariant.mapped
    (sym c.find.ensures ∙ c.in_default.is)))
    ∙ ap (λ t. answer_to t c.args.rid c.args.number (Wants c.args.op.now)) c.self.view_is

pub bounds-as_slice-log_number : goal.bounds-as_slice-log_number
bounds-as_slice-log_number c =
    let a = c.self.inside in
    let spot = points_to a.report.now a.map.now c.args.rid c.args.number (c.in-Some.log_number, c.in-Some.position) c.self.invariant.mapped (sym c.find.ensures ∙ c.in-Some.is) in
    within c.as_slice.result.now a.report.now.logs c.in-Some.log_number spot.2.log c.as_slice.ensures spot.2.stands

pub bounds-as_slice-position : goal.bounds-as_slice-position
bounds-as_slice-position c =
    let a = c.self.inside in
    let log = c.index-as_slice-log_number.result in
    let spot = points_to a.report.now a.map.now c.args.rid c.args.number (c.in-Some.log_number, c.in-Some.position) c.self.invariant.mapped (sym c.find.ensures ∙ c.in-Some.is) in
    let stands = read_at c.as_slice.result.now a.report.now.logs c.in-Some.log_number log c.as_slice.ensures (within a.report.now.logs a.report.now.logs c.in-Some.log_number spot.2.log refl spot.2.stands) c.index-as_slice-log_number.is in
    let entry = entry_read a.report.now.logs (c.in-Some.log_number, c.in-Some.position) log spot.0 stands spot.2 in
    within c.as_slice-2.result.now log.entries c.in-Some.position entry.0 c.as_slice-2.ensures entry.1

pub returns-then-not-is_entry_of : goal.returns-then-not-is_entry_of
returns-then-not-is_entry_of c =
    let a = c.self.inside in
    let place : ℕ × ℕ = (c.in-Some.log_number, c.in-Some.position) in
    let log = c.index-as_slice-log_number.result in
    let entry = c.index-as_slice-position.result in
    let spot = points_to a.report.now a.map.now c.args.rid c.args.number place c.self.invariant.mapped (sym c.find.ensures ∙ c.in-Some.is) in
    let stands = read_at c.as_slice.result.now a.report.now.logs c.in-Some.log_number log c.as_slice.ensures (within a.report.now.logs a.report.now.logs c.in-Some.log_number spot.2.log refl spot.2.stands) c.index-as_slice-log_number.is in
    let there = entry_read a.report.now.logs place log spot.0 stands spot.2 in
    let holds = read_at c.as_slice-2.result.now log.entries c.in-Some.position entry c.as_slice-2.ensures (within log.entries log.entries c.in-Some.position there.0 refl there.1) c.index-as_slice-position.is in
    sym (other_entry (told_in a) c.args.rid c.args.number c.args.op.now place log entry spot.0 spot.1 spot.2 stands holds (sym c.is_entry_of.ensures ∙ c.if-not-is_entry_of.true))
    ∙ ap (λ t. answer_to t c.args.rid c.args.number (Wants c.args.op.now)) c.self.view_is

pub answer_at-requires : goal.answer_at-requires
answer_at-requires c =
    let a = c.self.inside in
    let place : ℕ × ℕ = (c.in-Some.log_number, c.in-Some.position) in
    let log = c.index-as_slice-log_number.result in
    let spot = points_to a.report.now a.map.now c.args.rid c.args.number place c.self.invariant.mapped (sym c.find.ensures ∙ c.in-Some.is) in
    let stands = read_at c.as_slice.result.now a.report.now.logs c.in-Some.log_number log c.as_slice.ensures (within a.report.now.logs a.report.now.logs c.in-Some.log_number spot.2.log refl spot.2.stands) c.index-as_slice-log_number.is in
    let there = entry_read a.report.now.logs place log spot.0 stands spot.2 in
    subst (λ logs. HasEntry logs c.in-Some.log_number c.in-Some.position) (sym c.self.invariant.stored)
    (has_entry a.start.now a.report.now.logs c.in-Some.log_number c.in-Some.position log there.0 stands there.1)

pub returns : goal.returns
returns c =
    let a = c.self.inside in
    let place : ℕ × ℕ = (c.in-Some.log_number, c.in-Some.position) in
    let log = c.index-as_slice-log_number.result in
    let entry = c.index-as_slice-position.result in
    let spot = points_to a.report.now a.map.now c.args.rid c.args.number place c.self.invariant.mapped (sym c.find.ensures ∙ c.in-Some.is) in
    let stands = read_at c.as_slice.result.now a.report.now.logs c.in-Some.log_number log c.as_slice.ensures (within a.report.now.logs a.report.now.logs c.in-Some.log_number spot.2.log refl spot.2.stands) c.index-as_slice-log_number.is in
    let there = entry_read a.report.now.logs place log spot.0 stands spot.2 in
    let holds = read_at c.as_slice-2.result.now log.entries c.in-Some.position entry c.as_slice-2.ensures (within log.entries log.entries c.in-Some.position there.0 refl there.1) c.index-as_slice-position.is in
    own_entry (told_in a) c.args.rid c.args.number c.args.op.now place log entry spot.0 spot.1 spot.2 stands holds
    (sym c.is_entry_of.ensures ∙ c.if-not-is_entry_of.false) c.in_ok-answer_at.field-0
    (subst (λ logs. IsAnswerIn logs c.in-Some.log_number c.in-Some.position c.in_ok-answer_at.field-0) c.self.invariant.stored c.in_ok-answer_at.ensures)
    (logged_there a.start.now a.report.now.logs c.in-Some.log_number log stands)
    ∙ ap (λ t. answer_to t c.args.rid c.args.number (Wants c.args.op.now)) c.self.view_is
