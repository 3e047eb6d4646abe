use Rattle.std.proofs.Common.{rules, ◌≡◌, ◌∙◌, true, false, Ok, Err, ap, refl}
use Rattle.script_meaning.specs.Kinds.{bool_in}
use Rattle.script_meaning.specs.Run.{after, give, note, unless_fault, ◌>>=◌}
use Rattle.script_meaning.specs.declared.run.Mark.TheVariants.{Decided as decided}
use Rattle.multivalue.specs.Many.{member_value}
use Rattle.multi_nodes.specs.Members.{is_shared}
use Rattle.multi_nodes.proofs.Agreed.{value_shared}
use Rattle.multi_state.specs.Progress.{progress_at}
use Rattle.multi_state.proofs.Marks.{one_decided}
use Rattle.multi_state.proofs.Parting.{note_parts}
use Rattle.multi_state.proofs.account.Account.note.Goals as goal

pub returns-then-not-is_shared-clause-notes : goal.returns-then-not-is_shared-clause-notes
returns-then-not-is_shared-clause-notes c =
    let apart : is_shared c.args.members c.args.decided.now ≡ false = search rules in
    note_parts c.args.members c.args.decided.now c.args.self.now apart

pub returns-in-Err-Other-clause-notes : goal.returns-in-Err-Other-clause-notes
returns-in-Err-Other-clause-notes c cs i lt u =
    let m = c.args.decided.now in
    let shared : is_shared c.args.members m ≡ true = search rules in
    let fails : bool_in (member_value m 0) ≡ Err c.in-Err-Other.fault = search rules in
    ap (λ r. after (unless_fault r (progress_at c.args.self.now cs i u)) (λ b. note (decided b) >>= λ _. give b))
    (ap bool_in (value_shared c.args.members m i shared lt) ∙ fails)

pub returns-in_ok-push-in-Ok-clause-notes : goal.returns-in_ok-push-in-Ok-clause-notes
returns-in_ok-push-in-Ok-clause-notes c cs i lt u =
    let m = c.args.decided.now in
    let shared : is_shared c.args.members m ≡ true = search rules in
    let holds : bool_in (member_value m 0) ≡ Ok c.in-Ok.holds = search rules in
    ap (λ r. after (unless_fault r (progress_at c.args.self.now cs i u)) (λ b. note (decided b) >>= λ _. give b))
    (ap bool_in (value_shared c.args.members m i shared lt) ∙ holds)
    ∙ rw (c.in_ok-push-in-Ok.ensures.items, one_decided c.args.self.now.trail.items u.ops c.in-Ok.holds) refl
