use Rattle.std.proofs.Common.{◌∷◌, refl, ap, sym, subst, ◌∙◌}
use Rattle.machine.specs.Follows.{StandsIn}
use Rattle.machine.proofs.Following.{answer_goes, answer_stops}
use Rattle.machine.proofs.machine.Machine.answer.Goals as goal

pub returns-in_ok-push-clause-follows : goal.returns-in_ok-push-clause-follows
returns-in_ok-push-clause-follows c program q answers f =
    let m = c.args.self.now in
    let s = subst (λ p. StandsIn program q m.code.now answers m.page m.run p) c.requires f.stands in
    let new = record m.run { state = record m.run.state { stack = c.push.new.self; account = c.note_operation.new.self } } in
    let stack = c.in_ok-push.ensures ∙ ap (λ d. d ∷ m.run.state.stack) c.own.ensures in
    record {
      code = f.code;
      request = f.request;
      stands = (s.0, s.1, s.2, answer_goes q m.code.now s.0 answers c.args.value m.run new s.3.0 c.in_ok-note_operation.ensures s.3.1 (sym c.if-is_within_limits.ensures) refl refl stack refl);
    }

pub returns-else-is_within_limits-clause-follows : goal.returns-else-is_within_limits-clause-follows
returns-else-is_within_limits-clause-follows c program q answers f =
    let m = c.args.self.now in
    let s = subst (λ p. StandsIn program q m.code.now answers m.page m.run p) c.requires f.stands in
    let new = record m.run { state = record m.run.state { account = c.note_operation.new.self } } in
    record {
      code = f.code;
      request = f.request;
      stands = (s.0, s.1, s.2, answer_stops q m.code.now s.0 answers c.args.value m.run new s.3.0 c.in_ok-note_operation.ensures s.3.1 (sym c.if-is_within_limits.ensures));
    }
