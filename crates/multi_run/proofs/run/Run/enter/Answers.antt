use Rattle.std.proofs.Common.{rules, ◌≡◌, ◌+◌, false, length, refl}
use Rattle.std.specs.Prelude.{◌==◌}
use Rattle.std.proofs.lemmas.Option.{slice_get_read}
use Rattle.script_tree.specs.declared.limits.TheConstants.{MOST_CALL_DEPTH}
use Rattle.multi_run.proofs.Running.{entered}
use Rattle.multi_run.proofs.run.Run.enter.Goals as goal

pub returns-clause-enters : goal.returns-clause-enters
returns-clause-enters c =
    let old = c.args.self.now in
    let new = record old { frames = c.push.new.self; place = c.in-Some.start.now; state = record old.state { stack = c.replace.new.dest; slots = c.replace-2.new.dest } } in
    let found = slice_get_read c.args.functions.now (length c.args.functions.now) c.args.function c.in-Some.start.now refl c.in-Some.ensures.lookup.3.0 c.in-Some.ensures.lookup.1 in
    let free : (length old.frames.items == MOST_CALL_DEPTH) ≡ false = search rules in
    let place : c.in-Some-checked_add.place ≡ old.place + 1 = search rules in
    (entered c.args.functions.now c.args.function c.in-Some.start.now c.args.values.items old new (record { place = c.in-Some-checked_add.place; stack = c.replace.result; slots = c.replace-2.result }) found free place (search rules) (search rules) c.in_ok-push.ensures.items refl (search rules) (search rules), refl)
