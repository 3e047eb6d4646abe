use Rattle.std.proofs.Common.{rules, ◌<◌, length, refl, sym, ap, ◌∙◌}
use Rattle.std.specs.Prelude.{slice_get}
use Rattle.std.proofs.lemmas.Option.{slice_get_read}
use Rattle.multi_run.proofs.Runs.{none_done, one_done, falls}
use Rattle.multi_run.proofs.run.Run.step.Goals as goal

pub returns-clause-runs : goal.returns-clause-runs
returns-clause-runs g c =
    let code = c.args.code.now in
    let here = ap (λ l. slice_get l c.args.self.now.place) (sym c.deref.ensures.value) ∙ slice_get_read c.deref.result.now (length c.deref.result.now) c.args.self.now.place c.in-Some.instruction.now refl c.in-Some.ensures.lookup.3.0 c.in-Some.ensures.lookup.1 in
    one_done c.args.evaluations.now c.args.evaluations.now c.act.new.evaluations c.args.group.now code c.args.self.now c.args.self.now c.act.new.self (none_done c.args.evaluations.now c.args.group.now code c.args.self.now) c.in-Some.instruction.now c.act.result here c.act.ensures.acts

pub returns-clause-falls : goal.returns-clause-falls
returns-clause-falls g c on =
    let code = c.args.code.now.instructions.items in
    let within : c.args.self.now.place < length code = search rules in
    falls (length code) c.args.self.now c.act.new.self (c.act.ensures.later on) within
