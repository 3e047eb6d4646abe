use Rattle.std.proofs.Common.{Ok, Err, subst}
use Rattle.multi_state.specs.declared.went.Went.TheVariants.{On, Over, Wants}
use Rattle.multi_run.specs.Runs.{Runs}
use Rattle.multi_run.proofs.Runs.{none_done, more_done}
use Rattle.multi_run.proofs.run.Run.run.Goals as goal

pub loop-ops-init : goal.loop-ops-init
loop-ops-init g c = none_done c.args.evaluations.now c.args.group.now c.args.code.now c.args.self.now

pub loop-ops-preserved : goal.loop-ops-preserved
loop-ops-preserved g c =
    let qs = c.args.group.now in
    let code = c.args.code.now in
    let here = c.loop-ops.self in
    let step = subst (λ w. Runs c.loop-ops.evaluations c.step.new.evaluations qs code here (Ok w) c.step.new.self) c.in-Ok-On.field-0-is c.in-Ok-On.ensures.runs in
    more_done c.args.evaluations.now c.loop-ops.evaluations c.step.new.evaluations qs code c.args.self.now here c.step.new.self c.loop-ops.invariant (Ok On) step

pub returns-in-Ok-Over-clause-runs : goal.returns-in-Ok-Over-clause-runs
returns-in-Ok-Over-clause-runs g c =
    let qs = c.args.group.now in
    let code = c.args.code.now in
    let here = c.loop-ops.self in
    let step = subst (λ w. Runs c.loop-ops.evaluations c.step.new.evaluations qs code here (Ok w) c.step.new.self) c.in-Ok-Over.field-0-is c.in-Ok-Over.ensures.runs in
    more_done c.args.evaluations.now c.loop-ops.evaluations c.step.new.evaluations qs code c.args.self.now here c.step.new.self c.loop-ops.invariant (Ok Over) step

pub returns-in-Ok-Wants-clause-runs : goal.returns-in-Ok-Wants-clause-runs
returns-in-Ok-Wants-clause-runs g c =
    let qs = c.args.group.now in
    let code = c.args.code.now in
    let here = c.loop-ops.self in
    let step = subst (λ w. Runs c.loop-ops.evaluations c.step.new.evaluations qs code here (Ok w) c.step.new.self) c.in-Ok-Wants.field-0-is c.in-Ok-Wants.ensures.runs in
    more_done c.args.evaluations.now c.loop-ops.evaluations c.step.new.evaluations qs code c.args.self.now here c.step.new.self c.loop-ops.invariant (Ok (Wants c.in-Ok-Wants.ops)) step

pub returns-in-Err-clause-runs : goal.returns-in-Err-clause-runs
returns-in-Err-clause-runs g c =
    more_done c.args.evaluations.now c.loop-ops.evaluations c.step.new.evaluations c.args.group.now c.args.code.now c.args.self.now c.loop-ops.self c.step.new.self c.loop-ops.invariant (Err c.in-Err.apart) c.in-Err.ensures.runs
