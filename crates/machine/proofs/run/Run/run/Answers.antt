use Rattle.std.proofs.Common.{List, [], suc, Ok, subst, ℕ, ◌+◌}
use Rattle.script_tree.specs.Datum.{Datum}
use Rattle.script_meaning.specs.Evaluate.{Flow, on}
use Rattle.script_meaning.specs.Operations.{Op}
use Rattle.script_meaning.specs.Run.{Ran, goes}
use Rattle.script_code.specs.CodeRun.{exec}
use Rattle.script_code.specs.declared.translate.Code.{Code}
use Rattle.script_tree.specs.Requests.{Request}
use Rattle.machine.specs.Does.{Comes, onward}
use Rattle.machine.specs.Gives.{progress_of}
use Rattle.machine.specs.declared.run.Run.{Run}
use Rattle.machine.proofs.Runs.{more_done, stops_there}
use Rattle.machine.proofs.run.Run.run.Goals as goal

abbrev from : Request → Code → Run → List Op → List Datum → ℕ → Ran Flow
from q code m ops more k = onward (exec q code.functions.items code.instructions.items k) m ops more

pub loop-stopped-preserved : goal.loop-stopped-preserved
loop-stopped-preserved c = record {
  reaches = λ ops more.
      let code = c.args.code.now in
      let q = c.args.request.now in
      let new = c.step.new.self in
      let n = c.in-Ok-On.ensures.gives.0 in
      more_done n (from q code c.args.self.now ops more) (from q code c.loop-stopped.self ops more)
      (from q code new ops more) (c.loop-stopped.invariant.reaches ops more) (λ k.
      subst (λ w. Comes (exec q code.functions.items code.instructions.items k) ops more (Ok w) new
      (from q code c.loop-stopped.self ops more (n + suc k))) c.in-Ok-On.field-0-is
      (c.in-Ok-On.ensures.gives.1 k ops more));
}

pub returns-in-Ok-Over : goal.returns-in-Ok-Over
returns-in-Ok-Over c ops more =
    let code = c.args.code.now in
    let q = c.args.request.now in
    let new = c.step.new.self in
    let n = c.in-Ok-Over.ensures.gives.0 in
    more_done n (from q code c.args.self.now ops more) (from q code c.loop-stopped.self ops more)
    (λ k. goes (on []) (progress_of new.state.account ops more)) (c.loop-stopped.invariant.reaches ops more) (λ k.
    subst (λ w. Comes (exec q code.functions.items code.instructions.items k) ops more (Ok w) new
    (from q code c.loop-stopped.self ops more (n + suc k))) c.in-Ok-Over.field-0-is
    (c.in-Ok-Over.ensures.gives.1 k ops more))

pub returns-in-Err : goal.returns-in-Err
returns-in-Err c ops more =
    let code = c.args.code.now in
    let q = c.args.request.now in
    stops_there c.in-Err.ensures.gives.0 q code.functions.items code.instructions.items ops more c.step.new.self
    (from q code c.args.self.now ops more) (from q code c.loop-stopped.self ops more) c.in-Err.stopped
    (c.loop-stopped.invariant.reaches ops more) (λ k. c.in-Err.ensures.gives.1 k ops more)
