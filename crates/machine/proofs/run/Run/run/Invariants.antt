use Rattle.std.proofs.Common.{length, List}
use Rattle.script_tree.specs.Datum.{Datum}
use Rattle.script_code.specs.CodeRun.{exec}
use Rattle.script_meaning.specs.Operations.{Op}
use Rattle.machine.specs.Does.{onward, rank}
use Rattle.machine.specs.Follows.{Reaches}
use Rattle.machine.proofs.run.Run.run.Given as goal

abbrev pub invariant-loop-stopped : goal.invariant-loop-stopped
invariant-loop-stopped l = record {
  reaches :
      (ops : List Op) (more : List Datum)
      → Reaches (λ k. onward (exec l.request l.code.functions.items l.code.instructions.items k) l.fn.self ops more)
      (λ k. onward (exec l.request l.code.functions.items l.code.instructions.items k) l.self ops more);
}

abbrev pub decreases-loop-stopped : goal.decreases-loop-stopped
decreases-loop-stopped l = rank (length l.code.instructions.items) l.self.place l.self
