use Rattle.trace_format.specs.Stages.{stage_of}
use Rattle.trace_format.proofs.StageSteps.{Known}
use Rattle.trace_format.proofs.balance.first_unbalanced.Given as goal

abbrev pub invariant-loop-place : goal.invariant-loop-place
invariant-loop-place l = Known (stage_of l.stages) l.trace l.place
