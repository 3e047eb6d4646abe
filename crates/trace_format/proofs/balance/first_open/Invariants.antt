use Rattle.trace_format.specs.Stages.{NoneOpen, stage_of}
use Rattle.trace_format.proofs.balance.first_open.Given as goal

abbrev pub invariant-loop-place : goal.invariant-loop-place
invariant-loop-place l = NoneOpen (stage_of l.stages) l.trace l.place
