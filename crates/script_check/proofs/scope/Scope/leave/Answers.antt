use Rattle.std.proofs.Common.{◌-◌, drop, length, ◌∙◌, ap, arith}
use Rattle.script_check.proofs.Names.{forget_one}
use Rattle.script_check.proofs.scope.Scope.leave.Goals as goal

pub loop-self-preserved : goal.loop-self-preserved
loop-self-preserved c = record {
  told =
      ap (λ s. drop (length s - c.args.len) s) c.forget.ensures
      ∙ forget_one c.loop-self.self c.args.len (omega (arith, c.len.ensures, c.loop-self-test.true))
      ∙ c.loop-self.invariant.told;
}
