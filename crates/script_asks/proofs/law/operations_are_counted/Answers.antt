use Rattle.script_asks.proofs.RunsFurther.{counted_asks}
use Rattle.script_asks.proofs.law.operations_are_counted.Goals as goal

pub returns : goal.returns
returns c = λ program request answers op e. counted_asks program request answers op e
