use Rattle.script_fit.proofs.OfProgram as of
use Rattle.script_fit.proofs.law.fitting_is_tested.Goals as goal

pub returns : goal.returns
returns c = of.fitting_is_tested
