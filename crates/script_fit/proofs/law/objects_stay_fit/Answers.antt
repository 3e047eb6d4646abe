use Rattle.script_fit.proofs.Stay.{stays}
use Rattle.script_fit.proofs.law.objects_stay_fit.Goals as goal

pub returns : goal.returns
returns c = stays
