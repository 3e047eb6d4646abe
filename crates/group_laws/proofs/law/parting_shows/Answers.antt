use Rattle.group_laws.proofs.Parting.{parting_shows}
use Rattle.group_laws.proofs.law.parting_shows.Goals as goal

pub returns : goal.returns
returns c = parting_shows
