use Rattle.group_laws.proofs.Agree.{sound_members_agree}
use Rattle.group_laws.proofs.law.sound_members_agree.Goals as goal

pub returns : goal.returns
returns c = sound_members_agree
