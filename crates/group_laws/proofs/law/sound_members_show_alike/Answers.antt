use Rattle.group_laws.proofs.ShowAlike.{sound_members_show_alike}
use Rattle.group_laws.proofs.law.sound_members_show_alike.Goals as goal

pub returns : goal.returns
returns c = sound_members_show_alike
