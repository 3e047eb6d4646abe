use Rattle.std.proofs.Common.{refl}
use Rattle.group_runner.proofs.Signs.{absent_is}
use Rattle.group_runner.proofs.member.Member.absent.Goals as goal

pub returns : goal.returns
returns c = λ program told r none. absent_is program told r _ none c.new.ensures.items refl refl refl
