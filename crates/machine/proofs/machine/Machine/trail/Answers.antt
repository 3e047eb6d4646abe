use Rattle.std.proofs.Common.{◌∙◌}
use Rattle.machine.proofs.Following.{stopped_trail}
use Rattle.machine.proofs.machine.Machine.trail.Goals as goal

pub returns : goal.returns
returns c program q answers f = c.as_slice.ensures.value ∙ stopped_trail program q answers c.args.self.now f c.requires
