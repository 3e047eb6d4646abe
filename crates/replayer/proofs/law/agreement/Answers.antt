use Rattle.replayer.proofs.Soundly.{sound}
use Rattle.replayer.proofs.Completely.{complete}
use Rattle.replayer.proofs.law.agreement.Goals as goal

pub returns : goal.returns
returns c = λ program start trace schedule balanced. (sound program start trace schedule balanced, complete program start trace schedule balanced)
