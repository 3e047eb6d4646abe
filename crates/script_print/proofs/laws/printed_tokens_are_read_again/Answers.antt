use Rattle.script_print.proofs.ScansAgain.{reads_again}
use Rattle.script_print.proofs.laws.printed_tokens_are_read_again.Goals as goal

pub returns : goal.returns
returns c = reads_again
