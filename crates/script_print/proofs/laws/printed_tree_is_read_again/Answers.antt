use Rattle.script_print.proofs.PrintsAgain.{prints_again}
use Rattle.script_print.proofs.laws.printed_tree_is_read_again.Goals as goal

pub returns : goal.returns
returns c = prints_again
