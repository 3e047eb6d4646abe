use Rattle.std.proofs.Common.{string_bytes}
use Rattle.command_words.proofs.OneName.{many_words}
use Rattle.command_words.proofs.words.one_name.Goals as goal

pub returns-in-len3-up : goal.returns-in-len3-up
returns-in-len3-up c = many_words string_bytes c.args.words.now c.in-len3-up.len_at_least
