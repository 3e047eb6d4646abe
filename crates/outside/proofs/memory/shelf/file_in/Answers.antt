use Rattle.std.proofs.Common.{arith}
use Rattle.std.proofs.lemmas.Grind.{common_steps}
use Rattle.outside.proofs.ShelfFiles.{get-files_of}
use Rattle.outside.proofs.memory.shelf.file_in.Goals as goal

pub returns : goal.returns
returns c = let at_name = get-files_of c.args.files.now c.args.name.now in grind (arith, common_steps, at_name)
