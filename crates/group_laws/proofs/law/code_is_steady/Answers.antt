use Rattle.group_laws.proofs.Instructions.{code_is_steady}
use Rattle.group_laws.proofs.law.code_is_steady.Goals as goal

pub returns : goal.returns
returns c = code_is_steady
