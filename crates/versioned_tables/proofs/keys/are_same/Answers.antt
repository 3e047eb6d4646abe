use Rattle.std.proofs.Common.{◌∙◌, sym}
use Rattle.versioned_tables.proofs.SameRanges.{tests_are}
use Rattle.versioned_tables.proofs.keys.are_same.Goals as goal

pub returns : goal.returns
returns c = λ e. tests_are c.args.some.now c.args.others.now (sym c.eq.ensures ∙ e)
