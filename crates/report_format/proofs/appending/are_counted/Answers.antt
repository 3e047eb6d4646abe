use Rattle.std.proofs.Common.{ℕ, ◌<◌, ◌^◌, List, [], ◌∷◌, get_or, suc, arith}
use Rattle.std.proofs.lemmas.Bool.Decides.{nat_tests}
use Rattle.report_format.specs.Parts.{AllAllowed}
use Rattle.report_format.specs.Operations.{u32_field}
use Rattle.report_format.proofs.appending.are_counted.Goals as goal

all_fit : (rids : List ℕ) → ((i : ℕ) → get_or rids i 0 < 2 ^ 32) → AllAllowed u32_field rids
all_fit [] fit = tt
all_fit (rid ∷ rids) fit = (fit 0, all_fit rids (λ i. fit (suc i)))

pub returns : goal.returns
returns c = λ few. (grind (arith, nat_tests), all_fit c.args.rids.now (λ i. omega (arith, c.type_inv.rids i)))
