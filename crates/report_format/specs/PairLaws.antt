-- One field behind another.
use Rattle.wire.specs.Spellings.{Field, HasOneSpelling}
use Rattle.wire.proofs.Sequences.{pair_one}
use Rattle.report_format.specs.Parts.{both}

-- No two pairs are spelled alike, where no two things of either field are.
pub both_one : {A B : Type 0} (f : Field A) (g : Field B) → HasOneSpelling f → HasOneSpelling g → HasOneSpelling (both f g)
both_one f g one other = pair_one f (λ x. g) one (λ x. other)
