-- What can't be otherwise.
use Rattle.std.proofs.Common.{◌⊎◌, inl, inr}

-- It can't be that it isn't so.
abbrev pub CantFail : Type 0 → Type 0
CantFail P = ¬ (¬ P)

pub is_so : {P : Type 0} → P → CantFail P
is_so p not = not p

-- what follows of something that can't fail
pub so_then : {P Q : Type 0} → CantFail P → (P → CantFail Q) → CantFail Q
so_then some next not = some (λ p. next p not)

-- it is so, or it isn't
pub or_not : (P : Type 0) → CantFail (P ⊎ (P → ⊥))
or_not P neither = neither (inr (λ p. neither (inl p)))
