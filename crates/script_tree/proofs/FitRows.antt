-- Where nothing is stored, the objects fit a program that declares nothing.
use Rattle.std.proofs.Common.{refl, rules, []}
use Rattle.std.specs.Prelude.{pos, None}
use Rattle.script_tree.specs.Fit.{Fit}
use Rattle.script_tree.specs.Objects.{nothing_stored}
use Rattle.script_tree.specs.Programs.{program_of}
use Rattle.script_tree.specs.declared.operation.Object.TheVariants.{Register, Store, Tables, Clock, Dice}

nothing_stored-fits : Fit (program_of []) nothing_stored
nothing_stored-fits (Register x) = (None, refl, tt)
nothing_stored-fits (Store s) = (_, refl, λ k. refl)
nothing_stored-fits Tables = (_, refl, tt)
nothing_stored-fits Clock = (pos 0, refl, search rules)
nothing_stored-fits Dice = refl
