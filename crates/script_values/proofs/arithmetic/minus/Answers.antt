use Rattle.std.proofs.Common.{◌-ℤ◌, FitsSigned, w64, rules}
use Rattle.std.proofs.lemmas.Int.{to_z-of_z}
use Rattle.script_meaning.specs.Operators.{in_64_bits}
use Rattle.script_values.proofs.Ranges.{if_in_range}
use Rattle.script_values.proofs.arithmetic.minus.Goals as goal

pub returns : goal.returns
returns c =
    let m = c.in_ok-m.m in
    let n = c.in_ok-n.n in
    let f : FitsSigned w64 m = search rules in
    let g : FitsSigned w64 n = search rules in
    let made = rw (to_z-of_z w64 m f, to_z-of_z w64 n g) at c.checked_sub.ensures in
    rw (c.in_ok-m.ensures, c.in_ok-n.ensures) (c.if_it_fits.ensures (in_64_bits (m -ℤ n)) (m -ℤ n) (if_in_range c.checked_sub.result (m -ℤ n) made))
