use Rattle.std.proofs.Common.{FitsSigned, w64, rules}
use Rattle.std.proofs.lemmas.Int.{to_z-of_z}
use Rattle.std.specs.Int.RustNames.{int_div}
use Rattle.script_meaning.specs.Operators.{in_64_bits}
use Rattle.script_values.proofs.Ranges.{if_divided, not_zero}
use Rattle.script_values.proofs.arithmetic.quotient.Goals as goal

pub returns : goal.returns
returns c =
    let m = c.in_ok-m.m in
    let n = c.in_ok-n.n in
    let f : FitsSigned w64 m = search rules in
    let g : FitsSigned w64 n = search rules in
    let made = rw (to_z-of_z w64 m f, to_z-of_z w64 n g) at c.checked_div.ensures in
    rw (c.in_ok-m.ensures, c.in_ok-n.ensures, not_zero n c.if-n-eq0.false)
    (c.if_it_fits.ensures (in_64_bits (int_div m n)) (int_div m n) (if_divided c.checked_div.result m n (int_div m n) c.if-n-eq0.false made))
