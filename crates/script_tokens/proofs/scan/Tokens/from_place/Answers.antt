use Rattle.std.proofs.Common.{◌+◌, sym, ap, ◌∙◌, arith}
use Rattle.std.proofs.lemmas.List.{length-drop}
use Rattle.script_tokens.specs.Scans.{scan}
use Rattle.script_tokens.proofs.Scans.{blank_on, rest_slice}
use Rattle.script_tokens.proofs.scan.Tokens.from_place.Goals as goal

pub loop-rest-preserved : goal.loop-rest-preserved
loop-rest-preserved c =
    let s = c.loop-rest.rest.now in
    let at = c.loop-rest.at in
    let n = c.in-Blank.len in
    let w = c.in-Blank.ensures.within in
    let l = length-drop n s in
    record {
      place_fits = rw rest_slice (omega (arith, w.1, l));
      told = c.loop-rest.invariant.told ∙ blank_on s at c.args.depth n c.in-Blank.ensures.is w.0 w.1
          ∙ ap (λ r. scan r (at + n) c.args.depth 0) (sym (rest_slice n s));
    }
