use Rattle.std.proofs.Common.{◌≡◌, Ok, sym, ap, ◌∙◌}
use Rattle.script_meaning.specs.Kinds.{list_in}
use Rattle.machine.proofs.Cells.{next_member}
use Rattle.machine.proofs.cell.Cell.next.Goals as goal

pub returns-in_ok-value-in-Some-get : goal.returns-in_ok-value-in-Some-get
returns-in_ok-value-in-Some-get c =
    let whole = c.self.inside.operand in
    let x = c.in_ok-value-in-Some-get.value in
    let members = c.as_slice.result.now in
    let e : list_in whole ≡ Ok members = ap list_in (sym c.value.ensures) ∙ c.in-Some.ensures ∙ ap Ok (sym c.as_slice.ensures) in
    let found = c.in-Some-get.ensures.lookup in
    let r = next_member c.self.inside.passed whole x members e found.3.0 (c.in_ok-value-in-Some-get.ensures.cases ∙ found.3.1 x) in
    (r.0, ap list_in (sym c.self.view_is) ∙ r.1, r.2)
