use Rattle.std.proofs.Common.{◌≡◌, Some, rules}
use Rattle.versioned_tables.specs.Standing.{row_then}
use Rattle.versioned_tables.proofs.Finding.{found_is}
use Rattle.versioned_tables.proofs.found.found_by.Goals as goal

pub returns-in_ok-clone-in-Some : goal.returns-in_ok-clone-in-Some
returns-in_ok-clone-in-Some c =
    let x = c.args.key.now in
    let copy = c.in_ok-clone-in-Some.field-0 in
    let is : row_then c.args.position c.args.tables.now x.0 x.1 ≡ Some copy = search rules in
    found_is c.requires.0 c.args.position c.args.tables.now x.0 x.1 copy c.requires.1 is
