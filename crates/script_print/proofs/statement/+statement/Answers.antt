use Rattle.std.proofs.Common.{arith}
use Rattle.script_print.proofs.Lighter.{lighter_statement}
use Rattle.script_print.proofs.statement.+statement.Goals as goal

pub print_statements-print_statement-requires : goal.print_statements-print_statement-requires
print_statements-print_statement-requires t c =
    let fewer = lighter_statement c.args.body.now c.loop-statement.statement-index c.statement-item.result c.loop-statement-test.true c.statement-item.is in
    (omega (arith, fewer, c.decreases), tt)
