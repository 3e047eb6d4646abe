use Rattle.machine.proofs.state.State.status.Goals as goal

pub returns-clause-does : goal.returns-clause-does
returns-clause-does c q functions next fs pc ops more =
    rw (c.in_ok-operand.ensures.pops, ← c.value.ensures, ← c.in_ok-operand.ensures.slots, ← c.in_ok-operand.ensures.account)
    (c.status_of-done.ensures.does q functions next fs pc ops more)
