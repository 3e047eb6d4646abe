use Rattle.machine.proofs.state.State.index_at.Goals as goal

pub returns-clause-does : goal.returns-clause-does
returns-clause-does c q functions next fs pc ops more =
    rw (c.in_ok-whole.ensures.pops, ← c.value.ensures, ← c.in_ok-whole.ensures.slots, ← c.in_ok-whole.ensures.account)
    (c.index_of-done.ensures.does q functions next fs pc ops more)
