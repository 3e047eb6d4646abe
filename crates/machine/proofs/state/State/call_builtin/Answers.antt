use Rattle.std.proofs.Common.{◌+◌, ◌∙◌}
use Rattle.script_meaning.specs.BuiltinCalls.{built_in}
use Rattle.machine.proofs.state.State.call_builtin.Goals as goal

pub returns-clause-does : goal.returns-clause-does
returns-clause-does c functions next fs pc ops more =
    let values = c.as_slice.ensures.value ∙ c.in_ok-values.ensures.values in
    let stack = c.keep.ensures.stack ∙ c.in_ok-values.ensures.left in
    let slots = c.keep.ensures.slots ∙ c.in_ok-values.ensures.slots in
    let account = c.keep.ensures.account ∙ c.in_ok-values.ensures.account in
    rw (← values, ← stack, ← slots, ← account)
    (c.called.ensures.does (built_in c.args.request.now c.args.store.now c.args.builtin c.as_slice.result.now) c.call_of-called.ensures (next fs (pc + 1)) ops more)
