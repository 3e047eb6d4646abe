-- The responses of members at the end of their runs.
use Rattle.std.specs.Prelude.{ℕ}
use Rattle.script_tree.specs.declared.fault.ScriptFault.{ScriptFault}
use Rattle.script_tree.specs.declared.path.End.{End}
use Rattle.script_tree.specs.declared.path.End.TheVariants.{Normal}
use Rattle.script_tree.specs.declared.request.Response.{Response}
use Rattle.script_meaning.specs.Conduct.{fault_response, no_page_response}
use Rattle.multivalue.specs.Many.{member_value}
use Rattle.multi_bodies.specs.BodiesOf.{body_at}
use Rattle.multi_state.specs.Progress.{status_number}
use Rattle.multi_machine.specs.declared.ending.Ended.{Ended}
use Rattle.multi_machine.specs.declared.ending.Responses.{Responses}
use Rattle.multi_machine.specs.declared.ending.Responses.TheVariants.{NoPage, Fault, Left}
use Rattle.multi_run.specs.declared.run.Run as group

-- a member's, of these
abbrev pub response_in : ℕ → Responses → Response
response_in i NoPage = no_page_response
response_in i (Fault f) = fault_response f
response_in i (Left statuses bodies) = record { status = status_number (member_value statuses i); body = body_at i bodies }

-- a member's response
abbrev pub response_at : ℕ → Ended → Response
response_at i e = response_in i e.responses

-- ---- ends, by where the group is then

-- of members that met no fault
abbrev pub normal_end : group.Run → Ended
normal_end m = record { steps = m.state.account.steps; end = Normal; responses = Left m.state.account.status m.state.account.bodies }

-- of members that stopped so, where each is told this fault
abbrev pub fault_end : group.Run → End → ScriptFault → Ended
fault_end m end f = record { steps = m.state.account.steps; end = end; responses = Fault f }

-- where no page has their paths
abbrev pub no_page_end : Ended
no_page_end = record { steps = 0; end = Normal; responses = NoPage }
