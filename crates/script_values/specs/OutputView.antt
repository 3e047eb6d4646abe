-- The output of a run, as contracts see it.
use Rattle.script_tree.specs.declared.request.Response.{Response}
use Rattle.script_values.specs.declared.output.Output.TheInside.{Inside}

-- the response that it would be
abbrev pub response_in : Inside → Response
response_in output = record { status = output.status; body = output.body.items }
