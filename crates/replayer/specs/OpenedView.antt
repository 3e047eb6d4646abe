-- What contracts see of an open request.
use Rattle.replayer.specs.Opened.{Opened, opened_with}
use Rattle.replayer.specs.declared.open_request.OpenRequest.TheInside.{Inside}

-- the request of the code, with the answers so far
abbrev pub opened_of : Inside → Opened
opened_of a = opened_with a.parts.value.request a.parts.value.answers.items
