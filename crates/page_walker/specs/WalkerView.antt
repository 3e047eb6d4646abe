-- What a walker is of.
use Rattle.script_meaning.specs.Evaluate.{Setting}
use Rattle.page_walker.specs.declared.walker.Walker.TheInside.{Inside}

-- the program and the request of a walker
abbrev pub setting_of : Inside → Setting
setting_of w = record { program = w.index.now; request = w.request.now }
