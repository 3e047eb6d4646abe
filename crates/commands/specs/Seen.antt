-- What is seen of a shelf: what is told of it, and the calls that it has had.
use Rattle.std.specs.Prelude.{List, Option}
use Rattle.outside.specs.Shelves.{ShelfCall, ShelfTold}

-- the calls that a shelf has had, where they are told
abbrev pub ShelfCalls : Type 0
ShelfCalls = Option (List ShelfCall)

-- what is told of a shelf, and its calls
pub record ShelfSeen : Type 0 where
  pub told : ShelfTold
  pub calls : ShelfCalls

-- a shelf of which this is told, with these calls
abbrev pub shelf_seen : ShelfTold → ShelfCalls → ShelfSeen
shelf_seen told calls = record { told = told; calls = calls }
