-- Where the parts of a tree begin.
use Rattle.std.specs.Prelude.{ℕ}
use Rattle.script_tree.specs.Syntax.{Expression, number, text, truth, null, bracket, variable, call, list, transact, unary, binary, and_, or_, index}

-- the place of an expression's first byte
abbrev pub place_of : Expression → ℕ
place_of (number at n) = at
place_of (text at bytes) = at
place_of (truth at b) = at
place_of (null at) = at
place_of (bracket at e) = at
place_of (variable at x) = at
place_of (call at f es) = at
place_of (list at es) = at
place_of (transact at qs) = at
place_of (unary at operator e) = at
place_of (binary at operator left right) = at
place_of (and_ at left right) = at
place_of (or_ at left right) = at
place_of (index at whole place) = at
