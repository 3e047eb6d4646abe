-- Operands that are evaluated first, one in the other, and the nodes that wait for their values.
use Rattle.std.specs.Prelude.{List, [], ◌∷◌, Option, Some, None, if◌then◌else◌}
use denote.Ref.{Bor}
use Rattle.script_tree.specs.Datum.{Datum}
use Rattle.script_tree.specs.Syntax.{Expression, number, text, truth, null, bracket, variable, call, list, transact, unary, binary, and_, or_, index}
use Rattle.script_meaning.specs.Evaluate.{node}
use Rattle.script_meaning.specs.Operators.{indexed, unary_answer, binary_answer}
use Rattle.script_meaning.specs.Run.{Run, ◌>>=◌, give, decide}
use Rattle.script_meaning.specs.Variables.{Variables}
use Rattle.page_walker.specs.Frames.{value_at}
use Rattle.page_walker.specs.declared.frame.Frame.{Frame}

-- the operand that an expression evaluates before it does anything else
abbrev pub first_of : Expression → Option Expression
first_of (number at n) = None
first_of (text at bytes) = None
first_of (truth at b) = None
first_of (null at) = None
first_of (bracket at e) = None
first_of (variable at x) = None
first_of (call at f es) = None
first_of (list at es) = None
first_of (transact at qs) = None
first_of (unary at op e) = Some e
first_of (binary at op a b) = Some a
first_of (and_ at a b) = Some a
first_of (or_ at a b) = Some a
first_of (index at a b) = Some a

-- what an expression does with the value of that operand
abbrev pub climbed : Frame → Variables → Expression → Datum → Run Datum
climbed f vs (number at n) x = give x
climbed f vs (text at bytes) x = give x
climbed f vs (truth at b) x = give x
climbed f vs (null at) x = give x
climbed f vs (bracket at e) x = give x
climbed f vs (variable at y) x = give x
climbed f vs (call at g es) x = give x
climbed f vs (list at es) x = give x
climbed f vs (transact at qs) x = give x
climbed f vs (unary at op e) x = node (x ∷ []) (unary_answer op x)
climbed f vs (binary at op a b) x = do
  y ← value_at f vs b
  node (x ∷ y ∷ []) (binary_answer op x y)
climbed f vs (and_ at a b) x = do
  holds ← decide x
  if holds then value_at f vs b else give x
climbed f vs (or_ at a b) x = do
  holds ← decide x
  if holds then give x else value_at f vs b
climbed f vs (index at a b) x = do
  y ← value_at f vs b
  node (x ∷ y ∷ []) (indexed x y)

-- what expressions that wait, the outermost first, do with the value that the innermost waits for
abbrev pub climbs : Frame → Variables → List (Bor Expression) → Datum → Run Datum
climbs f vs [] x = give x
climbs f vs (e ∷ es) x = climbs f vs es x >>= climbed f vs e.now
