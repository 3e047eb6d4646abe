-- Whether a list of the code has members is what the definition says of it.
use Rattle.std.proofs.Common.{◌≡◌, List, [], ◌∷◌, length, map, refl, arith}
use Rattle.std.specs.Prelude.{not, ◌==◌}
use Rattle.script_tree.specs.ExpressionView.{assignment_of}
use Rattle.script_tree.specs.Syntax.{Query}
use Rattle.script_tree.specs.SyntaxLists.{queries_of, assignments_of}
use Rattle.script_tree.specs.declared.syntax.expression.Assignment.{Assignment}
use Rattle.script_check.specs.Validity.{are_some, is_some_set}

pub some_queries : (qs : List Query) → not (length qs == 0) ≡ are_some (queries_of qs)
some_queries [] = refl
some_queries (q ∷ qs) = grind arith

pub some_sets : (sets : List Assignment) → not (length sets == 0) ≡ is_some_set (assignments_of (map assignment_of sets))
some_sets [] = refl
some_sets (a ∷ sets) = grind arith
