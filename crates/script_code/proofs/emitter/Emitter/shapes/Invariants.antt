use Rattle.std.proofs.Common.{◌≡◌, ◌++◌, drop}
use Rattle.script_tree.specs.SyntaxLists.{queries_of}
use Rattle.script_code.specs.Code.{shapes_of}
use Rattle.script_code.proofs.emitter.Emitter.shapes.Given as goal

-- the shapes so far, and those that are left
abbrev pub invariant-loop-query : goal.invariant-loop-query
invariant-loop-query l = l.shapes ++ shapes_of l.self (queries_of (drop l.query-index l.query-items)) ≡ shapes_of l.self (queries_of l.query-items)
