-- The statements of a function or a page are spelled like those of any block.
use Rattle.std.proofs.Common.{◌≡◌, List, [], ◌∷◌, refl, ap}
use Rattle.script_tree.specs.Syntax.{Statement}
use Rattle.script_tree.specs.SyntaxLists.{statements_of}
use Rattle.script_grammar.specs.Spelling.{Mark, statement_spelling, statements_spelling, block_spelling}

pub same_block : (body : List Statement) (marks : List Mark) → block_spelling body marks ≡ statements_spelling (statements_of body) marks
same_block [] marks = refl
same_block (s ∷ ss) marks = ap (statement_spelling s) (same_block ss marks)
