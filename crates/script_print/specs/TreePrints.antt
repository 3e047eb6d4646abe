-- How a tree is printed: docs/language.md, "How a program text prints".
use Rattle.std.specs.Prelude.{◌≡◌, ℕ, List, [], ◌∷◌}
use Rattle.script_tree.specs.Programs.{Program}
use Rattle.script_tree.specs.declared.syntax.declaration.Declaration.{Declaration}
use Rattle.script_tokens.specs.Kinds.{Kind}
use Rattle.script_grammar.specs.Spelling.{Mark, placed, anywhere, declarations_spelling, tree_spelling}
use Rattle.script_print.specs.Prints.{joined, followed}

-- the tokens of marks, without their places
abbrev pub kinds_of : List Mark → List Kind
kinds_of [] = []
kinds_of (placed at k ∷ marks) = k ∷ kinds_of marks
kinds_of (anywhere k ∷ marks) = k ∷ kinds_of marks

-- declarations as they are printed: their tokens, wherever they stood
abbrev pub printed_declarations : List Declaration → List ℕ
printed_declarations ds = joined (kinds_of (declarations_spelling ds))

-- a tree as it is printed: its tokens, wherever they stood
abbrev pub printed_tree : Program → List ℕ
printed_tree tree = joined (kinds_of (tree_spelling tree))

-- What was printed before, with a part of a tree behind it: whatever marks follow the part's own.
abbrev pub Prints : (List Mark → List Mark) → (before after : List ℕ) → Type 0
Prints part before after = (marks : List Mark) → followed after (kinds_of marks) ≡ followed before (kinds_of (part marks))
