-- Which tokens spell which tree, and which token is the first fault.
use Rattle.std.specs.Prelude.{◌≡◌, List, [], ◌∷◌, ◌++◌}
use Rattle.script_tree.specs.Programs.{Program}
use Rattle.script_tokens.specs.Kinds.{Token}
use Rattle.script_tokens.specs.Tokens.{IsSpelled}
use Rattle.script_grammar.specs.Grouping.{AreGroupedDeclarations}
use Rattle.script_grammar.specs.Spelling.{tree_spelling, AreTokens}

-- The tokens are those of the tree, and its operators group as they do without further brackets.
pub record IsTreeOf (ts : List Token) (tree : Program) : Type 0 where
  pub spelled : AreTokens (tree_spelling tree) ts
  pub grouped : AreGroupedDeclarations tree.declarations

-- some bytes spell each of the tokens
abbrev pub AreSpelled : List Token → Type 0
AreSpelled [] = Unit {0}
AreSpelled (t ∷ ts) = IsSpelled t.kind × AreSpelled ts

-- The tokens begin a program: others may follow with which they are one.
pub record Begins (ts : List Token) : Type 0 where
  pub more : List Token
  pub tree : Program
  pub real : AreSpelled more
  pub whole : IsTreeOf (ts ++ more) tree

-- The tokens before the rest begin a program. With the rest's first one they don't; without a rest they are none.
abbrev pub IsFaultAt : List Token → List Token → Type 0
IsFaultAt ts [] = Begins ts × ((tree : Program) → IsTreeOf ts tree → ⊥)
IsFaultAt ts (t ∷ rest) = (read : List Token) × (ts ≡ read ++ t ∷ rest) × Begins read × (Begins (read ++ t ∷ []) → ⊥)
