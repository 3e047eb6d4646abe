-- Which bytes spell which tree, and what their first fault is: docs/language.md, "Syntax".
use Rattle.std.specs.Prelude.{◌≡◌, ◌⊎◌, ℕ, List, [], ◌∷◌, Result}
use Rattle.basis.specs.UnlessMemory.{UnlessMemory}
use Rattle.basis.specs.declared.or_memory.OrMemory.{OrMemory}
use Rattle.script_tree.specs.Programs.{Program}
use Rattle.script_tokens.specs.Kinds.{Token}
use Rattle.script_tokens.specs.Scans.{scan_of}
use Rattle.script_tokens.specs.declared.fault.End.{End}
use Rattle.script_tokens.specs.declared.fault.End.TheVariants.{File, Fault}
use Rattle.script_tokens.specs.declared.fault.SyntaxFault.{SyntaxFault}
use Rattle.script_tokens.specs.declared.fault.SyntaxFaultKind.TheVariants.{Grammar}
use Rattle.script_grammar.specs.Grammar.{IsTreeOf, Begins, IsFaultAt}

-- The tokens go up to the end of the file.
abbrev pub IsWhole : End → Type 0
IsWhole (File length) = Unit {0}
IsWhole (Fault fault) = ⊥

-- The bytes are tokens up to the end of the file, and these are the tree's.
pub record Spells (bytes : List ℕ) (tree : Program) : Type 0 where
  pub whole : IsWhole (scan_of bytes).end
  pub tree_is : IsTreeOf (scan_of bytes).tokens tree

-- the fault of the grammar at this place
abbrev pub ungrammatical : ℕ → SyntaxFault
ungrammatical at = record { at = at; kind = Grammar }

-- The tokens up to one of them begin no program any more.
pub record IsAtToken (ts : List Token) (fault : SyntaxFault) : Type 0 where
  pub first : Token
  pub rest : List Token
  pub fault_at : IsFaultAt ts (first ∷ rest)
  pub fault_is : fault ≡ ungrammatical first.at

-- All tokens begin a program, but what stands behind them is at fault; or the file ends too early.
abbrev pub IsAtEnd : End → List Token → SyntaxFault → Type 0
IsAtEnd (File length) ts fault = IsFaultAt ts [] × (fault ≡ ungrammatical length)
IsAtEnd (Fault behind) ts fault = Begins ts × (fault ≡ behind)

-- the first fault of a text: at one of its tokens, or behind them all
abbrev pub IsSyntaxFault : List ℕ → SyntaxFault → Type 0
IsSyntaxFault bytes fault = IsAtToken (scan_of bytes).tokens fault ⊎ IsAtEnd (scan_of bytes).end (scan_of bytes).tokens fault

-- the one tree that they spell
pub record SpellsOnly (bytes : List ℕ) (tree : Program) : Type 0 where
  pub spells : Spells bytes tree
  pub only : (other : Program) → Spells bytes other → other ≡ tree

-- the first fault, where they spell none
pub record SpellsNone (bytes : List ℕ) (fault : SyntaxFault) : Type 0 where
  pub fault_is : IsSyntaxFault bytes fault
  pub none : (tree : Program) → Spells bytes tree → ⊥

-- the one tree that the bytes spell, or their first fault, unless memory runs out
abbrev pub IsParsed : List ℕ → Result Program (OrMemory SyntaxFault) → Type 0
IsParsed bytes result = UnlessMemory (SpellsOnly bytes) (SpellsNone bytes) result
