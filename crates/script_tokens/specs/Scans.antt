-- The tokens of a file, and what stands behind the last one.
use Rattle.std.specs.Prelude.{ℕ, zero, suc, ◌+◌, ◌-◌, List, [], ◌∷◌, Option, Some, None, if◌then◌else◌, nat_le}
use Rattle.script_tree.specs.declared.limits.TheConstants.{MOST_OPEN_BRACKETS}
use Rattle.script_tokens.specs.Kinds.{Kind, fixed, Token, token}
use Rattle.script_tokens.specs.Tokens.{Lexeme, blank, whole, wrong, lexeme_of}
use Rattle.script_tokens.specs.declared.fault.SyntaxFaultKind.{SyntaxFaultKind}
use Rattle.script_tokens.specs.declared.fault.SyntaxFaultKind.TheVariants.{Grammar}
use Rattle.script_tokens.specs.declared.fault.End.{End}
use Rattle.script_tokens.specs.declared.fault.End.TheVariants.{File, Fault}
use Rattle.script_tokens.specs.declared.word.Word.TheVariants.{Open, Close, BraceOpen, BraceClose, SquareOpen, SquareClose}

-- the tokens up to the first fault, and what ends them: the end of the file, or the fault
pub record Scan : Type 0 where
  pub tokens : List Token
  pub end : End

-- no token, and this end
abbrev pub nothing_more : End → Scan
nothing_more end = record { tokens = []; end = end }

-- no token, and a fault of this kind at this place
abbrev pub faulty : ℕ → SyntaxFaultKind → Scan
faulty at kind = nothing_more (Fault (record { at = at; kind = kind }))

-- the token before the others
abbrev pub before : Token → Scan → Scan
before t s = record { tokens = t ∷ s.tokens; end = s.end }

-- what a token is to brackets: it opens one, it closes one, or neither
pub data Bracket : Type 0 where
  opens : Bracket
  closes : Bracket
  neither : Bracket

-- the round, curly and square brackets open and close, and no other token does
abbrev pub bracket_of : Kind → Bracket
bracket_of (fixed Open) = opens
bracket_of (fixed BraceOpen) = opens
bracket_of (fixed SquareOpen) = opens
bracket_of (fixed Close) = closes
bracket_of (fixed BraceClose) = closes
bracket_of (fixed SquareClose) = closes
bracket_of kind = neither

-- how many brackets are open behind it; none where it would open one too many
abbrev pub open_behind : Bracket → ℕ → Option ℕ
open_behind opens depth = if nat_le MOST_OPEN_BRACKETS depth then None else Some (depth + 1)
open_behind closes depth = Some (depth - 1)
open_behind neither depth = Some depth

-- a token before what is behind it, by how many brackets are open there; a fault at one bracket too many
abbrev pub counted : Token → Option ℕ → (ℕ → Scan) → Scan
counted t None rest = faulty t.at Grammar
counted t (Some depth) rest = before t (rest depth)

-- what stands in front before the rest: a token, a fault, or a blank, of which nothing is kept
abbrev pub scanned : (at depth : ℕ) → Lexeme → (ℕ → ℕ → Scan) → Scan
scanned at depth (blank n) rest = rest depth (n - 1)
scanned at depth (whole kind n) rest = counted (token at kind) (open_behind (bracket_of kind) depth) (λ d. rest d (n - 1))
scanned at depth (wrong kind) rest = faulty at kind

-- what stands from a place on, where so many brackets are open and so many bytes belong to what was read before
abbrev pub scan : List ℕ → (at depth skipped : ℕ) → Scan
scan [] at depth n = nothing_more (File at)
scan (b ∷ bs) at depth (suc n) = scan bs (at + 1) depth n
scan (b ∷ bs) at depth zero = scanned at depth (lexeme_of b bs) (λ d n. scan bs (at + 1) d n)

-- the tokens of a whole file
abbrev pub scan_of : List ℕ → Scan
scan_of bytes = scan bytes 0 0 0
