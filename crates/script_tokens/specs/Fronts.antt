-- What a scanner holds: its first token, and the bytes from there on.
use Rattle.std.specs.Prelude.{◌≡◌, ℕ, ◌+◌, ◌<◌, ◌≤◌, ◌^◌, List, length, drop}
use Rattle.script_tree.specs.declared.limits.TheConstants.{MOST_OPEN_BRACKETS}
use Rattle.script_tokens.specs.Kinds.{token}
use Rattle.script_tokens.specs.Shapes.{kind_at}
use Rattle.script_tokens.specs.Scans.{Scan, scan, nothing_more, before, Bracket, neither, bracket_of}
use Rattle.script_tokens.specs.Kinds as kind
use Rattle.script_tokens.specs.Tokens.{lexeme, whole}
use Rattle.script_tokens.specs.declared.shape.Shape.{Shape}
use Rattle.script_tokens.specs.declared.shape.Shape.TheVariants.{Word, Name, Number, Text}
use Rattle.script_tokens.specs.declared.scan.Front.{Front}
use Rattle.script_tokens.specs.declared.scan.Front.TheVariants.{Token, Nothing}

-- the first token, and what is scanned behind it; or what ends the tokens
abbrev pub seen : Front → (at depth : ℕ) → List ℕ → Scan
seen (Token shape len) at depth rest = before (token at (kind_at shape len rest)) (scan (drop len rest) (at + len) depth 0)
seen (Nothing end) at depth rest = nothing_more end

-- it is what stands in front
abbrev pub IsFront : Front → List ℕ → Type 0
IsFront (Token shape len) rest = (lexeme rest ≡ whole (kind_at shape len rest) len) × (len ≤ length rest)
IsFront (Nothing end) rest = Unit {0}

-- the parts fit together, and no sum of them is too large
abbrev pub Fits : Front → (at depth : ℕ) → List ℕ → Type 0
Fits front at depth rest = IsFront front rest × (depth ≤ MOST_OPEN_BRACKETS) × (at + length rest < 2 ^ 63)

-- a shape tells whether the token is a bracket
abbrev pub shape_bracket : Shape → Bracket
shape_bracket (Word w) = bracket_of (kind.fixed w)
shape_bracket Name = neither
shape_bracket (Number n) = neither
shape_bracket Text = neither
