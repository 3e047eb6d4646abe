-- What the code knows of a token: its shape and its length, before the bytes that it stands on.
use Rattle.std.specs.Prelude.{ℕ, List, [], length, take, drop, Option, Some, None, unwrap_or}
use Rattle.script_tokens.specs.Kinds.{Kind, fixed, name, number, text}
use Rattle.script_tokens.specs.Texts.{text_from}
use Rattle.script_tokens.specs.Tokens.{Lexeme, blank, whole, wrong}
use Rattle.script_tokens.specs.declared.lexeme.Lexeme.{Lexeme as Measured}
use Rattle.script_tokens.specs.declared.lexeme.Lexeme.TheVariants as measured
use Rattle.script_tokens.specs.declared.shape.Shape.{Shape}
use Rattle.script_tokens.specs.declared.shape.Shape.TheVariants.{Word, Name, Number, Text}
use Rattle.script_tokens.specs.declared.text.Mode.TheVariants.{Plain}

-- what shape a token of this kind has
abbrev pub shape_of : Kind → Shape
shape_of (fixed w) = Word w
shape_of (name bytes) = Name
shape_of (number n) = Number n
shape_of (text content) = Text

-- a text's content, without its length in the file
abbrev pub content_of : Option (List ℕ × ℕ) → Option (List ℕ)
content_of None = None
content_of (Some t) = Some t.0

-- how long a text's content is, and how many bytes it takes
abbrev pub sizes_of : Option (List ℕ × ℕ) → Option (ℕ × ℕ)
sizes_of None = None
sizes_of (Some t) = Some (length t.0, t.1)

-- the token of this shape and length at the front of the bytes
abbrev pub kind_at : Shape → ℕ → List ℕ → Kind
kind_at (Word w) len bytes = fixed w
kind_at Name len bytes = name (take len bytes)
kind_at (Number n) len bytes = number n
kind_at Text len bytes = text (unwrap_or (content_of (text_from Plain (drop 1 bytes))) [])

-- what was measured at the front of the bytes, with what they say
abbrev pub lexeme_at : Measured → List ℕ → Lexeme
lexeme_at (measured.Blank len) bytes = blank len
lexeme_at (measured.Token shape len) bytes = whole (kind_at shape len bytes) len
lexeme_at (measured.Wrong kind) bytes = wrong kind
