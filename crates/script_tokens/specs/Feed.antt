-- How a parser takes the tokens one after the other.
use Rattle.std.specs.Prelude.{ℕ, ℤ, List, [], ◌∷◌, Option, Some, None, Bool, false}
use Rattle.std.specs.Str.{bytes_eq}
use Rattle.script_tree.specs.declared.syntax.name.Name.{Name}
use Rattle.script_tokens.specs.Words.{spelling_of}
use Rattle.script_tokens.specs.Kinds.{Kind, fixed, name, number, text, Token}
use Rattle.script_tokens.specs.Shapes.{shape_of}
use Rattle.script_tokens.specs.Scans.{Scan}
use Rattle.script_tokens.specs.declared.fault.SyntaxFault.{SyntaxFault}
use Rattle.script_tokens.specs.declared.fault.SyntaxFaultKind.TheVariants.{Grammar}
use Rattle.script_tokens.specs.declared.fault.End.{End}
use Rattle.script_tokens.specs.declared.fault.End.TheVariants.{File, Fault}
use Rattle.script_tokens.specs.declared.shape.Shape.{Shape}
use Rattle.script_tokens.specs.declared.word.Word.{Word}

-- ---- the first token

-- the shape of the token in front
abbrev pub shape_at : List Token → Option Shape
shape_at [] = None
shape_at (t ∷ ts) = Some (shape_of t.kind)

-- whether a token is this word
abbrev pub is_word : Word → Kind → Bool
is_word w (fixed v) = bytes_eq (spelling_of v) (spelling_of w)
is_word w (name bytes) = false
is_word w (number n) = false
is_word w (text content) = false

-- whether the word stands in front
abbrev pub stands : Word → List Token → Bool
stands w [] = false
stands w (t ∷ ts) = is_word w t.kind

-- the place of the token in front
abbrev pub place_at : List Token → Option ℕ
place_at [] = None
place_at (t ∷ ts) = Some t.at

-- a name with its place, where the token is one
abbrev pub name_of : ℕ → Kind → Option Name
name_of at (name bytes) = Some (record { at = at; text = bytes })
name_of at (fixed w) = None
name_of at (number n) = None
name_of at (text content) = None

-- a name in front, with its place
abbrev pub name_at : List Token → Option Name
name_at [] = None
name_at (t ∷ ts) = name_of t.at t.kind

-- a text with its place, where the token is one
abbrev pub text_of : ℕ → Kind → Option Name
text_of at (text content) = Some (record { at = at; text = content })
text_of at (fixed w) = None
text_of at (name bytes) = None
text_of at (number n) = None

-- a text in front, with its place
abbrev pub text_at : List Token → Option Name
text_at [] = None
text_at (t ∷ ts) = text_of t.at t.kind

-- a number with its place, where the token is one
abbrev pub number_of : ℕ → Kind → Option (ℕ × ℤ)
number_of at (number n) = Some (at, n)
number_of at (fixed w) = None
number_of at (name bytes) = None
number_of at (text content) = None

-- a number in front, with its place
abbrev pub number_at : List Token → Option (ℕ × ℤ)
number_at [] = None
number_at (t ∷ ts) = number_of t.at t.kind

-- ---- where no token is left

-- what ends these tokens, where there is none of them
abbrev pub end_behind : List Token → End → Option End
end_behind [] end = Some end
end_behind (t ∷ ts) end = None

-- what ends the tokens, where none is left
abbrev pub end_at : Scan → Option End
end_at s = end_behind s.tokens s.end

-- what is wrong where no program goes on as the tokens do
abbrev pub fault_of : List Token → End → SyntaxFault
fault_of (t ∷ ts) end = record { at = t.at; kind = Grammar }
fault_of [] (File at) = record { at = at; kind = Grammar }
fault_of [] (Fault fault) = fault

-- what is wrong where no program goes on as what is left does
abbrev pub fault_at : Scan → SyntaxFault
fault_at s = fault_of s.tokens s.end

-- ---- taking it

-- the tokens behind the one in front
abbrev pub behind_first : List Token → List Token
behind_first [] = []
behind_first (t ∷ ts) = ts

-- what is left behind the token in front
abbrev pub rest_of : Scan → Scan
rest_of s = record { tokens = behind_first s.tokens; end = s.end }

-- what is left where something was taken, or nothing
abbrev pub left_by : {A : Type 0} → Option A → Scan → Scan
left_by None s = s
left_by (Some taken) s = rest_of s
