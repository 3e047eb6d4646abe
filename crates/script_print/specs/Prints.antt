-- How the tokens of a program's text are printed.
use Rattle.std.specs.Prelude.{◌≡◌, ℕ, List, [], ◌∷◌, ◌++◌}
use Rattle.std.specs.Fmt.{signed_decimal}
use Rattle.script_tokens.specs.Kinds.{Kind, fixed, name, number, text}
use Rattle.script_tokens.specs.Words.{spelling_of}
use Rattle.script_tokens.specs.PrintedTexts.{printed_text}

-- how a token is printed
abbrev pub printed : Kind → List ℕ
printed (fixed w) = spelling_of w
printed (name bytes) = bytes
printed (number n) = signed_decimal n
printed (text content) = printed_text content

-- what stands before these: a space, or an LF where nothing follows
abbrev pub separator : List Kind → ℕ
separator [] = 10
separator (k ∷ ks) = 32

-- one space between each two, and an LF at the end
abbrev pub joined : List Kind → List ℕ
joined [] = []
joined (k ∷ ks) = printed k ++ separator ks ∷ joined ks

-- a space behind each
abbrev pub spaced : List Kind → List ℕ
spaced [] = []
spaced (k ∷ ks) = printed k ++ 32 ∷ spaced ks

-- these bytes, and behind them such tokens
unfoldable pub followed : List ℕ → List Kind → List ℕ
followed bytes ks = bytes ++ spaced ks

-- What was printed before, with a token behind it: whatever tokens follow.
abbrev pub Adds : Kind → (before after : List ℕ) → Type 0
Adds k before after = (ks : List Kind) → followed after ks ≡ followed before (k ∷ ks)
