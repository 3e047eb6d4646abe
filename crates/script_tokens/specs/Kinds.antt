-- What the tokens of a program's text are.
use Rattle.std.specs.Prelude.{ℕ, ℤ, List}
use Rattle.script_tokens.specs.declared.word.Word.{Word}

-- what a token is: a keyword or a sign, a name, a number or a text
pub data Kind : Type 0 where
  -- a keyword or a sign
  fixed : Word → Kind
  name : (bytes : List ℕ) → Kind
  number : ℤ → Kind
  -- its content, without quotes and escapes
  text : (content : List ℕ) → Kind

-- a token, with the place of its first byte
pub record Token : Type 0 where
  pub at : ℕ
  pub kind : Kind

-- the token of this kind at this place
abbrev pub token : ℕ → Kind → Token
token at kind = record { at = at; kind = kind }
