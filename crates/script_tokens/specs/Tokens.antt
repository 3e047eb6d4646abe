-- What stands at the front of a program's text.
use Rattle.std.specs.Prelude.{◌≡◌, ℕ, suc, ◌+◌, ◌-◌, ◌*◌, ◌<◌, ◌≤◌, pos, List, [], ◌∷◌, length, take, Option, Some, None, Bool, true, false, if◌then◌else◌, nat_le, ◌==◌, ◌||◌}
use Rattle.script_tree.specs.declared.limits.TheConstants.{MOST_IDENTIFIER_BYTES, MOST_LITERAL_BYTES, MOST_NUMBER}
use Rattle.script_tokens.specs.Texts.{between, text_from}
use Rattle.script_tokens.specs.Words.{word_of}
use Rattle.script_tokens.specs.declared.word.Word.{Word}
use Rattle.script_tokens.specs.Kinds as kind
use Rattle.script_tokens.specs.declared.fault.SyntaxFaultKind.{SyntaxFaultKind}
use Rattle.script_tokens.specs.declared.fault.SyntaxFaultKind.TheVariants.{NoToken, Limit}
use Rattle.script_tokens.specs.declared.lexeme.Class.{Class}
use Rattle.script_tokens.specs.declared.lexeme.Class.TheVariants.{Name as Names, Digit, Comment}
use Rattle.script_tokens.specs.declared.text.Mode.TheVariants.{Plain}

-- what stands at the front of a text: blanks, a whole token, or what is wrong there
pub data Lexeme : Type 0 where
  -- blanks or a comment
  blank : (len : ℕ) → Lexeme
  whole : kind.Kind → (len : ℕ) → Lexeme
  wrong : SyntaxFaultKind → Lexeme

-- 0 to 9
abbrev pub is_digit : ℕ → Bool
is_digit b = between 48 57 b

-- a to z, A to Z, and the underscore
abbrev pub is_letter : ℕ → Bool
is_letter b = between 97 122 b || between 65 90 b || b == 95

-- space, tab, CR, LF
abbrev pub is_blank : ℕ → Bool
is_blank b = b == 32 || b == 9 || b == 13 || b == 10

-- a comment goes up to an LF
abbrev pub in_class : Class → ℕ → Bool
in_class Names b = is_letter b || is_digit b
in_class Digit b = is_digit b
in_class Comment b = if b == 10 then false else true

-- how many bytes from the front on are of the class
abbrev pub span : Class → List ℕ → ℕ
span c [] = 0
span c (b ∷ bs) = if in_class c b then suc (span c bs) else 0

-- the longest run of the class
abbrev pub run : Class → List ℕ → List ℕ
run c bs = take (span c bs) bs

-- a keyword, or a name that isn't too long
abbrev pub named : List ℕ → Option Word → Lexeme
named x (Some w) = whole (kind.fixed w) (length x)
named x None = if nat_le (length x) MOST_IDENTIFIER_BYTES then whole (kind.name x) (length x) else wrong Limit

-- what letters and digits are: a keyword, or else a name
abbrev pub name_or_keyword : List ℕ → Lexeme
name_or_keyword x = named x (word_of x)

-- the value of digits behind others of value n
abbrev pub value_from : ℕ → List ℕ → ℕ
value_from n [] = n
value_from n (d ∷ ds) = value_from (n * 10 + (d - 48)) ds

-- a number that isn't above the limit
abbrev pub within_limit : ℕ → Option ℕ
within_limit n = if nat_le n MOST_NUMBER then Some n else None

-- a number of so many digits; a fault where it is above the limit
abbrev pub number : ℕ → Option ℕ → Lexeme
number len None = wrong Limit
number len (Some n) = whole (kind.number (pos n)) len

-- the number that these digits write
abbrev pub number_of : List ℕ → Lexeme
number_of digits = number (length digits) (within_limit (value_from 0 digits))

-- a text of at most 65,535 bytes of content; its first quote counts to its length
abbrev pub text : Option (List ℕ × ℕ) → Lexeme
text None = wrong NoToken
text (Some t) = if nat_le (length t.0) MOST_LITERAL_BYTES then whole (kind.text t.0) (1 + t.1) else wrong Limit

-- the word that these bytes are; where they are none, the other
abbrev pub word_lexeme : List ℕ → Option Word → Lexeme → Lexeme
word_lexeme bs None other = other
word_lexeme bs (Some w) other = whole (kind.fixed w) (length bs)

-- a sign of two bytes, or else of one
abbrev pub sign : List ℕ → Lexeme
sign bs = word_lexeme (take 2 bs) (word_of (take 2 bs)) (word_lexeme (take 1 bs) (word_of (take 1 bs)) (wrong NoToken))

-- what stands at the front: a blank, a comment (35 is #), the longest name, keyword or number, a text (34 is its quote), a sign; or no token
abbrev pub lexeme_of : ℕ → List ℕ → Lexeme
lexeme_of b bs =
    if is_blank b then blank 1
    else if b == 35 then blank (span Comment (b ∷ bs))
    else if is_letter b then name_or_keyword (run Names (b ∷ bs))
    else if is_digit b then number_of (run Digit (b ∷ bs))
    else if b == 34 then text (text_from Plain bs)
    else sign (b ∷ bs)

-- what stands at the front of these bytes
abbrev pub lexeme : List ℕ → Lexeme
lexeme [] = wrong NoToken
lexeme (b ∷ bs) = lexeme_of b bs

-- what was read takes some bytes, and no more than these
abbrev pub Within : Lexeme → ℕ → Type 0
Within (blank n) len = (0 < n) × (n ≤ len)
Within (whole kind n) len = (0 < n) × (n ≤ len)
Within (wrong fault) len = Unit {0}

-- a token that some bytes spell
abbrev pub IsSpelled : kind.Kind → Type 0
IsSpelled k = (bytes : List ℕ) × (lexeme bytes ≡ whole k (length bytes))
