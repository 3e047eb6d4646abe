-- What is so of a token that some bytes spell.
use Rattle.std.proofs.Common.{◌≡◌, ◌+◌, ℕ, pos, List, [], ◌∷◌, length, take, Option, Some, None, Bool, true, false, ◌==◌, if◌then◌else◌, refl, subst}
use Rattle.std.specs.Bool.{nat_le}
use Rattle.script_tree.specs.declared.limits.TheConstants.{MOST_IDENTIFIER_BYTES, MOST_LITERAL_BYTES, MOST_NUMBER}
use Rattle.script_tokens.specs.Kinds.{Kind, fixed, name, number, text}
use Rattle.script_tokens.specs.Texts.{text_from}
use Rattle.script_tokens.specs.Tokens as tokens
use Rattle.script_tokens.specs.Tokens.{Lexeme, blank, whole, wrong, lexeme, lexeme_of, is_letter, in_class, span, run, named, within_limit, word_lexeme, sign, value_from, IsSpelled}
use Rattle.script_tokens.specs.Words.{word_of}
use Rattle.script_tokens.specs.declared.fault.SyntaxFaultKind.TheVariants.{NoToken, Limit}
use Rattle.script_tokens.specs.declared.lexeme.Class.TheVariants.{Name as Names, Digit, Comment}
use Rattle.script_tokens.specs.declared.text.Mode.TheVariants.{Plain}
use Rattle.script_tokens.specs.declared.word.Word.{Word}
use Rattle.script_print.proofs.Runs.{AllIn, run_in}

abbrev pub BeginsWithLetter : List ℕ → Type 0
BeginsWithLetter [] = ⊥
BeginsWithLetter (b ∷ bs) = is_letter b ≡ true

pub record IsName (x : List ℕ) : Type 0 where
  pub begins : BeginsWithLetter x
  pub all : AllIn Names x
  pub no_word : word_of x ≡ None
  pub short : nat_le (length x) MOST_IDENTIFIER_BYTES ≡ true

abbrev pub IsFit : Kind → Type 0
IsFit (fixed w) = Unit {0}
IsFit (name x) = IsName x
IsFit (number z) = (n : ℕ) × (z ≡ pos n) × (nat_le n MOST_NUMBER ≡ true)
IsFit (text content) = nat_le (length content) MOST_LITERAL_BYTES ≡ true

abbrev pub HasFit : Lexeme → Type 0
HasFit (blank n) = Unit {0}
HasFit (whole k n) = IsFit k
HasFit (wrong fault) = Unit {0}

either : (t : Bool) (a b : Lexeme) → (t ≡ true → HasFit a) → HasFit b → HasFit (if t then a else b)
either true a b p q = p refl
either false a b p q = q

begins_run : (b : ℕ) (bs : List ℕ) → is_letter b ≡ true → BeginsWithLetter (run Names (b ∷ bs))
begins_run b bs is = rw is is

fit_name : (x : List ℕ) (o : Option Word) → word_of x ≡ o → BeginsWithLetter x → AllIn Names x → HasFit (named x o)
fit_name x (Some w) is begins all = tt
fit_name x None is begins all =
    either (nat_le (length x) MOST_IDENTIFIER_BYTES) (whole (name x) (length x)) (wrong Limit)
    (λ short. record { begins = begins; all = all; no_word = is; short = short }) tt

fit_number_by : (len n : ℕ) (t : Bool) → nat_le n MOST_NUMBER ≡ t → HasFit (tokens.number len (if t then Some n else None))
fit_number_by len n true is = (n, refl, is)
fit_number_by len n false is = tt

fit_text : (o : Option (List ℕ × ℕ)) → HasFit (tokens.text o)
fit_text None = tt
fit_text (Some t) = either (nat_le (length t.0) MOST_LITERAL_BYTES) (whole (text t.0) (1 + t.1)) (wrong Limit) (λ short. short) tt

fit_word : (bs : List ℕ) (o : Option Word) (other : Lexeme) → HasFit other → HasFit (word_lexeme bs o other)
fit_word bs None other h = h
fit_word bs (Some w) other h = tt

fit_sign : (bs : List ℕ) → HasFit (sign bs)
fit_sign bs = fit_word (take 2 bs) (word_of (take 2 bs))
    (word_lexeme (take 1 bs) (word_of (take 1 bs)) (wrong NoToken))
    (fit_word (take 1 bs) (word_of (take 1 bs)) (wrong NoToken) tt)

abbrev behind_text : ℕ → List ℕ → Lexeme
behind_text b bs = if b == 34 then tokens.text (text_from Plain bs) else sign (b ∷ bs)

abbrev behind_number : ℕ → List ℕ → Lexeme
behind_number b bs = if tokens.is_digit b then tokens.number (length (run Digit (b ∷ bs)))
    (within_limit (value_from 0 (run Digit (b ∷ bs)))) else behind_text b bs

abbrev behind_name : ℕ → List ℕ → Lexeme
behind_name b bs = if is_letter b then named (run Names (b ∷ bs)) (word_of (run Names (b ∷ bs))) else behind_number b bs

fit_of : (b : ℕ) (bs : List ℕ) → HasFit (lexeme_of b bs)
fit_of b bs =
    let at_text = either (b == 34) (tokens.text (text_from Plain bs)) (sign (b ∷ bs)) (λ is. fit_text (text_from Plain bs)) (fit_sign (b ∷ bs)) in
    let digits = run Digit (b ∷ bs) in
    let value = value_from 0 digits in
    let at_number = either (tokens.is_digit b) (tokens.number (length digits) (within_limit value)) (behind_text b bs) (λ is. fit_number_by (length digits) value (nat_le value MOST_NUMBER) refl) at_text in
    let letters = run Names (b ∷ bs) in
    let at_name = either (is_letter b) (named letters (word_of letters)) (behind_number b bs) (λ is. fit_name letters (word_of letters) refl (begins_run b bs is) (run_in Names (b ∷ bs))) at_number in
    let comment = blank (span Comment (b ∷ bs)) in
    either (tokens.is_blank b) (blank 1) (if b == 35 then comment else behind_name b bs) (λ is. tt)
    (either (b == 35) comment (behind_name b bs) (λ is. tt) at_name)

fit : (bytes : List ℕ) → HasFit (lexeme bytes)
fit [] = tt
fit (b ∷ bs) = fit_of b bs

pub fit_spelled : (k : Kind) → IsSpelled k → IsFit k
fit_spelled k h = subst HasFit h.1 (fit h.0)
