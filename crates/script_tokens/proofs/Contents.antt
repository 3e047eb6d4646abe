-- Where a text stands in front, its content can be read.
use Rattle.std.proofs.Common.{◌≡◌, ℕ, List, [], ◌∷◌, drop, take, length, Option, Some, None, Bool, true, false, if◌then◌else◌, nat_le, sym, subst}
use Rattle.script_tree.specs.declared.limits.TheConstants.{MOST_IDENTIFIER_BYTES}
use Rattle.script_tokens.specs.declared.word.Word.{Word}
use Rattle.script_tokens.specs.declared.lexeme.Class.TheVariants.{Name as Names, Digit, Comment}
use Rattle.script_tokens.specs.declared.text.Mode.TheVariants.{Plain}
use Rattle.script_tokens.specs.Kinds as kind
use Rattle.script_tokens.specs.Texts.{text_from}
use Rattle.script_tokens.specs.Shapes.{content_of}
use Rattle.script_tokens.specs.Words.{word_of}
use Rattle.script_tokens.specs.Tokens.{Lexeme, blank, whole, wrong, lexeme, lexeme_of, named, number, text, sign, word_lexeme, run, span, is_blank, is_letter, is_digit, within_limit, value_from}
use Rattle.std.specs.Prelude.{◌==◌}

abbrev IsText : Lexeme → Type 0
IsText (whole (kind.text content) len) = Unit {0}
IsText other = ⊥

chosen : (t : Bool) (x y : Lexeme) → (IsText x → ⊥) → (IsText y → ⊥) → IsText (if t then x else y) → ⊥
chosen true x y no_x no_y h = no_x h
chosen false x y no_x no_y h = no_y h

no_name : (x : List ℕ) (o : Option Word) → IsText (named x o) → ⊥
no_name x (Some w) h = h
no_name x None h = chosen (nat_le (length x) MOST_IDENTIFIER_BYTES) (whole (kind.name x) (length x)) (wrong _) (λ n. n) (λ n. n) h

no_number : (len : ℕ) (o : Option ℕ) → IsText (number len o) → ⊥
no_number len None h = h
no_number len (Some n) h = h

no_word : (bs : List ℕ) (o : Option Word) (other : Lexeme) → (IsText other → ⊥) → IsText (word_lexeme bs o other) → ⊥
no_word bs None other none h = none h
no_word bs (Some w) other none h = h

no_sign : (bs : List ℕ) → IsText (sign bs) → ⊥
no_sign bs = no_word (take 2 bs) (word_of (take 2 bs)) (word_lexeme (take 1 bs) (word_of (take 1 bs)) (wrong _))
    (no_word (take 1 bs) (word_of (take 1 bs)) (wrong _) (λ n. n))

no_text : (o : Option (List ℕ × ℕ)) → content_of o ≡ None → IsText (text o) → ⊥
no_text None e h = h
no_text (Some t) e h = cc

pub has_content : (b : ℕ) (bs : List ℕ) → IsText (lexeme_of b bs) → content_of (text_from Plain bs) ≡ None → ⊥
has_content b bs h e =
    chosen (is_blank b) (blank 1) _ (λ n. n)
    (chosen (b == 35) (blank (span Comment (b ∷ bs))) _ (λ n. n)
    (chosen (is_letter b) (named (run Names (b ∷ bs)) (word_of (run Names (b ∷ bs)))) _ (no_name (run Names (b ∷ bs)) (word_of (run Names (b ∷ bs))))
    (chosen (is_digit b) (number (length (run Digit (b ∷ bs))) (within_limit (value_from 0 (run Digit (b ∷ bs))))) _
    (no_number (length (run Digit (b ∷ bs))) (within_limit (value_from 0 (run Digit (b ∷ bs)))))
    (chosen (b == 34) (text (text_from Plain bs)) (sign (b ∷ bs)) (no_text (text_from Plain bs) e) (no_sign (b ∷ bs)))))) h

pub content_there : (bs content : List ℕ) (len : ℕ) → lexeme bs ≡ whole (kind.text content) len → content_of (text_from Plain (drop 1 bs)) ≡ None → ⊥
content_there [] content len e n = cc
content_there (b ∷ bs) content len e n = has_content b bs (subst IsText (sym e) tt) n
