-- A printed token is what stands at the front of its bytes.
use Rattle.std.proofs.Common.{◌≡◌, ◌≤◌, ◌<◌, ◌-◌, ◌+◌, ◌*◌, ◌/◌, ◌%◌, ◌^◌, ℕ, suc, pos, List, [], ◌∷◌, ◌++◌, length, None, true, false, ◌==◌, refl, ap, ◌∙◌, arith, append_assoc, length-append}
use Rattle.std.proofs.lemmas.Bool.Decides.{nat_tests}
use Rattle.std.proofs.lemmas.Fmt.{decimal_by_steps}
use Rattle.std.specs.Bool.{nat_le}
use Rattle.std.specs.Fmt.{decimal}
use Rattle.script_tree.specs.declared.limits.TheConstants.{MOST_IDENTIFIER_BYTES, MOST_LITERAL_BYTES, MOST_NUMBER}
use Rattle.script_tokens.specs.Kinds.{Kind, fixed, name, number, text}
use Rattle.script_tokens.specs.Tokens as tokens
use Rattle.script_tokens.specs.Tokens.{Lexeme, blank, whole, wrong, lexeme, is_letter, is_digit, is_blank, in_class, run, named, within_limit, value_from}
use Rattle.script_tokens.specs.Words.{words, word_of, spelling_of}
use Rattle.script_tokens.specs.declared.lexeme.Class.TheVariants.{Name as Names, Digit}
use Rattle.script_tokens.specs.declared.word.Word.{Word}
use Rattle.script_tokens.specs.declared.word.Word.TheVariants as w
use Rattle.script_tokens.specs.PrintedTexts.{printed_content, printed_text}
use Rattle.script_print.specs.Prints.{printed, separator}
use Rattle.script_print.proofs.Runs.{AllIn, run_up_to, all_push}
use Rattle.script_print.proofs.Spelled.{BeginsWithLetter, IsFit}
use Rattle.script_print.proofs.Texts.{content_read}

-- ---- words

word_again : (x : Word) (rest : List ℕ) → (lexeme (spelling_of x ++ 32 ∷ rest)
    ≡ whole (fixed x) (length (spelling_of x)))
    × (lexeme (spelling_of x ++ 10 ∷ rest) ≡ whole (fixed x) (length (spelling_of x)))
unfolding words
word_again w.Store rest = (refl, refl)
word_again x rest = (refl, refl)

-- ---- names

letter_is : (b : ℕ) → is_letter b ≡ true → (is_blank b ≡ false) × ((b == 35) ≡ false)
letter_is b h = (grind (arith, nat_tests), grind (arith, nat_tests))

letter_front : (b : ℕ) (bs : List ℕ) → is_letter b ≡ true → lexeme (b ∷ bs) ≡ named (run Names (b ∷ bs)) (word_of (run Names (b ∷ bs)))
letter_front b bs is = let not = letter_is b is in rw (not.0, not.1, is) refl

name_again : (x : List ℕ) (s : ℕ) (rest : List ℕ) → BeginsWithLetter x → AllIn Names x → word_of x ≡ None
    → nat_le (length x) MOST_IDENTIFIER_BYTES ≡ true → in_class Names s ≡ false
    → lexeme (x ++ s ∷ rest) ≡ whole (name x) (length x)
name_again [] s rest begins all no_word short out = absurd begins
name_again (b ∷ bs) s rest begins all no_word short out =
    letter_front b (bs ++ s ∷ rest) begins
    ∙ ap (λ x. named x (word_of x)) (run_up_to Names (b ∷ bs) rest s all out)
    ∙ ap (named (b ∷ bs)) no_word
    ∙ rw short refl

-- ---- numbers

value_push : (ds : List ℕ) (n d : ℕ) → value_from n (ds ++ d ∷ []) ≡ value_from n ds * 10 + (d - 48)
value_push [] n d = refl
value_push (x ∷ ds) n d = value_push ds (n * 10 + (x - 48)) d

record IsDecimal (n : ℕ) (ds : List ℕ) : Type 0 where
  all : AllIn Digit ds
  some : 0 < length ds
  value : value_from 0 ds ≡ n

one_digit : (n : ℕ) → n < 10 → IsDecimal n ((48 + n) ∷ [])
one_digit n h = record { all = (grind (arith, nat_tests), tt); some = omega arith; value = omega arith }

more_digits : (n : ℕ) (ds : List ℕ) → 10 ≤ n → IsDecimal (n / 10) ds → IsDecimal n (ds ++ (48 + n % 10) ∷ [])
more_digits n ds h front =
    let small : n % 10 < 10 = omega arith in
    record {
      all = all_push Digit ds (48 + n % 10) front.all (grind (arith, nat_tests));
      some = omega (arith, length-append ds ((48 + n % 10) ∷ []));
      value = value_push ds 0 (48 + n % 10) ∙ omega (arith, front.value);
    }

decimal_is : (n : ℕ) → nat_le n MOST_NUMBER ≡ true → IsDecimal n (decimal n)
decimal_is n h =
    let small : n < 2 ^ 64 = grind (arith, nat_tests) in
    decimal_by_steps IsDecimal one_digit more_digits n small

digit_is : (b : ℕ) → is_digit b ≡ true → (is_blank b ≡ false) × ((b == 35) ≡ false) × (is_letter b ≡ false)
digit_is b h = (grind (arith, nat_tests), grind (arith, nat_tests), grind (arith, nat_tests))

digit_front : (b : ℕ) (bs : List ℕ) → is_digit b ≡ true
    → lexeme (b ∷ bs) ≡ tokens.number (length (run Digit (b ∷ bs))) (within_limit (value_from 0 (run Digit (b ∷ bs))))
digit_front b bs is = let not = digit_is b is in rw (not.0, not.1, not.2, is) refl

number_again : (n : ℕ) (ds : List ℕ) (s : ℕ) (rest : List ℕ) → IsDecimal n ds → nat_le n MOST_NUMBER ≡ true → in_class Digit s ≡ false
    → lexeme (ds ++ s ∷ rest) ≡ whole (number (pos n)) (length ds)
number_again n [] s rest d fits out = absurd (omega (arith, d.some))
number_again n (b ∷ bs) s rest d fits out =
    digit_front b (bs ++ s ∷ rest) d.all.0
    ∙ ap (λ ds. tokens.number (length ds) (within_limit (value_from 0 ds))) (run_up_to Digit (b ∷ bs) rest s d.all out)
    ∙ ap (λ v. tokens.number (length (b ∷ bs)) (within_limit v)) d.value
    ∙ rw fits refl

-- ---- texts

text_again : (content : List ℕ) (s : ℕ) (rest : List ℕ) → nat_le (length content) MOST_LITERAL_BYTES ≡ true
    → lexeme (printed_text content ++ s ∷ rest) ≡ whole (text content) (length (printed_text content))
text_again content s rest short =
    let inner = printed_content content in
    let p : (inner ++ 34 ∷ []) ++ s ∷ rest ≡ inner ++ 34 ∷ s ∷ rest = append_assoc inner (34 ∷ []) (s ∷ rest) in
    let q : 1 + (length inner + 1) ≡ suc (length (inner ++ 34 ∷ [])) = omega (arith, length-append inner (34 ∷ [])) in
    rw (p, content_read content (s ∷ rest), short) (ap (whole (text content)) q)

-- ---- any token

outside : (ks : List Kind) → (in_class Names (separator ks) ≡ false) × (in_class Digit (separator ks) ≡ false)
outside [] = (refl, refl)
outside (k ∷ ks) = (refl, refl)

pub token_again : (k : Kind) (ks : List Kind) (rest : List ℕ) → IsFit k → lexeme (printed k ++ separator ks ∷ rest) ≡ whole k (length (printed k))
token_again (fixed x) [] rest h = (word_again x rest).1
token_again (fixed x) (k ∷ ks) rest h = (word_again x rest).0
token_again (name x) ks rest h = name_again x (separator ks) rest h.begins h.all h.no_word h.short (outside ks).0
token_again (number z) ks rest h =
    rw h.1 (number_again h.0 (decimal h.0) (separator ks) rest (decimal_is h.0 h.2) h.2 (outside ks).1)
token_again (text content) ks rest h = text_again content (separator ks) rest h
