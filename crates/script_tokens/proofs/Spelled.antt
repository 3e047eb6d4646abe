-- Each token of a file is one that some bytes spell.
use Rattle.std.proofs.Common.{◌≡◌, ℕ, zero, suc, ◌+◌, ◌-◌, ◌≤◌, List, [], ◌∷◌, length, take, All, Option, Some, None, Bool, true, false, if◌then◌else◌, refl, sym, ap, subst, ◌∙◌, arith, length-take}
use Rattle.std.specs.Prelude.{◌==◌, ◌||◌, nat_le}
use Rattle.std.proofs.lemmas.List.Elements.{All-nil, All-cons}
use Rattle.script_tree.specs.declared.limits.TheConstants.{MOST_IDENTIFIER_BYTES, MOST_LITERAL_BYTES}
use Rattle.script_tokens.specs.Kinds.{Kind, fixed, name, text, Token, token}
use Rattle.script_tokens.specs.Texts.{text_from, text_step, stepped, behind}
use Rattle.script_tokens.specs.Tokens as lex
use Rattle.script_tokens.specs.Tokens.{Lexeme, blank, whole, wrong, lexeme, lexeme_of, IsSpelled, run, span, in_class, named, sign, word_lexeme, is_blank, is_letter, is_digit, value_from, within_limit}
use Rattle.script_tokens.specs.Words.{word_of, spelling_of, words}
use Rattle.script_tokens.specs.Scans.{Scan, scan, scanned, counted, bracket_of, open_behind}
use Rattle.script_tokens.specs.Laws.{EachIsSpelled}
use Rattle.script_tokens.specs.declared.fault.SyntaxFaultKind.TheVariants.{Limit}
use Rattle.script_tokens.specs.declared.lexeme.Class.{Class}
use Rattle.script_tokens.specs.declared.lexeme.Class.TheVariants.{Name as Names, Digit}
use Rattle.script_tokens.specs.declared.text.Mode.{Mode}
use Rattle.script_tokens.specs.declared.text.Mode.TheVariants.{Plain}
use Rattle.script_tokens.specs.declared.text.Step.{Step}
use Rattle.script_tokens.specs.declared.text.Step.TheVariants.{Ends, Fails, Goes, Puts}
use Rattle.script_tokens.specs.declared.word.Word.{Word}
use Rattle.script_tokens.specs.declared.word.Word.TheVariants as w

-- ---- a keyword or a sign is spelled by its spelling

word_front : (w : Word) → lexeme (spelling_of w) ≡ whole (fixed w) (length (spelling_of w))
unfolding words
word_front w.Store = refl
word_front other = refl

spelled_word : (w : Word) → IsSpelled (fixed w)
spelled_word w = (spelling_of w, word_front w)

-- ---- a run is its own run

run_case : (c : Class) (b : ℕ) (bs : List ℕ) (t : Bool) → in_class c b ≡ t → run c (run c bs) ≡ run c bs
    → run c (take (if t then suc (span c bs) else 0) (b ∷ bs)) ≡ take (if t then suc (span c bs) else 0) (b ∷ bs)
run_case c b bs true e h = rw e (ap (λ x. b ∷ x) h)
run_case c b bs false e h = refl

run_run : (c : Class) (bs : List ℕ) → run c (run c bs) ≡ run c bs
run_run c [] = refl
run_run c (b ∷ bs) = run_case c b bs (in_class c b) refl (run_run c bs)

run_cons : (c : Class) (b : ℕ) (bs : List ℕ) → in_class c b ≡ true → run c (b ∷ bs) ≡ b ∷ run c bs
run_cons c b bs e = rw e refl

run_again : (c : Class) (b : ℕ) (bs : List ℕ) → in_class c b ≡ true → run c (b ∷ run c bs) ≡ run c (b ∷ bs)
run_again c b bs e = run_cons c b (run c bs) e ∙ ap (λ x. b ∷ x) (run_run c bs) ∙ sym (run_cons c b bs e)

-- ---- a text is read in its own bytes alone

abbrev Prefix : Mode → List ℕ → Option (List ℕ × ℕ) → Type 0
Prefix mode bs None = Unit {0}
Prefix mode bs (Some t) = (text_from mode (take t.1 bs) ≡ Some t) × (t.1 ≤ length bs)

one_more : (mode next : Mode) (b : ℕ) (bs front : List ℕ) (o : Option (List ℕ × ℕ))
    → ((xs : List ℕ) → text_from mode (b ∷ xs) ≡ behind front 1 (text_from next xs)) → Prefix next bs o
    → Prefix mode (b ∷ bs) (behind front 1 o)
one_more mode next b bs front None step h = tt
one_more mode next b bs front (Some t) step h =
    let q : 1 + t.1 ≡ suc t.1 = omega arith in
    (ap (λ n. text_from mode (take n (b ∷ bs))) q ∙ step (take t.1 bs) ∙ ap (behind front 1) h.0, omega (arith, h.1))

after_step : (mode : Mode) (b : ℕ) (bs : List ℕ) (s : Step) → text_step mode b ≡ s
    → ((next : Mode) → Prefix next bs (text_from next bs))
    → Prefix mode (b ∷ bs) (stepped s (λ next. text_from next bs))
after_step mode b bs Ends e h = (ap (λ s. stepped s (λ next. text_from next [])) e, omega arith)
after_step mode b bs Fails e h = tt
after_step mode b bs (Goes next) e h = one_more mode next b bs [] (text_from next bs) (λ xs. ap (λ s. stepped s (λ next. text_from next xs)) e) (h next)
after_step mode b bs (Puts next byte) e h =
    one_more mode next b bs (byte ∷ []) (text_from next bs) (λ xs. ap (λ s. stepped s (λ next. text_from next xs)) e)
    (h next)

prefix : (bs : List ℕ) (mode : Mode) → Prefix mode bs (text_from mode bs)
prefix [] mode = tt
prefix (b ∷ bs) mode = after_step mode b bs (text_step mode b) refl (λ next. prefix bs next)

-- ---- what stands in front is spelled

if_true : (t : Bool) (x y : Lexeme) → t ≡ true → (if t then x else y) ≡ x
if_true t x y e = rw e refl

if_false : (t : Bool) (x y : Lexeme) → t ≡ false → (if t then x else y) ≡ y
if_false t x y e = rw e refl

branch : (t : Bool) (x y z : Lexeme) (P : Type 0) → (t ≡ true → x ≡ z → P) → (t ≡ false → y ≡ z → P) → (if t then x else y) ≡ z → P
branch true x y z P on_true on_false e = on_true refl e
branch false x y z P on_true on_false e = on_false refl e

-- what is read at a letter, a digit and a quote
at_letter : (b : ℕ) (bs : List ℕ) → is_blank b ≡ false → (b == 35) ≡ false → is_letter b ≡ true
    → lexeme_of b bs ≡ named (run Names (b ∷ bs)) (word_of (run Names (b ∷ bs)))
at_letter b bs h1 h2 h3 = if_false (is_blank b) _ _ h1 ∙ if_false (b == 35) _ _ h2 ∙ if_true (is_letter b) _ _ h3

at_digit : (b : ℕ) (bs : List ℕ) → is_blank b ≡ false → (b == 35) ≡ false → is_letter b ≡ false → is_digit b ≡ true
    → lexeme_of b bs ≡ lex.number (length (run Digit (b ∷ bs))) (within_limit (value_from 0 (run Digit (b ∷ bs))))
at_digit b bs h1 h2 h3 h4 = if_false (is_blank b) _ _ h1 ∙ if_false (b == 35) _ _ h2 ∙ if_false (is_letter b) _ _ h3 ∙ if_true (is_digit b) _ _ h4

at_quote : (b : ℕ) (bs : List ℕ) → is_blank b ≡ false → (b == 35) ≡ false → is_letter b ≡ false → is_digit b ≡ false
    → (b == 34) ≡ true → lexeme_of b bs ≡ lex.text (text_from Plain bs)
at_quote b bs h1 h2 h3 h4 h5 = if_false (is_blank b) _ _ h1 ∙ if_false (b == 35) _ _ h2
    ∙ if_false (is_letter b) _ _ h3 ∙ if_false (is_digit b) _ _ h4 ∙ if_true (b == 34) _ _ h5

limited : (t : Bool) (kind k : Kind) (n len : ℕ) → (if t then whole kind n else wrong Limit) ≡ whole k len
    → (if t then whole kind n else wrong Limit) ≡ whole k n
limited true kind k n len e = cc
limited false kind k n len e = cc

named_length : (x : List ℕ) (o : Option Word) (k : Kind) (len : ℕ) → named x o ≡ whole k len → named x o ≡ whole k (length x)
named_length x (Some w) k len e = cc
named_length x None k len e = limited (nat_le (length x) MOST_IDENTIFIER_BYTES) (name x) k (length x) len e

number_length : (n : ℕ) (o : Option ℕ) (k : Kind) (len : ℕ) → lex.number n o ≡ whole k len → lex.number n o ≡ whole k n
number_length n None k len e = cc
number_length n (Some value) k len e = cc

text_length : (t : List ℕ × ℕ) (k : Kind) (len : ℕ) → lex.text (Some t) ≡ whole k len → lex.text (Some t) ≡ whole k (1 + t.1)
text_length t k len e = limited (nat_le (length t.0) MOST_LITERAL_BYTES) (text t.0) k (1 + t.1) len e

spelled_name : (b : ℕ) (bs : List ℕ) (k : Kind) (len : ℕ) → is_blank b ≡ false → (b == 35) ≡ false
    → is_letter b ≡ true → named (run Names (b ∷ bs)) (word_of (run Names (b ∷ bs))) ≡ whole k len → IsSpelled k
spelled_name b bs k len h1 h2 h3 e =
    let x = run Names (b ∷ bs) in
    let c : in_class Names b ≡ true = ap (λ t. t || is_digit b) h3 in
    let r : run Names (b ∷ bs) ≡ b ∷ run Names bs = run_cons Names b bs c in (
      b ∷ run Names bs,
      at_letter b (run Names bs) h1 h2 h3
          ∙ ap (λ y. named y (word_of y)) (run_again Names b bs c)
          ∙ named_length x (word_of x) k len e
          ∙ ap (λ y. whole k (length y)) r,
    )

spelled_number : (b : ℕ) (bs : List ℕ) (k : Kind) (len : ℕ) → is_blank b ≡ false → (b == 35) ≡ false
    → is_letter b ≡ false → is_digit b ≡ true
    → lex.number (length (run Digit (b ∷ bs))) (within_limit (value_from 0 (run Digit (b ∷ bs)))) ≡ whole k len
    → IsSpelled k
spelled_number b bs k len h1 h2 h3 h4 e =
    let x = run Digit (b ∷ bs) in
    let r : run Digit (b ∷ bs) ≡ b ∷ run Digit bs = run_cons Digit b bs h4 in (
      b ∷ run Digit bs,
      at_digit b (run Digit bs) h1 h2 h3 h4
          ∙ ap (λ y. lex.number (length y) (within_limit (value_from 0 y))) (run_again Digit b bs h4)
          ∙ number_length (length x) (within_limit (value_from 0 x)) k len e
          ∙ ap (λ y. whole k (length y)) r,
    )

spelled_text : (b : ℕ) (bs : List ℕ) (k : Kind) (len : ℕ) (o : Option (List ℕ × ℕ))
    → ((xs : List ℕ) → lexeme_of b xs ≡ lex.text (text_from Plain xs)) → Prefix Plain bs o → lex.text o ≡ whole k len
    → IsSpelled k
spelled_text b bs k len None front h e = absurd cc
spelled_text b bs k len (Some t) front h e =
    let q : 1 + t.1 ≡ length (b ∷ take t.1 bs) = omega (arith, length-take t.1 bs, h.1) in
    (b ∷ take t.1 bs, front (take t.1 bs) ∙ ap lex.text h.0 ∙ text_length t k len e ∙ ap (whole k) q)

spelled_sign : (bs : List ℕ) (o : Option Word) (other : Lexeme) (k : Kind) (len : ℕ)
    → (other ≡ whole k len → IsSpelled k) → word_lexeme bs o other ≡ whole k len → IsSpelled k
spelled_sign bs None other k len h e = h e
spelled_sign bs (Some w) other k len h e =
    let q : fixed w ≡ k = cc in subst IsSpelled q (spelled_word w)

spelled_front : (b : ℕ) (bs : List ℕ) (k : Kind) (len : ℕ) → lexeme_of b bs ≡ whole k len → IsSpelled k
spelled_front b bs k len e =
    branch (is_blank b) _ _ (whole k len) (IsSpelled k) (λ h1 e. absurd cc) (λ h1 e.
    branch (b == 35) _ _ (whole k len) (IsSpelled k) (λ h2 e. absurd cc) (λ h2 e.
    branch (is_letter b) _ _ (whole k len) (IsSpelled k) (λ h3 e. spelled_name b bs k len h1 h2 h3 e) (λ h3 e.
    branch (is_digit b) _ _ (whole k len) (IsSpelled k) (λ h4 e. spelled_number b bs k len h1 h2 h3 h4 e) (λ h4 e.
    branch (b == 34) _ _ (whole k len) (IsSpelled k)
    (λ h5 e. spelled_text b bs k len (text_from Plain bs) (λ xs. at_quote b xs h1 h2 h3 h4 h5) (prefix bs Plain) e)
    (λ h5 e. spelled_sign (take 2 (b ∷ bs)) (word_of (take 2 (b ∷ bs))) _ k len
    (spelled_sign (take 1 (b ∷ bs)) (word_of (take 1 (b ∷ bs))) _ k len (λ e. absurd cc)) e)
    e) e) e) e) e

-- ---- each token of a scan

abbrev Each : Scan → Type 0
Each s = All (λ t. IsSpelled t.kind) s.tokens

counted_spelled : (t : Token) (o : Option ℕ) (rest : ℕ → Scan) → IsSpelled t.kind → ((d : ℕ) → Each (rest d)) → Each (counted t o rest)
counted_spelled t None rest h r = All-nil (λ t. IsSpelled t.kind)
counted_spelled t (Some d) rest h r = All-cons (λ t. IsSpelled t.kind) t (rest d).tokens h (r d)

scanned_spelled : (at depth : ℕ) (x : Lexeme) (rest : ℕ → ℕ → Scan)
    → ((k : Kind) (n : ℕ) → x ≡ whole k n → IsSpelled k) → ((d n : ℕ) → Each (rest d n))
    → Each (scanned at depth x rest)
scanned_spelled at depth (blank n) rest h r = r depth (n - 1)
scanned_spelled at depth (whole kind n) rest h r =
    counted_spelled (token at kind) (open_behind (bracket_of kind) depth) (λ d. rest d (n - 1)) (h kind n refl)
    (λ d. r d (n - 1))
scanned_spelled at depth (wrong kind) rest h r = All-nil (λ t. IsSpelled t.kind)

each : (bs : List ℕ) (at depth n : ℕ) → Each (scan bs at depth n)
each [] at depth n = All-nil (λ t. IsSpelled t.kind)
each (b ∷ bs) at depth (suc n) = each bs (at + 1) depth n
each (b ∷ bs) at depth zero = scanned_spelled at depth (lexeme_of b bs) (λ d n. scan bs (at + 1) d n)
    (λ k n e. spelled_front b bs k n e) (λ d n. each bs (at + 1) d n)

pub each_is_spelled : EachIsSpelled
each_is_spelled bytes = each bytes 0 0 0
