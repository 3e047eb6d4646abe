-- A printed text is read again.
use Rattle.std.proofs.Common.{◌≡◌, ◌<◌, ◌+◌, ◌*◌, ◌/◌, ◌%◌, ℕ, List, [], ◌∷◌, ◌++◌, length, Option, Some, None, Bool, true, false, ◌==◌, ◌||◌, refl, sym, ap, subst, ◌∙◌, arith, append_assoc, length-append}
use Rattle.std.proofs.lemmas.Bool.Decides.{nat_tests}
use Rattle.std.specs.Fmt.{digit_glyph}
use Rattle.script_tokens.specs.Texts.{text_from, behind, hex_value, between}
use Rattle.script_tokens.specs.declared.text.Mode.TheVariants.{Plain}
use Rattle.script_tokens.specs.PrintedTexts.{printed_byte, printed_content}

glyph_value : (d : ℕ) → d < 16 → hex_value (digit_glyph false d) ≡ Some d
glyph_value d h = grind (arith, nat_tests)

pub behind_behind : (a b : List ℕ) (m n : ℕ) (o : Option (List ℕ × ℕ)) → behind a m (behind b n o) ≡ behind (a ++ b) (m + n) o
behind_behind a b m n None = refl
behind_behind a b m n (Some t) =
    let p : a ++ (b ++ t.0) ≡ (a ++ b) ++ t.0 = sym (append_assoc a b t.0) in
    let q : m + (n + t.1) ≡ (m + n) + t.1 = omega arith in
    rw (p, q) refl

-- what is read of a printed byte is the byte
abbrev pub IsRead : List ℕ → ℕ → Type 0
IsRead rest b = text_from Plain (printed_byte b ++ rest) ≡ behind (b ∷ []) (length (printed_byte b)) (text_from Plain rest)

coded : (b : ℕ) (rest : List ℕ) → b < 256
    → text_from Plain (92 ∷ 120 ∷ digit_glyph false (b / 16) ∷ digit_glyph false (b % 16) ∷ rest) ≡ behind (b ∷ []) 4 (text_from Plain rest)
coded b rest h =
    let high : b / 16 < 16 = omega arith in
    let low : b % 16 < 16 = omega arith in
    let value : b / 16 % 16 * 16 + b % 16 ≡ b = omega arith in
    rw (glyph_value (b / 16) high, glyph_value (b % 16) low, value)
    (ap (λ o. behind [] 1 (behind [] 1 o)) (behind_behind [] (b ∷ []) 1 1 (text_from Plain rest))
    ∙ ap (behind [] 1) (behind_behind [] (b ∷ []) 1 2 (text_from Plain rest))
    ∙ behind_behind [] (b ∷ []) 1 3 (text_from Plain rest))

other : (b : ℕ) (rest : List ℕ) (u : Bool) → (between 0 31 b || between 127 255 b) ≡ u → (b == 34) ≡ false
    → (b == 92) ≡ false → (b == 10) ≡ false → (b == 9) ≡ false → IsRead rest b
other b rest true is q s n t = let h : b < 256 = grind (arith, nat_tests) in rw (q, s, n, t, is) (coded b rest h)
other b rest false is q s n t = rw (q, s, n, t, is) (rw (q, n, s) refl)

tab : (b : ℕ) (rest : List ℕ) (t : Bool) → (b == 9) ≡ t → (b == 34) ≡ false → (b == 92) ≡ false → (b == 10) ≡ false → IsRead rest b
tab b rest true is q s n = let e : 9 ≡ b = grind (arith, nat_tests) in subst (IsRead rest) e (behind_behind [] (9 ∷ []) 1 1 (text_from Plain rest))
tab b rest false is q s n = other b rest (between 0 31 b || between 127 255 b) refl q s n is

line : (b : ℕ) (rest : List ℕ) (n : Bool) → (b == 10) ≡ n → (b == 34) ≡ false → (b == 92) ≡ false → IsRead rest b
line b rest true is q s = let e : 10 ≡ b = grind (arith, nat_tests) in subst (IsRead rest) e (behind_behind [] (10 ∷ []) 1 1 (text_from Plain rest))
line b rest false is q s = tab b rest (b == 9) refl q s is

backslash : (b : ℕ) (rest : List ℕ) (s : Bool) → (b == 92) ≡ s → (b == 34) ≡ false → IsRead rest b
backslash b rest true is q = let e : 92 ≡ b = grind (arith, nat_tests) in subst (IsRead rest) e (behind_behind [] (92 ∷ []) 1 1 (text_from Plain rest))
backslash b rest false is q = line b rest (b == 10) refl q is

quote : (b : ℕ) (rest : List ℕ) (q : Bool) → (b == 34) ≡ q → IsRead rest b
quote b rest true is = let e : 34 ≡ b = grind (arith, nat_tests) in subst (IsRead rest) e (behind_behind [] (34 ∷ []) 1 1 (text_from Plain rest))
quote b rest false is = backslash b rest (b == 92) refl is

byte_read : (b : ℕ) (rest : List ℕ) → IsRead rest b
byte_read b rest = quote b rest (b == 34) refl

-- what is read of a printed content, up to its quote, is the content
pub content_read : (content rest : List ℕ) → text_from Plain (printed_content content ++ 34 ∷ rest) ≡ Some (content, length (printed_content content) + 1)
content_read [] rest = refl
content_read (b ∷ bs) rest =
    let bytes = printed_byte b in
    let more = printed_content bs in
    let p : (bytes ++ more) ++ 34 ∷ rest ≡ bytes ++ (more ++ 34 ∷ rest) = append_assoc bytes more (34 ∷ rest) in
    let q : length bytes + (length more + 1) ≡ length (bytes ++ more) + 1 = omega (arith, length-append bytes more) in
    ap (text_from Plain) p ∙ byte_read b (more ++ 34 ∷ rest) ∙ ap (behind (b ∷ []) (length bytes)) (content_read bs rest) ∙ ap (λ n. Some (b ∷ bs, n)) q
