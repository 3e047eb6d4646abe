-- What is scanned behind a blank or a token.
use Rattle.std.proofs.Common.{◌≡◌, ◌<◌, ◌≤◌, ◌+◌, ◌-◌, ℕ, zero, suc, List, [], ◌∷◌, length, drop, take, Some, refl, sym, ap, ◌∙◌, arith}
use Rattle.std.proofs.lemmas.Grind.{common_steps}
use Rattle.script_tokens.specs.Kinds.{token}
use Rattle.script_tokens.specs.Tokens.{blank, whole, lexeme}
use Rattle.script_tokens.specs.Shapes.{kind_at}
use Rattle.script_tokens.specs.Fronts.{shape_bracket}
use Rattle.script_tokens.specs.Scans.{scan, scanned, counted, before, bracket_of, open_behind}
use Rattle.script_tokens.specs.declared.shape.Shape.{Shape}
use Rattle.script_tokens.specs.declared.shape.Shape.TheVariants.{Word, Name, Number, Text}

skips : (bs : List ℕ) (at depth n : ℕ) → n ≤ length bs → scan bs at depth n ≡ scan (drop n bs) (at + n) depth 0
skips bs at depth zero h = let q : at ≡ at + 0 = omega arith in ap (λ a. scan bs a depth 0) q
skips [] at depth (suc n) h = absurd (omega arith)
skips (b ∷ bs) at depth (suc n) h = let q : at + 1 + n ≡ at + suc n = omega arith in skips bs (at + 1) depth n (omega arith) ∙ ap (λ a. scan (drop n bs) a depth 0) q

one_on : (b : ℕ) (bs : List ℕ) (at depth n : ℕ) → 0 < n → n ≤ suc (length bs) → scan bs (at + 1) depth (n - 1) ≡ scan (drop n (b ∷ bs)) (at + n) depth 0
one_on b bs at depth zero h l = absurd (omega arith)
one_on b bs at depth (suc n) h l =
    let q : suc n - 1 ≡ n = omega arith in
    let r : at + 1 + n ≡ at + suc n = omega arith in
    rw q (skips bs (at + 1) depth n (omega arith)) ∙ ap (λ a. scan (drop n bs) a depth 0) r

pub blank_on : (bs : List ℕ) (at depth n : ℕ) → blank n ≡ lexeme bs → 0 < n → n ≤ length bs → scan bs at depth 0 ≡ scan (drop n bs) (at + n) depth 0
blank_on [] at depth n e h l = absurd (omega arith)
blank_on (b ∷ bs) at depth n e h l = ap (λ x. scanned at depth x (λ d m. scan bs (at + 1) d m)) (sym e) ∙ one_on b bs at depth n h l

same_bracket : (shape : Shape) (len : ℕ) (bs : List ℕ) → bracket_of (kind_at shape len bs) ≡ shape_bracket shape
same_bracket (Word w) len bs = refl
same_bracket Name len bs = refl
same_bracket (Number n) len bs = refl
same_bracket Text len bs = refl

pub token_on : (bs : List ℕ) (at depth next n : ℕ) (shape : Shape) → whole (kind_at shape n bs) n ≡ lexeme bs
    → open_behind (shape_bracket shape) depth ≡ Some next → 0 < n → n ≤ length bs
    → scan bs at depth 0 ≡ before (token at (kind_at shape n bs)) (scan (drop n bs) (at + n) next 0)
token_on [] at depth next n shape e o h l = absurd (omega arith)
token_on (b ∷ bs) at depth next n shape e o h l =
    ap (λ x. scanned at depth x (λ d m. scan bs (at + 1) d m)) (sym e)
    ∙ ap (λ x. counted (token at (kind_at shape n (b ∷ bs))) x (λ d. scan bs (at + 1) d (n - 1)))
    (ap (λ x. open_behind x depth) (same_bracket shape n (b ∷ bs)) ∙ o)
    ∙ ap (before (token at (kind_at shape n (b ∷ bs)))) (one_on b bs at next n h l)

pub rest_slice : (i : ℕ) (s : List ℕ) → take (length s - i) (drop i s) ≡ drop i s
rest_slice i s = grind (arith, common_steps)
