-- The scan of what was printed finds the tokens that were printed.
use Rattle.std.proofs.Common.{◌≡◌, ◌-◌, ◌+◌, ℕ, suc, List, [], ◌∷◌, ◌++◌, length, Option, Some, None, true, refl, sym, ap, ◌∙◌, subst, arith, length-append}
use Rattle.std.specs.List.{All}
use Rattle.script_tokens.specs.Kinds.{Kind, Token, token}
use Rattle.script_tokens.specs.Scans.{Scan, scan, scanned, counted, before, bracket_of, open_behind}
use Rattle.script_tokens.specs.Tokens.{blank, whole, lexeme, is_blank, IsSpelled}
use Rattle.script_tokens.specs.declared.fault.End.TheVariants.{File}
use Rattle.script_print.specs.Laws.{NestsWithin, Finds, ReadsAgain}
use Rattle.script_print.specs.Prints.{printed, separator, joined}
use Rattle.script_print.proofs.Spelled.{fit_spelled}
use Rattle.script_print.proofs.TokensAgain.{token_again}

-- bytes that belong to what was read before are passed over
passes : (xs rest : List ℕ) (at depth : ℕ) → scan (xs ++ rest) at depth (length xs) ≡ scan rest (at + length xs) depth 0
passes [] rest at depth = let q : at ≡ at + 0 = omega arith in ap (λ a. scan rest a depth 0) q
passes (x ∷ xs) rest at depth =
    let q : at + 1 + length xs ≡ at + suc (length xs) = omega arith in
    passes xs rest (at + 1) depth ∙ ap (λ a. scan rest a depth 0) q

blank_front : (s : ℕ) (rest : List ℕ) → is_blank s ≡ true → lexeme (s ∷ rest) ≡ blank 1
blank_front s rest is = rw is refl

blank_passes : (s : ℕ) (rest : List ℕ) (at depth : ℕ) → is_blank s ≡ true → scan (s ∷ rest) at depth 0 ≡ scan rest (at + 1) depth 0
blank_passes s rest at depth is = ap (λ l. scanned at depth l (λ d n. scan rest (at + 1) d n)) (blank_front s rest is)

counted_same : (t : Token) (o : Option ℕ) (f g : ℕ → Scan) → ((d : ℕ) → f d ≡ g d) → counted t o f ≡ counted t o g
counted_same t None f g same = refl
counted_same t (Some d) f g same = ap (before t) (same d)

-- behind a token and a blank the scan goes on
token_passes : (bytes : List ℕ) (k : Kind) (s : ℕ) (rest : List ℕ) (at depth : ℕ) → is_blank s ≡ true → lexeme (bytes ++ s ∷ rest) ≡ whole k (length bytes)
    → scan (bytes ++ s ∷ rest) at depth 0 ≡ counted (token at k) (open_behind (bracket_of k) depth) (λ d. scan rest (at + length bytes + 1) d 0)
token_passes [] k s rest at depth is e = let q : blank 1 ≡ whole k 0 = sym (blank_front s rest is) ∙ e in absurd cc
token_passes (b ∷ bs) k s rest at depth is e =
    let tail = bs ++ s ∷ rest in
    let n : suc (length bs) - 1 ≡ length bs = omega arith in
    let q : at + 1 + length bs + 1 ≡ at + suc (length bs) + 1 = omega arith in
    ap (λ l. scanned at depth l (λ d n. scan tail (at + 1) d n)) e
    ∙ counted_same (token at k) (open_behind (bracket_of k) depth) (λ d. scan tail (at + 1) d (suc (length bs) - 1))
    (λ d. scan rest (at + suc (length bs) + 1) d 0)
    (λ d. ap (scan tail (at + 1) d) n ∙ passes bs (s ∷ rest) (at + 1) d ∙ blank_passes s rest (at + 1 + length bs) d is ∙ ap (λ a. scan rest a d 0) q)

separates : (ks : List Kind) → is_blank (separator ks) ≡ true
separates [] = refl
separates (k ∷ ks) = refl

finds_more : (k : Kind) (ks : List Kind) (at len : ℕ) (o : Option ℕ) (f : ℕ → Scan) → NestsWithin o ks
    → ((d : ℕ) → NestsWithin (Some d) ks → Finds ks len (f d)) → Finds (k ∷ ks) len (counted (token at k) o f)
finds_more k ks at len None f nests more = absurd nests
finds_more k ks at len (Some d) f nests more = let found = more d nests in (ap (λ found. k ∷ found) found.0, found.1)

finds : (ks : List Kind) (at depth : ℕ) → All IsSpelled ks → NestsWithin (Some depth) ks → Finds ks (at + length (joined ks)) (scan (joined ks) at depth 0)
finds [] at depth spelled nests = let q : at ≡ at + 0 = omega arith in (refl, ap File q)
finds (k ∷ ks) at depth spelled nests =
    let bytes = printed k in
    let next = at + length bytes + 1 in
    let more : All IsSpelled ks = λ i d l. spelled (suc i) d (omega arith) in
    let q : next + length (joined ks) ≡ at + length (bytes ++ separator ks ∷ joined ks) = omega (arith, length-append bytes (separator ks ∷ joined ks)) in
    let step = token_passes bytes k (separator ks) (joined ks) at depth (separates ks) (token_again k ks (joined ks) (fit_spelled k (spelled 0 k (omega arith)))) in
    subst (λ len. Finds (k ∷ ks) len (scan (joined (k ∷ ks)) at depth 0)) q
    (subst (Finds (k ∷ ks) (next + length (joined ks))) (sym step)
    (finds_more k ks at (next + length (joined ks)) (open_behind (bracket_of k) depth) (λ d. scan (joined ks) next d 0) nests (λ d n. finds ks next d more n)))

pub reads_again : ReadsAgain
reads_again ks spelled nests =
    let q : 0 + length (joined ks) ≡ length (joined ks) = omega arith in
    subst (λ len. Finds ks len (scan (joined ks) 0 0 0)) q (finds ks 0 0 spelled nests)
