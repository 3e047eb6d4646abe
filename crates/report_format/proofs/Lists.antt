-- How a loop over a list goes on.
use Rattle.std.proofs.Common.{◌≡◌, ◌<◌, ◌≤◌, ◌+◌, ℕ, suc, List, [], ◌∷◌, ◌++◌, length, map, get_or, drop, ap, sym, subst, ◌∙◌, add-one, drop-cons, append_assoc, append-nil}
use Rattle.std.proofs.lemmas.List.{drop_all}
use Rattle.wire.specs.Spellings.{Field}
use Rattle.report_format.specs.Parts.{AllAllowed, all_spelled}

-- the item at a place, and those behind it
split_at : {A : Type 0} (xs : List A) (i : ℕ) (x d : A) → i < length xs → x ≡ get_or xs i d → drop i xs ≡ x ∷ drop (i + 1) xs
split_at xs i x d h is = rw add-one (drop-cons xs i d h ∙ ap (λ y. y ∷ drop (suc i) xs) (sym is))

-- The one at a place may stand, and so may those behind it.
pub allowed_at : {A : Type 0} (field : Field A) (xs : List A) (i : ℕ) (x d : A) → i < length xs → x ≡ get_or xs i d
    → AllAllowed field (drop i xs) → field.allows x × AllAllowed field (drop (i + 1) xs)
allowed_at field xs i x d h is all = subst (λ l. AllAllowed field l) (split_at xs i x d h is) all

-- Where all are there once those behind a place come, they are once those behind the next one do.
pub next_made : {A B : Type 0} (f : A → B) (xs : List A) (i : ℕ) (x d : A) (old new all : List B) → i < length xs
    → x ≡ get_or xs i d → new ≡ old ++ (f x ∷ []) → old ++ map f (drop i xs) ≡ all → new ++ map f (drop (i + 1) xs) ≡ all
next_made f xs i x d old new all h is e told =
    ap (λ l. l ++ map f (drop (i + 1) xs)) e ∙ append_assoc old (f x ∷ []) (map f (drop (i + 1) xs))
    ∙ ap (λ l. old ++ map f l) (sym (split_at xs i x d h is)) ∙ told

-- Behind the last place none come.
pub all_made : {A B : Type 0} (f : A → B) (xs : List A) (i : ℕ) (made all : List B) → length xs ≤ i
    → made ++ map f (drop i xs) ≡ all → made ≡ all
all_made f xs i made all h told = sym (append-nil made) ∙ ap (λ l. made ++ map f l) (sym (drop_all i xs h)) ∙ told

-- The same of what is spelled.
pub next_spelled : {A : Type 0} (field : Field A) (xs : List A) (i : ℕ) (x : A) (old new all : List ℕ) → i < length xs
    → x ≡ get_or xs i x → new ≡ old ++ field.spelling x → old ++ all_spelled field (drop i xs) ≡ all
    → new ++ all_spelled field (drop (i + 1) xs) ≡ all
next_spelled field xs i x old new all h is e told =
    ap (λ l. l ++ all_spelled field (drop (i + 1) xs)) e
    ∙ append_assoc old (field.spelling x) (all_spelled field (drop (i + 1) xs))
    ∙ ap (λ l. old ++ all_spelled field l) (sym (split_at xs i x x h is)) ∙ told

-- Nor is one spelled there.
pub all_spelled_at_end : {A : Type 0} (field : Field A) (xs : List A) (i : ℕ) (made all : List ℕ) → length xs ≤ i
    → made ++ all_spelled field (drop i xs) ≡ all → made ≡ all
all_spelled_at_end field xs i made all h told =
    sym (append-nil made) ∙ ap (λ l. made ++ all_spelled field l) (sym (drop_all i xs h)) ∙ told
