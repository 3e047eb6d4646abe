-- Parts of a tree, printed one behind another.
use Rattle.std.proofs.Common.{◌≡◌, ℕ, ◌<◌, ◌≤◌, ◌+◌, List, [], ◌∷◌, length, drop, get_or, Result, Ok, Err, IfOk, sym, ap, ◌∙◌}
use Rattle.std.proofs.lemmas.List.{at_drop_more, at_drop_all}
use Rattle.script_grammar.specs.Spelling.{Mark}
use Rattle.script_print.specs.Prints.{followed}
use Rattle.script_print.specs.TreePrints.{kinds_of, Prints}

-- Of a part, so much is still to be printed.
abbrev pub IsLeft : (rest whole : List Mark → List Mark) (before now : List ℕ) → Type 0
IsLeft rest whole before now = (marks : List Mark) → followed now (kinds_of (rest marks)) ≡ followed before (kinds_of (whole marks))

-- the last part
pub then_last : {A E : Type 0} (result : Result A E) (last whole : List Mark → List Mark) (before now after : List ℕ)
    → IfOk result (λ _. Prints last now after) → IsLeft last whole before now
    → IfOk result (λ _. Prints whole before after)
then_last (Ok x) last whole before now after more left = λ marks. more marks ∙ left marks
then_last (Err e) last whole before now after more left = tt

-- one member of a list more
pub one_more : {A : Type 0} (all : List A → List Mark → List Mark) (each : A → List Mark → List Mark)
    → ((x : A) (xs : List A) (marks : List Mark) → all (x ∷ xs) marks ≡ each x (all xs marks))
    → (xs : List A) (i : ℕ) (x : A) (before now after : List ℕ) → i < length xs → x ≡ get_or xs i x
    → IsLeft (all (drop i xs)) (all xs) before now → Prints (each x) now after
    → IsLeft (all (drop (i + 1) xs)) (all xs) before after
one_more {A} all each step xs i x before now after h e left more = λ marks.
    let rest = drop (i + 1) xs in
    let F : List A → List ℕ = λ l. followed now (kinds_of (all l marks)) in
    more (all rest marks) ∙ ap (λ ms. followed now (kinds_of ms)) (sym (step x rest marks)) ∙ ap (λ y. F (y ∷ rest)) e
    ∙ sym (at_drop_more F xs i x h) ∙ left marks

-- all members
pub no_more : {A : Type 0} (all : List A → List Mark → List Mark) (xs : List A) (i : ℕ) (before now : List ℕ)
    → length xs ≤ i → IsLeft (all (drop i xs)) (all xs) before now
    → (marks : List Mark) → all [] marks ≡ marks → followed now (kinds_of marks) ≡ followed before (kinds_of (all xs marks))
no_more {A} all xs i before now h left marks none =
    ap (λ ms. followed now (kinds_of ms)) (sym none) ∙ sym (at_drop_all (λ l. followed now (kinds_of (all l marks))) xs i h) ∙ left marks
