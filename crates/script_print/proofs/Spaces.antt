-- A token printed behind others.
use Rattle.std.proofs.Common.{◌≡◌, ℕ, List, [], ◌∷◌, ◌++◌, Result, Ok, Err, IfOk, ap, ◌∙◌, append_assoc}
use Rattle.std.proofs.lemmas.List.{append-nil}
use Rattle.script_tokens.specs.Kinds.{Kind}
use Rattle.script_print.specs.Prints.{printed, spaced, followed, Adds}

adds : (k : Kind) (before middle after : List ℕ) → middle ≡ before ++ printed k → after ≡ middle ++ 32 ∷ [] → Adds k before after
unfolding followed
adds k before middle after p q ks =
    ap (λ l. l ++ spaced ks) q ∙ append_assoc middle (32 ∷ []) (spaced ks) ∙ ap (λ l. l ++ 32 ∷ spaced ks) p ∙ append_assoc before (printed k) (32 ∷ spaced ks)

pub added : {A E : Type 0} (k : Kind) (before middle after : List ℕ) (result : Result A E)
    → middle ≡ before ++ printed k → IfOk result (λ _. after ≡ middle ++ 32 ∷ [])
    → IfOk result (λ _. Adds k before after)
added k before middle after (Ok x) p q = adds k before middle after p q
added k before middle after (Err e) p q = tt

-- where nothing was printed before, and nothing is to follow
pub all_spaced : (bytes : List ℕ) (ks : List Kind) → followed bytes [] ≡ followed [] ks → bytes ≡ spaced ks
unfolding followed
all_spaced bytes ks h = rw append-nil at h
