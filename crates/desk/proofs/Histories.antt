-- Histories with a call more.
use Rattle.std.proofs.Common.{ℕ, List, [], ◌∷◌, ◌++◌, refl, sym, subst}
use Rattle.desk.specs.Runs.{Runs}
use Rattle.desk.specs.declared.bench.Call.{Call}

module _ {S E R : Type 0} (steps : S → ℕ → E → R → S → Type 0) where
  pub one_more : (s : S) (calls : List (Call E R)) (t : S) (c : Call E R) (m : S) → Runs steps s calls t
      → steps t c.seat c.event c.reply m → Runs steps s (calls ++ c ∷ []) m
  one_more s [] t c m runs step = (m, subst (λ (z : S). steps z c.seat c.event c.reply m) (sym runs) step, refl)
  one_more s (d ∷ ds) t c m runs step = (runs.0, runs.1, one_more runs.0 ds t c m runs.2 step)
