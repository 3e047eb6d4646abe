-- That two members of a group part, which shows however they go on.
use Rattle.std.specs.Prelude.{◌≢◌, ◌<◌, ℕ}
use Rattle.script_meaning.specs.Evaluate.{Flow}
use Rattle.script_meaning.specs.Run.{Run}
use Rattle.group_laws.specs.Shown.{shown_of}
use Rattle.multi_state.specs.Progress.{Charges, Unseen, progress_at}
use Rattle.multi_state.specs.declared.account.Account.{Account}

-- Two of n members stand so to each other.
pub record TwoOf (n : ℕ) (stand : ℕ → ℕ → Type 0) : Type 0 where
  pub one : ℕ
  pub other : ℕ
  pub one' : one < n
  pub other' : other < n
  pub stand' : stand one other

-- Of two of n members other things show, whatever each goes on with that is steady, and whatever is not seen of them. What
-- they go on with are things of J, of which it is told what is steady for a member.
abbrev pub Parts : (J : Type 0) → (n : ℕ) → (run : J → ℕ → Run Flow) → (steady : J → ℕ → Type 0) → Account → Type 0
Parts J n run steady old = TwoOf n (λ i j. (a b : J) → steady a i → steady b j → (cs : Charges) (u v : Unseen)
    → shown_of (run a i (progress_at old cs i u)) ≢ shown_of (run b j (progress_at old cs j v)))
