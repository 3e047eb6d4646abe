-- What a call from a seat comes to.
use Rattle.std.specs.Prelude.{◌≡◌, ℕ, List, [], ◌∷◌, ◌++◌}
use Rattle.desk.specs.declared.bench.Call.{Call}
use Rattle.desk.specs.Runs.{Runs, calls_by, StartsWith, call}
use Rattle.shared_desk.specs.declared.rule.View.{View}

module _ {E R : Type 0} where
  -- From each seat the two have the same calls.
  abbrev pub HaveSameCalls : List (Call E R) → List (Call E R) → Type 0
  HaveSameCalls xs ys = (seat : ℕ) → calls_by seat xs ≡ calls_by seat ys

module _ {S E R : Type 0} where
  -- the seat, when it has seen the history
  abbrev pub with_seen : View S E R → List (Call E R) → View S E R
  with_seen v history = record v { seen = history }

  -- the seat, when it has made a call at the end of the history
  abbrev pub with_own_call : View S E R → List (Call E R) → Call E R → View S E R
  with_own_call v history c = record v { calls = v.calls ++ c ∷ []; seen = history ++ c ∷ [] }

module _ {S E R : Type 0} (steps : S → ℕ → E → R → S → Type 0) (start : S) where
  -- The history so far, and the state after it, may be these when the seat has its turn.
  pub record MayFind (v : View S E R) (history : List (Call E R)) (state : S) : Type 0 where
    pub seen : StartsWith history v.seen
    pub runs : Runs steps start history state
    pub own : calls_by v.number history ≡ calls_by v.number v.calls

  -- The event may come from the seat, whatever the history is when the seat has its turn.
  pub record MayCall (may : S → ℕ → E → Type 0) (v : View S E R) (event : E) : Type 0 where
    pub may_come : (history : List (Call E R)) (state : S) → MayFind v history state → may state v.number event

  -- The event was replied to, as the step that follows a history; the seat has seen that history with this call at its end.
  pub record HasCalled (v : View S E R) (event : E) (reply : R) (w : View S E R) : Type 0 where
    pub history : List (Call E R)
    pub before : S
    pub after : S
    pub found : MayFind v history before
    pub step : steps before v.number event reply after
    pub left : w ≡ with_own_call v history (call v.number event reply)

  -- The seat has made no call, and has seen the history so far.
  pub record HasSeen (v w : View S E R) : Type 0 where
    pub history : List (Call E R)
    pub state : S
    pub found : MayFind v history state
    pub left : w ≡ with_seen v history
