-- What a machine may still do becomes less.
use Rattle.std.proofs.Common.{◌≡◌, ◌≤◌, ◌<◌, ◌+◌, ◌-◌, ◌*◌, ℕ, length, Result, Ok, ap, sym, subst, arith, mul-le-mul_right}
use Rattle.script_tree.specs.declared.limits.TheConstants.{MOST_STEPS}
use Rattle.machine.specs.Does.{Falls, Rises, allowance}
use Rattle.machine.specs.Places.{IsPlaceOf, Charges}
use Rattle.machine.specs.declared.run.Run.{Run}
use Rattle.machine.specs.declared.stopped.Stopped.{Stopped}
use Rattle.machine.specs.declared.stopped.Went.{Went}
use Rattle.machine.specs.declared.stopped.Went.TheVariants.{On}

-- less is allowed, wherever it goes on
less : (a b len p q : ℕ) → a < b → a * (len + 1) + (len - p) < b * (len + 1) + (len - q)
less a b len p q lt =
    let one : a + 1 ≤ b = omega (arith, lt) in
    let more : (a + 1) * (len + 1) ≤ b * (len + 1) = mul-le-mul_right (len + 1) one in
    let whole : (a + 1) * (len + 1) ≡ a * (len + 1) + (len + 1) = omega arith in
    omega (arith, more, whole)

-- no more is allowed, and it goes on further
further : (a b len p q : ℕ) → a ≤ b → p < q → p < len → a * (len + 1) + (len - q) < b * (len + 1) + (len - p)
further a b len p q no_more on within =
    let most : a * (len + 1) ≤ b * (len + 1) = mul-le-mul_right (len + 1) no_more in
    omega (arith, most, on, within)

-- no step is given back
no_more_steps : (s t calls : ℕ) → s ≤ t → (MOST_STEPS - t) * 2 + calls ≤ (MOST_STEPS - s) * 2 + calls
no_more_steps s t calls rises = omega (arith, rises)

-- a step is spent, whatever is called for it
one_step : (s t calls more : ℕ) → t ≡ s + 1 → t ≤ MOST_STEPS → more ≤ calls + 1 → (MOST_STEPS - t) * 2 + more < (MOST_STEPS - s) * 2 + calls
one_step s t calls more spent limit few = omega (arith, spent, limit, few)

-- it goes on, with the same calls
pub falls_on : (len place : ℕ) (old new : Run) → IsPlaceOf len place → place < new.place → new.frames ≡ old.frames
    → old.state.account.steps ≤ new.state.account.steps → Falls len place old new
falls_on len place old new here on frames rises =
    further (allowance new) (allowance old) len place new.place
    (subst (λ fs. (MOST_STEPS - new.state.account.steps) * 2 + length fs ≤ allowance old) (sym frames)
    (no_more_steps old.state.account.steps new.state.account.steps (length old.frames) rises)) on here.within

-- a step is spent
pub falls_charged : (len place : ℕ) (old new : Run) → new.state.account.steps ≡ old.state.account.steps + 1
    → length new.frames ≤ length old.frames + 1 → Falls len place old new
falls_charged len place old new spent few =
    less (allowance new) (allowance old) len new.place place
    (one_step old.state.account.steps new.state.account.steps (length old.frames) (length new.frames) spent new.state.account.spent few)

-- a call is over
pub falls_back : (len place : ℕ) (old new : Run) → new.state.account.steps ≡ old.state.account.steps
    → length old.frames ≡ length new.frames + 1 → Falls len place old new
falls_back len place old new same fewer =
    less (allowance new) (allowance old) len new.place place
    (omega (arith, ap (λ s. MOST_STEPS - s) same, fewer))

-- ---- where an instruction is done, and the run goes on

pub on_rising : (len place : ℕ) (old new : Run) (result : Result Went Stopped) → IsPlaceOf len place → place < new.place
    → new.frames ≡ old.frames → Rises old.state result new.state → result ≡ Ok On → Falls len place old new
on_rising len place old new result here on frames rises came =
    falls_on len place old new here on frames (subst (λ r. Rises old.state r new.state) came rises)

pub on_charged : (len place : ℕ) (old from new : Run) (result : Result Went Stopped) → from.state ≡ old.state → from.frames ≡ old.frames
    → Charges from result new → result ≡ Ok On → Falls len place old new
on_charged len place old from new result same calls charges came =
    let is = charges came in
    falls_charged len place old new
    (subst (λ s. new.state.account.steps ≡ s.account.steps + 1) same is.steps)
    (omega (arith, ap length is.frames, ap length calls))
