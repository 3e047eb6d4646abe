-- What each step tells: of the seat before, the number found, and the seat after.
use Rattle.std.specs.Prelude.{◌≡◌, ℕ, ◌≤◌, nat_lt, MatchBool}
use Rattle.atomic_table.specs.Table.{Step, Me}
use Rattle.claims.specs.declared.view.View.{View}
use Rattle.claims.specs.Lists.{IsGreaterThanAll}
use Rattle.claims.specs.Views.{with_drawn, with_none_left, with_lowered, with_bound}

-- a seat's view changes; it holds what it held
abbrev pub Becomes : (View → View) → Me (Unit {0}) View → Me (Unit {0}) View → Type 0
Becomes change before after = after ≡ (change before.0, before.1)

-- A number is drawn, which is greater than those that the seat drew before.
abbrev pub DrawsNext : ℕ → Me (Unit {0}) View → Me (Unit {0}) View → Type 0
DrawsNext found before after =
    IsGreaterThanAll before.0.drawn found × Becomes (with_drawn found) before after

-- a number below the limit is drawn; a greater one tells that none is left
abbrev pub Draws : Step (Unit {0}) → Me (Unit {0}) View → ℕ → Me (Unit {0}) View → Type 0
Draws step before found after =
    MatchBool (nat_lt found before.0.limit) (DrawsNext found before after)
    (Becomes with_none_left before after)

-- the least is lowered to the operand
abbrev pub Lowers : Step (Unit {0}) → Me (Unit {0}) View → ℕ → Me (Unit {0}) View → Type 0
Lowers step before found after = Becomes (with_lowered step.first) before after

-- the number found is the least, and no more than the seat knew
abbrev pub Looks : Step (Unit {0}) → Me (Unit {0}) View → ℕ → Me (Unit {0}) View → Type 0
Looks step before found after = (found ≤ before.0.bound) × Becomes (with_bound found) before after
