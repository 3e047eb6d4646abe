-- What a seat knows at first, and what a call makes of it.
use Rattle.std.specs.Prelude.{ℕ, ◌+◌, ◌-◌, ◌^◌, ◌||◌, [], ◌∷◌, ◌++◌, true, false, min}
use Rattle.claims.specs.declared.view.View.{View}

-- the parts of all seats together, so that a seat that has them all is the only one
abbrev pub all_parts : ℕ
all_parts = 2 ^ 32

-- the first seat's view: nothing was drawn or lowered
abbrev pub first_view : ℕ → View
first_view limit = record { limit = limit; parts = all_parts; drawn = []; none_left = false; lowered = []; bound = limit }

-- one more number was drawn
abbrev pub with_drawn : ℕ → View → View
with_drawn number v = record v { drawn = v.drawn ++ number ∷ [] }

-- no number was left to draw
abbrev pub with_none_left : View → View
with_none_left v = record v { none_left = true }

-- the least was lowered to a number
abbrev pub with_lowered : ℕ → View → View
with_lowered number v = record v { lowered = v.lowered ++ number ∷ []; bound = min v.bound number }

-- the least was read
abbrev pub with_bound : ℕ → View → View
with_bound least v = record v { bound = least }

-- one part was given away
abbrev pub rest_of : View → View
rest_of v = record v { parts = v.parts - 1 }

-- what a new seat with that part knows: itself it drew and lowered nothing
abbrev pub part_of : View → View
part_of v = record v { parts = 1; drawn = []; lowered = [] }

-- what two seats know together
abbrev pub joint_view : View → View → View
joint_view v w = record v {
  parts = v.parts + w.parts;
  drawn = v.drawn ++ w.drawn;
  none_left = v.none_left || w.none_left;
  lowered = v.lowered ++ w.lowered;
  bound = min v.bound w.bound;
}

-- the view of a seat that another one took in
abbrev pub spent_view : View
spent_view = record { limit = 0; parts = 0; drawn = []; none_left = false; lowered = []; bound = 0 }
