-- A built-in function sees no more than three arguments.
use Rattle.std.proofs.Common.{◌≡◌, ℕ, List, [], ◌∷◌, refl}
use Rattle.script_tree.specs.Datum.{Datum}
use Rattle.script_tree.specs.Requests.{Request}
use Rattle.script_tree.specs.declared.syntax.builtin.Builtin.{Builtin}
use Rattle.script_tree.specs.declared.syntax.builtin.Builtin.TheVariants.{Len, Str, Escape, Num, Slice, Append, Kind, Param, Method, Path, Body, Read, Write, Get, Put, Remove, Clock, Random}
use Rattle.script_meaning.specs.BuiltinCalls.{built_in}
use Rattle.script_meaning.specs.Operands.{first, second, third}

pub first_three : (q : Request) (store : List ℕ) (b : Builtin) (ds : List Datum)
    → built_in q store b (first ds ∷ second ds ∷ third ds ∷ []) ≡ built_in q store b ds
first_three q store Len ds = refl
first_three q store Str ds = refl
first_three q store Escape ds = refl
first_three q store Num ds = refl
first_three q store Slice ds = refl
first_three q store Append ds = refl
first_three q store Kind ds = refl
first_three q store Param ds = refl
first_three q store Method ds = refl
first_three q store Path ds = refl
first_three q store Body ds = refl
first_three q store Read ds = refl
first_three q store Write ds = refl
first_three q store Get ds = refl
first_three q store Put ds = refl
first_three q store Remove ds = refl
first_three q store Clock ds = refl
first_three q store Random ds = refl
