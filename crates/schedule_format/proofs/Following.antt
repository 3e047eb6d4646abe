-- Moments whose numbers have their widths may stand one after another.
use Rattle.std.proofs.Common.{◌≡◌, ℕ, zero, suc, ◌+◌, ◌<◌, ◌^◌, List, [], ◌∷◌, ◌++◌, length, take, get_or, subst, arith}
use Rattle.script_tree.specs.declared.operation.Choice.TheVariants.{Nothing, Number}
use Rattle.period.specs.declared.schedule.Moment.{Moment}
use Rattle.period.specs.declared.schedule.Moment.TheVariants.{Arrive, Act, Depart}
use Rattle.wire.specs.Files.{MayFollow}
use Rattle.schedule_format.specs.Moments.{AreMoments, IsMoment, moment_spelling, schedule_format}

short : (m : Moment) → length (moment_spelling m) < 2 ^ 32
short (Arrive rid) = omega arith
short (Act rid Nothing) = omega arith
short (Act rid (Number n)) = omega arith
short (Depart rid) = omega arith

pub follow : (before ms : List Moment) → AreMoments ms → MayFollow schedule_format before ms
follow before [] are = tt
follow before (m ∷ ms) are = ((are.0, short m), follow (before ++ m ∷ []) ms are.1)

next : (ms : List Moment) (i : ℕ) (d : Moment) → i < length ms → IsMoment (get_or ms i d) → AreMoments (take i ms) → AreMoments (take (suc i) ms)
next [] i d within here before = tt
next (m ∷ ms) zero d within here before = (here, tt)
next (m ∷ ms) (suc i) d within here before = (before.0, next ms i d (omega (arith, within)) here before.1)

-- one more of them
pub one_more : (ms : List Moment) (i : ℕ) (d : Moment) → i < length ms → IsMoment (get_or ms i d) → AreMoments (take i ms) → AreMoments (take (i + 1) ms)
one_more ms i d within here before =
    let plus : suc i ≡ i + 1 = omega arith in
    subst (λ n. AreMoments (take n ms)) plus (next ms i d within here before)
