-- Values whose numbers are wide, one more of a list.
use Rattle.std.proofs.Common.{◌≡◌, ℕ, zero, suc, ◌+◌, ◌<◌, List, [], ◌∷◌, length, take, get_or, subst, arith}
use Rattle.script_tree.specs.Datum.{Datum, data_of}
use Rattle.wire.specs.Spellings.{HasWideNumbers, HaveWideNumbers}

next : (ds : List Datum) (i : ℕ) (d : Datum) → i < length ds → d ≡ get_or ds i d
    → HaveWideNumbers (data_of (take i ds)) → HasWideNumbers d → HaveWideNumbers (data_of (take (suc i) ds))
next [] i d within same each here = absurd (omega (arith, within))
next (e ∷ ds) zero d within same each here = (subst HasWideNumbers same here, tt)
next (e ∷ ds) (suc i) d within same (first, each) here = (first, next ds i d (omega (arith, within)) same each here)

pub one_more : (ds : List Datum) (i : ℕ) (d : Datum) → i < length ds → d ≡ get_or ds i d
    → HaveWideNumbers (data_of (take i ds)) → HasWideNumbers d → HaveWideNumbers (data_of (take (i + 1) ds))
one_more ds i d within same each here =
    let plus : suc i ≡ i + 1 = omega arith in
    subst (λ n. HaveWideNumbers (data_of (take n ds))) plus (next ds i d within same each here)
