-- Another value for a variable at a place.
use Rattle.std.proofs.Common.{◌≡◌, ◌<◌, ℕ, zero, suc, true, List, [], ◌∷◌, ◌++◌, length, get_or, set, take, drop, ap, subst, arith}
use Rattle.std.specs.Str.{bytes_eq}
use Rattle.script_tree.specs.Datum.{Datum}
use Rattle.script_meaning.specs.Variables.{Variables, assigned}
use Rattle.script_meaning.specs.declared.run.Variable.{Variable}

pub assigned_here : (vs : Variables) (i : ℕ) (v w : Variable) (x : List ℕ) (d : Datum) → i < length vs
    → v ≡ get_or vs i v → w ≡ get_or vs i w → bytes_eq x w.name ≡ true
    → set vs i (record { name = v.name; value = d }) ≡ take i vs ++ assigned (drop i vs) x d
assigned_here [] i v w x d h e f b = absurd (omega arith)
assigned_here (u ∷ vs) zero v w x d h e f b =
    let c : bytes_eq x u.name ≡ true = subst (λ (t : Variable). bytes_eq x t.name ≡ true) f b in
    rw c (ap (λ (t : Variable). record { name = t.name; value = d } ∷ vs) e)
assigned_here (u ∷ vs) (suc i) v w x d h e f b = ap (λ l. u ∷ l) (assigned_here vs i v w x d (omega arith) e f b)
