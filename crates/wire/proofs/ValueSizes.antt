-- The members of a list are no larger than it, and not more than its size; and its spelling, by a list of them.
use Rattle.std.proofs.Common.{◌≡◌, ℕ, zero, suc, ◌<◌, ◌≤◌, List, [], ◌∷◌, ◌++◌, length, get_or, Result, Ok, Err, ap, sym, ◌∙◌, append_assoc, arith}
use Rattle.std.specs.Prelude.{OnOk}
use Rattle.std.specs.Int.{w32, to_be_bytes}
use Rattle.script_tree.specs.Datum.{Datum, null, bool, number, text, list, members-data_of, data_of, size, members_size}
use Rattle.wire.specs.Spellings.{value_spelling, values_spelling, list_spelling}

pub size_some : (d : Datum) → 0 < size d
size_some null = omega arith
size_some (bool b) = omega arith
size_some (number n) = omega arith
size_some (text bytes) = omega arith
size_some (list ds) = omega arith

pub members_len : (ds : List Datum) → length ds ≤ members_size (data_of ds)
members_len [] = omega arith
members_len (d ∷ ds) = omega (arith, members_len ds, size_some d)

pub member_size : (ds : List Datum) (i : ℕ) (d : Datum) → i < length ds → d ≡ get_or ds i d → size d ≤ members_size (data_of ds)
member_size [] i d lt e = absurd (omega arith)
member_size (x ∷ xs) zero d lt e = let same : size d ≡ size x = ap size e in omega arith
member_size (x ∷ xs) (suc i) d lt e = let rest = member_size xs i d (omega arith) e in omega arith

pub list_spelled : (vs : List Datum) → value_spelling (list (data_of vs)) ≡ 5 ∷ list_spelling vs
list_spelled vs = ap (λ (ds : List Datum). 5 ∷ (to_be_bytes w32 (length ds) ++ values_spelling (data_of vs))) (members-data_of vs)

pub list_written : {T E : Type 0} (r : Result T E) (vs us : List Datum) (old mid new : List ℕ) → us ≡ vs
    → mid ≡ old ++ 5 ∷ [] → OnOk r (new ≡ mid ++ list_spelling us)
    → OnOk r (new ≡ old ++ value_spelling (list (data_of vs)))
list_written (Ok x) vs us old mid new same front h =
    let rest : List Datum → List ℕ = list_spelling in
    h ∙ ap (λ (m : List ℕ). m ++ rest us) front ∙ append_assoc old (5 ∷ []) (rest us)
    ∙ ap (λ (ws : List Datum). old ++ 5 ∷ rest ws) same ∙ ap (λ (s : List ℕ). old ++ s) (sym (list_spelled vs))
list_written (Err x) vs us old mid new same front h = tt
