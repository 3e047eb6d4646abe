-- What is left of a list that a loop goes over.
use Rattle.std.proofs.Common.{◌≡◌, ◌≢◌, ◌<◌, ◌+◌, ℕ, zero, suc, List, ◌∷◌, drop, drop-cons, add-one, length, get_or, Result, Ok, Err, refl, sym, ap, ◌∙◌, arith}
use Rattle.script_tree.specs.Datum as v
use Rattle.script_tree.specs.Datum.{Datum, members, data_of, members-data_of}
use Rattle.script_tree.specs.declared.fault.ScriptFault.{ScriptFault}
use Rattle.script_meaning.specs.Kinds.{list_in}
use Rattle.machine.specs.CellView.{left_of}

ok_is : {a b : List Datum} → ◌≡◌ {A = Result (List Datum) ScriptFault} (Ok a) (Ok b) → a ≡ b
ok_is e = grind arith

not_ok : {f : ScriptFault} {ms : List Datum} → ◌≡◌ {A = Result (List Datum) ScriptFault} (Err f) (Ok ms) → ⊥
not_ok e = grind arith

-- the list that is left is without what was passed
pub left_in : (n : ℕ) (d : Datum) (ms : List Datum) → list_in d ≡ Ok ms → list_in (left_of n d) ≡ Ok (drop n ms)
left_in zero d ms e = e
left_in (suc n) (v.list ds) ms e = ap Ok (members-data_of (drop (suc n) (members ds)) ∙ ap (drop (suc n)) (ok_is e))
left_in (suc n) v.null ms e = absurd (not_ok e)
left_in (suc n) (v.bool b) ms e = absurd (not_ok e)
left_in (suc n) (v.number x) ms e = absurd (not_ok e)
left_in (suc n) (v.text bytes) ms e = absurd (not_ok e)

pub left_is : (n : ℕ) (d : Datum) (ms : List Datum) → n ≢ 0 → list_in d ≡ Ok ms → left_of n d ≡ v.list (data_of (drop n ms))
left_is zero d ms h e = absurd (h refl)
left_is (suc n) (v.list ds) ms h e = ap (λ l. v.list (data_of (drop (suc n) l))) (ok_is e)
left_is (suc n) v.null ms h e = absurd (not_ok e)
left_is (suc n) (v.bool b) ms h e = absurd (not_ok e)
left_is (suc n) (v.number x) ms h e = absurd (not_ok e)
left_is (suc n) (v.text bytes) ms h e = absurd (not_ok e)

-- a value that is no list stays as it is
pub no_list : (n : ℕ) (d : Datum) (f : ScriptFault) → list_in d ≡ Err f → left_of n d ≡ d
no_list zero d f e = refl
no_list (suc n) (v.list ds) f e = absurd (not_ok (sym e))
no_list (suc n) v.null f e = refl
no_list (suc n) (v.bool b) f e = refl
no_list (suc n) (v.number x) f e = refl
no_list (suc n) (v.text bytes) f e = refl

-- the next member is passed
pub next_member : (n : ℕ) (d x : Datum) (ms : List Datum) → list_in d ≡ Ok ms → n < length ms → x ≡ get_or ms n x
    → (ds : List Datum) × (list_in (left_of n d) ≡ Ok (x ∷ ds)) × (left_of (n + 1) d ≡ v.list (data_of ds))
next_member n d x ms e h g =
    let c : drop n ms ≡ x ∷ drop (n + 1) ms = rw add-one (drop-cons ms n x h ∙ ap (λ t. t ∷ drop (suc n) ms) (sym g)) in
    (drop (n + 1) ms, left_in n d ms e ∙ ap Ok c, left_is (n + 1) d ms (λ z. omega (arith, z)) e)
