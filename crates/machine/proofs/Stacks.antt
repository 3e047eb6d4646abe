-- The topmost values of a stack, where the topmost lies last.
use Rattle.std.proofs.Common.{◌≡◌, ◌-◌, ◌<◌, ◌≤◌, ℕ, zero, suc, List, [], ◌∷◌, ◌++◌, length, drop, length-append, refl, sym, ap, ◌∙◌, arith}
use Rattle.std.specs.Prelude.{reverse, min}
use Rattle.std.proofs.lemmas.List.{reverse-append}
use Rattle.script_tree.specs.Datum.{Datum}
use Rattle.script_code.specs.CodeRun.{topmost}

no_topmost : (n : ℕ) (ds : List Datum) → topmost n [] ds ≡ ds
no_topmost zero ds = refl
no_topmost (suc n) ds = refl

no_drop : (n : ℕ) → drop {A = Datum} n [] ≡ []
no_drop zero = refl
no_drop (suc n) = refl

-- a number beyond the stack's length is as good as another
pub as_many : (n most : ℕ) (st ds : List Datum) → length st ≤ most → topmost (min n most) st ds ≡ topmost n st ds
as_many zero most st ds h = let e : min 0 most ≡ 0 = omega arith in rw e refl
as_many (suc n) most [] ds h = no_topmost (min (suc n) most) ds
as_many (suc n) zero (x ∷ st) ds h = absurd (omega (arith, h))
as_many (suc n) (suc m) (x ∷ st) ds h =
    let e : min (suc n) (suc m) ≡ suc (min n m) = omega arith in
    rw e (as_many n m st (x ∷ ds) (omega (arith, h)))

pub as_deep : (n most : ℕ) (st : List Datum) → length st ≤ most → drop (min n most) st ≡ drop n st
as_deep zero most st h = let e : min 0 most ≡ 0 = omega arith in rw e refl
as_deep (suc n) most [] h = no_drop (min (suc n) most)
as_deep (suc n) zero (x ∷ st) h = absurd (omega (arith, h))
as_deep (suc n) (suc m) (x ∷ st) h =
    let e : min (suc n) (suc m) ≡ suc (min n m) = omega arith in
    rw e (as_deep n m st (omega (arith, h)))

-- ---- one value after the other

-- Of so many topmost values these were taken, the topmost first, and those are left.
pub record IsTaking (count : ℕ) (all : List Datum) (taken left : List Datum) : Type 0 where
  pub topmost' : topmost (count - length taken) left (reverse taken) ≡ topmost count all []
  pub left' : drop (count - length taken) left ≡ drop count all

pub takes_none : (count : ℕ) (all taken left : List Datum) → taken ≡ [] → left ≡ all → IsTaking count all taken left
takes_none count all taken left none same =
    let whole : count - length taken ≡ count = omega (arith, ap length none) in
    record {
      topmost' = ap (λ n. topmost n left (reverse taken)) whole ∙ (λ i. topmost count (same i) (reverse (none i)));
      left' = ap (λ n. drop n left) whole ∙ ap (drop count) same;
    }

one_fewer : (count : ℕ) (taken : List Datum) (x : Datum) → length taken < count → count - length taken ≡ suc (count - length (taken ++ x ∷ []))
one_fewer count taken x fewer = omega (arith, length-append taken (x ∷ []))

-- The topmost of those that are left is taken too.
pub takes_one : (count : ℕ) (all taken left : List Datum) (x : Datum) → length taken < count
    → IsTaking count all taken (x ∷ left) → IsTaking count all (taken ++ x ∷ []) left
takes_one count all taken left x fewer is = record {
  topmost' = ap (topmost (count - length (taken ++ x ∷ [])) left) (reverse-append taken (x ∷ []))
      ∙ sym (ap (λ n. topmost n (x ∷ left) (reverse taken)) (one_fewer count taken x fewer)) ∙ is.topmost';
  left' = sym (ap (λ n. drop n (x ∷ left)) (one_fewer count taken x fewer)) ∙ is.left';
}

-- So many are taken.
pub takes_all : (count : ℕ) (all taken left : List Datum) → count ≤ length taken → IsTaking count all taken left
    → (reverse taken ≡ topmost count all []) × (left ≡ drop count all)
takes_all count all taken left enough is =
    let none : count - length taken ≡ 0 = omega (arith, enough) in
    (sym (ap (λ n. topmost n left (reverse taken)) none) ∙ is.topmost', sym (ap (λ n. drop n left) none) ∙ is.left')

-- There are no more.
pub takes_what_is_there : (count : ℕ) (all taken : List Datum) → IsTaking count all taken [] → (reverse taken ≡ topmost count all []) × ([] ≡ drop count all)
takes_what_is_there count all taken is =
    (sym (no_topmost (count - length taken) (reverse taken)) ∙ is.topmost', sym (no_drop (count - length taken)) ∙ is.left')

pub no_items : (ds : List Datum) → length ds ≡ 0 → ds ≡ []
no_items [] none = refl
no_items (d ∷ ds) none = absurd (omega (arith, none))
