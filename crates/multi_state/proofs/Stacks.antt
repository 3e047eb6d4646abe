-- The topmost values of a stack, where the topmost lies last, of each member.
use Rattle.std.proofs.Common.{◌≡◌, ◌-◌, ◌<◌, ◌≤◌, ℕ, zero, suc, List, [], ◌∷◌, ◌++◌, length, drop, length-append, take, refl, sym, ap, ◌∙◌, arith}
use Rattle.std.specs.Prelude.{reverse, slice_set}
use Rattle.std.proofs.lemmas.List.{reverse-append}
use Rattle.script_tree.specs.Datum.{Datum}
use Rattle.script_code.specs.CodeRun.{topmost}
use Rattle.multivalue.specs.Many.{Many, member_value}
use Rattle.multi_nodes.specs.Members.{members_at}

-- Of so many topmost values of a member these were taken, the topmost first, and those are left.
pub record IsTaking (i count : ℕ) (all : List Datum) (taken : List Many) (left : List Datum) : Type 0 where
  pub topmost' : topmost (count - length taken) left (members_at i (reverse taken)) ≡ topmost count all []
  pub left' : drop (count - length taken) left ≡ drop count all

pub takes_none : (i count : ℕ) (all : List Datum) (taken : List Many) → taken ≡ [] → IsTaking i count all taken all
takes_none i count all taken none =
    let whole : count - length taken ≡ count = omega (arith, ap length none) in
    record {
      topmost' = (λ z. topmost (whole z) all (members_at i (reverse (none z))));
      left' = ap (λ n. drop n all) whole;
    }

one_fewer : (count : ℕ) (taken : List Many) (m : Many) → length taken < count → count - length taken ≡ suc (count - length (taken ++ m ∷ []))
one_fewer count taken m fewer = omega (arith, length-append taken (m ∷ []))

-- The topmost of those that are left is taken too.
pub takes_one : (i count : ℕ) (all : List Datum) (taken more : List Many) (was left : List Datum) (m : Many)
    → length taken < count → more ≡ taken ++ m ∷ [] → was ≡ member_value m i ∷ left → IsTaking i count all taken was
    → IsTaking i count all more left
takes_one i count all taken more was left m fewer pushed popped is =
    let others = one_fewer count taken m fewer in
    let len : count - length more ≡ count - length (taken ++ m ∷ []) = ap (λ ms. count - length ms) pushed in
    record {
      topmost' =
          (λ z. topmost (len z) left (members_at i (reverse (pushed z))))
          ∙ ap (λ ms. topmost (count - length (taken ++ m ∷ [])) left (members_at i ms)) (reverse-append taken (m ∷ []))
          ∙ sym (λ z. topmost (others z) (popped z) (members_at i (reverse taken))) ∙ is.topmost';
      left' = ap (λ n. drop n left) len ∙ sym (λ z. drop (others z) (popped z)) ∙ is.left';
    }

-- So many are taken.
pub takes_all : (i count : ℕ) (all : List Datum) (taken : List Many) (left : List Datum) → count ≤ length taken
    → IsTaking i count all taken left → (topmost count all [] ≡ members_at i (reverse taken))
    × (drop count all ≡ left)
takes_all i count all taken left enough is =
    let none : count - length taken ≡ 0 = omega (arith, enough) in
    (sym is.topmost' ∙ ap (λ n. topmost n left (members_at i (reverse taken))) none, sym is.left' ∙ ap (λ n. drop n left) none)

-- ---- slots

pub one_slot_more : (i : ℕ) (ms : List Many) (m : Many) → members_at i (ms ++ m ∷ []) ≡ members_at i ms ++ member_value m i ∷ []
one_slot_more i [] m = refl
one_slot_more i (k ∷ ms) m = ap (λ ds. member_value k i ∷ ds) (one_slot_more i ms m)

pub slot_set : (i k : ℕ) (ms : List Many) (m : Many) → members_at i (slice_set ms k m) ≡ slice_set (members_at i ms) k (member_value m i)
slot_set i k [] m = refl
slot_set i zero (x ∷ ms) m = refl
slot_set i (suc k) (x ∷ ms) m = ap (λ ds. member_value x i ∷ ds) (slot_set i k ms m)

pub slots_left : (i n : ℕ) (ms : List Many) → members_at i (take n ms) ≡ take n (members_at i ms)
slots_left i zero ms = refl
slots_left i (suc n) [] = refl
slots_left i (suc n) (m ∷ ms) = ap (λ ds. member_value m i ∷ ds) (slots_left i n ms)
