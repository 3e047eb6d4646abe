-- Lists that have the same calls of each seat are permutations of one another.
use Rattle.std.proofs.Common.{◌≡◌, ◌≢◌, ◌∙◌, ℕ, List, [], ◌∷◌, ◌++◌, Bool, true, false, cond, eqb, Option, Some, None, ◌⊎◌, inl, inr, refl, ap, sym, subst, eq-eqb}
use Rattle.std.specs.Prelude.{IsPermutation, filter_map}
use Rattle.std.specs.List.{cons_option}
use Rattle.std.proofs.lemmas.Bool.{ne_eqb}
use Rattle.std.proofs.lemmas.Bool.Decides.{eqb_tells}
use Rattle.std.proofs.lemmas.List.Elements.{filter_map-append}
use Rattle.std.proofs.lemmas.List.Sorted.{IsPermutation-refl, IsPermutation-trans, IsPermutation-cons, IsPermutation-middle, IsPermutation-sym}
use Rattle.desk.specs.declared.bench.Call.{Call}
use Rattle.desk.specs.Runs.{calls_by}
use Rattle.shared_desk.specs.Calls.{HaveSameCalls}
use Rattle.shared_desk.proofs.Histories.{calls_by-append}

module _ {E R : Type 0} where
  -- This is the first call of the seat in a list, and these are the others of it.
  record IsFirst (seat : ℕ) (c : Call E R) (rest calls : List (Call E R)) : Type 0 where
    pub before : List (Call E R)
    pub after : List (Call E R)
    pub parts : calls ≡ before ++ c ∷ after
    pub none_before : calls_by seat before ≡ []
    pub others : calls_by seat after ≡ rest

  further : (seat : ℕ) (c y : Call E R) (rest ys : List (Call E R)) → eqb y.seat seat ≡ false → IsFirst seat c rest ys
      → IsFirst seat c rest (y ∷ ys)
  further seat c y rest ys other f = record {
    before = y ∷ f.before;
    after = f.after;
    parts = ap (λ l. y ∷ l) f.parts;
    none_before = ap (λ b. cond b (y ∷ calls_by seat f.before) (calls_by seat f.before)) other ∙ f.none_before;
    others = f.others;
  }

  same_head : (c y : Call E R) (rest ys : List (Call E R)) → y ∷ ys ≡ c ∷ rest → y ≡ c
  same_head c y rest ys e = cc

  same_tail : (c y : Call E R) (rest ys : List (Call E R)) → y ∷ ys ≡ c ∷ rest → ys ≡ rest
  same_tail c y rest ys e = cc

  not_none : (c : Call E R) (rest : List (Call E R)) → [] ≡ c ∷ rest → ⊥
  not_none c rest e = cc

  first_of : (seat : ℕ) (c : Call E R) (rest calls : List (Call E R)) → calls_by seat calls ≡ c ∷ rest
      → IsFirst seat c rest calls
  first_of seat c rest [] is = absurd (not_none c rest is)
  first_of seat c rest (y ∷ ys) is = by (eqb y.seat seat) refl is (first_of seat c rest ys)
    where
      by : (b : Bool) → eqb y.seat seat ≡ b → cond b (y ∷ calls_by seat ys) (calls_by seat ys) ≡ c ∷ rest
          → (calls_by seat ys ≡ c ∷ rest → IsFirst seat c rest ys) → IsFirst seat c rest (y ∷ ys)
      by true e is among = record {
        before = [];
        after = ys;
        parts = ap (λ h. h ∷ ys) (same_head c y rest (calls_by seat ys) is);
        none_before = refl;
        others = same_tail c y rest (calls_by seat ys) is;
      }
      by false e is among = further seat c y rest ys e (among is)

  -- the calls of a call's own seat, and those of another
  own : (c : Call E R) (cs : List (Call E R)) → calls_by c.seat (c ∷ cs) ≡ c ∷ calls_by c.seat cs
  own c cs = ap (λ b. cond b (c ∷ calls_by c.seat cs) (calls_by c.seat cs)) (eq-eqb c.seat c.seat refl)

  other : (seat : ℕ) (c : Call E R) (cs : List (Call E R)) → c.seat ≢ seat → calls_by seat (c ∷ cs) ≡ calls_by seat cs
  other seat c cs ne = ap (λ b. cond b (c ∷ calls_by seat cs) (calls_by seat cs)) (ne_eqb c.seat seat ne)

  -- without the first call of a list, and without the first of its seat in the other, they have the same calls
  fewer : (c : Call E R) (cs ys : List (Call E R)) → HaveSameCalls (c ∷ cs) ys → (f : IsFirst c.seat c (calls_by c.seat cs) ys)
      → HaveSameCalls cs (f.before ++ f.after)
  fewer c cs ys same f seat = by (eqb_tells c.seat seat)
    where
      joint : calls_by seat (f.before ++ f.after) ≡ calls_by seat f.before ++ calls_by seat f.after
      joint = calls_by-append seat f.before f.after

      by : ((eqb c.seat seat ≡ true) × (c.seat ≡ seat)) ⊎ ((eqb c.seat seat ≡ false) × (c.seat ≢ seat))
          → calls_by seat cs ≡ calls_by seat (f.before ++ f.after)
      by (inl (e, here)) =
          subst (λ s. calls_by s cs ≡ calls_by s (f.before ++ f.after)) here
          (sym f.others ∙ sym (ap (λ l. l ++ calls_by c.seat f.after) f.none_before) ∙ sym (calls_by-append c.seat f.before f.after))
      by (inr (e, ne)) =
          sym (other seat c cs ne) ∙ same seat ∙ ap (calls_by seat) f.parts ∙ calls_by-append seat f.before (c ∷ f.after)
          ∙ ap (λ l. calls_by seat f.before ++ l) (other seat c f.after ne) ∙ sym joint

  filter_some : (xs : List (Call E R)) → filter_map Some xs ≡ xs
  filter_some [] = refl
  filter_some (c ∷ cs) = ap (λ l. c ∷ l) (filter_some cs)

  module _ {Y : Type 0} (f : Call E R → Option Y) where
    put_among : (o : Option Y) (xs before after : List Y) → IsPermutation xs (before ++ after)
        → IsPermutation (cons_option o xs) (before ++ cons_option o after)
    put_among None xs before after same = same
    put_among (Some y) xs before after same =
        IsPermutation-trans _ _ _ (IsPermutation-cons y _ _ same) (IsPermutation-sym _ _ (IsPermutation-middle before y after))

    -- what the calls give, where not every call gives something
    pub same_calls_give : (xs ys : List (Call E R)) → HaveSameCalls xs ys → IsPermutation (filter_map f xs) (filter_map f ys)
    same_calls_give [] [] same = IsPermutation-refl []
    same_calls_give [] (y ∷ ys) same = absurd (not_none y (calls_by y.seat ys) (same y.seat ∙ own y ys))
    same_calls_give (c ∷ cs) ys same =
        let first = first_of c.seat c (calls_by c.seat cs) ys (sym (same c.seat) ∙ own c cs) in
        let rest = same_calls_give cs (first.before ++ first.after) (fewer c cs ys same first) in
        let parted = subst (IsPermutation (filter_map f cs)) (filter_map-append f first.before first.after) rest in
        subst (IsPermutation (filter_map f (c ∷ cs))) (sym (ap (filter_map f) first.parts ∙ filter_map-append f first.before (c ∷ first.after)))
        (put_among (f c) (filter_map f cs) (filter_map f first.before) (filter_map f first.after) parted)

  pub same_calls_permute : (xs ys : List (Call E R)) → HaveSameCalls xs ys → IsPermutation xs ys
  same_calls_permute xs ys same =
      subst (λ l. IsPermutation l ys) (filter_some xs)
      (subst (IsPermutation (filter_map Some xs)) (filter_some ys) (same_calls_give Some xs ys same))
