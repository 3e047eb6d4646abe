-- Histories that grow, and what was seen of them.
use Rattle.std.proofs.Common.{◌≡◌, ◌≢◌, ℕ, List, [], ◌∷◌, ◌++◌, length, Bool, true, false, cond, refl, sym, ap, ◌∙◌, append_assoc, append-nil, eqb}
use Rattle.std.proofs.Common.{◌≤◌, ne_eqb, nat_lt, arith}
use Rattle.desk.specs.declared.bench.Call.{Call}
use Rattle.desk.specs.Runs.{calls_by, StartsWith}
use Rattle.shared_desk.specs.Views.{longer, shorter}

module _ {E R : Type 0} where
  pub calls_by-append : (p : ℕ) (xs ys : List (Call E R)) → calls_by p (xs ++ ys) ≡ calls_by p xs ++ calls_by p ys
  calls_by-append p [] ys = refl
  calls_by-append p (c ∷ cs) ys = go (eqb c.seat p) (calls_by-append p cs ys)
    where
      go : (b : Bool) → calls_by p (cs ++ ys) ≡ calls_by p cs ++ calls_by p ys
          → cond b (c ∷ calls_by p (cs ++ ys)) (calls_by p (cs ++ ys)) ≡ cond b (c ∷ calls_by p cs) (calls_by p cs) ++ calls_by p ys
      go true r = ap (λ l. c ∷ l) r
      go false r = r

  -- a call from another seat adds nothing
  pub calls_by-other : (p : ℕ) (calls : List (Call E R)) (c : Call E R) → c.seat ≢ p → calls_by p (calls ++ c ∷ []) ≡ calls_by p calls
  calls_by-other p calls c other =
      let none : calls_by p (c ∷ []) ≡ [] = ap (λ b. cond b (c ∷ []) []) (ne_eqb c.seat p other) in
      calls_by-append p calls (c ∷ []) ∙ (ap (λ l. calls_by p calls ++ l) none ∙ append-nil (calls_by p calls))

  pub starts_with_more : (history seen : List (Call E R)) (c : Call E R) → StartsWith history seen → StartsWith (history ++ c ∷ []) seen
  starts_with_more history seen c s = (s.0 ++ c ∷ [], ap (λ l. l ++ c ∷ []) s.1 ∙ append_assoc seen s.0 (c ∷ []))

  pub starts_with_all : (history seen : List (Call E R)) → seen ≡ history → StartsWith history seen
  starts_with_all history seen e = ([], sym e ∙ sym (append-nil seen))

  pub starts_with_longer : (history a b : List (Call E R)) → StartsWith history a → StartsWith history b → StartsWith history (longer a b)
  starts_with_longer history a b sa sb = go (nat_lt (length a) (length b))
    where
      go : (x : Bool) → StartsWith history (cond x b a)
      go true = sb
      go false = sa

  pub starts_with_shorter : (history a b : List (Call E R)) → StartsWith history a → StartsWith history b → StartsWith history (shorter a b)
  starts_with_shorter history a b sa sb = go (nat_lt (length a) (length b))
    where
      go : (x : Bool) → StartsWith history (cond x a b)
      go true = sa
      go false = sb

  -- of two fronts of one list, the shorter is a front of the longer
  pub front_of : (a b more rest : List (Call E R)) → a ++ more ≡ b ++ rest → length a ≤ length b → StartsWith b a
  front_of [] b more rest e short = (b, refl)
  front_of (x ∷ xs) [] more rest e short = absurd (omega arith)
  front_of (x ∷ xs) (y ∷ ys) more rest e short =
      let f = front_of xs ys more rest (tails x y (xs ++ more) (ys ++ rest) e) (omega arith) in
      (f.0, ap (λ c. c ∷ ys) (sym (heads x y (xs ++ more) (ys ++ rest) e)) ∙ ap (λ l. x ∷ l) f.1)
    where
      heads : (x y : Call E R) (ks ls : List (Call E R)) → x ∷ ks ≡ y ∷ ls → x ≡ y
      heads x y ks ls e = cc

      tails : (x y : Call E R) (ks ls : List (Call E R)) → x ∷ ks ≡ y ∷ ls → ks ≡ ls
      tails x y ks ls e = cc

  -- one list with one call more shows that call
  pub last_call : (xs : List (Call E R)) (x y : Call E R) → xs ++ x ∷ [] ≡ xs ++ y ∷ [] → x ≡ y
  last_call [] x y e = cc
  last_call (z ∷ zs) x y e = last_call zs x y (tail_same z (zs ++ x ∷ []) (zs ++ y ∷ []) e)
    where
      tail_same : (z : Call E R) (ks ls : List (Call E R)) → z ∷ ks ≡ z ∷ ls → ks ≡ ls
      tail_same z ks ls e = cc
