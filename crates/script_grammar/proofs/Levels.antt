-- Reading an expression level by level.
use Rattle.std.proofs.Common.{◌≡◌, ℕ, zero, suc, ◌+◌, ◌-◌, ◌<◌, ◌≤◌, nat_eq, List, [], ◌∷◌, ◌⊎◌, inl, inr, Option, Some, None, Bool, true, false, if◌then◌else◌, refl, sym, ap, ◌∙◌, subst, arith}
use Rattle.std.proofs.lemmas.Bool.Decides.{nat_tests}
use Rattle.script_tree.specs.Syntax.{Expression, number, text, truth, null, bracket, variable, call, list, transact, unary, binary, and_, or_, index}
use Rattle.script_tokens.specs.Kinds as kind
use Rattle.script_tokens.specs.Kinds.{Kind, Token, token}
use Rattle.script_tokens.specs.declared.word.Word.{Word}
use Rattle.script_tokens.specs.declared.word.Word.TheVariants as w
use Rattle.script_grammar.specs.Spelling.{Mark, AreTokens}
use Rattle.script_grammar.specs.Machine.{joint_level, joint_of, word_joint, prefix_of, Val, of_expression, Symbol, operand, prefixes, atom, tail, chain, State, joined_on, feed, run}
use Rattle.script_grammar.specs.declared.joint.Joint.{Joint}
use Rattle.script_tokens.specs.Feed.{is_word}
use Rattle.script_grammar.specs.Grouping.{operator_level, level, if_same, row, repeats, most_repeats, IsGrouped}
use Rattle.script_grammar.proofs.Steps.{same_step, operand_runs, Reads, instead, First, first_is, IsNot}

-- ---- what follows

-- what joins at this token, if anything, joins at this level or a looser one; and it is no call
abbrev pub From : ℕ → Kind → Type 0
From l t = IsNot w.Open t × ((j : Joint) → joint_of t ≡ Some j → l ≤ joint_level j)

pub from_lower : (l s : ℕ) (m : List Mark) → s ≤ l → First (From l) m → First (From s) m
from_lower l s [] h f = tt
from_lower l s (m ∷ ms) h f = (f.0, λ j e. let g = f.1 j e in omega (arith, g))

pub no_joint : (j : Joint) → None ≡ Some j → ⊥
no_joint j h = cc

pub free : (l : ℕ) (v : Word) → is_word w.Open (kind.fixed v) ≡ false → word_joint v ≡ None → From l (kind.fixed v)
free l v o n = (o, λ j e. absurd (no_joint j (sym n ∙ e)))

pub not_joined : (o : Option Joint) (l left : ℕ) (k : List Symbol) (vs : List Val) (other : Option State)
    → ((j : Joint) → o ≡ Some j → suc l ≤ joint_level j) → joined_on o l left k vs other ≡ other
not_joined None l left k vs other h = refl
not_joined (Some j) l left k vs other h =
    let g : suc l ≤ joint_level j = h j refl in
    let e : nat_eq (joint_level j) l ≡ false = grind (arith, nat_tests, g) in
    rw e refl

pub tail_ends : (l left : ℕ) (m : List Mark) (ts : List Token) → First (From (suc l)) m → AreTokens m ts
    → (k : List Symbol) (vs : List Val) → run ts (tail l left ∷ k) vs ≡ run ts k vs
tail_ends l left m [] f h k vs = refl
tail_ends l left m (t ∷ ts) f h k vs =
    let g : From (suc l) t.kind = first_is (From (suc l)) m t ts f h in
    same_step t ts (tail l left ∷ k) k vs vs (not_joined (joint_of t.kind) l left k vs (feed t k vs) g.1)

-- ---- levels

abbrev pub opening : (l left : ℕ) → List Symbol → List Symbol
opening zero left k = atom ∷ tail 0 left ∷ k
opening (suc zero) left k = prefixes left ∷ k
opening (suc (suc r)) left k = prefixes (most_repeats 1) ∷ chain (suc r) (tail (suc (suc r)) left ∷ k)

abbrev pub closing : (l left : ℕ) → List Symbol → List Symbol
closing zero left k = tail 0 left ∷ k
closing (suc zero) left k = k
closing (suc (suc r)) left k = tail (suc (suc r)) left ∷ k

-- the expression is read up to its repeats of this level
pub record Part (l : ℕ) (e : Expression) (m n : List Mark) : Type 0 where
  pub goes : (ts : List Token) → AreTokens m ts → (rest : List Token) × AreTokens n rest
      × ((d : ℕ) (k : List Symbol) (vs : List Val) → run ts (opening l (repeats l e + d) k) vs ≡ run rest (closing l d k) (of_expression e ∷ vs))

-- and wholly
abbrev pub Whole : ℕ → Expression → List Mark → List Mark → Type 0
Whole l e m n = Reads (opening l (most_repeats l)) (λ vs. of_expression e ∷ vs) m n

pub closes : (l left : ℕ) (n : List Mark) (rest : List Token) → First (From (suc l)) n → AreTokens n rest
    → (k : List Symbol) (vs : List Val) → run rest (closing l left k) vs ≡ run rest k vs
closes zero left n rest f h k vs = tail_ends 0 left n rest f h k vs
closes (suc zero) left n rest f h k vs = refl
closes (suc (suc r)) left n rest f h k vs = tail_ends (suc (suc r)) left n rest f h k vs

pub whole_of : (l : ℕ) (e : Expression) (m n : List Mark) → First (From (suc l)) n → repeats l e ≤ most_repeats l → Part l e m n → Whole l e m n
whole_of l e m n f b p = record {
  goes = λ ts h.
      let a = p.goes ts h in
      let q : repeats l e + (most_repeats l - repeats l e) ≡ most_repeats l = omega (arith, b) in (
        a.0,
        a.1,
        λ k vs. ap (λ x. run ts (opening l x k) vs) (sym q) ∙ a.2 (most_repeats l - repeats l e) k vs
            ∙ closes l (most_repeats l - repeats l e) n a.0 f a.1 k (of_expression e ∷ vs),
      );
}

-- ---- one level up

abbrev pub IsNoPrefix : Kind → Type 0
IsNoPrefix t = prefix_of t ≡ None

pub no_prefix : (left : ℕ) (m : List Mark) (ts : List Token) → First IsNoPrefix m → AreTokens m ts
    → (k : List Symbol) (vs : List Val) → run ts (prefixes left ∷ k) vs
    ≡ run ts (atom ∷ tail 0 (most_repeats 0) ∷ k) vs
no_prefix left m [] f h k vs = refl
no_prefix left m (t ∷ ts) f h k vs =
    let g : prefix_of t.kind ≡ None = first_is IsNoPrefix m t ts f h in
    same_step t ts (prefixes left ∷ k) (atom ∷ tail 0 (most_repeats 0) ∷ k) vs vs (rw g refl)

pub no_repeats : (l : ℕ) (e : Expression) → level e < l → repeats l e ≡ 0
no_repeats l e h =
    let q : nat_eq (level e) l ≡ false = grind (arith, nat_tests, h) in
    rw q refl

pub lifted : (l d : ℕ) (e : Expression) (m n : List Mark) (ts : List Token) → (l ≡ 0 → First IsNoPrefix m)
    → (h : AreTokens m ts) → (w : Whole l e m n) → (k : List Symbol) (vs : List Val)
    → run ts (opening (suc l) d k) vs ≡ run (w.goes ts h).0 (closing (suc l) d k) (of_expression e ∷ vs)
lifted zero d e m n ts f h w k vs = no_prefix d m ts (f refl) h k vs ∙ (w.goes ts h).2 k vs
lifted (suc zero) d e m n ts f h w k vs = (w.goes ts h).2 (tail 2 d ∷ k) vs
lifted (suc (suc r)) d e m n ts f h w k vs = (w.goes ts h).2 (tail (suc (suc (suc r))) d ∷ k) vs

pub up : (l : ℕ) (e : Expression) (m n : List Mark) → level e ≤ l → (l ≡ 0 → First IsNoPrefix m) → Whole l e m n → Part (suc l) e m n
up l e m n b f w = record {
  goes = λ ts h.
      let a = w.goes ts h in
      let q : repeats (suc l) e ≡ 0 = no_repeats (suc l) e (omega (arith, b)) in
      (a.0, a.1, λ d k vs. let z : repeats (suc l) e + d ≡ d = omega (arith, q) in ap (λ x. run ts (opening (suc l) x k) vs) z ∙ lifted l d e m n ts f h w k vs);
}

pub last : (r l : ℕ) → r ≤ suc l → (r ≤ l) ⊎ (r ≡ suc l)
last r l h = last_case (nat_eq r (suc l)) refl
  where
    last_case : (b : Bool) → nat_eq r (suc l) ≡ b → (r ≤ l) ⊎ (r ≡ suc l)
    last_case true e = inr (grind (arith, nat_tests, e))
    last_case false e = inl (grind (arith, nat_tests, e, h))

-- from its own level to another
pub climb : (l r : ℕ) (e : Expression) (m n : List Mark) → r ≤ l → level e ≤ r → (r ≡ 0 → First IsNoPrefix m)
    → First (From l) n → ((s : ℕ) → repeats s e ≤ most_repeats s) → Part r e m n → Part l e m n
climb zero r e m n h b f g few p = let q : r ≡ 0 = omega (arith, h) in subst (λ x. Part x e m n) q p
climb (suc l) r e m n h b f g few p = elim (last r l h) [
  | inl c ↦
      let a : Part l e m n = climb l r e m n c b f (from_lower (suc l) l n (omega arith) g) few p in
      up l e m n (omega (arith, b, c)) (λ z. f (omega (arith, c, z))) (whole_of l e m n g (few l) a)
  | inr c ↦ subst (λ x. Part x e m n) c p
]

-- an operand of a level is the symbols that open it
pub operand_of : (l : ℕ) (e : Expression) (m n : List Mark) → Whole (suc l) e m n → Reads (λ k. operand (suc l) ∷ k) (λ vs. of_expression e ∷ vs) m n
operand_of zero e m n w = instead (λ ts h k vs. operand_runs 1 ts k vs) w
operand_of (suc l) e m n w = instead (λ ts h k vs. operand_runs (suc (suc l)) ts k vs) w

-- ---- no row is too long

pub few_case : (same : Bool) (l n b : ℕ) → (same ≡ true → n ≤ b) → (if same then n else 0) ≤ b
few_case true l n b h = h refl
few_case false l n b h = omega arith

pub few_of : (l s n : ℕ) → n ≤ most_repeats l → if_same l s n ≤ most_repeats s
few_of l s n h = few_case (nat_eq l s) l n (most_repeats s) (λ e. let q : l ≡ s = grind (arith, nat_tests, e) in subst (λ x. n ≤ most_repeats x) q h)

pub few : (e : Expression) → IsGrouped e → (s : ℕ) → repeats s e ≤ most_repeats s
few (number at n) g s = few_of 0 s 0 (omega arith)
few (text at bytes) g s = few_of 0 s 0 (omega arith)
few (truth at b) g s = few_of 0 s 0 (omega arith)
few (null at) g s = few_of 0 s 0 (omega arith)
few (bracket at e) g s = few_of 0 s 0 (omega arith)
few (variable at x) g s = few_of 0 s 0 (omega arith)
few (call at f es) g s = few_of 0 s 0 (omega arith)
few (list at es) g s = few_of 0 s 0 (omega arith)
few (transact at qs) g s = few_of 0 s 0 (omega arith)
few (unary at operator e) g s = few_of 1 s (row (unary at operator e)) (omega (arith, g.0.few))
few (binary at operator left right) g s = few_of (operator_level operator) s (row (binary at operator left right)) (omega (arith, g.0.few))
few (and_ at left right) g s = few_of 5 s (row (and_ at left right)) (omega (arith, g.0.few))
few (or_ at left right) g s = few_of 6 s (row (or_ at left right)) (omega (arith, g.0.few))
few (index at whole place) g s = few_of 0 s (row (index at whole place)) (omega (arith, g.0.few))
