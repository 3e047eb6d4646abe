-- Steps of the machine, and how they follow one another.
use Rattle.std.proofs.Common.{◌≡◌, ℕ, List, [], ◌∷◌, Some, true, false, refl, sym, ap, ◌∙◌, subst}
use Rattle.std.proofs.lemmas.Slice.Eq.{bytes_eq-Decides}
use Rattle.script_tree.specs.declared.syntax.name.Name.{Name}
use Rattle.script_tokens.specs.Kinds as kind
use Rattle.script_tokens.specs.Kinds.{Kind, Token, token}
use Rattle.script_tokens.specs.Words.{spelling_of}
use Rattle.script_tokens.specs.declared.word.Word.{Word}
use Rattle.script_grammar.specs.Spelling as mark
use Rattle.script_grammar.specs.Spelling.{Mark, placed, anywhere, at_word, named, AreTokens}
use Rattle.script_grammar.specs.Machine.{Val, of_name, Act, apply, Symbol, act, word, a_name, a_path, operand, prefixes, chain, feed, fed, run}
use Rattle.script_tokens.specs.Feed.{is_word}
use Rattle.script_grammar.specs.Grouping.{most_repeats}

pub is_same : (v : Word) → is_word v (kind.fixed v) ≡ true
is_same v = (bytes_eq-Decides (spelling_of v) (spelling_of v)).1 refl

pub step_on : (t : Token) (ts : List Token) (k l : List Symbol) (vs us : List Val) → feed t k vs ≡ Some (l, us) → run (t ∷ ts) k vs ≡ run ts l us
step_on t ts k l vs us e = ap (λ o. fed t ts o (λ l us. run ts l us)) e

pub same_step : (t : Token) (ts : List Token) (k l : List Symbol) (vs us : List Val) → feed t k vs ≡ feed t l us → run (t ∷ ts) k vs ≡ run (t ∷ ts) l us
same_step t ts k l vs us e = ap (λ o. fed t ts o (λ l us. run ts l us)) e

pub act_runs : (a : Act) (ts : List Token) (k : List Symbol) (vs : List Val) → run ts (act a ∷ k) vs ≡ run ts k (apply a vs)
act_runs a [] k vs = refl
act_runs a (t ∷ ts) k vs = refl

pub operand_runs : (l : ℕ) (ts : List Token) (k : List Symbol) (vs : List Val) → run ts (operand l ∷ k) vs ≡ run ts (prefixes (most_repeats 1) ∷ chain l k) vs
operand_runs l [] k vs = refl
operand_runs l (t ∷ ts) k vs = refl

-- The tokens of m are read: from the symbols of f on, with the values changed by p, up to those of n.
pub record Reads (f : List Symbol → List Symbol) (p : List Val → List Val) (m n : List Mark) : Type 0 where
  pub goes : (ts : List Token) → AreTokens m ts
      → (rest : List Token) × AreTokens n rest
      × ((k : List Symbol) (vs : List Val) → run ts (f k) vs ≡ run rest k (p vs))

infixl 10 ◌then◌
pub ◌then◌ : {f g : List Symbol → List Symbol} {p q : List Val → List Val} {m n o : List Mark} → Reads f p m n
    → Reads g q n o → Reads (λ k. f (g k)) (λ vs. q (p vs)) m o
◌then◌ {f} {g} {p} {q} {m} {n} {o} r s = record {
  goes = λ ts h.
      let a = r.goes ts h in
      let b = s.goes a.0 a.1 in
      (b.0, b.1, λ k vs. a.2 (g k) vs ∙ b.2 k (p vs));
}

-- the same tokens, from other symbols on that do the same
pub instead : {f g : List Symbol → List Symbol} {p : List Val → List Val} {m n : List Mark}
    → ((ts : List Token) → AreTokens m ts → (k : List Symbol) (vs : List Val) → run ts (f k) vs ≡ run ts (g k) vs)
    → Reads g p m n → Reads f p m n
instead e r = record {
  goes = λ ts h.
      let a = r.goes ts h in
      (a.0, a.1, λ k vs. e ts h k vs ∙ a.2 k vs);
}

-- the same values
pub valued : {f : List Symbol → List Symbol} {p q : List Val → List Val} {m n : List Mark} → ((vs : List Val) → p vs ≡ q vs) → Reads f p m n → Reads f q m n
valued e r = record {
  goes = λ ts h.
      let a = r.goes ts h in
      (a.0, a.1, λ k vs. a.2 k vs ∙ ap (λ us. run a.0 k us) (e vs));
}

-- a first token, whose symbols are read then
pub begun : {f : List Symbol → List Symbol} {p q : List Val → List Val} {m n : List Mark} (at : ℕ) (t : Kind) (s : List Symbol → List Symbol)
    → ((k : List Symbol) (vs : List Val) → feed (token at t) (s k) vs ≡ Some (f k, p vs)) → Reads f q m n → Reads s (λ vs. q (p vs)) (placed at t ∷ m) n
begun {f} {p} {q} at t s e r = record {
  goes = λ ts h.
      let a = r.goes h.0 h.2 in
      (a.0, a.1, λ k vs. ap (λ x. run x (s k) vs) h.1 ∙ step_on (token at t) h.0 (s k) (f k) vs (p vs) (e k vs) ∙ a.2 k (p vs));
}

pub begun_anywhere : {f : List Symbol → List Symbol} {p q : List Val → List Val} {m n : List Mark} (t : Kind) (s : List Symbol → List Symbol)
    → ((at : ℕ) (k : List Symbol) (vs : List Val) → feed (token at t) (s k) vs ≡ Some (f k, p vs)) → Reads f q m n → Reads s (λ vs. q (p vs)) (anywhere t ∷ m) n
begun_anywhere {f} {p} {q} t s e r = record {
  goes = λ ts h.
      let a = r.goes h.1 h.3 in
      (a.0, a.1, λ k vs. ap (λ x. run x (s k) vs) h.2 ∙ step_on (token h.0 t) h.1 (s k) (f k) vs (p vs) (e h.0 k vs) ∙ a.2 k (p vs));
}

pub nothing : (m : List Mark) → Reads (λ k. k) (λ vs. vs) m m
nothing m = record { goes = λ ts h. (ts, h, λ k vs. refl) }

pub reads_word : (v : Word) (m : List Mark) → Reads (λ k. word v ∷ k) (λ vs. vs) (mark.word v ∷ m) m
reads_word v m = begun_anywhere (kind.fixed v) (λ k. word v ∷ k) (λ at k vs. rw (is_same v) refl) (nothing m)

pub reads_name : (x : Name) (m : List Mark) → Reads (λ k. a_name ∷ k) (λ vs. of_name x ∷ vs) (named x ∷ m) m
reads_name x m = begun x.at (kind.name x.text) (λ k. a_name ∷ k) (λ k vs. refl) (nothing m)

pub reads_path : (x : Name) (m : List Mark) → Reads (λ k. a_path ∷ k) (λ vs. of_name x ∷ vs) (placed x.at (kind.text x.text) ∷ m) m
reads_path x m = begun x.at (kind.text x.text) (λ k. a_path ∷ k) (λ k vs. refl) (nothing m)

pub acts : (a : Act) (m : List Mark) → Reads (λ k. act a ∷ k) (apply a) m m
acts a m = record { goes = λ ts h. (ts, h, λ k vs. act_runs a ts k vs) }

-- ---- what stands first

abbrev pub kind_of : Mark → Kind
kind_of (placed at t) = t
kind_of (anywhere t) = t

-- the first token, if there is one, is of such a kind
abbrev pub First : (Kind → Type 0) → List Mark → Type 0
First P [] = Unit {0}
First P (m ∷ ms) = P (kind_of m)

pub cons_nil : (t : Token) (ts : List Token) → t ∷ ts ≡ [] → ⊥
cons_nil t ts h = cc

pub same_kind : (at : ℕ) (x : Kind) (t : Token) (ts rest : List Token) → t ∷ ts ≡ token at x ∷ rest → x ≡ t.kind
same_kind at x t ts rest h = let e : t ≡ token at x = cc in sym (ap (λ (u : Token). u.kind) e)

pub first_is : (P : Kind → Type 0) (m : List Mark) (t : Token) (ts : List Token) → First P m → AreTokens m (t ∷ ts) → P t.kind
first_is P [] t ts p h = absurd (cons_nil t ts h)
first_is P (placed at x ∷ m) t ts p h = subst P (same_kind at x t ts h.0 h.1) p
first_is P (anywhere x ∷ m) t ts p h = subst P (same_kind h.0 x t ts h.1 h.2) p

abbrev pub IsNot : Word → Kind → Type 0
IsNot v t = is_word v t ≡ false
