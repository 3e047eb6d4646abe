-- One entry more.
use Rattle.std.proofs.Common.{◌≡◌, ◌∙◌, ℕ, suc, ◌+◌, ◌<◌, nat_le, List, [], ◌∷◌, ◌++◌, length, get_or, take, Bool, true, false, if◌then◌else◌, Option, Some, None, refl, sym, ap, arith, length-append, zero}
use Rattle.std.proofs.lemmas.List.{take_all, take_more, take-append-le, length-take-le}
use Rattle.std.proofs.lemmas.Bool.{leb-true, leb-false, le-leb}
use Rattle.script_tree.specs.Datum.{Datum}
use Rattle.script_tree.specs.Objects.{Cell, one, many, acted}
use Rattle.script_tree.specs.declared.operation.Act.{Act}
use Rattle.script_tree.specs.declared.operation.Act.TheVariants.{Read, Write, Get, Put, Remove, Transact, Now, Roll}
use Rattle.script_tree.specs.declared.operation.Choice.{Choice}
use Rattle.script_tree.specs.declared.operation.Choice.TheVariants.{Nothing, Number}
use Rattle.period.specs.declared.report.LogEntry.{LogEntry}
use Rattle.std.proofs.Common.{subst}
use Rattle.std.specs.declared.cmp.Ordering.TheVariants.{Less}
use Rattle.std.specs.Cmp.Lexicographic.{slice_cmp}
use Rattle.std.specs.List.{AllByRecursion}
use Rattle.std.specs.List.Sorted.{IsStrictlySortedBy}
use Rattle.std.specs.Map.{keys_of}
use Rattle.std.specs.Ordering.{nat_cmp, is_eq}
use Rattle.std.specs.Str.{bytes_eq}
use Rattle.std.proofs.lemmas.Map.Keys.{sorted_head}
use Rattle.std.proofs.lemmas.Map.Text.{is_eq-slice_cmp}
use Rattle.std.proofs.lemmas.Slice.Eq.{bytes_eq-Decides}
use Rattle.basis.specs.Lists.{or_else}
use Rattle.script_tree.specs.Objects.{with_key}
use Rattle.object_cells.specs.Cells.{held}
use Rattle.versioned_cells.specs.Versions.{Versions, VersionsByKey, as_of, history_at, held_at, AreUntil, AreAllUntil, Notes}
use Rattle.versioned_cells.proofs.HistoryFacts.{as_of-one, until_more, notes_at, notes_until}
use Rattle.versioned_cells.specs.Logs.{written, stored, TellsRegister, TellsStore, Writes, Stores, Begins, BeginsStore}
use Rattle.period.specs.LeftBy.{left_by}

-- ---- entries one after the other

pub left-one : (xs : List LogEntry) (e : LogEntry) (cell : Cell) → left_by (xs ++ e ∷ []) cell ≡ (acted e.act e.choice (left_by xs cell)).0
left-one [] e cell = refl
left-one (x ∷ xs) e cell = left-one xs e (acted x.act x.choice cell).0

-- What stands at each position stands there with one entry more, where the entry's effect is told from then on.
pub one_more : {X : Type 0} (wrap : X → Cell) (step : Act → X → X) → ((a : Act) (c : Choice) (x : X) → (acted a c (wrap x)).0 ≡ wrap (step a x))
    → (start : Cell) (xs : List LogEntry) (e : LogEntry) (before after : ℕ → X) → ((p : ℕ) → left_by (take p xs) start ≡ wrap (before p))
    → ((p : ℕ) → after p ≡ (if nat_le (length xs + 1) p then step e.act (before p) else before p)) → (p : ℕ)
    → left_by (take p (xs ++ e ∷ [])) start ≡ wrap (after p)
one_more {X} wrap step steps start xs e before after tells is p = by (nat_le (length xs + 1) p) refl where
  by : (b : Bool) → nat_le (length xs + 1) p ≡ b → left_by (take p (xs ++ e ∷ [])) start ≡ wrap (after p)
  by true h =
      let l = leb-true (length xs + 1) p h in
      let all : take p (xs ++ e ∷ []) ≡ xs ++ e ∷ [] = take_all p (xs ++ e ∷ []) (omega (arith, length-append xs (e ∷ []))) in
      let some : take p xs ≡ xs = take_all p xs (omega arith) in
      ap (λ es. left_by es start) all ∙ left-one xs e start ∙ ap (λ es. (acted e.act e.choice (left_by es start)).0) (sym some)
      ∙ ap (λ cell. (acted e.act e.choice cell).0) (tells p) ∙ steps e.act e.choice (before p)
      ∙ ap wrap (sym (is p ∙ ap (λ t. if t then step e.act (before p) else before p) h))
  by false h =
      let l = leb-false (length xs + 1) p h in
      ap (λ es. left_by es start) (take-append-le p xs (e ∷ []) (omega arith)) ∙ tells p
      ∙ ap wrap (sym (is p ∙ ap (λ t. if t then step e.act (before p) else before p) h))

pub prefix_more : (entries : List LogEntry) (i : ℕ) (e : LogEntry) → i < length entries → e ≡ get_or entries i e
    → take (i + 1) entries ≡ take i entries ++ e ∷ []
prefix_more entries i e h is = take_more entries i e h ∙ ap (λ y. take i entries ++ y ∷ []) (sym is)

-- ---- registers

pub writes : (a : Act) (c : Choice) (o : Option Datum) → (acted a c (one o)).0 ≡ one (written a o)
unfolding acted
writes Read c o = refl
writes (Write d) c o = refl
writes (Get k) c o = refl
writes (Put k d) c o = refl
writes (Remove k) c o = refl
writes (Transact ss) c o = refl
writes Now Nothing o = refl
writes Now (Number n) o = refl
writes (Roll b) Nothing o = refl
writes (Roll b) (Number n) o = refl

pub register_more : (entries : List LogEntry) (i : ℕ) (e : LogEntry) (start : Option Datum) (old new : Versions Datum)
    → i < length entries → e ≡ get_or entries i e
    → TellsRegister (take i entries) start old → Writes (i + 1) e.act old new → TellsRegister (take (i + 1) entries) start new
register_more entries i e start old new h is tells w =
    let l : length (take i entries) ≡ i = length-take-le i entries (omega arith) in
    rw (prefix_more entries i e h is) (one_more one written writes (one start) (take i entries) e
    (λ p. as_of p None old) (λ p. as_of p None new) tells (rw l w.at))

pub register_none : (start : Option Datum) (vs : Versions Datum) → Begins start vs → TellsRegister [] start vs
register_none start vs b p = by p where
  by : (p : ℕ) → left_by (take p []) (one start) ≡ one (as_of p None vs)
  by zero = ap one (sym (b.at 0))
  by (suc q) = ap one (sym (b.at (suc q)))

pub one_begins : (start value : Option Datum) (vs : Versions Datum) → vs ≡ (0, value) ∷ [] → value ≡ start → Begins start vs
one_begins start value vs is same = record {
  at = λ p. ap (as_of p None) is ∙ ap (λ b. if b then value else None) (le-leb 0 p (omega arith)) ∙ same;
  until = subst (AreUntil 0) (sym is) (until_more 0 [] value (λ i d h. absurd (omega arith)));
}

-- ---- stores

pub stores : (a : Act) (c : Choice) (m : List ℕ → Option Datum) → (acted a c (many m)).0 ≡ many (stored a m)
unfolding acted
stores Read c m = refl
stores (Write d) c m = refl
stores (Get k) c m = refl
stores (Put k d) c m = refl
stores (Remove k) c m = refl
stores (Transact ss) c m = refl
stores Now Nothing m = refl
stores Now (Number n) m = refl
stores (Roll b) Nothing m = refl
stores (Roll b) (Number n) m = refl

pub store_more : (entries : List LogEntry) (i : ℕ) (e : LogEntry) (start : List ℕ → Option Datum)
    (old new : VersionsByKey Datum) → i < length entries → e ≡ get_or entries i e
    → TellsStore (take i entries) start old → Stores (i + 1) e.act old new → TellsStore (take (i + 1) entries) start new
store_more entries i e start old new h is tells w =
    let l : length (take i entries) ≡ i = length-take-le i entries (omega arith) in
    rw (prefix_more entries i e h is) (one_more many stored stores (many start) (take i entries) e (λ p. held_at p old) (λ p. held_at p new) tells
    (λ p. (λ j k. w.at p k j) ∙ by (nat_le (i + 1) p) (nat_le (length (take i entries) + 1) p) (ap (λ n. nat_le (n + 1) p) (sym l)) p))
  where
    by : (a b : Bool) → a ≡ b → (p : ℕ) → (λ k. if a then stored e.act (held_at p old) k else held_at p old k)
        ≡ (if b then stored e.act (held_at p old) else held_at p old)
    by true true s p = refl
    by false false s p = refl
    by true false s p = cc
    by false true s p = cc

pub store_none : (start : List ℕ → Option Datum) (es : VersionsByKey Datum) → BeginsStore start es → TellsStore [] start es
store_none start es b p = by p where
  by : (p : ℕ) → left_by (take p []) (many start) ≡ many (held_at p es)
  by zero = λ j. many (λ k. sym (b.at 0 k) j)
  by (suc q) = λ j. many (λ k. sym (b.at (suc q) k) j)

-- ---- what is noted

pub is_written : (since : ℕ) (d copy : Datum) (act : Act) (old new : Versions Datum) → act ≡ Write d → copy ≡ d → AreUntil since old
    → new ≡ old ++ (since, Some copy) ∷ [] → Writes since act old new
is_written since d copy act old new is same until more = rw is (record {
  at = λ p. ap (as_of p None) more ∙ as_of-one p None old since (Some copy) ∙ ap (λ x. if nat_le since p then Some x else as_of p None old) same;
  until = subst (AreUntil since) (sym more) (until_more since old (Some copy) until);
})

pub nothing_written : (since : ℕ) (act : Act) (vs : Versions Datum) → ((o : Option Datum) → written act o ≡ o) → AreUntil since vs → Writes since act vs vs
nothing_written since act vs same until = record {
  at = λ p. by (nat_le since p) p;
  until = until;
} where
  by : (b : Bool) (p : ℕ) → as_of p None vs ≡ (if b then written act (as_of p None vs) else as_of p None vs)
  by true p = sym (same (as_of p None vs))
  by false p = refl

pub is_put : (since : ℕ) (key : List ℕ) (d copy : Datum) (act : Act) (old new : VersionsByKey Datum) → act ≡ Put key d → copy ≡ d → AreAllUntil since old
    → Notes since key (Some copy) old new → Stores since act old new
is_put since key d copy act old new is same until notes = rw is (record {
  at = λ p k. notes_at since key (Some copy) old new notes p k
      ∙ ap (λ x. if nat_le since p then with_key key (Some x) (held_at p old) k else held_at p old k) same;
  until = notes_until since key (Some copy) old new notes until;
})

pub is_removed : (since : ℕ) (key : List ℕ) (act : Act) (old new : VersionsByKey Datum) → act ≡ Remove key → AreAllUntil since old
    → Notes since key None old new → Stores since act old new
is_removed since key act old new is until notes = rw is (record {
  at = λ p k. notes_at since key None old new notes p k;
  until = notes_until since key None old new notes until;
})

-- ---- the start

-- the first of some entries, each of another key, is noted
pub begun_more : (start : List ℕ → Option Datum) (key : List ℕ) (d copy : Datum) (rest : List (List ℕ × Datum)) (old new : VersionsByKey Datum) → copy ≡ d
    → IsStrictlySortedBy (slice_cmp nat_cmp) (key ∷ keys_of rest) → ((p : ℕ) (k : List ℕ) → or_else (held ((key, d) ∷ rest) k) (held_at p old k) ≡ start k)
    → Notes 0 key (Some copy) old new → (p : ℕ) (k : List ℕ) → or_else (held rest k) (held_at p new k) ≡ start k
unfolding or_else
begun_more start key d copy rest old new same ordered at notes p k =
    ap (or_else (held rest k)) (notes_at 0 key (Some copy) old new notes p k ∙ ap (λ b. if b then (if bytes_eq k key then Some copy else held_at p old k) else held_at p old k) (le-leb 0 p (omega arith))) ∙ by (bytes_eq k key) refl ∙ at p k where
      none : (es : List (List ℕ × Datum)) → AllByRecursion (λ q. slice_cmp nat_cmp key q ≡ Less) (keys_of es) → held es key ≡ None
      none [] h = refl
      none (e ∷ es) h = rw h.0 (none es h.1)

      by : (b : Bool) → bytes_eq k key ≡ b → or_else (held rest k) (if b then Some copy else held_at p old k)
          ≡ or_else (held ((key, d) ∷ rest) k) (held_at p old k)
      by true e =
          let is : k ≡ key = (bytes_eq-Decides k key).0 e in
          let here : is_eq (slice_cmp nat_cmp k key) ≡ true = is_eq-slice_cmp k key ∙ e in
          rw here (ap (λ o. or_else o (Some copy)) (ap (held rest) is ∙ none rest (sorted_head (slice_cmp nat_cmp) key (keys_of rest) ordered)) ∙ ap Some same)
      by false e =
          let here : is_eq (slice_cmp nat_cmp k key) ≡ false = is_eq-slice_cmp k key ∙ e in
          rw here refl

pub begun_all : (start : List ℕ → Option Datum) (rest : List (List ℕ × Datum)) (es : VersionsByKey Datum) → rest ≡ []
    → ((p : ℕ) (k : List ℕ) → or_else (held rest k) (held_at p es k) ≡ start k) → AreAllUntil 0 es → BeginsStore start es
unfolding or_else
begun_all start rest es none at until = record {
  at = λ p k. ap (λ r. or_else (held r k) (held_at p es k)) (sym none) ∙ at p k;
  until = until;
}

pub nothing_begun : (start : List (List ℕ × Datum)) (es : VersionsByKey Datum) → es ≡ [] → (p : ℕ) (k : List ℕ)
    → or_else (held start k) (held_at p es k) ≡ held start k
unfolding or_else
nothing_begun start es none p k = ap (λ x. or_else (held start k) (held_at p x k)) none ∙ by (held start k) where
  by : (o : Option Datum) → or_else o None ≡ o
  by None = refl
  by (Some d) = refl

pub until_none : (es : VersionsByKey Datum) → es ≡ [] → AreAllUntil 0 es
until_none es none k = subst (λ x. AreUntil 0 (history_at k x)) (sym none) (λ i d h. absurd (omega arith))
