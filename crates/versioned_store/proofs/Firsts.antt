-- Where acts come first since the tables last changed.
use Rattle.std.proofs.Common.{◌≡◌, ◌∙◌, ℕ, zero, suc, ◌+◌, ◌-◌, ◌<◌, ◌≤◌, nat_le, Bool, true, false, ◌&&◌, cond, unwrap_or, List, [], ◌∷◌, ◌++◌, length, get_or, Option, Some, None, refl, sym, ap, true≢false, subst, arith, length-append, ⊎_elim}
use Rattle.std.proofs.lemmas.Bool.{cases_eq, leb-true, leb-false}
use Rattle.basis.specs.Lists.{nth}
use Rattle.basis.proofs.Options.{some_is, none_is_not}
use Rattle.script_tree.specs.Alike.{same_act}
use Rattle.script_tree.specs.declared.operation.Act.{Act}
use Rattle.script_tree.specs.declared.transaction.Statement.{Statement}
use Rattle.script_tree.specs.declared.transaction.Statement.TheVariants.{Insert, Select, Update, Delete, Expect}
use Rattle.script_tree.proofs.Equals.{act_is, act_itself}
use Rattle.period.specs.declared.report.LogEntry.{LogEntry}
use Rattle.versioned_store.specs.Firsts.{Firsts, source_by, with_entry}
use Rattle.versioned_tables.specs.Reads.{only_read, keeps_tables}
use Rattle.versioned_store.specs.Sources.{are_selects, selects_alone, IsCalm, IsLike, IsSource}
use Rattle.versioned_store.proofs.Telling.{last_or, place, within}

abbrev pub HasAct : List LogEntry → ℕ → Act → Type 0
HasAct entries i a = (e : LogEntry) × (nth entries i ≡ Some e) × (e.act ≡ a)

-- Nothing has this act from a position to before another.
abbrev pub NoneHas : List LogEntry → Act → ℕ → ℕ → Type 0
NoneHas entries a from to = (j : ℕ) → from ≤ j → j < to → HasAct entries j a → ⊥

-- The tables last changed before a position, and since then acts came first where this tells.
pub record AreFirsts (entries : List LogEntry) (firsts : Firsts) (i : ℕ) : Type 0 where
  pub since : ℕ
  pub low : since ≤ i
  pub calm : IsCalm entries since i
  pub breaks : (c : ℕ) → since ≡ suc c → (e : LogEntry) × (nth entries c ≡ Some e) × (keeps_tables e.act ≡ false)
  pub from : (a : Act) (q : ℕ) → firsts a ≡ Some q → since ≤ q
  pub until : (a : Act) (q : ℕ) → firsts a ≡ Some q → q < i
  pub has : (a : Act) (q : ℕ) → firsts a ≡ Some q → HasAct entries q a
  pub first : (a : Act) (q : ℕ) → firsts a ≡ Some q → NoneHas entries a since q
  pub none : (a : Act) → firsts a ≡ None → selects_alone a ≡ true → NoneHas entries a since i

pub no_firsts : (entries : List LogEntry) (firsts : Firsts) → ((a : Act) → firsts a ≡ None) → AreFirsts entries firsts 0
no_firsts entries firsts empty = record {
  since = 0;
  low = omega arith;
  calm = λ i e l u at. absurd (omega (arith, l, u));
  breaks = λ c e. absurd (omega (arith, e));
  from = λ a q e. absurd (none_is_not (sym (empty a) ∙ e));
  until = λ a q e. absurd (none_is_not (sym (empty a) ∙ e));
  has = λ a q e. absurd (none_is_not (sym (empty a) ∙ e));
  first = λ a q e. absurd (none_is_not (sym (empty a) ∙ e));
  none = λ a e s j l u h. absurd (omega (arith, l, u));
}

-- ---- the source of the next entry

-- what is like an entry isn't from before the last change
not_before : (entries : List LogEntry) (firsts : Firsts) (i j : ℕ) → (f : AreFirsts entries firsts i) → IsLike entries i j → f.since ≤ j
not_before entries firsts i j f like = by (nat_le f.since j) refl where
  by : (b : Bool) → nat_le f.since j ≡ b → f.since ≤ j
  by true e = leb-true f.since j e
  by false e =
      let below = leb-false f.since j e in
      let c = f.since - 1 in
      let one : f.since ≡ suc c = omega (arith, below) in
      let b = f.breaks c one in
      absurd (true≢false (sym (like.calm c b.0 (omega (arith, below, one)) (omega (arith, one, f.low)) b.1) ∙ b.2))

pub itself : (entries : List LogEntry) (p : ℕ) → IsLike entries p p
itself entries p = record {
  before = omega arith;
  same = λ e f at_e at_f. ap (λ (x : LogEntry). x.act) (some_is (sym at_e ∙ at_f));
  calm = λ i e l u at. absurd (omega (arith, l, u));
}

like_has : (entries : List LogEntry) (i j : ℕ) (e : LogEntry) → nth entries i ≡ Some e → IsLike entries i j → HasAct entries j e.act
like_has entries i j e at like =
    let l : j < length entries = let w = within entries i e at in let b = like.before in omega (arith, w, b) in
    let x = get_or entries j e in
    (x, place entries j e l, like.same x e (place entries j e l) at)

pub next_source : (entries : List LogEntry) (firsts : Firsts) (i : ℕ) (e : LogEntry) → nth entries i ≡ Some e
    → AreFirsts entries firsts i → IsSource entries i (source_by firsts e.act i)
next_source entries firsts i e at f = by (selects_alone e.act) refl where
  own : (b : Bool) → selects_alone e.act ≡ b → (x : LogEntry) → nth entries i ≡ Some x → selects_alone x.act ≡ b
  own b s x at_x = ap (λ (y : LogEntry). selects_alone y.act) (some_is (sym at_x ∙ at)) ∙ s

  found : (o : Option ℕ) → firsts e.act ≡ o → selects_alone e.act ≡ true → IsSource entries i (unwrap_or o i)
  found (Some q) g s = record {
    like = record {
      before = let u = f.until e.act q g in omega (arith, u);
      same = λ x y at_x at_y. let h = f.has e.act q g in
          ap (λ (z : LogEntry). z.act) (some_is (sym at_x ∙ h.1)) ∙ h.2 ∙ ap (λ (z : LogEntry). z.act) (some_is (sym at ∙ at_y));
      calm = λ j x l u at_x. let l2 = f.from e.act q g in f.calm j x (omega (arith, l, l2)) u at_x;
    };
    least = λ x at_x sel j like. at_least q g j like (nat_le q j) refl;
    own = λ x at_x n. absurd (true≢false (sym (own true s x at_x) ∙ n));
  } where
    at_least : (q : ℕ) → firsts e.act ≡ Some q → (j : ℕ) → IsLike entries i j → (b : Bool) → nat_le q j ≡ b → q ≤ j
    at_least q g j like true c = leb-true q j c
    at_least q g j like false c = let below = leb-false q j c in
        absurd (f.first e.act q g j (not_before entries firsts i j f like) (omega (arith, below)) (like_has entries i j e at like))
  found None g s = record {
    like = itself entries i;
    least = λ x at_x sel j like. none_earlier g s j like (nat_le i j) refl;
    own = λ x at_x n. refl;
  } where
    none_earlier : firsts e.act ≡ None → selects_alone e.act ≡ true → (j : ℕ) → IsLike entries i j → (b : Bool) → nat_le i j ≡ b → i ≤ j
    none_earlier g s j like true c = leb-true i j c
    none_earlier g s j like false c = let below = leb-false i j c in
        absurd (f.none e.act g s j (not_before entries firsts i j f like) (omega (arith, below)) (like_has entries i j e at like))

  by : (b : Bool) → selects_alone e.act ≡ b → IsSource entries i (source_by firsts e.act i)
  by true s = subst (λ b. IsSource entries i (cond b (unwrap_or (firsts e.act) i) i)) (sym s) (found (firsts e.act) refl s)
  by false s = subst (λ b. IsSource entries i (cond b (unwrap_or (firsts e.act) i) i)) (sym s) (record {
    like = itself entries i;
    least = λ x at_x sel j like. absurd (true≢false (sym sel ∙ own false s x at_x));
    own = λ x at_x n. refl;
  })

-- ---- one entry more

selects_read : (ss : List Statement) → are_selects ss ≡ true → only_read ss ≡ true
selects_read [] e = refl
selects_read (Insert t row ∷ ss) e = cc
selects_read (Select t columns tests ∷ ss) e = selects_read ss e
selects_read (Update t changes tests ∷ ss) e = cc
selects_read (Delete t tests ∷ ss) e = cc
selects_read (Expect n t tests ∷ ss) e = cc

calm_one : (entries : List LogEntry) (s i : ℕ) (e : LogEntry) → nth entries i ≡ Some e → keeps_tables e.act ≡ true
    → IsCalm entries s i → IsCalm entries s (i + 1)
calm_one entries s i e at k c j x l u at_x =
    last_or (λ j. nth entries j ≡ Some x → s ≤ j → keeps_tables x.act ≡ true) i j u
    (λ same at_x l. ap (λ (y : LogEntry). keeps_tables y.act) (some_is (sym at_x ∙ ap (nth entries) same ∙ at)) ∙ k) (λ less at_x l. c j x l less at_x) at_x l

-- what is told of an act that has come
record Told (entries : List LogEntry) (since i : ℕ) (a : Act) (q : ℕ) : Type 0 where
  pub from : since ≤ q
  pub until : q < i + 1
  pub has : HasAct entries q a
  pub first : NoneHas entries a since q

pub with_more : (entries : List LogEntry) (firsts : Firsts) (i : ℕ) (e : LogEntry) → nth entries i ≡ Some e
    → keeps_tables e.act ≡ true → AreFirsts entries firsts i
    → AreFirsts entries (with_entry firsts e.act i) (i + 1)
with_more entries firsts i e at k f = record {
  since = f.since;
  low = let l = f.low in omega (arith, l);
  calm = calm_one entries f.since i e at k f.calm;
  breaks = f.breaks;
  from = λ a q g. (told a q g).from;
  until = λ a q g. (told a q g).until;
  has = λ a q g. (told a q g).has;
  first = λ a q g. (told a q g).first;
  none = λ a g s. nothing a g s;
} where
  old : (a : Act) (q : ℕ) → firsts a ≡ Some q → Told entries f.since i a q
  old a q g = record { from = f.from a q g; until = let u = f.until a q g in omega (arith, u); has = f.has a q g; first = f.first a q g }

  new : (a : Act) (q : ℕ) → selects_alone e.act ≡ true → e.act ≡ a → (o : Option ℕ) → firsts e.act ≡ o → unwrap_or o i ≡ q → Told entries f.since i a q
  new a q s is (Some n) g r = subst (λ b. Told entries f.since i b q) is (old e.act q (g ∙ ap Some r))
  new a q s is None g r = record {
    from = let l = f.low in omega (arith, l, r);
    until = omega (arith, r);
    has = (e, ap (nth entries) (sym r) ∙ at, is);
    first = λ j l u h. f.none e.act g s j l (omega (arith, u, r)) (subst (HasAct entries j) (sym is) h);
  }

  by : (a : Act) (q : ℕ) (b c : Bool) → selects_alone e.act ≡ b → same_act e.act a ≡ c
      → (if_here : cond (b && c) (Some (cond b (unwrap_or (firsts e.act) i) i)) (firsts a) ≡ Some q)
      → Told entries f.since i a q
  by a q true true s m g = new a q s (act_is e.act a m) (firsts e.act) refl (some_is g)
  by a q true false s m g = old a q g
  by a q false c s m g = old a q g

  told : (a : Act) (q : ℕ) → with_entry firsts e.act i a ≡ Some q → Told entries f.since i a q
  told a q g = by a q (selects_alone e.act) (same_act e.act a) refl refl g

  nothing : (a : Act) → with_entry firsts e.act i a ≡ None → selects_alone a ≡ true → NoneHas entries a f.since (i + 1)
  nothing a g s j l u h = at_none (selects_alone e.act) (same_act e.act a) refl refl g where
    earlier : firsts a ≡ None → (e.act ≡ a → ⊥) → ⊥
    earlier g other = last_or (λ j. f.since ≤ j → HasAct entries j a → ⊥) i j u
        (λ same l h. other (ap (λ (x : LogEntry). x.act) (some_is (sym at ∙ ap (nth entries) (sym same) ∙ h.1)) ∙ h.2))
        (λ less l h. f.none a g s j l less h) l h

    at_none : (b c : Bool) → selects_alone e.act ≡ b → same_act e.act a ≡ c → cond (b && c) (Some (cond b (unwrap_or (firsts e.act) i) i)) (firsts a) ≡ None → ⊥
    at_none true true e1 m g = none_is_not (sym g)
    at_none true false e1 m g = earlier g (λ is. true≢false (sym (subst (λ b. same_act e.act b ≡ true) is (act_itself e.act)) ∙ m))
    at_none false c e1 m g = earlier g (λ is. true≢false (sym s ∙ ap selects_alone (sym is) ∙ e1))

pub after_change : (entries : List LogEntry) (firsts : Firsts) (i : ℕ) (e : LogEntry) → nth entries i ≡ Some e
    → keeps_tables e.act ≡ false → ((a : Act) → firsts a ≡ None)
    → AreFirsts entries firsts (i + 1)
after_change entries firsts i e at k empty = record {
  since = i + 1;
  low = omega arith;
  calm = λ j x l u at_x. absurd (omega (arith, l, u));
  breaks = λ c g. let same : i ≡ c = omega (arith, g) in (e, ap (nth entries) (sym same) ∙ at, k);
  from = λ a q g. absurd (none_is_not (sym (empty a) ∙ g));
  until = λ a q g. absurd (none_is_not (sym (empty a) ∙ g));
  has = λ a q g. absurd (none_is_not (sym (empty a) ∙ g));
  first = λ a q g. absurd (none_is_not (sym (empty a) ∙ g));
  none = λ a g s j l u h. absurd (omega (arith, l, u));
}

-- ---- one source more

pub push_each : (P : ℕ → ℕ → Type 0) (xs ys : List ℕ) (i s : ℕ) → ys ≡ xs ++ s ∷ [] → length xs ≡ i
    → ((p d : ℕ) → p < length xs → P p (get_or xs p d)) → P i s → (p d : ℕ) → p < length ys → P p (get_or ys p d)
push_each P xs ys i s more l all one p d h =
    rw more (⊎_elim (λ same. subst (λ m. P m (get_or (xs ++ s ∷ []) m d)) (sym same) (subst (P (length xs)) (sym (last xs d)) (subst (λ m. P m s) (sym l) one)))
    (λ apart. let low : p < length xs = omega (arith, apart, h, ap (λ (zs : List ℕ). length zs) more, length-append xs (s ∷ [])) in subst (P p) (sym (first xs p d low)) (all p d low)) (cases_eq p (length xs)))
  where
    last : (xs : List ℕ) (d : ℕ) → get_or (xs ++ s ∷ []) (length xs) d ≡ s
    last [] d = refl
    last (x ∷ xs) d = last xs d

    first : (xs : List ℕ) (p d : ℕ) → p < length xs → get_or (xs ++ s ∷ []) p d ≡ get_or xs p d
    first [] p d h = absurd (omega arith)
    first (x ∷ xs) zero d h = refl
    first (x ∷ xs) (suc p) d h = first xs p d (omega arith)

pub after_entry : (entries : List LogEntry) (old mid new : Firsts) (i : ℕ) (e : LogEntry) → nth entries i ≡ Some e
    → AreFirsts entries old i → mid ≡ with_entry old e.act i
    → (keeps_tables e.act ≡ true → new ≡ mid) → (keeps_tables e.act ≡ false → (a : Act) → new a ≡ None) → AreFirsts entries new (i + 1)
after_entry entries old mid new i e at f noted kept lost = by (keeps_tables e.act) refl where
  by : (b : Bool) → keeps_tables e.act ≡ b → AreFirsts entries new (i + 1)
  by true k = subst (λ g. AreFirsts entries g (i + 1)) (sym (kept k ∙ noted)) (with_more entries old i e at k f)
  by false k = after_change entries new i e at k (lost k)
