-- Logs by their objects, and entries by their places.
use Rattle.std.proofs.Common.{◌≡◌, ℕ, ◌<◌, Bool, true, false, ◌&&◌, cond, List, [], length, take, Some, None, Option, inl, inr, refl, sym, ap, subst, ◌∙◌, true≢false, nat_eq, length-take-le, le_of_lt, unwrap_or}
use Rattle.std.proofs.lemmas.Bool.{cases_order, eqb-true, eq-eqb, and_from, and_parts}
use Rattle.script_tree.specs.Programs.{Program}
use Rattle.script_tree.specs.declared.operation.Object.{Object}
use Rattle.basis.specs.Lists.{nth, first_answer}
use Rattle.basis.proofs.Options.{some_is, none_is_not}
use Rattle.basis.proofs.Places.{nth_within, In, first_some, any_false, nth_take}
use Rattle.audit_meaning.specs.Lists.{befores}
use Rattle.period.specs.declared.trace.TraceEvent.{TraceEvent}
use Rattle.period.specs.declared.report.LogEntry.{LogEntry}
use Rattle.period.specs.declared.report.Log.{Log}
use Rattle.period.specs.declared.report.Report.{Report}
use Rattle.script_tree.specs.Objects.{Objects, is_same}
use Rattle.audit_meaning.specs.Spots.{Spot, spots, spots_in, spot_of, if_named}
use Rattle.audit_meaning.specs.Nodes.{step, node_of, log_of, if_of}
use Rattle.audit_meaning.proofs.Words.{same_itself, step_request, step_number}
use Rattle.script_fit.proofs.Stay.{same_object}
use Rattle.audit_meaning.proofs.Places.{in_map, in_map_back, in_flat, in_flat_back, first_none, befores_at, befores_back}
use Rattle.audit_meaning.proofs.Checks.{Checked}

if_of_some : (o : Object) (l : Log) (es : List LogEntry) → if_of o l ≡ Some es → (o ≡ l.object) × (l.entries ≡ es)
if_of_some o l es e = go (is_same o l.object) refl e
  where
    go : (b : Bool) → is_same o l.object ≡ b → cond b (Some l.entries) None ≡ Some es → (o ≡ l.object) × (l.entries ≡ es)
    go true p h = (same_object o l.object p, some_is h)
    go false p h = absurd (none_is_not h)

if_of_itself : (l : Log) → if_of l.object l ≡ Some l.entries
if_of_itself l = ap (λ b. cond b (Some l.entries) None) (same_itself l.object)

if_named_some : (r k : ℕ) (s t : Spot) → if_named r k s ≡ Some t → (s ≡ t) × (r ≡ s.entry.rid) × (k ≡ s.entry.number)
if_named_some r k s t e = go (nat_eq r s.entry.rid && nat_eq k s.entry.number) refl e
  where
    go : (b : Bool) → (nat_eq r s.entry.rid && nat_eq k s.entry.number) ≡ b → cond b (Some s) None ≡ Some t → (s ≡ t) × (r ≡ s.entry.rid) × (k ≡ s.entry.number)
    go true p h = let q = and_parts (nat_eq r s.entry.rid) (nat_eq k s.entry.number) p in (some_is h, eqb-true r s.entry.rid q.0, eqb-true k s.entry.number q.1)
    go false p h = absurd (none_is_not h)

-- a log in a report
abbrev LogAt : Report → Object → List LogEntry → Type 0
LogAt R o es = (l : Log) × (In R.logs l) × (o ≡ l.object) × (l.entries ≡ es)

pub log_there : (R : Report) (o : Object) (i : ℕ) (e : LogEntry) → nth (log_of R o) i ≡ Some e → LogAt R o (log_of R o)
unfolding log_of
log_there R o i e h = go (first_answer (if_of o) R.logs) refl h
  where
    go : (x : Option (List LogEntry)) → first_answer (if_of o) R.logs ≡ x → nth (unwrap_or x []) i ≡ Some e → LogAt R o (unwrap_or x [])
    go None p q = absurd (none_is_not q)
    go (Some es) p q =
        let found = first_some (if_of o) R.logs es p in
        let is = if_of_some o found.0 es found.2 in
        (found.0, found.1, is.0, is.1)

-- an entry of an object's log stands among the spots
pub spot_here : (R : Report) (o : Object) (i : ℕ) (e : LogEntry) → nth (log_of R o) i ≡ Some e
    → In (spots R.logs) (record { object = o; past = take i (log_of R o); entry = e })
spot_here R o i e h =
    let there = log_there R o i e h in
    let l = there.0 in
    let at_i : nth l.entries i ≡ Some e = ap (λ es. nth es i) there.3 ∙ h in
    let in_log : In (spots_in l) (record { object = l.object; past = take i l.entries; entry = e }) =
    in_map (λ b. record { object = l.object; past = b.0; entry = b.1 }) (befores l.entries) (take i l.entries, e) (i, befores_at l.entries i e at_i) in
    let in_all = in_flat spots_in R.logs l (record { object = l.object; past = take i l.entries; entry = e }) there.1.0 there.1.1 in_log in
    subst (λ o. In (spots R.logs) (record { object = o; past = take i (log_of R (o_of o)); entry = e })) refl
    (subst (λ es. In (spots R.logs) (record { object = o; past = take i es; entry = e })) there.3
    (subst (λ x. In (spots R.logs) (record { object = x; past = take i l.entries; entry = e })) (sym there.2) in_all))
  where
    o_of : Object → Object
    o_of x = o

module _ (P : Program) (O : Objects) (T : List TraceEvent) (R : Report) (checked : Checked P O T R) where
  one_log_each : (i j : ℕ) (l m : Log) → nth R.logs i ≡ Some l → nth R.logs j ≡ Some m → l.object ≡ m.object → l ≡ m
  one_log_each i j l m at_i at_j e = elim (cases_order i j) [
    | inl p ↦ some_is (sym at_i ∙ ap (nth R.logs) p ∙ at_j)
    | inr (inl less) ↦ absurd (checked.one_each i j l m at_i at_j (subst (λ o. is_same l.object o ≡ true) e (same_itself l.object)) less)
    | inr (inr more) ↦ absurd (checked.one_each j i m l at_j at_i (subst (λ o. is_same m.object o ≡ true) (sym e) (same_itself m.object)) more)
  ]

  -- a log is that of its object
  log_is : (i : ℕ) (l : Log) → nth R.logs i ≡ Some l → log_of R l.object ≡ l.entries
  unfolding log_of
  log_is i l at_i = go (first_answer (if_of l.object) R.logs) refl
    where
      go : (x : Option (List LogEntry)) → first_answer (if_of l.object) R.logs ≡ x → unwrap_or x [] ≡ l.entries
      go None p = absurd (none_is_not (sym (first_none (if_of l.object) R.logs i l p at_i) ∙ if_of_itself l))
      go (Some es) p =
          let found = first_some (if_of l.object) R.logs es p in
          let is = if_of_some l.object found.0 es found.2 in
          sym is.1 ∙ ap (λ m. m.entries) (one_log_each found.1.0 i found.0 l found.1.1 at_i (sym is.0))

  -- a spot is an entry of its object's log, and what stands before it there
  pub spot_stands : (j : ℕ) (s : Spot) → nth (spots R.logs) j ≡ Some s
      → (nth (log_of R s.object) (length s.past) ≡ Some s.entry) × (take (length s.past) (log_of R s.object) ≡ s.past)
  spot_stands j s at_j =
      let from = in_flat_back spots_in R.logs s j at_j in
      let l = from.0 in
      let b = in_map_back (λ b. record { object = l.object; past = b.0; entry = b.1 }) (befores l.entries) s from.2 in
      let back = befores_back l.entries b.1.0 b.0 b.1.1 in
      let log : log_of R l.object ≡ l.entries = log_is from.1.0 l from.1.1 in
      let size : length b.0.0 ≡ b.1.0 = ap length (sym back.1) ∙ length-take-le b.1.0 l.entries (le_of_lt (nth_within l.entries b.1.0 b.0.1 back.0)) in
      subst (λ t. (nth (log_of R t.object) (length t.past) ≡ Some t.entry) × (take (length t.past) (log_of R t.object) ≡ t.past)) b.2 (
        ap (λ n. nth (log_of R l.object) n) size ∙ ap (λ es. nth es b.1.0) log ∙ back.0,
        ap (λ n. take n (log_of R l.object)) size ∙ ap (take b.1.0) log ∙ back.1,
      )

  -- one operation has one spot
  pub one_spot : (i j : ℕ) (s t : Spot) → nth (spots R.logs) i ≡ Some s → nth (spots R.logs) j ≡ Some t → node_of s.entry ≡ node_of t.entry → s ≡ t
  one_spot i j s t at_i at_j e = elim (cases_order i j) [
    | inl p ↦ some_is (sym at_i ∙ ap (nth (spots R.logs)) p ∙ at_j)
    | inr (inl less) ↦ absurd (clash i j s t at_i at_j e less)
    | inr (inr more) ↦ absurd (clash j i t s at_j at_i (sym e) more)
  ]
    where
      clash : (i j : ℕ) (s t : Spot) → nth (spots R.logs) i ≡ Some s → nth (spots R.logs) j ≡ Some t → node_of s.entry ≡ node_of t.entry → i < j → ⊥
      clash i j s t at_i at_j e less =
          true≢false (
          sym (and_from (nat_eq t.entry.rid s.entry.rid) (nat_eq t.entry.number s.entry.number)
          (eq-eqb _ _ (sym (step_request e))) (eq-eqb _ _ (sym (step_number e))))
          ∙ any_false (λ x. nat_eq t.entry.rid x.entry.rid && nat_eq t.entry.number x.entry.number)
          (take j (spots R.logs)) i s (checked.passes j t at_j).alone (nth_take (spots R.logs) j i s less at_i))

  pub found : (r k : ℕ) (s : Spot) → spot_of R r k ≡ Some s → (In (spots R.logs) s) × (node_of s.entry ≡ step r k)
  unfolding spot_of
  found r k s h =
      let f = first_some (if_named r k) (spots R.logs) s h in
      let is = if_named_some r k f.0 s f.2 in
      (subst (In (spots R.logs)) is.0 f.1, subst (λ t. node_of t.entry ≡ step r k) is.0 (λ i. step (sym is.1 i) (sym is.2 i)))
