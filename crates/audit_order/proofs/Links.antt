-- An operation's neighbours in its log.
use Rattle.std.proofs.Common.{◌≡◌, ◌∙◌, ℕ, zero, suc, ◌<◌, ◌≤◌, ◌+◌, List, [], ◌∷◌, length, take, map, Option, Some, None, Bool, true, false, ◌&&◌, cond, nat_eq, inl, inr, refl, ap, sym, subst, arith, true≢false}
use Rattle.std.proofs.lemmas.Bool.{cases_order, cases_eq, cases_lt, eq-eqb, eqb-true, and_parts, and_from}
use Rattle.basis.specs.Lists.{nth, first_answer}
use Rattle.script_tree.specs.Objects.{is_same}
use Rattle.period.specs.Traces.{IsBalanced, request_of}
use Rattle.period.specs.declared.trace.TraceEvent.{TraceEvent}
use Rattle.period.specs.declared.trace.TraceEvent.TheVariants.{Asked}
use Rattle.period.specs.declared.report.Log.{Log}
use Rattle.period.specs.declared.report.LogEntry.{LogEntry}
use Rattle.period.specs.declared.report.Report.{Report}
use Rattle.event_order.specs.declared.graph.Node.{Node as GraphNode}
use Rattle.audit_meaning.specs.EdgesAre.{NeighboursInLog}
use Rattle.audit_meaning.specs.Lists.{last, befores}
use Rattle.audit_meaning.specs.Nodes.{nodes, node_of}
use Rattle.audit_meaning.specs.Spots.{Spot, spots, spots_in, spot_of, if_named, count_of}
use Rattle.audit_meaning.specs.declared.node.Node.{Node}
use Rattle.audit_meaning.specs.declared.node.Node.TheVariants.{Number as step}
use Rattle.audit_meaning.proofs.Checks.{Checked, checked}
use Rattle.audit_meaning.proofs.Checks.{Checked, checked}
use Rattle.audit_meaning.proofs.GraphOrder.{request_there}
use Rattle.audit_meaning.proofs.Places.{in_flat, in_flat_back, first_none, last_take, befores_back}
use Rattle.audit_meaning.proofs.Words.{nth_map, step_request, step_number, same_itself, node_at-step}
use Rattle.basis.proofs.Options.{some_is, none_is_not}
use Rattle.basis.proofs.Places.{nth_within, In, first_some, any_false, nth_take}
use Rattle.log_checker.specs.Entries.{spot_at}
use Rattle.log_checker.specs.OpMaps.{IsMapOf, Points, place_in}
use Rattle.log_checker.specs.declared.op_map.OpMap.{OpMap}
use Rattle.log_checker.proofs.EntryFacts.{nth_spots}
use Rattle.audit_order.specs.Shows.{IsLinked}
use Rattle.audit_order.proofs.Offsets.{once_each}
use Rattle.audit_order.specs.Links.{HasNoFault, HasNode, IsLink}
use Rattle.audit_order.specs.Numbers.{IsNumbering}
use Rattle.audit_order.specs.declared.numbering.Numbering.{Numbering}
use Rattle.audit_order.proofs.Numbered.{place_asked}
use Rattle.audit_order.specs.Shows.{offset}
use Rattle.audit_order.proofs.Offsets.{numbered}
use Rattle.log_checker.proofs.Firsts.{some_at}
use Rattle.period.specs.Traces.{request_in}
use Rattle.std.proofs.Common.{get_or}
use Rattle.trace_index.specs.Places.{request_place}
use Rattle.trace_index.proofs.PlaceFacts.{request_absent}

-- where a spot stands in the logs
record At (report : Report) (s : Spot) : Type 0 where
  number : ℕ
  log : Log
  logged : nth report.logs number ≡ Some log
  position : ℕ
  entry : LogEntry
  holds : nth log.entries position ≡ Some entry
  is : s ≡ spot_at log.object (take position log.entries) entry

spot_placed : (report : Report) (s : Spot) (i : ℕ) → nth (spots report.logs) i ≡ Some s → At report s
spot_placed report s i e =
    let f = in_flat_back spots_in report.logs s i e in
    let m = nth_map (λ b. spot_at f.0.object b.0 b.1) (befores f.0.entries) f.2.0 s f.2.1 in
    let c = befores_back f.0.entries f.2.0 m.0 m.1 in
    record {
      number = f.1.0;
      log = f.0;
      logged = f.1.1;
      position = f.2.0;
      entry = m.0.1;
      holds = c.0;
      is = sym m.2
          ∙ ap (λ past. spot_at f.0.object past m.0.1) (sym c.1);
    }

pub spot_there : (report : Report) (i j : ℕ) (log : Log) (e : LogEntry) → nth report.logs i ≡ Some log
    → nth log.entries j ≡ Some e → In (spots report.logs) (spot_at log.object (take j log.entries) e)
spot_there report i j log e at holds = in_flat spots_in report.logs log (spot_at log.object (take j log.entries) e) i at (j, nth_spots log j e holds)

length_take : {A : Type 0} (xs : List A) (n : ℕ) (x : A) → nth xs n ≡ Some x → length (take n xs) ≡ n
length_take [] n x at = absurd (none_is_not at)
length_take (y ∷ xs) zero x at = refl
length_take (y ∷ xs) (suc n) x at = ap suc (length_take xs n x at)

zero_take : (xs : List LogEntry) → last (take 0 xs) ≡ None
zero_take [] = refl
zero_take (x ∷ xs) = refl

nth_some : (xs : List LogEntry) (i : ℕ) → i < length xs → (x : LogEntry) × (nth xs i ≡ Some x)
nth_some [] i lt = absurd (omega arith)
nth_some (x ∷ xs) zero lt = (x, refl)
nth_some (x ∷ xs) (suc i) lt = nth_some xs i (omega arith)

-- the entry before a place
last_is : (xs : List LogEntry) (p : ℕ) (e f : LogEntry) → nth xs p ≡ Some f → last (take p xs) ≡ Some e → (j : ℕ) × (nth xs j ≡ Some e) × (p ≡ suc j)
last_is xs zero e f here l = absurd (none_is_not (sym (zero_take xs) ∙ l))
last_is xs (suc j) e f here l =
    let lt = nth_within xs (suc j) f here in
    let g = nth_some xs j (omega (arith, lt)) in
    (j, g.1 ∙ sym (last_take xs j g.0 g.1) ∙ l, refl)

before_entry : (report : Report) (s : Spot) (at : At report s) (e : LogEntry) → last s.past ≡ Some e
    → (j : ℕ) × (nth at.log.entries j ≡ Some e) × (at.position ≡ suc j)
before_entry report s at e is = last_is at.log.entries at.position e at.entry at.holds (ap (λ (t : Spot). last t.past) (sym at.is) ∙ is)

named_is : (t : Bool) (x s : Spot) → cond t (Some x) None ≡ Some s → (t ≡ true) × (x ≡ s)
named_is true x s e = (refl, some_is e)
named_is false x s e = absurd (none_is_not e)

module _ (trace : List TraceEvent) (report : Report) (b : IsBalanced trace) (h : HasNoFault trace report) where
  abbrev facts : Checked h.program h.start trace report
  facts = checked h.program h.start trace report h.none

  pub entry_operation : (i j : ℕ) (log : Log) (e : LogEntry) → nth report.logs i ≡ Some log → nth log.entries j ≡ Some e → HasNode trace report e.rid e.number
  entry_operation i j log e at holds =
      let s = spot_there report i j log e at holds in
      let p = facts.passes s.0 (spot_at log.object (take j log.entries) e) s.1 in
      let asked = request_there trace e.rid p.in_trace.0 p.in_trace.1 in
      record { place = asked.0; request = p.in_trace.0; asked = asked.1; within = p.counted }

  spots_once : (s t : Spot) (i j : ℕ) → nth (spots report.logs) i ≡ Some s → nth (spots report.logs) j ≡ Some t
      → s.entry.rid ≡ t.entry.rid → s.entry.number ≡ t.entry.number → s ≡ t
  spots_once s t i j es et er en = elim (cases_order i j) [
    | inl same ↦ some_is (sym es ∙ ap (nth (spots report.logs)) same ∙ et)
    | inr (inl less) ↦ absurd (clash s t i j es et er en less)
    | inr (inr more) ↦ absurd (clash t s j i et es (sym er) (sym en) more)
  ]
    where
      clash : (s t : Spot) (i j : ℕ) → nth (spots report.logs) i ≡ Some s → nth (spots report.logs) j ≡ Some t
          → s.entry.rid ≡ t.entry.rid → s.entry.number ≡ t.entry.number → i < j → ⊥
      clash s t i j es et er en lt =
          let p = facts.passes j t et in
          let no = any_false (λ u. nat_eq t.entry.rid u.entry.rid && nat_eq t.entry.number u.entry.number) (take j (spots report.logs)) i s p.alone (nth_take (spots report.logs) j i s lt es) in
          true≢false (sym (and_from (nat_eq t.entry.rid s.entry.rid) (nat_eq t.entry.number s.entry.number) (eq-eqb _ _ (sym er)) (eq-eqb _ _ (sym en))) ∙ no)

  one_log : (i j : ℕ) (l m : Log) → nth report.logs i ≡ Some l → nth report.logs j ≡ Some m → l.object ≡ m.object → l ≡ m
  one_log i j l m el em same = elim (cases_order i j) [
    | inl e ↦ some_is (sym el ∙ ap (nth report.logs) e ∙ em)
    | inr (inl less) ↦ absurd (facts.one_each i j l m el em (ap (λ o. is_same o m.object) same ∙ same_itself m.object) less)
    | inr (inr more) ↦ absurd (facts.one_each j i m l em el (ap (λ o. is_same o l.object) (sym same) ∙ same_itself l.object) more)
  ]

  -- no entry is an arrival's
  pub no_entry : (r : ℕ) → spot_of report r 0 ≡ None
  unfolding spot_of
  no_entry r = go (first_answer (if_named r 0) (spots report.logs)) refl
    where
      go : (o : Option Spot) → first_answer (if_named r 0) (spots report.logs) ≡ o → o ≡ None
      go None e = refl
      go (Some s) e =
          let f = first_some (if_named r 0) (spots report.logs) s e in
          let n = named_is (nat_eq r f.0.entry.rid && nat_eq 0 f.0.entry.number) f.0 s f.2 in
          let zero = eqb-true 0 f.0.entry.number (and_parts (nat_eq r f.0.entry.rid) (nat_eq 0 f.0.entry.number) n.0).1 in
          let p = facts.passes f.1.0 f.0 f.1.1 in
          let positive = p.positive in
          absurd (omega (arith, zero, positive))

  -- no entry is this operation's
  pub unlinked : (r k : ℕ) (v : GraphNode) → spot_of report r k ≡ None → v.log_before ≡ None → v.log_after ≡ None
      → IsLinked report (nodes trace report) (step r k) v
  unfolding spot_of
  unlinked r k v none no_before no_after = record {
    before = λ y e. absurd (none_is_not (sym no_before ∙ e));
    before_back = λ y c ey nb. absurd (never nb.spot nb.stands (step_request nb.later) (step_number nb.later));
    after = λ z c ez nb.
        let at = spot_placed report nb.spot nb.stands.0 nb.stands.1 in
        let e = before_entry report nb.spot at nb.before nb.last_before in
        let t = spot_there report at.number e.0 at.log nb.before at.logged e.1 in
        absurd (never (spot_at at.log.object (take e.0 at.log.entries) nb.before) t (step_request nb.earlier) (step_number nb.earlier));
    after_inside = λ z e. absurd (none_is_not (sym no_after ∙ e));
  }
    where
      never : (s : Spot) → In (spots report.logs) s → r ≡ s.entry.rid → k ≡ s.entry.number → ⊥
      never s m er ek = none_is_not (sym (first_none (if_named r k) (spots report.logs) m.0 s none m.1)
          ∙ ap (λ t. cond t (Some s) None) (and_from (nat_eq r s.entry.rid) (nat_eq k s.entry.number) (eq-eqb _ _ er)
          (eq-eqb _ _ ek)))

  module _ (r k number position : ℕ) (log : Log) (e : LogEntry) (logged : nth report.logs number ≡ Some log)
      (holds : nth log.entries position ≡ Some e)
      (found : spot_of report r k ≡ Some (spot_at log.object (take position log.entries) e))
      (bl al : Option ℕ) (no_before : position ≡ 0 → bl ≡ None)
      (before_link : (j : ℕ) (f : LogEntry) → position ≡ suc j → nth log.entries j ≡ Some f
      → IsLink (nodes trace report) r f bl)
      (no_after : length log.entries ≤ suc position → al ≡ None) (after_link : (f : LogEntry) → nth log.entries (suc position) ≡ Some f → IsLink (nodes trace report) r f al) where
    abbrev here : Spot
    here = spot_at log.object (take position log.entries) e

    stands : In (spots report.logs) here
    stands = spot_there report number position log e logged holds

    own : (r ≡ e.rid) × (k ≡ e.number)
    unfolding spot_of
    own =
        let f = first_some (if_named r k) (spots report.logs) here found in
        let n = named_is (nat_eq r f.0.entry.rid && nat_eq k f.0.entry.number) f.0 here f.2 in
        let p = and_parts (nat_eq r f.0.entry.rid) (nat_eq k f.0.entry.number) n.0 in
        (eqb-true r f.0.entry.rid p.0 ∙ ap (λ (s : Spot). s.entry.rid) n.1, eqb-true k f.0.entry.number p.1 ∙ ap (λ (s : Spot). s.entry.number) n.1)

    name : step r k ≡ node_of e
    name = λ i. step (own.0 i) (own.1 i)

    same_spot : (s : Spot) → In (spots report.logs) s → r ≡ s.entry.rid → k ≡ s.entry.number → s ≡ here
    same_spot s m er ek = spots_once s here m.0 stands.0 m.1 stands.1 (sym er ∙ own.0) (sym ek ∙ own.1)

    linked_before : (y : ℕ) → bl ≡ Some y → (c : Node) × (nth (nodes trace report) y ≡ Some c) × NeighboursInLog report c (step r k)
    linked_before y is = go position refl
      where
        go : (p : ℕ) → position ≡ p → (c : Node) × (nth (nodes trace report) y ≡ Some c) × NeighboursInLog report c (step r k)
        go zero at = absurd (none_is_not (sym (no_before at) ∙ is))
        go (suc j) at =
            let lt = nth_within log.entries position e holds in
            let f = nth_some log.entries j (omega (arith, lt, at)) in
            let link = before_link j f.0 at f.1 in
            elim (cases_eq f.0.rid r) [
              | inl same ↦ absurd (none_is_not (sym (link.own same) ∙ is))
              | inr differ ↦
                  let o = link.other differ in (
                    node_of f.0,
                    subst (λ n. nth (nodes trace report) n ≡ Some (node_of f.0)) (some_is (sym o.1 ∙ is)) o.2,
                    record {
                      spot = here;
                      stands = stands;
                      before = f.0;
                      last_before = ap (λ n. last (take n log.entries)) at ∙ last_take log.entries j f.0 f.1;
                      differ = λ q. differ (q ∙ sym own.0);
                      earlier = refl;
                      later = name;
                    },
                  )
            ]

    linked_back : (y : ℕ) (c : Node) → nth (nodes trace report) y ≡ Some c → NeighboursInLog report c (step r k) → bl ≡ Some y
    linked_back y c ey nb =
        let same = same_spot nb.spot nb.stands (step_request nb.later) (step_number nb.later) in
        let f = last_is log.entries position nb.before e holds (ap (λ (s : Spot). last s.past) (sym same) ∙ nb.last_before) in
        let differ : nb.before.rid ≡ r → ⊥ = λ q. nb.differ (q ∙ step_request nb.later) in
        let o = (before_link f.0 nb.before f.2 f.1).other differ in
        o.1 ∙ ap (λ n. Some n) (once_each report trace b c o.0 y (o.2 ∙ ap (λ n. Some n) (sym nb.earlier)) ey)

    linked_after : (z : ℕ) (c : Node) → nth (nodes trace report) z ≡ Some c → NeighboursInLog report (step r k) c → al ≡ Some z
    linked_after z c ez nb =
        let at = spot_placed report nb.spot nb.stands.0 nb.stands.1 in
        let f = before_entry report nb.spot at nb.before nb.last_before in
        let there = spot_there report at.number f.0 at.log nb.before at.logged f.1 in
        let same = same_spot (spot_at at.log.object (take f.0 at.log.entries) nb.before) there (step_request nb.earlier) (step_number nb.earlier) in
        let logs : at.log ≡ log = one_log at.number number at.log log at.logged logged (ap (λ (s : Spot). s.object) same) in
        let places : f.0 ≡ position = sym (length_take at.log.entries f.0 nb.before f.1) ∙ ap (λ (s : Spot). length s.past) same ∙ length_take log.entries position e holds in
        let next : nth log.entries (suc position) ≡ Some nb.spot.entry =
        ap (nth log.entries) (sym (f.2 ∙ ap suc places)) ∙ ap (λ (l : Log). nth l.entries at.position) (sym logs)
        ∙ at.holds ∙ ap (λ n. Some n) (ap (λ (s : Spot). s.entry) (sym at.is)) in
        let differ : nb.spot.entry.rid ≡ r → ⊥ = λ q. nb.differ (sym (step_request nb.earlier) ∙ sym q) in
        let o = (after_link nb.spot.entry next).other differ in
        o.1 ∙ ap (λ n. Some n) (once_each report trace b c o.0 z (o.2 ∙ ap (λ n. Some n) (sym nb.later)) ez)

    linked_inside : (z : ℕ) → al ≡ Some z → z < length (nodes trace report)
    linked_inside z is = elim (cases_lt (suc position) (length log.entries)) [
      | inl less ↦
          let f = nth_some log.entries (suc position) less in
          let link = after_link f.0 f.1 in
          elim (cases_eq f.0.rid r) [
            | inl same ↦ absurd (none_is_not (sym (link.own same) ∙ is))
            | inr differ ↦ let o = link.other differ in subst (λ n. n < length (nodes trace report)) (some_is (sym o.1 ∙ is)) (nth_within (nodes trace report) o.0 (node_of f.0) o.2)
          ]
      | inr more ↦ absurd (none_is_not (sym (no_after more) ∙ is))
    ]

    pub linked : (v : GraphNode) → v.log_before ≡ bl → v.log_after ≡ al → IsLinked report (nodes trace report) (step r k) v
    linked v eb ea = record {
      before = λ y is. linked_before y (sym eb ∙ is);
      before_back = λ y c ey nb. eb ∙ linked_back y c ey nb;
      after = λ z c ez nb. ea ∙ linked_after z c ez nb;
      after_inside = λ z is. linked_inside z (sym ea ∙ is);
    }

-- ---- numbers

pub operation_number : (trace : List TraceEvent) (report : Report) (n : Numbering) (r k p o : ℕ)
    → IsNumbering trace report n → HasNode trace report r k → request_place trace r ≡ Some p
    → o ≡ get_or n.offsets.items p o → nth (nodes trace report) (o + k) ≡ Some (step r k)
operation_number trace report n r k p o h op at read =
    let asked = place_asked trace r p at in
    let lt = nth_within trace p (Asked r asked.0) asked.1 in
    let is : o ≡ offset trace report p = some_is (sym (some_at n.offsets.items p o (omega (arith, lt, h.count)) read) ∙ h.offsets p lt) in
    let within = op.within in
    ap (λ m. nth (nodes trace report) (m + k)) is
    ∙ numbered report trace p r k asked.0 asked.1 (omega (arith, within))
    ∙ ap (λ m. Some m) (node_at-step (count_of report r) r k within)

pub no_place : (trace : List TraceEvent) (report : Report) (r k : ℕ) → HasNode trace report r k → request_place trace r ≡ None → ⊥
unfolding request_of
no_place trace report r k op none = none_is_not
    (sym (first_none (request_in r) trace op.place (Asked r op.request) (request_absent r trace none) op.asked)
    ∙ ap (λ t. cond t (Some op.request) None) (eq-eqb r r refl))

-- ---- what the map tells

-- the entry of an operation, where it stands
pub record Pointed (report : Report) (r k : ℕ) (place : ℕ × ℕ) : Type 0 where
  pub log : Log
  pub logged : nth report.logs place.0 ≡ Some log
  pub entry : LogEntry
  pub holds : nth log.entries place.1 ≡ Some entry
  pub found : spot_of report r k ≡ Some (spot_at log.object (take place.1 log.entries) entry)

pub pointed : (report : Report) (map : OpMap) (r k : ℕ) (place : ℕ × ℕ) → IsMapOf report map → place_in map r k ≡ Some place → Pointed report r k place
pointed report map r k place h e =
    let p = subst (λ o. Points report.logs o (spot_of report r k)) e (h.places r k) in
    record { log = p.2.log; logged = p.2.stands; entry = p.2.entry; holds = p.2.holds; found = p.1 ∙ ap (λ s. Some s) p.2.is }

pub unpointed : (report : Report) (map : OpMap) (r k : ℕ) → IsMapOf report map → place_in map r k ≡ None → spot_of report r k ≡ None
unpointed report map r k h e = subst (λ o. Points report.logs o (spot_of report r k)) e (h.places r k)

pub same_log : (report : Report) (r k : ℕ) (place : ℕ × ℕ) (p : Pointed report r k place) (logs : List Log) (l : Log)
    → logs ≡ report.logs → l ≡ get_or logs place.0 l → l ≡ p.log
same_log report r k place p logs l same read =
    let lt = nth_within report.logs place.0 p.log p.logged in
    some_is (sym (ap (λ xs. nth xs place.0) (sym same) ∙ some_at logs place.0 l (omega (arith, lt, ap length same)) read) ∙ p.logged)
