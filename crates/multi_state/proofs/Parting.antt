-- Members of a group that part.
use Rattle.std.proofs.Common.{◌≡◌, ◌∙◌, ◌<◌, ℕ, Bool, true, false, true≢false, List, [], ◌∷◌, ◌++◌, length, None, Result, Ok, Err, refl, sym, ap, subst, arith}
use Rattle.std.proofs.lemmas.List.{length-map}
use Rattle.script_tree.specs.Alike.{same_datum}
use Rattle.script_tree.specs.Datum.{Datum, bool}
use Rattle.script_tree.specs.Requests.{Request}
use Rattle.script_tree.specs.declared.fault.ScriptFault.{ScriptFault}
use Rattle.script_tree.specs.declared.fault.ScriptFault.TheVariants.{TooLarge}
use Rattle.script_tree.specs.declared.operation.Op.{Op}
use Rattle.script_meaning.proofs.ValueFaults.{not_steps}
use Rattle.script_meaning.specs.Evaluate.{Flow}
use Rattle.script_meaning.specs.Run.{Progress, Ran, Run, goes, stops, after, ◌>>=◌}
use Rattle.script_meaning.specs.declared.run.Stop.TheVariants.{Fault as fault}
use Rattle.script_nodes.specs.Evaluated.{gone_on}
use Rattle.script_nodes.specs.NodeLaws.{noted}
use Rattle.script_nodes.specs.declared.primitive.Primitive.{Primitive}
use Rattle.script_nodes.proofs.ValueFaults.{nodes_fail_by_values}
use Rattle.group_laws.specs.Nodes.{GoesOn, LacksFaults}
use Rattle.group_laws.specs.Shown.{shown_of}
use Rattle.group_laws.specs.Steady.{IsSteady, no_fault}
use Rattle.group_laws.proofs.NodesGive.{gave, lacks_none}
use Rattle.group_laws.proofs.NodesPart.{nodes_show}
use Rattle.group_laws.proofs.Onward.{noting}
use Rattle.group_laws.proofs.Parting.{parting_shows}
use Rattle.group_laws.proofs.Same.{value_itself}
use Rattle.multivalue.specs.Many.{Many, member_value}
use Rattle.multivalue.specs.declared.apart.Apart.{Apart}
use Rattle.multivalue.specs.declared.apart.Apart.TheVariants.{Memory, Fault, Differ}
use Rattle.multi_bodies.specs.BodiesOf.{body_at}
use Rattle.multi_bodies.specs.Printing.{PrintsAll, SomeLackRoom}
use Rattle.multi_nodes.specs.Answers.{Part}
use Rattle.multi_nodes.specs.Charges.{cost_at}
use Rattle.multi_nodes.specs.Members.{answer_at, is_shared, members_at, request_at}
use Rattle.multi_nodes.proofs.Below.{below_not}
use Rattle.multi_state.specs.AllDo.{Comes, DecisionsPart, NodesPart, node_at}
use Rattle.multi_state.specs.Parting.{Parts}
use Rattle.multi_state.specs.Progress.{Charges, Unseen, bare, marks_of, progress_at}
use Rattle.multi_state.specs.Spending.{AllPrint, NotesPart, PrintsPart, Spends}
use Rattle.multi_state.specs.declared.account.Account.{Account}
use Rattle.multi_state.specs.declared.account.BareMark.{BareMark}
use Rattle.multi_state.proofs.Marks.{bare_marks}

-- one part behind two others
pub after_both : {A B C : Type 0} (o : Ran A) (f : A → Run B) (g : B → Run C) → after (after o f) g ≡ after o (λ a p. after (f a p) g)
after_both (goes a p) f g = refl
after_both (stops e p) f g = refl

-- Where runs are others at another place, of members that part there, they part.
module _ (J K : Type 0) (n : ℕ) (run : J → ℕ → Run Flow) (steady : J → ℕ → Type 0) (whole : K → ℕ → Run Flow) (fine : K → ℕ → Type 0)
    (there here : Account) (f : K → ℕ → J) (g : Charges → Charges) where
  pub parts_so : ((b : K) (i : ℕ) → i < n → fine b i → steady (f b i) i)
      → ((b : K) (cs : Charges) (i : ℕ) → i < n → (u : Unseen) → whole b i (progress_at here cs i u) ≡ run (f b i) i (progress_at there (g cs) i u))
      → Parts J n run steady there → Parts K n whole fine here
  parts_so s is h = record {
    one = h.one;
    other = h.other;
    one' = h.one';
    other' = h.other';
    stand' = λ a b x y cs u v same.
        h.stand' (f a h.one) (f b h.other) (s a h.one h.one' x) (s b h.other h.other' y) (g cs) u v
        (sym (ap shown_of (is a cs h.one h.one' u)) ∙ same ∙ ap shown_of (is b cs h.other h.other' v));
  }

-- as many marks as the trail has
as_long : (ts : List BareMark) (ops : List Op) → length (marks_of ts ops) ≡ length ts
as_long ts ops = sym (length-map (marks_of ts ops) bare) ∙ ap length (bare_marks ts ops)

as_many : (a : Account) (cs : Charges) (i j : ℕ) (u v : Unseen) → length (progress_at a cs i u).trail ≡ length (progress_at a cs j v).trail
as_many a cs i j u v = as_long a.trail.items u.ops ∙ sym (as_long a.trail.items v.ops)

-- ---- nodes

module _ (qs : List Request) (p : Primitive) (ms : List Many) (old : Account) where
  -- what each member does after its node
  pub nodes_part : (K : Type 0) (faults : ScriptFault → Bool) (rest : K → ℕ → Datum → Run Flow) (whole : K → ℕ → Run Flow) (fine : K → ℕ → Type 0)
      → ((i : ℕ) → i < length qs → LacksFaults faults (answer_at qs p ms i))
      → ((b : K) (i : ℕ) → i < length qs → fine b i → GoesOn faults (answer_at qs p ms i) (rest b i))
      → ((b : K) (i : ℕ) (r : Progress) → whole b i r ≡ after (node_at qs p ms i r) (rest b i))
      → NodesPart qs p ms old → Parts K (length qs) whole fine old
  nodes_part K faults rest whole fine lacks s is h =
      parts_so (Datum → Run Flow) K (length qs) (λ onward i. node_at qs p ms i >>= onward) (λ onward i. GoesOn faults (answer_at qs p ms i) onward)
      whole fine old old rest (λ cs. cs) s (λ b cs i lt u. is b i (progress_at old cs i u)) (h faults lacks)

  -- a node at which they part, of which a step was spent
  pub node_parts : (new : Account) → Spends old new true → Part (length qs) (answer_at qs p ms) → NodesPart qs p ms old
  node_parts new spends part faults lacks =
      let i = part.0 in
      let some : 0 < length qs = omega (arith, part.1) in
      let cost = cost_at qs p ms in
      record {
        one = i;
        other = 0;
        one' = part.1;
        other' = some;
        stand' = λ onward elsewhere s t cs u v same.
            nodes_show faults (answer_at qs p ms i) (answer_at qs p ms 0) onward elsewhere (progress_at new (cost ∷ cs) i u) (progress_at new (cost ∷ cs) 0 v)
            (nodes_fail_by_values (request_at qs i) p (members_at i ms)) (nodes_fail_by_values (request_at qs 0) p (members_at 0 ms)) (lacks i part.1) (lacks 0 some) s t refl (as_many new (cost ∷ cs) i 0 u v) part.2
            (sym (spent onward i cs u) ∙ same ∙ spent elsewhere 0 cs v);
      }
    where
      spent : (onward : Datum → Run Flow) (i : ℕ) (cs : Charges) (u : Unseen)
          → shown_of ((node_at qs p ms i >>= onward) (progress_at old cs i u))
          ≡ shown_of ((gone_on (answer_at qs p ms i) >>= onward) (progress_at new (cost_at qs p ms ∷ cs) i u))
      spent onward i cs u =
          ap (λ o. shown_of (after (after o (λ _. gone_on (answer_at qs p ms i))) onward)) (spends.1 (cost_at qs p ms) cs i u)

  -- ---- decisions

  pub decisions_part : NodesPart qs p ms old → DecisionsPart qs p ms old
  decisions_part h truths =
      nodes_part (Bool → Run Flow) no_fault (λ onward i d. noted d >>= onward) (λ onward i. node_at qs p ms i >>= noted >>= onward)
      (λ onward i. (b : Bool) → IsSteady (onward b)) (λ i lt. lacks_none (answer_at qs p ms i))
      (λ onward i lt steady d may. let t = truths i lt d may in subst (λ x. IsSteady (noted x >>= onward)) (sym t.1) (noting t.0 onward (steady t.0)))
      (λ onward i r. after_both (node_at qs p ms i r) noted onward) h

  -- where the nodes have values
  pub noted_part : (before after' : ℕ) (m : Many) (mid : Account)
      → Comes (length qs) before after' (λ cs ds i u. node_at qs p ms i (progress_at old cs i u) ≡ goes (member_value m i) (progress_at mid ds i u))
      → NotesPart (length qs) m mid → DecisionsPart qs p ms old
  noted_part before after' m mid h notes truths =
      let u : Unseen = record { kept = None; ops = []; more = [] } in
      let steady : (Bool → Run Flow) → ℕ → Type 0 = λ onward i. (b : Bool) → IsSteady (onward b) in
      parts_so (Bool → Run Flow) (Bool → Run Flow) (length qs) (λ onward i. noted (member_value m i) >>= onward) steady
      (λ onward i. node_at qs p ms i >>= noted >>= onward) steady mid old (λ onward i. onward) (λ cs. (h cs).0) (λ onward i lt s. s)
      (λ onward cs i lt v. ap (λ o. after (after o noted) onward) ((h cs).2 i lt v))
      (notes (λ i lt. truths i lt (member_value m i) (gave (cost_at qs p ms i) (answer_at qs p ms i) (progress_at old [] i u)
      (progress_at mid (h []).0 i u) (member_value m i) ((h []).2 i lt u))))

module _ (n : ℕ) (m : Many) (a : Account) where
  pub note_parts : is_shared n m ≡ false → NotesPart n m a
  note_parts apart truths =
      let r = below_not n (λ i. same_datum (member_value m 0) (member_value m i)) apart in
      let i = r.0 in
      let some : 0 < n = omega (arith, r.1) in
      let x = truths 0 some in
      let y = truths i r.1 in
      record {
        one = 0;
        other = i;
        one' = some;
        other' = r.1;
        stand' = λ onward elsewhere s t cs u v same.
            parting_shows.decides_otherwise no_fault (onward x.0) (elsewhere y.0) (progress_at a cs 0 u) (progress_at a cs i v) x.0 y.0 (s x.0) (t y.0)
            (as_many a cs 0 i u v)
            (λ is. true≢false (sym (ap (same_datum (member_value m 0)) (y.1 ∙ ap bool (sym is) ∙ sym x.1) ∙ value_itself (member_value m 0)) ∙ r.2))
            (sym (ap (λ d. shown_of ((noted d >>= onward) (progress_at a cs 0 u))) x.1) ∙ same
            ∙ ap (λ d. shown_of ((noted d >>= elsewhere) (progress_at a cs i v))) y.1);
      }

  -- ---- texts

  print_parts : SomeLackRoom n m a.bodies → PrintsPart n m a
  print_parts r = record {
    one = r.one;
    other = r.other;
    one' = r.one';
    other' = r.other';
    stand' = λ onward elsewhere s t cs u v same.
        let p = progress_at a cs r.one u in
        let q = progress_at a cs r.other v in
        parting_shows.fails_alone no_fault onward (record p { body = body_at r.one (a.bodies ++ m ∷ []) }) q TooLarge s refl (not_steps TooLarge refl) refl
        (sym (ap (λ o. shown_of (after o (λ _. onward))) (r.prints' p refl)) ∙ same ∙ ap (λ o. shown_of (after o (λ _. elsewhere))) (r.fails' q refl));
  }

  pub all_print : (bodies : List Many) (result : Result (Unit {0}) Apart) → PrintsAll n m a.bodies result bodies
      → AllPrint n m a result (record a { bodies = bodies })
  all_print bodies (Ok x) h = λ cs i lt u. h i lt (progress_at a cs i u) refl
  all_print bodies (Err Memory) h = tt
  all_print bodies (Err (Fault f)) h = λ cs i lt u. h.1 i lt (progress_at a cs i u) refl
      ∙ (λ z. stops (fault f) (progress_at (record a { bodies = sym h.0 z }) cs i u))
  all_print bodies (Err Differ) h = print_parts h
