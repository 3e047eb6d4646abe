-- A run by request: what stands before each step.
use Rattle.std.proofs.Common.{◌≡◌, ℕ, zero, suc, ◌+◌, ◌<◌, ◌≤◌, Bool, true, false, cond, List, [], ◌∷◌, ◌++◌, length, take, drop, filter_map, Some, None, Option, ◌⊎◌, inl, inr, refl, sym, ap, subst, ◌∙◌, arith, append-nil, true≢false, nat_eq, length-append, add-zero, if◌then◌else◌}
use Rattle.std.specs.List.{cons_option}
use Rattle.std.proofs.lemmas.Bool.{cases_Bool, cases_eq, eq-eqb, ne_eqb}
use Rattle.script_tree.specs.Datum.{Datum}
use Rattle.script_tree.specs.Programs.{Program}
use Rattle.script_tree.specs.declared.operation.Object.{Object}
use Rattle.script_tree.specs.declared.operation.Op.{Op}
use Rattle.script_meaning.specs.Conduct.{Wants, Ends}
use Rattle.script_tree.specs.declared.path.Path.{Path}
use Rattle.basis.specs.Lists.{nth}
use Rattle.audit_meaning.specs.Lists.{numbers}
use Rattle.script_tree.specs.declared.operation.Choice.{Choice}
use Rattle.script_tree.specs.Requests.{Request, IsRequestWithinLimits}
use Rattle.period.specs.declared.trace.TraceEvent.{TraceEvent}
use Rattle.period.specs.declared.trace.TraceEvent.TheVariants.{Asked}
use Rattle.script_tree.specs.declared.request.Response.{Response}
use Rattle.period.specs.declared.report.LogEntry.{LogEntry}
use Rattle.script_tree.specs.Objects.{Objects, Cell, acted, plausible, holding, is_same}
use Rattle.period.specs.LeftBy.{left_by}
use Rattle.script_meaning.specs.Replay.{ending_of}
use Rattle.history.specs.Names.{Named, came, did, went}
use Rattle.history.specs.ReportOf.{did_in, entry_in, log_in}
use Rattle.audit_meaning.proofs.Words.{rest_nth, rest_more, holding-here, holding-there, same_itself}
use Rattle.script_fit.proofs.Stay.{same_object}
use Rattle.audit_meaning.proofs.Places.{in_left, in_right, in_either}
use Rattle.audit_meaning.proofs.Filters.{take_more, numbers_more}
use Rattle.std.proofs.lemmas.List.Elements.{filter_map-append}
use Rattle.basis.proofs.Options.{some_is, none_is_not}
use Rattle.basis.proofs.Places.{In}

-- each request of a trace is within the limits of a request
abbrev pub HasShortRequests : List TraceEvent → Type 0
HasShortRequests trace = (i r : ℕ) (q : Request) → nth trace i ≡ Some (Asked r q) → IsRequestWithinLimits q

abbrev pub Visit : Type 0
Visit = Request × List Datum

pub record Hall : Type 0 where
  pub objects : Objects
  pub arrived : ℕ
  pub visits : ℕ → Option Visit

abbrev pub hall : Objects → Hall
hall O = record { objects = O; arrived = 0; visits = λ r. None }

abbrev pub Takes : Program → Hall → Named → Type 0
Takes P s (came r q) = r ≡ s.arrived
Takes P s (did r k op c) = (v : Visit) × (s.visits r ≡ Some v) × (k ≡ suc (length v.1))
    × (ending_of P v.0 v.1 ≡ Wants op) × (plausible op.act c (s.objects op.object) ≡ true)
Takes P s (went r x path) = (v : Visit) × (s.visits r ≡ Some v) × (ending_of P v.0 v.1 ≡ Ends x path)

abbrev pub visited : ℕ → Option Visit → (ℕ → Option Visit) → ℕ → Option Visit
visited r v f x = if nat_eq r x then v else f x

abbrev pub longer : Option Visit → Datum → Option Visit
longer None d = None
longer (Some v) d = Some (v.0, v.1 ++ d ∷ [])

abbrev pub next_hall : Hall → Named → Hall
next_hall s (came r q) = record s { arrived = suc s.arrived; visits = visited r (Some (q, [])) s.visits }
next_hall s (did r k op c) = record s {
  objects = holding op.object (acted op.act c (s.objects op.object)).0 s.objects;
  visits = visited r (longer (s.visits r) (acted op.act c (s.objects op.object)).1) s.visits;
}
next_hall s (went r x path) = record s { visits = visited r None s.visits }

abbrev pub IsRun : Program → Hall → List Named → Type 0
IsRun P s [] = (r : ℕ) → s.visits r ≡ None
IsRun P s (e ∷ E) = Takes P s e × IsRun P (next_hall s e) E

-- what holds at each place, if it holds at the start and each step keeps it
module _ (P : Program) (E : List Named) (I : ℕ → Hall → Type 0)
    (keeps : (t : ℕ) (s : Hall) (e : Named) → nth E t ≡ Some e → I t s → Takes P s e
    → I (suc t) (next_hall s e)) where
  pub at_each : (rest : List Named) (t : ℕ) (s : Hall) → drop t E ≡ rest → I t s → IsRun P s rest
      → (i : ℕ) (e : Named) → nth rest i ≡ Some e → (z : Hall) × (I (t + i) z) × (Takes P z e)
  at_each [] t s is inv run i e h = absurd (none_is_not h)
  at_each (x ∷ rest) t s is inv run zero e h = (s, subst (λ n. I n s) (sym (add-zero t)) inv, subst (Takes P s) (some_is h) run.0)
  at_each (x ∷ rest) t s is inv run (suc i) e h =
      let more = at_each rest (suc t) (next_hall s x) (rest_more E t x rest is) (keeps t s x (rest_nth E t x rest is) inv run.0) run.1 i e h in
      (more.0, subst (λ n. I n more.0) (shift t i) more.1, more.2)
    where
      shift : (a b : ℕ) → suc a + b ≡ a + suc b
      shift a b = omega arith

  pub at_end : (rest : List Named) (t : ℕ) (s : Hall) → drop t E ≡ rest → I t s → IsRun P s rest
      → (z : Hall) × (I (t + length rest) z) × ((r : ℕ) → z.visits r ≡ None)
  at_end [] t s is inv run = (s, subst (λ n. I n s) (sym (add-zero t)) inv, run)
  at_end (x ∷ rest) t s is inv run =
      let more = at_end rest (suc t) (next_hall s x) (rest_more E t x rest is) (keeps t s x (rest_nth E t x rest is) inv run.0) run.1 in
      (more.0, subst (λ n. I n more.0) (shift t (length rest)) more.1, more.2)
    where
      shift : (a b : ℕ) → suc a + b ≡ a + suc b
      shift a b = omega arith

abbrev pub id_of : Named → ℕ
id_of (came r q) = r
id_of (did r k op c) = r
id_of (went r x path) = r

-- where a request stands after some steps
pub data Standing (past : List Named) (arrived r : ℕ) (v : Option Visit) : Type 0 where
  absent : v ≡ None → arrived ≤ r → ((e : Named) → In past e → id_of e ≡ r → ⊥) → filter_map (did_in r) past ≡ [] → Standing past arrived r v
  present : (q : Request) (ans : List Datum) → v ≡ Some (q, ans) → r < arrived → In past (came r q) → filter_map (did_in r) past ≡ numbers 1 (length ans)
      → ((x : Response) (p : Path) → In past (went r x p) → ⊥) → Standing past arrived r v
  gone : (n : ℕ) (q : Request) (x : Response) (p : Path) → v ≡ None → r < arrived → In past (came r q)
      → filter_map (did_in r) past ≡ numbers 1 n → In past (went r x p) → Standing past arrived r v

pub record Now (O : Objects) (E : List Named) (t : ℕ) (s : Hall) : Type 0 where
  pub objects : (o : Object) → s.objects o ≡ left_by (log_in (take t E) o) (O o)
  pub standing : (r : ℕ) → Standing (take t E) s.arrived r (s.visits r)

pub visited-here : (r : ℕ) (v : Option Visit) (f : ℕ → Option Visit) → visited r v f r ≡ v
visited-here r v f = ap (λ b. cond b v (f r)) (eq-eqb r r refl)

pub visited-there : (r x : ℕ) (v : Option Visit) (f : ℕ → Option Visit) → (r ≡ x → ⊥) → visited r v f x ≡ f x
visited-there r x v f n = ap (λ b. cond b v (f x)) (ne_eqb r x n)

-- a step of another request
no_did : (e : Named) (x : ℕ) → (id_of e ≡ x → ⊥) → did_in x e ≡ None
no_did (came r q) x n = refl
no_did (did r k op c) x n = ap (λ b. cond b (Some k) None) (ne_eqb x r (λ p. n (sym p)))
no_did (went r y p) x n = refl

did_same : (x : ℕ) (past : List Named) (e : Named) → did_in x e ≡ None → filter_map (did_in x) (past ++ e ∷ []) ≡ filter_map (did_in x) past
did_same x past e n = filter_map-append (did_in x) past (e ∷ [])
    ∙ ap (λ o. filter_map (did_in x) past ++ cons_option o []) n ∙ append-nil (filter_map (did_in x) past)

newest : (past : List Named) (e y : Named) → In (past ++ e ∷ []) y → In past y ⊎ (e ≡ y)
newest past e y m = elim (in_either past (e ∷ []) y m.0 m.1) [ inl h ↦ inl h | inr h ↦ inr (only h.0 h.1) ]
  where
    only : (i : ℕ) → nth (e ∷ []) i ≡ Some y → e ≡ y
    only zero h = some_is h
    only (suc i) h = absurd (none_is_not h)

other : (past : List Named) (e : Named) (a b x : ℕ) (v w : Option Visit) → (id_of e ≡ x → ⊥) → (a ≤ x → b ≤ x)
    → (x < a → x < b) → w ≡ v → Standing past a x v → Standing (past ++ e ∷ []) b x w
other past e a b x v w n low high same_visit (absent none l never dids) =
    absent (same_visit ∙ none) (low l) (λ y m is. elim
    (newest past e y m) [ inl h ↦ never y h is | inr h ↦ n (ap id_of h ∙ is) ])
    (did_same x past e (no_did e x n) ∙ dids)
other past e a b x v w n low high same_visit (present q ans some l here dids stays) =
    present q ans (same_visit ∙ some) (high l) (in_left past (e ∷ []) _ here) (did_same x past e (no_did e x n) ∙ dids)
    (λ y p m. elim (newest past e (went x y p) m) [ inl h ↦ stays y p h | inr h ↦ n (ap id_of h) ])
other past e a b x v w n low high same_visit (gone k q y p none l here dids left) =
    gone k q y p (same_visit ∙ none) (high l) (in_left past (e ∷ []) _ here) (did_same x past e (no_did e x n) ∙ dids) (in_left past (e ∷ []) _ left)

folded_push : (es : List LogEntry) (e : LogEntry) (cell : Cell) → left_by (es ++ e ∷ []) cell ≡ (acted e.act e.choice (left_by es cell)).0
folded_push [] e cell = refl
folded_push (x ∷ es) e cell = folded_push es e (acted x.act x.choice cell).0

no_entry : (past : List Named) (e : Named) (o : Object) → entry_in o e ≡ None → log_in (past ++ e ∷ []) o ≡ log_in past o
no_entry past e o n = filter_map-append (entry_in o) past (e ∷ []) ∙ ap (λ x. log_in past o ++ cons_option x []) n ∙ append-nil (log_in past o)

abbrev pub entry_of : ℕ → ℕ → Op → Choice → LogEntry
entry_of r k op c = record { rid = r; number = k; act = op.act; choice = c }

one_entry : (past : List Named) (r k : ℕ) (op : Op) (c : Choice) (o : Object) → is_same o op.object ≡ true
    → log_in (past ++ did r k op c ∷ []) o ≡ log_in past o ++ entry_of r k op c ∷ []
one_entry past r k op c o h = filter_map-append (entry_in o) past (did r k op c ∷ [])
    ∙ ap (λ b. log_in past o ++ cons_option (cond b (Some (entry_of r k op c)) None) []) h

other_entry : (past : List Named) (r k : ℕ) (op : Op) (c : Choice) (o : Object) → is_same o op.object ≡ false
    → log_in (past ++ did r k op c ∷ []) o ≡ log_in past o
other_entry past r k op c o h = no_entry past (did r k op c) o (ap (λ b. cond b (Some (entry_of r k op c)) None) h)

-- the other way round
same_back : (a b : Object) (t : Bool) → is_same a b ≡ t → is_same b a ≡ t
same_back a b true h = ap (λ x. is_same x a) (sym (same_object a b h)) ∙ same_itself a
same_back a b false h = elim (cases_Bool (is_same b a)) [
  | inl p ↦ absurd (true≢false (sym (ap (λ x. is_same x b) (sym (same_object b a p)) ∙ same_itself b) ∙ h))
  | inr p ↦ p
]

module _ (P : Program) (O : Objects) (E : List Named) where
  now_came : (t : ℕ) (s : Hall) (r : ℕ) (q : Request) → nth E t ≡ Some (came r q) → Now O E t s → r ≡ s.arrived → Now O E (suc t) (next_hall s (came r q))
  now_came t s r q at_t now is = record {
    objects = λ o. now.objects o ∙ ap (λ es. left_by es (O o))
        (sym (no_entry (take t E) (came r q) o refl) ∙ ap (λ es. log_in es o) (sym (take_more E t (came r q) at_t)));
    standing = λ x. subst (λ past. Standing past (suc s.arrived) x (visited r (Some (q, [])) s.visits x))
        (sym (take_more E t (came r q) at_t)) (go x (cases_eq r x));
  }
    where
      past : List Named
      past = take t E

      here : Standing past s.arrived r (s.visits r) → Standing (past ++ came r q ∷ []) (suc s.arrived) r (visited r (Some (q, [])) s.visits r)
      here (absent none l never dids) = present q [] (visited-here r (Some (q, [])) s.visits) (omega (arith, is))
          (in_right past (came r q ∷ []) (came r q) (0, refl))
          (did_same r past (came r q) refl ∙ dids)
          (λ y p m. elim (newest past (came r q) (went r y p) m) [ inl h ↦ never (went r y p) h refl | inr h ↦ subst IsCame h tt ])
        where
          IsCame : Named → Type 0
          IsCame (came a b) = Unit {0}
          IsCame (did a b c d) = ⊥
          IsCame (went a b c) = ⊥
      here (present p ans some l m dids stays) = absurd (omega (arith, is, l))
      here (gone n p y z none l m dids left) = absurd (omega (arith, is, l))

      go : (x : ℕ) → (r ≡ x) ⊎ (r ≡ x → ⊥) → Standing (past ++ came r q ∷ []) (suc s.arrived) x (visited r (Some (q, [])) s.visits x)
      go x (inl e) = subst (λ y. Standing (past ++ came r q ∷ []) (suc s.arrived) y (visited r (Some (q, [])) s.visits y)) e (here (now.standing r))
      go x (inr n) = other past (came r q) s.arrived (suc s.arrived) x (s.visits x)
          (visited r (Some (q, [])) s.visits x) n (λ l. omega (arith, is, n)) (λ l. omega arith)
          (visited-there r x (Some (q, [])) s.visits n) (now.standing x)

  now_did : (t : ℕ) (s : Hall) (r k : ℕ) (op : Op) (c : Choice) → nth E t ≡ Some (did r k op c) → Now O E t s
      → (v : Visit) → s.visits r ≡ Some v → k ≡ suc (length v.1) → Now O E (suc t) (next_hall s (did r k op c))
  now_did t s r k op c at_t now v visit number = record {
    objects = λ o. objects o (is_same op.object o) refl ∙ ap (λ es. left_by (log_in es o) (O o)) (sym (take_more E t (did r k op c) at_t));
    standing = λ x. subst (λ past. Standing past s.arrived x (visited r (longer (s.visits r) answer) s.visits x))
        (sym (take_more E t (did r k op c) at_t)) (go x (cases_eq r x));
  }
    where
      past : List Named
      past = take t E

      answer : Datum
      answer = (acted op.act c (s.objects op.object)).1

      objects : (o : Object) (b : Bool) → is_same op.object o ≡ b
          → holding op.object (acted op.act c (s.objects op.object)).0 s.objects o
          ≡ left_by (log_in (past ++ did r k op c ∷ []) o) (O o)
      objects o true e = subst (λ x. holding op.object (acted op.act c (s.objects op.object)).0 s.objects x
          ≡ left_by (log_in (past ++ did r k op c ∷ []) x) (O x)) (same_object op.object o e)
          (holding-here op.object (acted op.act c (s.objects op.object)).0 s.objects ∙ ap (λ x. (acted op.act c x).0) (now.objects op.object)
          ∙ sym (ap (λ es. left_by es (O op.object)) (one_entry past r k op c op.object (same_itself op.object))
          ∙ folded_push (log_in past op.object) (entry_of r k op c) (O op.object)))
      objects o false e = holding-there op.object o (acted op.act c (s.objects op.object)).0 s.objects e
          ∙ now.objects o ∙ ap (λ es. left_by es (O o))
          (sym (other_entry past r k op c o (same_back op.object o false e)))

      IsDid : Named → Type 0
      IsDid (came a b) = ⊥
      IsDid (did a b c d) = Unit {0}
      IsDid (went a b c) = ⊥

      mine : did_in r (did r k op c) ≡ Some k
      mine = ap (λ b. cond b (Some k) None) (eq-eqb r r refl)

      here : Standing past s.arrived r (s.visits r) → Standing (past ++ did r k op c ∷ []) s.arrived r (visited r (longer (s.visits r) answer) s.visits r)
      here (absent none l never dids) = absurd (none_is_not (sym none ∙ visit))
      here (gone n p y z none l m dids left) = absurd (none_is_not (sym none ∙ visit))
      here (present p ans some l m dids stays) =
          let is : v ≡ (p, ans) = some_is (sym visit ∙ some) in
          let size : k ≡ 1 + length ans = omega (arith, number, ap (λ (w : Visit). length w.1) is) in
          let longer_by : length (ans ++ answer ∷ []) ≡ suc (length ans) = omega (arith, length-append ans (answer ∷ [])) in
          present p (ans ++ answer ∷ []) (visited-here r (longer (s.visits r) answer) s.visits
          ∙ ap (λ w. longer w answer) some) l (in_left past (did r k op c ∷ []) (came r p) m)
          (filter_map-append (did_in r) past (did r k op c ∷ []) ∙ ap (λ o. filter_map (did_in r) past ++ cons_option o []) mine ∙ ap (λ xs. xs ++ k ∷ []) dids
          ∙ ap (λ j. numbers 1 (length ans) ++ j ∷ []) size ∙ numbers_more 1 (length ans) ∙ ap (numbers 1) (sym longer_by))
          (λ y z w. elim (newest past (did r k op c) (went r y z) w) [ inl h ↦ stays y z h | inr h ↦ subst IsDid h tt ])

      go : (x : ℕ) → (r ≡ x) ⊎ (r ≡ x → ⊥) → Standing (past ++ did r k op c ∷ []) s.arrived x (visited r (longer (s.visits r) answer) s.visits x)
      go x (inl e) = subst (λ y. Standing (past ++ did r k op c ∷ []) s.arrived y (visited r (longer (s.visits r) answer) s.visits y)) e (here (now.standing r))
      go x (inr n) = other past (did r k op c) s.arrived s.arrived x (s.visits x)
          (visited r (longer (s.visits r) answer) s.visits x) n (λ l. l) (λ l. l)
          (visited-there r x (longer (s.visits r) answer) s.visits n) (now.standing x)

  now_went : (t : ℕ) (s : Hall) (r : ℕ) (y : Response) (z : Path) → nth E t ≡ Some (went r y z) → Now O E t s
      → (v : Visit) → s.visits r ≡ Some v → Now O E (suc t) (next_hall s (went r y z))
  now_went t s r y z at_t now v visit = record {
    objects = λ o. now.objects o ∙ ap (λ es. left_by es (O o))
        (sym (no_entry (take t E) (went r y z) o refl)
        ∙ ap (λ es. log_in es o) (sym (take_more E t (went r y z) at_t)));
    standing = λ x. subst (λ past. Standing past s.arrived x (visited r None s.visits x)) (sym (take_more E t (went r y z) at_t)) (go x (cases_eq r x));
  }
    where
      past : List Named
      past = take t E

      here : Standing past s.arrived r (s.visits r) → Standing (past ++ went r y z ∷ []) s.arrived r (visited r None s.visits r)
      here (absent none l never dids) = absurd (none_is_not (sym none ∙ visit))
      here (gone n p a b none l m dids left) = absurd (none_is_not (sym none ∙ visit))
      here (present p ans some l m dids stays) =
          gone (length ans) p y z (visited-here r None s.visits) l (in_left past (went r y z ∷ []) (came r p) m)
          (did_same r past (went r y z) refl ∙ dids) (in_right past (went r y z ∷ []) (went r y z) (0, refl))

      go : (x : ℕ) → (r ≡ x) ⊎ (r ≡ x → ⊥) → Standing (past ++ went r y z ∷ []) s.arrived x (visited r None s.visits x)
      go x (inl e) = subst (λ w. Standing (past ++ went r y z ∷ []) s.arrived w (visited r None s.visits w)) e (here (now.standing r))
      go x (inr n) = other past (went r y z) s.arrived s.arrived x (s.visits x) (visited r None s.visits x) n (λ l. l)
          (λ l. l) (visited-there r x None s.visits n) (now.standing x)

  pub now_next : (t : ℕ) (s : Hall) (e : Named) → nth E t ≡ Some e → Now O E t s → Takes P s e → Now O E (suc t) (next_hall s e)
  now_next t s (came r q) at_t now takes = now_came t s r q at_t now takes
  now_next t s (did r k op c) at_t now takes = now_did t s r k op c at_t now takes.0 takes.1 takes.2
  now_next t s (went r y z) at_t now takes = now_went t s r y z at_t now takes.0 takes.1

  pub now_start : Now O E 0 (hall O)
  now_start = record { objects = λ o. refl; standing = λ r. absent refl (omega arith) (λ e m is. none_is_not m.1) refl }

module _ (P : Program) (O : Objects) (E : List Named) (run : IsRun P (hall O) E) where
  pub before_each : (i : ℕ) (e : Named) → nth E i ≡ Some e → (z : Hall) × (Now O E i z) × (Takes P z e)
  before_each i e h =
      let at = at_each P E (Now O E) (now_next P O E) E 0 (hall O) refl (now_start P O E) run i e h in
      (at.0, subst (λ n. Now O E n at.0) (zero_plus i) at.1, at.2)
    where
      zero_plus : (n : ℕ) → 0 + n ≡ n
      zero_plus n = omega arith

  pub at_last : (z : Hall) × (Now O E (length E) z) × ((r : ℕ) → z.visits r ≡ None)
  at_last =
      let at = at_end P E (Now O E) (now_next P O E) E 0 (hall O) refl (now_start P O E) run in
      (at.0, subst (λ n. Now O E n at.0) (zero_plus (length E)) at.1, at.2)
    where
      zero_plus : (n : ℕ) → 0 + n ≡ n
      zero_plus n = omega arith
