-- From the run of code to the conduct of a request.
use Rattle.std.proofs.Common.{◌≡◌, ◌+◌, ℕ, true, false, List, [], ◌∷◌, ◌++◌, Some, None, Ok, Err, refl, sym, ap, subst, ◌∙◌, append-nil, append_assoc, arith}
use Rattle.script_tree.specs.Datum.{Datum, is_within_limits}
use Rattle.script_tree.specs.Programs.{Program}
use Rattle.script_tree.specs.Requests.{Request}
use Rattle.script_tree.specs.declared.fault.ScriptFault.{ScriptFault}
use Rattle.script_tree.specs.declared.fault.ScriptFault.TheVariants.{TooLarge}
use Rattle.script_tree.specs.declared.path.Path.{Path}
use Rattle.script_tree.specs.declared.request.Response.{Response}
use Rattle.script_tree.specs.declared.path.End.TheVariants.{Normal, Fault as FaultEnd, AnswerFault}
use Rattle.script_meaning.specs.Conduct as meant
use Rattle.script_meaning.specs.Conduct.{conduct, ended, start, path_of, response_of, fault_response, no_page}
use Rattle.script_meaning.specs.Evaluate.{Flow, on}
use Rattle.script_meaning.specs.Operations.{Op}
use Rattle.script_meaning.specs.Run.{Ran, goes, stops}
use Rattle.script_meaning.specs.declared.run.Mark.TheVariants.{Issued as issued}
use Rattle.script_meaning.specs.declared.run.Stop.TheVariants.{Wants as wants, Fault as fault, AnswerFault as answer_fault}
use Rattle.script_code.specs.Code.{Entry}
use Rattle.script_code.specs.CodeRun.{exec}
use Rattle.script_code.specs.Means.{code_conduct}
use Rattle.script_code.specs.Translated.{IsCodeOf, pages_of}
use Rattle.script_code.specs.declared.translate.Code.{Code}
use Rattle.machine.specs.Does.{onward, Stands}
use Rattle.machine.specs.Follows.{Reaches, begun, Leads, going, wanting, refused, HasTrail, OnPage, StandsIn, IsFresh, IsStopped, stopped_in, Follows, WaitsAfter}
use Rattle.machine.specs.Told.{ending_of}
use Rattle.machine.specs.Trail.{bare_trail}
use Rattle.machine.specs.declared.ending.MachineStep.{MachineStep}
use Rattle.machine.specs.declared.ending.MachineStep.TheVariants as code
use Rattle.machine.specs.Gives.{progress_of, marks_of, IsNoted}
use Rattle.machine.specs.declared.account.Account.{Account}
use Rattle.machine.specs.declared.machine.Machine.{Machine}
use Rattle.machine.specs.declared.machine.Phase.{Phase}
use Rattle.machine.specs.declared.machine.Phase.TheVariants.{Running, Waiting, Refused, NoPage, Over, Exhausted}
use Rattle.machine.specs.declared.run.Run.{Run}
use Rattle.machine.specs.declared.stopped.Stopped.TheVariants.{Wants, Fault}
use Rattle.machine.proofs.Runs.{reaches_on}
use Rattle.machine.proofs.Trails.{one_issued, bare_marks}

-- ---- how the conduct ends

module _ (program : Program) (q : Request) (answers : List Datum) (code : Code) (means : IsCodeOf program code)
    (entry : Entry) (found : pages_of code q.path ≡ Some entry) where
  -- as a run that came to this
  pub conducts_so : (o : Ran Flow) → Reaches (begun q code entry answers) (λ k. o) → ended entry.number o ≡ conduct program q answers
  conducts_so o r =
      let d = means.conducts q answers in
      let e : r.0 + d.0 ≡ d.0 + r.0 = omega arith in
      ap (ended entry.number) (sym (r.1 d.0))
      ∙ ap (λ n. ended entry.number (begun q code entry answers n)) e
      ∙ ap (λ p. code_conduct code.functions.items code.instructions.items p q answers (d.0 + r.0)) (sym found)
      ∙ d.1 r.0

  -- where no more answers come
  pub none_more : (there : (ops : List Op) (more : List Datum) → ℕ → Ran Flow) (l : Leads q code entry answers there)
      (g : ℕ → Ran Flow) → Reaches (there l.ops []) g → Reaches (begun q code entry answers) g
  none_more there l g s = subst (λ as'. Reaches (begun q code entry as') g) (append-nil answers)
      (reaches_on (begun q code entry (answers ++ [])) (there l.ops []) g (l.leads []) s)

-- ---- marks

-- of a conduct whose marks are those of an account
left_by : {w : meant.Conduct} {ending : meant.Ending} (a : Account) (ops : List Op)
    → record { trail = marks_of a.trail.items ops; ending = ending } ≡ w → a.trail.items ≡ bare_trail w.trail
left_by a ops h = sym (bare_marks a.trail.items ops) ∙ ap (λ w. bare_trail w.trail) h

-- ---- answers

noted : (a b : Account) (ops : List Op) (op : Op) (more : List Datum) → IsNoted a b
    → progress_of b (op ∷ ops) more ≡ record
    (progress_of a ops more) { trail = marks_of a.trail.items ops ++ issued op ∷ [] }
noted a b ops op more n =
    let t : marks_of b.trail.items (op ∷ ops) ≡ marks_of a.trail.items ops ++ issued op ∷ [] =
    ap (λ ts. marks_of ts (op ∷ ops)) n.trail ∙ one_issued a.trail.items ops op in
    λ i. record { steps = n.steps i; operations = n.operations i; costs = None; trail = t i; answers = more; status = (n.output i).status; body = (n.output i).body }

module _ (q : Request) (code : Code) (entry : Entry) (answers : List Datum) (d : Datum) (old new : Run) (op : Op)
    (noting : IsNoted old.state.account new.state.account)
    (l : Leads q code entry answers (wanting q code old op)) where
  answer_comes : (more : List Datum) (g : ℕ → Ran Flow) → Reaches (wanting q code old op l.ops (d ∷ more)) g
      → Reaches (begun q code entry ((answers ++ d ∷ []) ++ more)) g
  answer_comes more g s =
      subst (λ as'. Reaches (begun q code entry as') g) (sym (append_assoc answers (d ∷ []) more))
      (reaches_on (begun q code entry (answers ++ d ∷ more)) (wanting q code old op l.ops (d ∷ more)) g (l.leads (d ∷ more)) s)

  -- one within the limits
  pub answer_goes : is_within_limits d ≡ true → new.frames ≡ old.frames → new.place ≡ old.place
      → new.state.stack ≡ d ∷ old.state.stack → new.state.slots ≡ old.state.slots
      → Leads q code entry (answers ++ d ∷ []) (going q code new)
  answer_goes fits frames place stack slots = record {
    ops = op ∷ l.ops;
    leads = λ more. answer_comes more (going q code new (op ∷ l.ops) more) (
      0,
      λ k.
          let z : 0 + k ≡ k = omega arith in
          rw (z, fits) (λ i. exec q code.functions.items code.instructions.items k (sym frames i) (sym place i) (sym stack i) (sym slots i).items (sym (noted old.state.account new.state.account l.ops op more noting) i)),
    );
  }

  -- one beyond them
  pub answer_stops : is_within_limits d ≡ false → Leads q code entry (answers ++ d ∷ []) (refused new)
  answer_stops beyond = record {
    ops = op ∷ l.ops;
    leads = λ more. answer_comes more (refused new (op ∷ l.ops) more) (
      0,
      λ k.
          let z : 0 + k ≡ k = omega arith in
          rw (z, beyond) (ap (λ p. stops answer_fault p) (sym (noted old.state.account new.state.account l.ops op more noting))),
    );
  }

-- ---- the start

pub begins : (program : Program) (q : Request) (m : Machine) (entry : Entry) → IsCodeOf program m.code.now
    → m.request ≡ q → m.page ≡ entry.number → m.phase ≡ Running → IsFresh entry.place m.run
    → pages_of m.code.now q.path ≡ Some entry → Follows program q [] m
begins program q m entry of same page phase fresh found = record {
  code = of;
  request = same;
  stands =
      subst (λ p. StandsIn program q m.code.now [] m.page m.run p) (sym phase) (
        entry,
        found,
        sym page,
        record {
          ops = [];
          leads = λ more. (
            0,
            λ k.
                let z : 0 + k ≡ k = omega arith in
                rw z (λ i. exec q m.code.now.functions.items m.code.now.instructions.items k (sym fresh.frames i)
                (sym fresh.place' i) (sym fresh.stack i) (sym fresh.slots i) (sym (fresh.account more) i)),
          );
        },
      );
}

-- where no page has its path
pub begins_nowhere : (program : Program) (q : Request) (m : Machine) (place : ℕ) → IsCodeOf program m.code.now
    → m.request ≡ q → m.phase ≡ NoPage → IsFresh place m.run → pages_of m.code.now q.path ≡ None
    → Follows program q [] m
begins_nowhere program q m place of same phase fresh none =
    let marks : HasTrail [] m.run = sym (bare_marks m.run.state.account.trail.items []) ∙ ap (λ p. bare_trail p.trail) (fresh.account []) in
    record {
      code = of;
      request = same;
      stands = subst (λ p. StandsIn program q m.code.now [] m.page m.run p) (sym phase) (none, refl, marks);
    }

-- ---- a run that goes on

module _ (program : Program) (q : Request) (answers : List Datum) (m : Machine) (f : Follows program q answers m) (running : m.phase ≡ Running) where
  abbrev pub stands : OnPage q m.code.now answers m.page m.run Running
  stands = subst (λ p. StandsIn program q m.code.now answers m.page m.run p) running f.stands

  -- the operations so far
  abbrev pub ops_so_far : List Op
  ops_so_far = stands.3.ops

  -- the conduct is what the run of the code comes to
  pub comes_to : (o : Ran Flow) → Reaches (λ k. onward
      (exec m.request m.code.now.functions.items m.code.now.instructions.items k) m.run ops_so_far []) (λ k. o)
      → ended m.page o ≡ conduct program q answers
  comes_to o r =
      let s = subst (λ a. Reaches (λ k. onward (exec a m.code.now.functions.items m.code.now.instructions.items k) m.run ops_so_far []) (λ k. o)) f.request r in
      ap (λ n. ended n o) (sym stands.2)
      ∙ conducts_so program q answers m.code.now f.code stands.0 stands.1 o
      (none_more program q answers m.code.now f.code stands.0 stands.1 (going q m.code.now m.run) stands.3 (λ k. o) s)

  pub over_tells : (new : Run) → ((ops : List Op) (more : List Datum)
      → Stands m.request m.code.now.functions.items m.code.now.instructions.items ops more (Ok tt) new
      (λ k. onward (exec m.request m.code.now.functions.items m.code.now.instructions.items k) m.run ops more))
      → meant.Ends (response_of (progress_of new.state.account ops_so_far []))
      (path_of m.page (progress_of new.state.account ops_so_far []) Normal) ≡ (conduct program q answers).ending
  over_tells new runs = ap (λ w. w.ending) (comes_to (goes (on []) (progress_of new.state.account ops_so_far [])) (runs ops_so_far []))

  pub over_leaves : (new : Run) → ((ops : List Op) (more : List Datum)
      → Stands m.request m.code.now.functions.items m.code.now.instructions.items ops more (Ok tt) new
      (λ k. onward (exec m.request m.code.now.functions.items m.code.now.instructions.items k) m.run ops more))
      → HasTrail (conduct program q answers).trail new
  over_leaves new runs = left_by new.state.account ops_so_far (comes_to (goes (on []) (progress_of new.state.account ops_so_far [])) (runs ops_so_far []))

  pub fault_tells : (new : Run) (j : ScriptFault) → ((ops : List Op) (more : List Datum) → Stands m.request m.code.now.functions.items m.code.now.instructions.items ops more (Err (Fault j)) new (λ k. onward (exec m.request m.code.now.functions.items m.code.now.instructions.items k) m.run ops more))
      → meant.Ends (fault_response j) (path_of m.page (progress_of new.state.account ops_so_far []) (FaultEnd j)) ≡ (conduct program q answers).ending
  fault_tells new j runs = ap (λ w. w.ending) (comes_to (stops (fault j) (progress_of new.state.account ops_so_far [])) (runs ops_so_far []))

  pub fault_leaves : (new : Run) (j : ScriptFault) → ((ops : List Op) (more : List Datum) → Stands m.request m.code.now.functions.items m.code.now.instructions.items ops more (Err (Fault j)) new (λ k. onward (exec m.request m.code.now.functions.items m.code.now.instructions.items k) m.run ops more))
      → HasTrail (conduct program q answers).trail new
  fault_leaves new j runs = left_by new.state.account ops_so_far (comes_to (stops (fault j) (progress_of new.state.account ops_so_far [])) (runs ops_so_far []))

  pub wants_tells : (new : Run) (op : Op) → ((ops : List Op) (more : List Datum)
      → Stands m.request m.code.now.functions.items m.code.now.instructions.items ops more (Err (Wants op)) new
      (λ k. onward (exec m.request m.code.now.functions.items m.code.now.instructions.items k) m.run ops more))
      → meant.Wants op ≡ (conduct program q answers).ending
  wants_tells new op runs = ap (λ w. w.ending) (comes_to (stops (wants op) (progress_of new.state.account ops_so_far [])) (runs ops_so_far []))

  pub wants_follows : (new : Run) (op : Op) → ((ops : List Op) (more : List Datum) → Stands m.request m.code.now.functions.items m.code.now.instructions.items ops more (Err (Wants op)) new (λ k. onward (exec m.request m.code.now.functions.items m.code.now.instructions.items k) m.run ops more))
      → OnPage q m.code.now answers m.page new Waiting
  wants_follows new op runs = (
    stands.0,
    stands.1,
    stands.2,
    (
      op,
      record {
        ops = ops_so_far;
        leads = λ more.
            let s = subst (λ a. Reaches (going a m.code.now m.run ops_so_far more) (wanting a m.code.now new op ops_so_far more)) f.request (runs ops_so_far more) in
            reaches_on (begun q m.code.now stands.0 (answers ++ more)) (going q m.code.now m.run ops_so_far more)
            (wanting q m.code.now new op ops_so_far more) (stands.3.leads more) s;
      },
    ),
  )

-- ---- a run that waits

-- its marks are those of the conduct
pub waiting_leaves : (program : Program) (q : Request) (answers : List Datum) (m : Machine)
    → Follows program q answers m → OnPage q m.code.now answers m.page m.run Waiting
    → HasTrail (conduct program q answers).trail m.run
waiting_leaves program q answers m f s =
    let l = s.3.1 in
    let o : Ran Flow = stops (wants s.3.0) (progress_of m.run.state.account l.ops []) in
    left_by m.run.state.account l.ops
    (conducts_so program q answers m.code.now f.code s.0 s.1 o
    (none_more program q answers m.code.now f.code s.0 s.1 (wanting q m.code.now m.run s.3.0) l (λ k. o)
    (0, λ k. refl)))

-- ---- a run that ends at an answer or without a page

module _ (program : Program) (q : Request) (answers : List Datum) (m : Machine) (f : Follows program q answers m) (refusing : m.phase ≡ Refused) where
  abbrev refused_at : OnPage q m.code.now answers m.page m.run Refused
  refused_at = subst (λ p. StandsIn program q m.code.now answers m.page m.run p) refusing f.stands

  abbrev refused_with : Ran Flow
  refused_with = stops answer_fault (progress_of m.run.state.account refused_at.3.ops [])

  refused_so : ended m.page refused_with ≡ conduct program q answers
  refused_so =
      ap (λ n. ended n refused_with) (sym refused_at.2)
      ∙ conducts_so program q answers m.code.now f.code refused_at.0 refused_at.1 refused_with
      (none_more program q answers m.code.now f.code refused_at.0 refused_at.1 (refused m.run) refused_at.3
      (λ k. refused_with) (0, λ k. refl))

  pub refused_tells : (ops : List Op) × (meant.Ends (fault_response TooLarge)
      (path_of m.page (progress_of m.run.state.account ops []) AnswerFault) ≡ (conduct program q answers).ending)
  refused_tells = (refused_at.3.ops, ap (λ w. w.ending) refused_so)

  pub refused_leaves : HasTrail (conduct program q answers).trail m.run
  refused_leaves = left_by m.run.state.account refused_at.3.ops refused_so

module _ (program : Program) (q : Request) (answers : List Datum) (m : Machine) (f : Follows program q answers m) (none : m.phase ≡ NoPage) where
  abbrev without_page : (pages_of m.code.now q.path ≡ None) × (answers ≡ []) × HasTrail [] m.run
  without_page = subst (λ p. StandsIn program q m.code.now answers m.page m.run p) none f.stands

  no_page_so : no_page [] ≡ conduct program q answers
  no_page_so =
      let d = f.code.conducts q answers in
      ap no_page (sym without_page.1)
      ∙ ap (λ p. code_conduct m.code.now.functions.items m.code.now.instructions.items p q answers (d.0 + 0)) (sym without_page.0)
      ∙ d.1 0

  pub no_page_tells : (no_page []).ending ≡ (conduct program q answers).ending
  no_page_tells = ap (λ w. w.ending) no_page_so

  pub no_page_leaves : HasTrail (conduct program q answers).trail m.run
  no_page_leaves = without_page.2 ∙ ap (λ w. bare_trail w.trail) no_page_so

-- ---- a run that stopped

trail_in : (program : Program) (q : Request) (answers : List Datum) (m : Machine) → Follows program q answers m
    → (phase : Phase) → StandsIn program q m.code.now answers m.page m.run phase → stopped_in phase
    → HasTrail (conduct program q answers).trail m.run
trail_in program q answers m f Running s h = absurd h
trail_in program q answers m f Waiting s h = waiting_leaves program q answers m f s
trail_in program q answers m f Refused s h = absurd h
trail_in program q answers m f NoPage s h = absurd h
trail_in program q answers m f Over s h = s
trail_in program q answers m f Exhausted s h = absurd h

-- its marks are those of the conduct
pub stopped_trail : (program : Program) (q : Request) (answers : List Datum) (m : Machine)
    → Follows program q answers m → IsStopped m → HasTrail (conduct program q answers).trail m.run
stopped_trail program q answers m f h = trail_in program q answers m f m.phase f.stands h

not_over : (op : Op) (r : Response) (p : Path) → meant.Wants op ≡ meant.Ends r p → ⊥
not_over op r p h = grind arith

-- the end of a run is told, and the machine is over
pub waits_over : (step : MachineStep) (m : Machine) (r : Response) (p : Path) → m.phase ≡ Over → ending_of step ≡ meant.Ends r p → WaitsAfter step m
waits_over (code.Wants op) m r p over h = absurd (not_over op r p h)
waits_over (code.Ends response path) m r p over h = over
