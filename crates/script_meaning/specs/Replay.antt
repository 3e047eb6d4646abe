-- A schedule played one moment at a time, by nothing but the program's conduct and what objects do.
use Rattle.std.specs.Prelude.{◌≡◌, ℕ, true, List, [], ◌∷◌, ◌++◌, Option, Some, None, nat_eq, if◌then◌else◌}
use Rattle.script_tree.specs.Datum.{Datum}
use Rattle.script_tree.specs.Objects.{Objects, acted, plausible, holding}
use Rattle.script_tree.specs.Programs.{Program}
use Rattle.script_tree.specs.Requests.{Request}
use Rattle.period.specs.Traces.{request_of, response_of}
use Rattle.script_tree.specs.declared.operation.Op.{Op}
use Rattle.script_tree.specs.declared.operation.Choice.{Choice}
use Rattle.script_tree.specs.declared.path.Path.{Path}
use Rattle.script_tree.specs.declared.request.Response.{Response}
use Rattle.period.specs.declared.schedule.Moment.{Moment}
use Rattle.period.specs.declared.schedule.Moment.TheVariants.{Arrive, Act, Depart}
use Rattle.period.specs.declared.trace.TraceEvent.{TraceEvent}
use Rattle.script_meaning.specs.Conduct.{conduct, Ending, Wants, Ends, Undefined}

-- where a request stands in a program when it has used up these answers
unfoldable pub ending_of : Program → Request → List Datum → Ending
ending_of program request answers = (conduct program request answers).ending

-- what the objects hold, and of each open request the answers so far
pub record Scene : Type 0 where
  pub objects : Objects
  pub answers : ℕ → Option (List Datum)

-- nothing is open yet
abbrev pub opening : Objects → Scene
opening objects = record { objects = objects; answers = λ r. None }

-- a request has these answers, or is not open
abbrev pub with_request : ℕ → Option (List Datum) → (ℕ → Option (List Datum)) → ℕ → Option (List Datum)
with_request r a answers x = if nat_eq r x then a else answers x

-- where a request stands; nowhere, where the trace has none or it isn't open
abbrev pub ending_with : Program → Option Request → Option (List Datum) → Option Ending
ending_with program (Some q) (Some answers) = Some (ending_of program q answers)
ending_with program (Some q) None = None
ending_with program None answers = None

-- what an open request of the trace does next
abbrev pub next_of : Program → List TraceEvent → Scene → ℕ → Option Ending
next_of program trace scene r = ending_with program (request_of trace r) (scene.answers r)

-- A request arrives where it isn't open. It acts where it wants an operation whose object takes the choice. It departs where it
-- ends.
abbrev pub IsAllowed : Program → List TraceEvent → Scene → Moment → Type 0
IsAllowed program trace scene (Arrive r) = scene.answers r ≡ None
IsAllowed program trace scene (Act r choice) =
    (op : Op) × (next_of program trace scene r ≡ Some (Wants op)) × (plausible op.act choice (scene.objects op.object) ≡ true)
IsAllowed program trace scene (Depart r) = (response : Response) × (path : Path) × (next_of program trace scene r ≡ Some (Ends response path))

-- A departure gives the trace's response.
abbrev pub IsAsTraced : Program → List TraceEvent → Scene → Moment → Type 0
IsAsTraced program trace scene (Arrive r) = Unit {0}
IsAsTraced program trace scene (Act r choice) = Unit {0}
IsAsTraced program trace scene (Depart r) =
    (response : Response) (path : Path) → next_of program trace scene r ≡ Some (Ends response path) → response_of trace r ≡ Some response

-- the answers with one more, where the request is open
abbrev pub and_answer : Option (List Datum) → Datum → Option (List Datum)
and_answer None d = None
and_answer (Some ds) d = Some (ds ++ d ∷ [])

-- The operation that a request wants changes its object, and its answer joins the request's answers.
abbrev pub after_act : ℕ → Choice → Option Ending → Scene → Scene
after_act r choice (Some (Wants op)) scene = record {
  objects = holding op.object (acted op.act choice (scene.objects op.object)).0 scene.objects;
  answers = with_request r (and_answer (scene.answers r) (acted op.act choice (scene.objects op.object)).1) scene.answers;
}
after_act r choice (Some (Ends response path)) scene = scene
after_act r choice (Some Undefined) scene = scene
after_act r choice None scene = scene

-- what a moment makes of a scene
abbrev pub after : Program → List TraceEvent → Scene → Moment → Scene
after program trace scene (Arrive r) = record scene { answers = with_request r (Some []) scene.answers }
after program trace scene (Act r choice) = after_act r choice (next_of program trace scene r) scene
after program trace scene (Depart r) = record scene { answers = with_request r None scene.answers }

-- Every moment is allowed, one after the other, and every departure is as traced.
abbrev pub Plays : Program → List TraceEvent → Scene → List Moment → Type 0
Plays program trace scene [] = Unit {0}
Plays program trace scene (m ∷ ms) =
    IsAllowed program trace scene m × IsAsTraced program trace scene m × Plays program trace (after program trace scene m) ms

-- the scene in which a schedule ends, from this one on
abbrev pub scene_after : Program → List TraceEvent → Scene → List Moment → Scene
scene_after program trace scene [] = scene
scene_after program trace scene (m ∷ ms) = scene_after program trace (after program trace scene m) ms
