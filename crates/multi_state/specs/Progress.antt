-- Where a member's run is, by what its group keeps.
use Rattle.std.specs.Prelude.{ℕ, ◌+◌, pos, negsuc, List, [], ◌∷◌, ◌++◌, reverse, Option, Some, None}
use Rattle.script_tree.specs.Datum.{Datum, null, bool, number, text, list}
use Rattle.script_tree.specs.declared.operation.Op.{Op}
use Rattle.script_meaning.specs.Run.{Cost, Progress}
use Rattle.script_meaning.specs.declared.run.Mark.{Mark}
use Rattle.script_meaning.specs.declared.run.Mark.TheVariants.{Decided as decided, Issued as issued}
use Rattle.multivalue.specs.Many.{member_value}
use Rattle.multi_bodies.specs.BodiesOf.{body_at}
use Rattle.multi_nodes.specs.Answers.{nothing}
use Rattle.multi_nodes.specs.Charges.{price}
use Rattle.multi_state.specs.declared.account.Account.{Account}
use Rattle.multi_state.specs.declared.account.BareMark.{BareMark}
use Rattle.multi_state.specs.declared.account.BareMark.TheVariants as left

-- ---- marks

-- The marks of a trail that is read backwards, as are the operations that belong in their places; nothing stands for one
-- that is missing, so that there are as many marks.
abbrev pub marks_back : List BareMark → List Op → List Mark
marks_back [] ops = []
marks_back (left.Decided b ∷ ts) ops = decided b ∷ marks_back ts ops
marks_back (left.Issued ∷ ts) [] = issued nothing ∷ marks_back ts []
marks_back (left.Issued ∷ ts) (op ∷ ops) = issued op ∷ marks_back ts ops

-- the marks of a trail with these operations, the last one first
abbrev pub marks_of : List BareMark → List Op → List Mark
marks_of ts ops = reverse (marks_back (reverse ts) ops)

-- a mark, of an operation only that there was one
abbrev pub bare : Mark → BareMark
bare (decided b) = left.Decided b
bare (issued op) = left.Issued

-- ---- charges

-- what each step of a group was spent on, for each member; the last first
abbrev pub Charges : Type 0
Charges = List (ℕ → Cost)

-- a member's
abbrev pub costs_at : ℕ → Charges → List Cost
costs_at i [] = []
costs_at i (c ∷ cs) = c i ∷ costs_at i cs

-- what they cost n members
abbrev pub total : ℕ → Charges → ℕ
total n [] = 0
total n (c ∷ cs) = price n c + total n cs

-- with these in front, where any are kept
abbrev pub extended : List Cost → Option (List Cost) → Option (List Cost)
extended cs None = None
extended cs (Some ds) = Some (cs ++ ds)

-- ---- responses

-- the status that a number is
abbrev pub status_number : Datum → ℕ
status_number null = 0
status_number (bool b) = 0
status_number (number (pos n)) = n
status_number (number (negsuc n)) = 0
status_number (text bytes) = 0
status_number (list ds) = 0

-- ---- a member

-- what the code doesn't keep of a member
pub record Unseen : Type 0 where
  -- the costs from before, where any are kept
  pub kept : Option (List Cost)
  -- the operations that were answered, the last first, and the answers to come
  pub ops : List Op
  pub more : List Datum

-- a member's progress, with what its steps were charged for
abbrev pub progress_at : Account → Charges → ℕ → Unseen → Progress
progress_at a cs i u = record {
  steps = a.steps;
  operations = a.operations;
  costs = extended (costs_at i cs) u.kept;
  trail = marks_of a.trail.items u.ops;
  answers = u.more;
  status = status_number (member_value a.status i);
  body = body_at i a.bodies;
}
