-- What the fields of a run stand for, and what is true of them.
use Rattle.std.specs.Prelude.{◌≤◌, None}
use Rattle.script_tree.specs.declared.limits.TheConstants.{MOST_STEPS, MOST_OPERATIONS}
use Rattle.script_meaning.specs.Run.{Progress}
use Rattle.page_walker.specs.declared.run.Run.TheInside.{Inside}

-- the progress of a run
abbrev pub progress_of : Inside → Progress
progress_of r = record {
  steps = r.steps;
  operations = r.operations;
  costs = None;
  trail = r.trail.items;
  answers = r.answers.now;
  status = r.output.status;
  body = r.output.body;
}

-- No run spends more steps, or issues more operations, than it may.
pub record IsWithinBounds (r : Inside) : Type 0 where
  pub steps : r.steps ≤ MOST_STEPS
  pub operations : r.operations ≤ MOST_OPERATIONS
