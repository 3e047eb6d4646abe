-- What contracts see of a recording.
use Rattle.script_check.specs.Validity.{IsValid}
use Rattle.object_set.specs.ObjectSets.{IsSetOf}
use Rattle.history.specs.Recordings.{Recorded, recorded}
use Rattle.history.specs.declared.recording.Recording.TheInside.{Inside}

-- what the recording of the code keeps
abbrev pub recorded_in : Inside → Recorded
recorded_in r = recorded r.program.value r.objects r.arrived r.visits.items

-- The program is valid, and the objects are its own.
pub record IsOfProgram (r : Inside) : Type 0 where
  pub objects : IsSetOf r.program.value r.objects
  pub valid : IsValid r.program.value
