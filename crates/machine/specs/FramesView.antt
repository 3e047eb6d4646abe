-- Where a call goes on, as the definition sees it.
use Rattle.script_code.specs.CodeRun as meant
use Rattle.machine.specs.declared.frames.Frame.{Frame}

-- where a call goes on, with the values that its function has
abbrev pub frame_of : Frame → meant.Frame
frame_of f = record { place = f.place; stack = f.stack; slots = f.slots.items }
