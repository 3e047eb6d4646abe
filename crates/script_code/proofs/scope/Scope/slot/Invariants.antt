use Rattle.std.proofs.Common.{◌≡◌, ◌+◌, drop, map}
use Rattle.script_code.specs.Code.{slot_of}
use Rattle.script_code.specs.ScopeView.{text_in}
use Rattle.script_code.proofs.scope.Scope.slot.Given as goal

-- the name is among what is left
abbrev pub invariant-loop-known : goal.invariant-loop-known
invariant-loop-known l = record {
  place : l.slot ≡ l.known-index;
  left : l.slot + slot_of (map text_in (drop l.known-index l.known-items)) l.name ≡ slot_of (map text_in l.known-items) l.name;
}
