use Rattle.std.proofs.Common.{◌≡◌, ◌≤◌, drop}
use Rattle.script_code.specs.Translated.{IsEmpty}
use Rattle.script_code.proofs.Written.{IsWritten}
use Rattle.script_code.proofs.translate.write_declarations.Given as goal

abbrev pub invariant-loop-declaration : goal.invariant-loop-declaration
invariant-loop-declaration l = record {
  few : l.page_count ≤ l.declaration-index;
  written : l.emitter ≡ l.program → IsEmpty l.initial.code → IsWritten l.program l.declaration-items (drop l.declaration-index l.declaration-items) l.page_count l.code;
}
