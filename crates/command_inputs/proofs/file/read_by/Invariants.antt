use Rattle.std.proofs.Common.{◌≡◌, ◌≤◌, ◌-◌, ℕ, List, Some, take, vec_len}
use Rattle.std.specs.FinMap.{get}
use Rattle.outside.specs.Files.{Files}
use Rattle.command_inputs.proofs.Once.{IsReadTo}
use Rattle.command_inputs.proofs.file.read_by.Given as goal

-- no read so far was refused, and what was read is the front of the file, where it is there
abbrev pub invariant-pieces : goal.invariant-pieces
invariant-pieces g l =
    let told = g.F.Shelf.told in
    let calls = g.F.Shelf.calls in
    record {
      within : vec_len l.bytes ≤ l.fn.most;
      still : told l.shelf ≡ told l.fn.shelf;
      front : (files : Files) → (told l.fn.shelf).files ≡ Some files
          → (file : List ℕ) → get files l.name ≡ Some file → l.bytes.items ≡ take (vec_len l.bytes) file;
      once : IsReadTo (calls l.fn.shelf) (calls l.shelf) l.name (vec_len l.bytes);
    }

abbrev pub decreases-pieces : goal.decreases-pieces
decreases-pieces g l = l.fn.most - vec_len l.bytes
