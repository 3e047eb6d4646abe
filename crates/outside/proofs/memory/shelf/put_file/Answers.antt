use Rattle.std.proofs.Common.{ℕ, List, string_bytes, ap, ◌∙◌}
use Rattle.std.specs.FinMap.{insert}
use Rattle.outside.specs.MemShelf.{files_of}
use Rattle.outside.proofs.ShelfFiles.{files_of-insert}
use Rattle.outside.proofs.memory.shelf.put_file.Goals as goal

pub returns-clause-ok : goal.returns-clause-ok
returns-clause-ok c =
    files_of-insert c.args.files.now c.insert.new.self (string_bytes c.in_ok-key.key) c.in_ok-from_slice.field-0 c.in_ok-insert.ensures.updates
    ∙ ap (λ (name : List ℕ). insert (files_of c.args.files.now) name c.in_ok-from_slice.field-0.items) c.in_ok-key.ensures.ok
    ∙ ap (λ (bytes : List ℕ). insert (files_of c.args.files.now) c.args.name.now bytes) c.in_ok-from_slice.ensures.items
