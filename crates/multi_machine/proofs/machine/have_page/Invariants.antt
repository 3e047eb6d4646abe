use Rattle.std.proofs.Common.{◌≡◌, ◌<◌, ℕ}
use Rattle.script_code.specs.Translated.{at_path}
use Rattle.multi_nodes.specs.Members.{request_at}
use Rattle.multi_machine.proofs.machine.have_page.Given as goal

abbrev pub invariant-loop-request : goal.invariant-loop-request
invariant-loop-request l = (i : ℕ) → i < l.request-index → at_path l.code.pages (request_at l.requests i).path ≡ l.page
