use Rattle.std.proofs.Common.{◌≡◌, true, rules}
use Rattle.multivalue.specs.Many.{member_value}
use Rattle.multi_state.specs.Progress.{progress_at}
use Rattle.multi_state.proofs.Statuses.{sets}
use Rattle.multi_state.proofs.account.Account.set_status.Goals as goal

pub returns-clause-sets : goal.returns-clause-sets
returns-clause-sets c cs i lt u =
    let yes : c.are_statuses.result ≡ true = search rules in
    let h = c.are_statuses.ensures yes i lt in
    sets (member_value c.args.statuses i) h.0 (progress_at c.args.self.now cs i u) h.1
