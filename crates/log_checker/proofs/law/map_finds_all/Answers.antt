use Rattle.log_checker.proofs.Finding as finding
use Rattle.log_checker.proofs.law.map_finds_all.Goals as goal

pub returns : goal.returns
returns c = finding.map_finds_all
