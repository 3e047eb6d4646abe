use Rattle.audit_completeness.proofs.Fitting.{fits}
use Rattle.audit_completeness.proofs.law.schedule_fits.Goals as goal

pub returns : goal.returns
returns c = fits
