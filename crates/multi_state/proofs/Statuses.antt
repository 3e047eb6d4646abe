-- Statuses that members set.
use Rattle.std.proofs.Common.{◌≡◌, ℕ, Bool, true, false, cond, pos, negsuc, Result, Ok, Err, sym, ap, ◌∙◌}
use Rattle.script_tree.specs.Datum.{Datum, null, bool, number, text, list}
use Rattle.script_tree.specs.declared.fault.ScriptFault.{ScriptFault}
use Rattle.script_tree.specs.declared.fault.ScriptFault.TheVariants.{OutOfRange}
use Rattle.script_meaning.specs.Operands.{status_in, is_status}
use Rattle.script_meaning.specs.Run.{Progress, goes}
use Rattle.script_nodes.specs.NodeLaws.{set_status_to}
use Rattle.multi_state.specs.Progress.{status_number}

abbrev ok_or : ℕ → Result ℕ ScriptFault → ℕ
ok_or k (Ok n) = n
ok_or k (Err f) = k

status_there : (d : Datum) (n : ℕ) → status_in d ≡ Ok n → d ≡ number (pos n)
status_there null n h = cc
status_there (bool b) n h = cc
status_there (number (pos k)) n h = ap (λ j. number (pos j)) (by (is_status k) h)
  where
    by : (b : Bool) → cond b (Ok k) (Err OutOfRange) ≡ Ok n → k ≡ n
    by true e = ap (ok_or k) e
    by false e = cc
status_there (number (negsuc k)) n h = cc
status_there (text bs) n h = cc
status_there (list ds) n h = cc

pub sets : (d : Datum) (n : ℕ) (p : Progress) → status_in d ≡ Ok n → set_status_to d p ≡ goes tt (record p { status = status_number d })
sets d n p h =
    let e = status_there d n h in
    ap (λ x. set_status_to x p) e ∙ ap (λ x. goes tt (record p { status = status_number x })) (sym e)
