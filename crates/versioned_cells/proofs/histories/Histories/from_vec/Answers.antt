use Rattle.std.proofs.Common.{◌≡◌, ◌∙◌, ℕ, List, None, subst, sym}
use Rattle.std.specs.BTreeMap.{is_at}
use Rattle.std.specs.Cmp.Lexicographic.{slice_cmp}
use Rattle.std.specs.Map.{lookup, update_all}
use Rattle.std.specs.Ordering.{nat_cmp, eq_by_cmp}
use Rattle.std.proofs.lemmas.Iterator.{items_from_drains}
use Rattle.std.proofs.lemmas.List.{map-id}
use Rattle.std.proofs.lemmas.Iterator.Adapters.{YieldsList-from_vec}
use Rattle.versioned_cells.proofs.HistoryFacts.{are_last}
use Rattle.versioned_cells.proofs.histories.Histories.from_vec.Goals as goal

pub returns : goal.returns
returns g c =
    let ran = c.in_ok-by_key.ensures.ran in
    let pairs = c.args.histories.items in
    let es = c.in_ok-by_key.by_key.entries in
    let all : ran.1 ≡ pairs = sym (map-id ran.1) ∙ items_from_drains ran.1 ran.3 (YieldsList-from_vec {s = ran.0} pairs ran.2.0 (ran.2.1 ∙ c.args.histories.ok.0)) in
    are_last pairs es (subst (λ ps. (q : List ℕ) → lookup (is_at (slice_cmp nat_cmp q)) es ≡ update_all (eq_by_cmp (slice_cmp nat_cmp)) (λ _. None) ps q) all ran.4.0)
