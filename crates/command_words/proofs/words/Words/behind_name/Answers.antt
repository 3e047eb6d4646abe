use Rattle.std.proofs.Common.{◌≡◌, ◌∙◌, ap, map, Ok, string_bytes}
use Rattle.std.proofs.lemmas.Iterator.Adapters.{YieldsList-from_skip, YieldsList-from_vec, fact_from_collect}
use Rattle.std.specs.Vec.Iter.{into_iter_items, into_iter_len}
use Rattle.command_words.proofs.words.Words.behind_name.Goals as goal

-- what is collected is what the arguments yield behind their first
pub returns : goal.returns
returns c =
    let args = c.args.args in
    let source = c.skip.ensures.source in
    let all = YieldsList-from_vec (into_iter_items args) (ap into_iter_items source)
    (ap into_iter_len source ∙ args.rest.ok.0) in
    let found = fact_from_collect {E = Unit {0}} (λ xs v. v.items ≡ xs) (Ok c.in_ok-collect.field-0)
    (c.in_ok-collect.ensures.ran.0, c.in_ok-collect.ensures.ran.1, c.in_ok-collect.ensures.ran.2.0)
    (YieldsList-from_skip 1 all c.skip.ensures.count) in
    ap (map string_bytes) found
