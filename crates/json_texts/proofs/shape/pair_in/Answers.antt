use Rattle.std.proofs.Common.{◌≡◌, sym, arith}
use Rattle.serde_json.specs.Events.{items_len}
use Rattle.serde_json.specs.View.{items_view}
use Rattle.serde_json.proofs.Views.{items_len-items_view}
use Rattle.json_texts.proofs.Members.{other_items}
use Rattle.json_texts.proofs.shape.pair_in.Goals as goal

pub returns-then-len-ne2 : goal.returns-then-len-ne2
returns-then-len-ne2 c =
    let vs = c.args.items.now.items in
    sym (other_items (items_view vs) (λ (two : items_len (items_view vs) ≡ 2). c.if-len-ne2.true (omega (arith, c.len.ensures, c.args.items.now.ok.0, items_len-items_view vs, two))))
