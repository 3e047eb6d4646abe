use Rattle.std.proofs.Common.{◌∙◌, sym, refl}
use Rattle.json_texts.proofs.Members.{next_pair}
use Rattle.json_texts.proofs.text.hex_bytes.Goals as goal

pub loop-rest-preserved : goal.loop-rest-preserved
loop-rest-preserved c =
    c.loop-rest.invariant ∙ next_pair c.loop-rest.rest.now c.loop-rest.bytes.items c.push.new.self.items c.in-Some.byte _ c.in-len2-up.len_at_least refl (sym c.hex_byte.ensures ∙ c.in-Some.is) c.in_ok-push-in-Some.ensures.items
