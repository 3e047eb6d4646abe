use Rattle.std.proofs.Common.{◌≡◌, ◌∙◌, [], ◌∷◌, ◌++◌, ap, sym, subst}
use Rattle.wire.specs.Recorded.{payloads_at, StandAt}
use Rattle.wire.proofs.RecordSteps.{payloads_more, stands_more}
use Rattle.wire.proofs.records.Records.read.Goals as goal

pub loop-places-preserved-in_ok-push : goal.loop-places-preserved-in_ok-push
loop-places-preserved-in_ok-push g c =
    let format = g.R.RecordFormat.format in
    let old = c.loop-places.invariant in
    let bytes = c.args.bytes.items in
    let places = c.loop-places.places.items in
    let at = c.in-Some.at in
    let x = c.in-Some.field-0-1 in
    let file = c.next.new.self in
    let found = rw c.in-Some.is at c.in_ok-at.ensures.reads bytes old.items old.read in
    let pushed : c.push.new.self.items ≡ places ++ at ∷ [] = subst (λ p. c.push.new.self.items ≡ places ++ p ∷ []) c.in_ok-as_place.ensures c.in_ok-push.ensures.items in
    record {
      items = old.items ++ x ∷ [];
      read = found.1;
      payloads = ap (payloads_at bytes) pushed ∙ payloads_more format bytes places old.items at file.at x old.payloads found.0;
      stand = subst (StandAt bytes) (sym pushed) (stands_more format bytes places old.items at file.at x old.stand found.0);
    }
