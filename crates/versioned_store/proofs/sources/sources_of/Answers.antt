use Rattle.std.proofs.Common.{◌≡◌, ◌∙◌, ℕ, ◌+◌, List, [], ◌∷◌, length, length-append, Some, if◌then◌else◌, arith, refl, sym, ap, subst}
use Rattle.basis.specs.Lists.{nth}
use Rattle.versioned_store.specs.Firsts.{firsts_in, source_by, with_entry}
use Rattle.versioned_store.specs.Sources.{IsSource}
use Rattle.versioned_store.proofs.Firsts.{no_firsts, next_source, after_entry, push_each}
use Rattle.versioned_store.proofs.Telling.{nth_get}
use Rattle.versioned_store.proofs.sources.sources_of.Goals as goal

pub loop-entry-init : goal.loop-entry-init
loop-entry-init c = record {
  place = refl;
  firsts = no_firsts c.args.entries.now _ (λ a. ap (λ es. firsts_in (λ k. k.now) es a) c.new-firsts.ensures.empty);
  count = ap (λ (xs : List ℕ). length xs) c.in_ok-sources.ensures.items;
  each = λ p d h. absurd (omega (arith, h, ap (λ (xs : List ℕ). length xs) c.in_ok-sources.ensures.items));
}

pub loop-entry-preserved : goal.loop-entry-preserved
loop-entry-preserved c =
    let entries = c.args.entries.now in
    let i = c.loop-entry.entry-index in
    let v = c.loop-entry.invariant in
    let e = c.entry-item.result in
    let more = c.in_ok-push.ensures.items in
    let old = firsts_in (λ k. k.now) c.loop-entry.firsts.entries in
    let at : nth entries i ≡ Some e = nth_get entries i e e c.loop-entry-test.true c.entry-item.is in
    let source : c.in_ok-source_of.field-0 ≡ source_by old e.act i = c.in_ok-source_of.ensures.source ∙ ap (source_by old e.act) v.place in
    record {
      place = c.in_ok-position.ensures ∙ ap (λ n. n + 1) v.place;
      firsts = after_entry entries old _ _ i e at v.firsts (c.in_ok-source_of.ensures.noted ∙ ap (with_entry old e.act) v.place)
          (λ k. ap (firsts_in (λ k. k.now)) (c.firsts_after-firsts.ensures ∙ ap (λ b. if b then c.source_of.new.firsts.entries else []) k))
          (λ k a. ap (λ es. firsts_in (λ k. k.now) es a) (c.firsts_after-firsts.ensures ∙ ap (λ b. if b then c.source_of.new.firsts.entries else []) k));
      count = ap (λ (xs : List ℕ). length xs) more ∙ length-append c.loop-entry.sources.items (c.in_ok-source_of.field-0 ∷ []) ∙ ap (λ n. n + 1) v.count;
      each = push_each (IsSource entries) c.loop-entry.sources.items c.push.new.self.items i c.in_ok-source_of.field-0 more v.count v.each
          (subst (IsSource entries i) (sym source) (next_source entries old i e at v.firsts));
    }

pub returns : goal.returns
returns c = record {
  count = let ends = c.loop-entry.auto.entry-index-end in omega (arith, c.loop-entry.invariant.count, c.loop-entry-test.false, ends);
  each = c.loop-entry.invariant.each;
}
