use Rattle.std.proofs.Common.{◌≡◌, ◌∙◌, Some, None, refl, sym, ap}
use Rattle.std.specs.Option.{option_copied}
use Rattle.versioned_store.specs.Firsts.{firsts_in}
use Rattle.versioned_store.proofs.FirstMaps.{sought, source_found, firsts_stay, source_new, firsts_new}
use Rattle.versioned_store.proofs.sources.source_of.Goals as goal

pub returns-in-Some-clause-source : goal.returns-in-Some-clause-source
returns-in-Some-clause-source c =
    let es = c.args.firsts.now.entries in
    let act = c.args.act.now in
    let firsts = firsts_in (λ k. k.now) es in
    let there : firsts act ≡ Some c.in-Some.first.now = sym (sought (λ k. k.now) es act) ∙ sym c.get.ensures.value ∙ ap option_copied c.in-Some.is in
    source_found firsts act c.args.position c.in-Some.first.now c.if-not-selects_alone.ensures there

pub returns-in-Some-clause-noted : goal.returns-in-Some-clause-noted
returns-in-Some-clause-noted c =
    let es = c.args.firsts.now.entries in
    let act = c.args.act.now in
    let firsts = firsts_in (λ k. k.now) es in
    let there : firsts act ≡ Some c.in-Some.first.now = sym (sought (λ k. k.now) es act) ∙ sym c.get.ensures.value ∙ ap option_copied c.in-Some.is in
    firsts_stay firsts act c.args.position c.in-Some.first.now c.if-not-selects_alone.ensures there

pub returns-in_ok-insert-in-None-clause-source : goal.returns-in_ok-insert-in-None-clause-source
returns-in_ok-insert-in-None-clause-source c =
    let es = c.args.firsts.now.entries in
    let act = c.args.act.now in
    let firsts = firsts_in (λ k. k.now) es in
    let none : firsts act ≡ None = sym (sought (λ k. k.now) es act) ∙ sym c.get.ensures.value ∙ ap option_copied c.in-None.is in
    source_new firsts act c.args.position none

pub returns-in_ok-insert-in-None-clause-noted : goal.returns-in_ok-insert-in-None-clause-noted
returns-in_ok-insert-in-None-clause-noted c =
    let es = c.args.firsts.now.entries in
    let act = c.args.act.now in
    let firsts = firsts_in (λ k. k.now) es in
    let none : firsts act ≡ None = sym (sought (λ k. k.now) es act) ∙ sym c.get.ensures.value ∙ ap option_copied c.in-None.is in
    firsts_new (λ k. k.now) (λ a. record c.args.act { now = a }) c.args.act es c.insert.new.self.entries c.args.position (λ a. refl)
    c.in_ok-insert-in-None.ensures.updates.0 c.if-not-selects_alone.ensures none
