use Rattle.std.proofs.Common.{◌≡◌, ◌∙◌, ◌+◌, ℕ, List, ◌∷◌, if◌then◌else◌, Some, drop, sym, ap, arith}
use Rattle.std.proofs.lemmas.List.{drop_more, at_drop_all}
use Rattle.std.specs.Str.{bytes_eq}
use Rattle.script_check.proofs.Told.{told, none_so_far, one_more, none_left}
use Rattle.script_code.specs.Callees.{number_from}
use Rattle.script_code.proofs.Numbers.{same_option}
use Rattle.script_code.proofs.emitter.numbers_of.Goals as goal
use Rattle.script_code.proofs.emitter.numbers_of.Goals.{in-Store, in-Table, in-Function+in_ok-add-in-Function, in-Page}

pub loop-declaration-init : goal.loop-declaration-init
loop-declaration-init c = record {
  few = omega arith;
  told = λ (f : List ℕ). none_so_far (λ n. n) c.new-numbers.result f (number_from 0 f c.declarations-declaration-items.result.now) c.new-numbers.ensures.empty;
}

pub loop-declaration-preserved : goal.loop-declaration-preserved
loop-declaration-preserved c =
    let ds = c.declarations-declaration-items.result.now in
    let i = c.loop-declaration.declaration-index in
    let d = c.declaration-item.result in
    let old = c.loop-declaration.numbers in
    let n = c.loop-declaration.count in
    let so_far = c.loop-declaration.invariant in
    let left = drop (i + 1) ds in
    let here : drop i ds ≡ d ∷ left = drop_more ds i d c.loop-declaration-test.true ∙ ap (λ e. e ∷ left) (sym c.declaration-item.is) in
    let numbers : (f : List ℕ) → told (λ k. k) old f (number_from n f (d ∷ left)) ≡ number_from 0 f ds = λ f. ap (λ l. told (λ k. k) old f (number_from n f l)) (sym here) ∙ so_far.told f in
    elim c.match-declaration.branch [
      | in-Store w ↦ record {
        few = omega (arith, w.count-is, so_far.few);
        told = λ (f : List ℕ). (λ j. told (λ k. k) (w.numbers-is j) f (number_from (w.count-is j) f left))
            ∙ ap (λ e. told (λ k. k) old f (number_from n f (e ∷ left))) (sym w.in-Store.is) ∙ numbers f;
      }
      | in-Table w ↦ record {
        few = omega (arith, w.count-is, so_far.few);
        told = λ (f : List ℕ). (λ j. told (λ k. k) (w.numbers-is j) f (number_from (w.count-is j) f left))
            ∙ ap (λ e. told (λ k. k) old f (number_from n f (e ∷ left))) (sym w.in-Table.is) ∙ numbers f;
      }
      | in-Function+in_ok-add-in-Function w ↦ record {
        few = omega (arith, w.count-is, so_far.few);
        told = λ (f : List ℕ).
            (λ j. told (λ k. k) (w.numbers-is j) f (number_from (w.count-is j) f left))
            ∙ sym (one_more (λ k. k) old w.add.new.numbers w.as_bytes.result.now n f (number_from (n + 1) f left) w.in_ok-add-in-Function.ensures)
            ∙ ap (λ t. told (λ k. k) old f (if bytes_eq f t then Some n else number_from (n + 1) f left)) w.as_bytes.ensures
            ∙ ap (λ e. told (λ k. k) old f (number_from n f (e ∷ left))) (sym w.in-Function.is) ∙ numbers f;
      }
      | in-Page w ↦ record {
        few = omega (arith, w.count-is, so_far.few);
        told = λ (f : List ℕ). (λ j. told (λ k. k) (w.numbers-is j) f (number_from (w.count-is j) f left))
            ∙ ap (λ e. told (λ k. k) old f (number_from n f (e ∷ left))) (sym w.in-Page.is) ∙ numbers f;
      }
    ]

pub returns : goal.returns
returns c =
    let ds = c.declarations-declaration-items.result.now in
    let i = c.loop-declaration.declaration-index in
    let numbers = c.loop-declaration.numbers in
    let n = c.loop-declaration.count in
    λ (f : List ℕ).
    same_option _
    ∙ none_left (λ k. k) numbers f
    ∙ sym (at_drop_all (λ left. told (λ k. k) numbers f (number_from n f left)) ds i c.loop-declaration-test.false)
    ∙ c.loop-declaration.invariant.told f
    ∙ ap (number_from 0 f) c.declarations-declaration-items.ensures.declarations
