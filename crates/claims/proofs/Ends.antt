-- What the words say at the end, to the seat that has all parts.
use Rattle.std.proofs.Common.{◌≡◌, ℕ, ◌≤◌, List, [], ◌∷◌, true, IsPermutation, sum_by, sym, ap, ◌∙◌, subst, min, arith}
use Rattle.std.specs.List.{flat_map}
use Rattle.std.proofs.lemmas.List.Elements.{All-weaker}
use mathlib.Core.Option.{some, some-injective}
use lib.ListN.{get_elem?}
use Rattle.atomic_table.specs.Table.{Final, Seen}
use Rattle.claims.specs.declared.view.View.{View}
use Rattle.claims.specs.Lists.{numbers_below, IsLeastOf}
use Rattle.claims.specs.Rule.{IsTrueOf, IsKept}
use Rattle.claims.specs.Views.{all_parts}
use Rattle.claims.proofs.Gathering.{flat_map-only}
use Rattle.claims.proofs.Known.{parts, drawn, lowered, seat-at}

-- So many numbers were drawn, and this is the least.
pub record IsEnd (limit : ℕ) (v : View) (count least : ℕ) : Type 0 where
  pub once : IsPermutation v.drawn (numbers_below count)
  pub all : v.none_left ≡ true → count ≡ limit
  pub lowest : IsLeastOf (limit ∷ v.lowered) least
  pub bound : least ≤ v.bound

pub ends : (limit id : ℕ) (v : View) (words : List ℕ) (slots : List (Unit {0})) (next least count : ℕ) → v.parts ≡ all_parts
    → Final (Seen (IsKept limit) id v) words slots → get_elem? words 0 ≡ some next → get_elem? words 1 ≡ some least → count ≡ min next limit
    → IsEnd limit v count least
ends limit id v words slots next least count whole final first second counted =
    let s = final.0 in let r = final.1.0 in let at = final.1.1 in
    let known = seat-at s.views id v r.seats at in
    let are : words ≡ r.next ∷ r.least ∷ [] = sym final.2 ∙ r.words in
    let next_is : r.next ≡ next = some-injective r.next next (sym (ap (λ (l : List ℕ). get_elem? l 0) are) ∙ first) in
    let least_is : r.least ≡ least = some-injective r.least least (sym (ap (λ (l : List ℕ). get_elem? l 1) are) ∙ second) in
    let count_is : min r.next limit ≡ count = ap (λ (k : ℕ). min k limit) next_is ∙ sym counted in
    let only : sum_by parts s.views ≡ v.parts = r.whole ∙ sym whole in
    let true_of = IsTrueOf limit r.next r.least in
    let all_drawn : flat_map drawn s.views ≡ v.drawn =
    flat_map-only drawn parts s.views id v at only (All-weaker true_of (λ u. u.parts ≡ 0 → u.drawn ≡ []) (λ u t. t.drew_none) s.views r.seats) in
    let all_lowered : flat_map lowered s.views ≡ v.lowered =
    flat_map-only lowered parts s.views id v at only (All-weaker true_of (λ u. u.parts ≡ 0 → u.lowered ≡ []) (λ u t. t.lowered_none) s.views r.seats) in
    record {
      once = subst (λ (l : List ℕ). IsPermutation l (numbers_below count)) all_drawn
          (subst (λ (k : ℕ). IsPermutation (flat_map drawn s.views) (numbers_below k)) count_is r.once);
      all = λ e. let a = known.none_left e in omega arith;
      lowest = subst (λ (l : List ℕ). IsLeastOf (limit ∷ l) least) all_lowered (subst (IsLeastOf (limit ∷ flat_map lowered s.views)) least_is r.lowest);
      bound = let a = known.bound (omega arith) in omega arith;
    }
