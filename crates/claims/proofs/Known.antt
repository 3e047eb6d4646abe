-- What the rule says of one seat, and after its view changed.
use Rattle.std.proofs.Common.{◌≡◌, ℕ, ◌+◌, ◌≤◌, List, [], ◌∷◌, Bool, true, false, All, IsPermutation, sum_by, refl, sym, subst, set, min, arith}
use Rattle.std.specs.List.{flat_map}
use Rattle.std.proofs.lemmas.List.Elements.{All-get_or, All-set, All-weaker}
use mathlib.Core.Option.{some}
use lib.ListN.{get_elem?}
use Rattle.atomic_table.specs.Table.{State}
use Rattle.claims.specs.declared.view.View.{View}
use Rattle.claims.specs.Lists.{numbers_below, IsLeastOf}
use Rattle.claims.specs.Rule.{drawing_parts, IsTrueOf, IsKept}
use Rattle.claims.specs.Views.{all_parts}
use Rattle.claims.proofs.Gathering.{at_place, sum_by-changed, sum_by-below, flat_map-same}

abbrev pub parts : View → ℕ
parts v = v.parts

abbrev pub drawn : View → List ℕ
drawn v = v.drawn

abbrev pub lowered : View → List ℕ
lowered v = v.lowered

drawing-parts : (v : View) → drawing_parts v ≤ v.parts
drawing-parts v = go v.none_left refl
  where
    go : (b : Bool) → v.none_left ≡ b → drawing_parts v ≤ v.parts
    go true e = rw e (omega arith)
    go false e = rw e (omega arith)

-- the seats that may still draw have no more than all parts
pub drawing-within : {limit : ℕ} (s : State (Unit {0}) View) → IsKept limit s → sum_by drawing_parts s.views ≤ all_parts
drawing-within s r = let below = sum_by-below drawing_parts parts drawing-parts s.views in let whole : sum_by parts s.views ≡ all_parts = r.whole in omega arith

-- what is true of one seat
pub seat-at : {limit next least : ℕ} (views : List View) (id : ℕ) (v : View) → All (IsTrueOf limit next least) views → get_elem? views id ≡ some v
    → IsTrueOf limit next least v
seat-at {limit} {next} {least} views id v all at =
    let there = at_place views id v at in
    subst (IsTrueOf limit next least) there.1 (All-get_or (IsTrueOf limit next least) views id v there.0 all)

-- what is true of all seats, after one of them changed, while the next number rose and the least fell
pub seats-set : {limit next least next' least' : ℕ} (views : List View) (id : ℕ) (w : View) → next ≤ next' → least' ≤ least
    → IsTrueOf limit next' least' w → All (IsTrueOf limit next least) views → All (IsTrueOf limit next' least') (set views id w)
seats-set {limit} {next} {least} {next'} {least'} views id w up down here all =
    All-set (IsTrueOf limit next' least') views id w here (All-weaker (IsTrueOf limit next least) (IsTrueOf limit next' least') still views all)
  where
    still : (v : View) → IsTrueOf limit next least v → IsTrueOf limit next' least' v
    still v t = record {
      none_left = λ e. let a = t.none_left e in omega arith;
      bound = λ p. let a = t.bound p in omega arith;
      drew_none = t.drew_none;
      lowered_none = t.lowered_none;
    }

module _ {limit : ℕ} (id : ℕ) (v : View) (s : State (Unit {0}) View) (r : IsKept limit s) (at : get_elem? s.views id ≡ some v) where
  -- the seat drew no more
  pub once-same : (w : View) → w.drawn ≡ v.drawn → IsPermutation (flat_map drawn (set s.views id w)) (numbers_below (min r.next limit))
  once-same w same = subst (λ (l : List ℕ). IsPermutation l (numbers_below (min r.next limit))) (sym (flat_map-same drawn s.views id v w at same)) r.once

  -- the seat lowered the least no more
  pub lowest-same : (w : View) → w.lowered ≡ v.lowered → IsLeastOf (limit ∷ flat_map lowered (set s.views id w)) r.least
  lowest-same w same = subst (λ (l : List ℕ). IsLeastOf (limit ∷ l) r.least) (sym (flat_map-same lowered s.views id v w at same)) r.lowest

  -- the rule after a step on a word, in which the seat keeps its parts
  pub seat-changed : (w : View) (words : List ℕ) (next least : ℕ) → words ≡ next ∷ least ∷ [] → r.next ≤ next → least ≤ r.least → w.parts ≡ v.parts
      → (sum_by drawing_parts (set s.views id w) + drawing_parts v ≡ sum_by drawing_parts s.views + drawing_parts w
      → next + sum_by drawing_parts (set s.views id w) ≤ limit + all_parts)
      → IsPermutation (flat_map drawn (set s.views id w)) (numbers_below (min next limit))
      → IsLeastOf (limit ∷ flat_map lowered (set s.views id w)) least
      → IsTrueOf limit next least w
      → IsKept limit record { words = words; homes = s.homes; views = set s.views id w }
  seat-changed w words next least are up down share room once lowest true_of = record {
    next = next;
    least = least;
    words = are;
    once = once;
    lowest = lowest;
    whole = let shares = sum_by-changed parts s.views id v w at in let whole : sum_by parts s.views ≡ all_parts = r.whole in omega arith;
    room = room (sum_by-changed drawing_parts s.views id v w at);
    seats = seats-set s.views id w up down true_of r.seats;
  }
