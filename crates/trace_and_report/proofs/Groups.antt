-- Groups, and one member more.
use Rattle.std.proofs.Common.{◌≡◌, ◌∙◌, arith, length, Bool, true, false, cond, List, [], ◌∷◌, ◌++◌, Option, Some, None, Vec, Global, map, refl, ap, unwrap_or}
use Rattle.std.specs.Prelude.{option_map}
use Rattle.std.specs.Map.{lookup}
use Rattle.std.proofs.lemmas.List.{length-map}
use Rattle.indexmap.specs.IndexMap.{IndexMap, get, insert_entry}
use Rattle.trace_and_report.specs.Grouped.{entries_in, groups_in, and_member}

abbrev pub lists : {K V : Type 0} → List (K × Vec V Global) → List (K × List V)
lists es = map (λ g. (g.0, g.1.items)) es

module _ {K V : Type 0} (alike : K → K → Bool) (k : K) (v : V) where
  -- the members that a key has
  abbrev members_at : Option (Vec V Global) → List V
  members_at None = []
  members_at (Some w) = w.items

  one_more : (b : Bool) (e : K × Vec V Global) (es rest : List (K × Vec V Global)) (w : Vec V Global)
      → w.items ≡ members_at (cond b (Some e.1) (lookup (alike k) es)) ++ v ∷ []
      → (w.items ≡ members_at (lookup (alike k) es) ++ v ∷ [] → lists rest ≡ and_member alike k v (lists es))
      → lists (cond b ((e.0, w) ∷ es) (e ∷ rest)) ≡ cond b ((e.0, e.1.items ++ v ∷ []) ∷ lists es) ((e.0, e.1.items) ∷ and_member alike k v (lists es))
  one_more true e es rest w is more = ap (λ vs. (e.0, vs) ∷ lists es) is
  one_more false e es rest w is more = ap (λ gs. (e.0, e.1.items) ∷ gs) (more is)

  inserted : (es : List (K × Vec V Global)) (w : Vec V Global) → w.items ≡ members_at (lookup (alike k) es) ++ v ∷ []
      → lists (insert_entry alike es k w) ≡ and_member alike k v (lists es)
  inserted [] w is = ap (λ vs. (k, vs) ∷ []) is
  inserted (e ∷ es) w is = one_more (alike k e.0) e es (insert_entry alike es k w) w is (inserted es w)

  or_none : (was : Option (Vec V Global)) (none : Vec V Global) → none.items ≡ [] → (unwrap_or was none).items ≡ members_at was
  or_none None none is = is
  or_none (Some w) none is = refl

  -- what a value that is written for the key makes of the groups
  pub written : {S : Type 0} (old made left : IndexMap K (Vec V Global) S) (was : Option (Vec V Global)) (none before after : Vec V Global)
      → left ≡ made → made.entries ≡ insert_entry alike old.entries k after → was ≡ get alike old k
      → none.items ≡ [] → before ≡ unwrap_or was none → after.items ≡ before.items ++ v ∷ []
      → groups_in left ≡ and_member alike k v (groups_in old)
  unfolding groups_in
  written old made left was none before after same put found empty is more =
      ap (λ (m : IndexMap K (Vec V Global) _). lists m.entries) same ∙ ap lists put
      ∙ inserted old.entries after (more ∙ ap (λ (w : Vec V Global). w.items ++ v ∷ []) is
      ∙ ap (λ vs. vs ++ v ∷ []) (or_none was none empty ∙ ap members_at found))

pub empty_list : {A : Type 0} (xs : List A) → length xs ≡ 0 → xs ≡ []
empty_list [] none = refl
empty_list (x ∷ xs) none = absurd (omega arith)

pub none_yet : {K V S : Type 0} (m : IndexMap K (Vec V Global) S) → length m.entries ≡ 0 → groups_in m ≡ []
unfolding groups_in
none_yet m none = ap lists (empty_list m.entries none)

pub as_many : {K V S : Type 0} (m : IndexMap K (Vec V Global) S) → length (groups_in m) ≡ length m.entries
unfolding groups_in
as_many m = length-map m.entries _

pub none_kept : {K V S : Type 0} (m : IndexMap K V S) → length m.entries ≡ 0 → entries_in m ≡ []
unfolding entries_in
none_kept m none = empty_list m.entries none

pub kept_are : {K V S : Type 0} (m : IndexMap K V S) (es : List (K × V)) → es ≡ m.entries → es ≡ entries_in m
unfolding entries_in
kept_are m es is = is

pub lists_in : {K V S : Type 0} (m : IndexMap K (Vec V Global) S) (es : List (K × Vec V Global)) → es ≡ m.entries → lists es ≡ groups_in m
unfolding groups_in
lists_in m es is = ap lists is

-- ---- members that are kept as something else

module _ {K V W : Type 0} (seen : List V → W) (alike : K → K → Bool) (k : K) (v : V) where
  abbrev seen_as : K × List V → K × W
  seen_as g = (g.0, seen g.1)

  abbrev list_at : Option (List V) → List V
  list_at None = []
  list_at (Some vs) = vs

  seen_there : (b : Bool) (vs : List V) (o : Option (List V)) (p : Option W) → p ≡ option_map seen o
      → cond b (Some (seen vs)) p ≡ option_map seen (cond b (Some vs) o)
  seen_there true vs o p is = refl
  seen_there false vs o p is = is

  found_seen : (gs : List (K × List V)) → lookup (alike k) (map seen_as gs) ≡ option_map seen (lookup (alike k) gs)
  found_seen [] = refl
  found_seen (g ∷ gs) = seen_there (alike k g.0) g.1 (lookup (alike k) gs) (lookup (alike k) (map seen_as gs)) (found_seen gs)

  one_more_seen : (b : Bool) (g : K × List V) (gs : List (K × List V)) (rest : List (K × W)) (w : W)
      → w ≡ seen (list_at (cond b (Some g.1) (lookup (alike k) gs)) ++ v ∷ [])
      → (w ≡ seen (list_at (lookup (alike k) gs) ++ v ∷ []) → rest ≡ map seen_as (and_member alike k v gs))
      → cond b ((g.0, w) ∷ map seen_as gs) (seen_as g ∷ rest) ≡ map seen_as (cond b ((g.0, g.1 ++ v ∷ []) ∷ gs) (g ∷ and_member alike k v gs))
  one_more_seen true g gs rest w is more = ap (λ x. (g.0, x) ∷ map seen_as gs) is
  one_more_seen false g gs rest w is more = ap (λ xs. seen_as g ∷ xs) (more is)

  inserted_seen : (gs : List (K × List V)) (w : W) → w ≡ seen (list_at (lookup (alike k) gs) ++ v ∷ [])
      → insert_entry alike (map seen_as gs) k w ≡ map seen_as (and_member alike k v gs)
  inserted_seen [] w is = ap (λ x. (k, x) ∷ []) is
  inserted_seen (g ∷ gs) w is = one_more_seen (alike k g.0) g gs (insert_entry alike (map seen_as gs) k w) w is (inserted_seen gs w)

  seen_or_none : (o : Option (List V)) → unwrap_or (option_map seen o) (seen []) ≡ seen (list_at o)
  seen_or_none None = refl
  seen_or_none (Some vs) = refl

  -- what was written for the key before
  pub before_seen : {S : Type 0} (old : IndexMap K W S) (gs : List (K × List V)) (was : Option W) (none before : W) → entries_in old ≡ map seen_as gs
      → was ≡ get alike old k → none ≡ seen [] → before ≡ unwrap_or was none → before ≡ seen (list_at (lookup (alike k) gs))
  unfolding entries_in
  before_seen old gs was none before are found empty is =
      is ∙ (λ i. unwrap_or (found i) (empty i)) ∙ ap (λ es. unwrap_or (lookup (alike k) es) (seen [])) are ∙ ap (λ o. unwrap_or o (seen [])) (found_seen gs)
      ∙ seen_or_none (lookup (alike k) gs)

  -- what a value that is written for the key makes of them
  pub written_seen : {S : Type 0} (old made left : IndexMap K W S) (gs others : List (K × List V)) (after : W) → entries_in old ≡ map seen_as gs
      → left ≡ made → made.entries ≡ insert_entry alike old.entries k after → after ≡ seen (list_at (lookup (alike k) gs) ++ v ∷ [])
      → and_member alike k v gs ≡ others → entries_in left ≡ map seen_as others
  unfolding entries_in
  written_seen old made left gs others after are same put is so =
      ap (λ (m : IndexMap K W _). m.entries) same ∙ put ∙ ap (λ es. insert_entry alike es k after) are ∙ inserted_seen gs after is ∙ ap (map seen_as) so
