-- The groups of a list with one element more.
use Rattle.std.proofs.Common.{◌≡◌, ◌∙◌, Bool, true, false, not, cond, List, [], ◌∷◌, ◌++◌, map, filter, Option, Some, None, refl, ap, sym, subst, append-nil, true≢false, ◌≢◌, if◌then◌else◌}
use Rattle.std.specs.Prelude.{filter_map, option_map}
use Rattle.std.specs.List.{cons_option}
use Rattle.std.specs.Cmp.{IsEquivalence}
use Rattle.basis.specs.Lists.{firsts}
use Rattle.trace_and_report.specs.Grouped.{grouped, and_member, HaveMembers}

-- ---- lists of keys with members

module _ {K V : Type 0} (alike : K → K → Bool) where
  abbrev members : K → List (K × V) → List V
  members k [] = []
  members k (p ∷ ps) = cond (alike k p.0) (p.1 ∷ members k ps) (members k ps)

  abbrev groups : List (K × V) → List (K × List V)
  groups ps = map (λ k. (k, members k ps)) (firsts alike (map (λ p. p.0) ps))

  -- those of the others than this key
  abbrev others : K → List (K × List V) → List (K × List V)
  others k gs = filter (λ g. not (alike k g.0)) gs

  more : K → K → V → List V
  more j k v = cond (alike j k) (v ∷ []) []

  members_first : (b : Bool) (v : V) (vs ws : List V) → cond b (v ∷ (vs ++ ws)) (vs ++ ws) ≡ cond b (v ∷ vs) vs ++ ws
  members_first true v vs ws = refl
  members_first false v vs ws = refl

  members_more : (j k : K) (v : V) (ps : List (K × V)) → members j (ps ++ (k, v) ∷ []) ≡ members j ps ++ cond (alike j k) (v ∷ []) []
  members_more j k v [] = refl
  members_more j k v (p ∷ ps) =
      ap (λ vs. cond (alike j p.0) (p.1 ∷ vs) vs) (members_more j k v ps) ∙ members_first (alike j p.0) p.1 (members j ps) _

  -- keys that aren't alike the first pair's have the members of the rest
  rest_of : (b : Bool) (p : K × V) (ps : List (K × V)) (k : K) (ks : List K) → alike k p.0 ≡ b
      → map (λ j. (j, members j (p ∷ ps))) (filter (λ j. not (alike p.0 j)) ks) ≡ others p.0 (map (λ j. (j, members j ps)) ks)
      → alike p.0 k ≡ b
      → map (λ j. (j, members j (p ∷ ps))) (cond (not b) (k ∷ filter (λ j. not (alike p.0 j)) ks) (filter (λ j. not (alike p.0 j)) ks))
      ≡ cond (not b) ((k, members k ps) ∷ others p.0 (map (λ j. (j, members j ps)) ks)) (others p.0 (map (λ j. (j, members j ps)) ks))
  rest_of true p ps k ks e rest f = rest
  rest_of false p ps k ks e rest f = λ i. (k, cond (e i) (p.1 ∷ members k ps) (members k ps)) ∷ rest i

  module _ (laws : IsEquivalence alike) where
    rests : (p : K × V) (ps : List (K × V)) (ks : List K)
        → map (λ j. (j, members j (p ∷ ps))) (filter (λ j. not (alike p.0 j)) ks) ≡ others p.0 (map (λ j. (j, members j ps)) ks)
    rests p ps [] = refl
    rests p ps (k ∷ ks) = rest_of (alike p.0 k) p ps k ks (laws.symm k p.0) (rests p ps ks) refl

    -- the first pair's group, and the groups of the rest without it
    grouped_first : (p : K × V) (ps : List (K × V)) → groups (p ∷ ps) ≡ (p.0, p.1 ∷ members p.0 ps) ∷ others p.0 (groups ps)
    grouped_first p ps = λ i. (p.0, cond (laws.refl p.0 i) (p.1 ∷ members p.0 ps) (members p.0 ps)) ∷ rests p ps (firsts alike (map (λ p. p.0) ps)) i

    -- ---- a member more

    -- of a key that is left out
    hidden_at : (b : Bool) (j k : K) (v : V) (g : K × List V) (gs : List (K × List V)) → alike k g.0 ≡ b → alike j k ≡ true
        → others j (and_member alike k v gs) ≡ others j gs
        → others j (cond b ((g.0, g.1 ++ v ∷ []) ∷ gs) (g ∷ and_member alike k v gs)) ≡ others j (g ∷ gs)
    hidden_at true j k v g gs e same rest =
        let out : alike j g.0 ≡ true = laws.congr j k g.0 same ∙ e in
        ap (λ b. cond (not b) ((g.0, g.1 ++ v ∷ []) ∷ others j gs) (others j gs)) out ∙ sym (ap (λ b. cond (not b) (g ∷ others j gs) (others j gs)) out)
    hidden_at false j k v g gs e same rest = ap (λ hs. cond (not (alike j g.0)) (g ∷ hs) hs) rest

    hidden : (j k : K) (v : V) (gs : List (K × List V)) → alike j k ≡ true → others j (and_member alike k v gs) ≡ others j gs
    hidden j k v [] same = ap (λ b. cond (not b) ((k, v ∷ []) ∷ []) []) same
    hidden j k v (g ∷ gs) same = hidden_at (alike k g.0) j k v g gs refl same (hidden j k v gs same)

    -- of a key that stays
    seen_in : (b c : Bool) (j k : K) (v : V) (g : K × List V) (gs : List (K × List V)) → alike k g.0 ≡ b → alike j g.0 ≡ c → alike j k ≡ false
        → others j (and_member alike k v gs) ≡ and_member alike k v (others j gs)
        → others j (cond b ((g.0, g.1 ++ v ∷ []) ∷ gs) (g ∷ and_member alike k v gs)) ≡ and_member alike k v (cond (not c) (g ∷ others j gs) (others j gs))
    seen_in true true j k v g gs e f apart rest = absurd (true≢false (sym f ∙ laws.symm j g.0 ∙ sym (laws.congr k g.0 j e) ∙ laws.symm k j ∙ apart))
    seen_in true false j k v g gs e f apart rest =
        ap (λ b. cond (not b) ((g.0, g.1 ++ v ∷ []) ∷ others j gs) (others j gs)) f
        ∙ sym (ap (λ b. cond b ((g.0, g.1 ++ v ∷ []) ∷ others j gs) (g ∷ and_member alike k v (others j gs))) e)
    seen_in false true j k v g gs e f apart rest = ap (λ b. cond (not b) (g ∷ others j (and_member alike k v gs)) (others j (and_member alike k v gs))) f ∙ rest
    seen_in false false j k v g gs e f apart rest =
        ap (λ b. cond (not b) (g ∷ others j (and_member alike k v gs)) (others j (and_member alike k v gs))) f ∙ ap (λ hs. g ∷ hs) rest
        ∙ sym (ap (λ b. cond b ((g.0, g.1 ++ v ∷ []) ∷ others j gs) (g ∷ and_member alike k v (others j gs))) e)

    seen : (j k : K) (v : V) (gs : List (K × List V)) → alike j k ≡ false → others j (and_member alike k v gs) ≡ and_member alike k v (others j gs)
    seen j k v [] apart = ap (λ b. cond (not b) ((k, v ∷ []) ∷ []) []) apart
    seen j k v (g ∷ gs) apart = seen_in (alike k g.0) (alike j g.0) j k v g gs refl refl apart (seen j k v gs apart)

    goes_on : (b : Bool) (p : K × V) (k : K) (v : V) (ms : List V) (gs : List (K × List V)) → alike p.0 k ≡ b
        → (p.0, p.1 ∷ (ms ++ cond b (v ∷ []) [])) ∷ others p.0 (and_member alike k v gs)
        ≡ cond b ((p.0, p.1 ∷ (ms ++ v ∷ [])) ∷ others p.0 gs) ((p.0, p.1 ∷ ms) ∷ and_member alike k v (others p.0 gs))
    goes_on true p k v ms gs e = ap (λ hs. (p.0, p.1 ∷ (ms ++ v ∷ [])) ∷ hs) (hidden p.0 k v gs e)
    goes_on false p k v ms gs e = λ i. (p.0, p.1 ∷ append-nil ms i) ∷ seen p.0 k v gs e i

    pub groups_more : (k : K) (v : V) (ps : List (K × V)) → groups (ps ++ (k, v) ∷ []) ≡ and_member alike k v (groups ps)
    groups_more k v [] = ap (λ b. (k, cond b (v ∷ []) []) ∷ []) (laws.refl k)
    groups_more k v (p ∷ ps) =
        grouped_first p (ps ++ (k, v) ∷ [])
        ∙ (λ i. (p.0, p.1 ∷ members_more p.0 k v ps i) ∷ others p.0 (groups_more k v ps i))
        ∙ goes_on (alike p.0 k) p k v (members p.0 ps) (groups ps) refl
        ∙ ap (λ b. cond b ((p.0, p.1 ∷ (members p.0 ps ++ v ∷ [])) ∷ others p.0 (groups ps))
        ((p.0, p.1 ∷ members p.0 ps) ∷ and_member alike k v (others p.0 (groups ps)))) (laws.symm p.0 k)
        ∙ sym (ap (and_member alike k v) (grouped_first p ps))

-- ---- lists of what may be a member

-- the groups, and a member more where there is one
abbrev pub and_member_if : {K V : Type 0} → (K → K → Bool) → Option (K × V) → List (K × List V) → List (K × List V)
and_member_if alike None gs = gs
and_member_if alike (Some p) gs = and_member alike p.0 p.1 gs

-- the member that it is of a key
abbrev pub member_of : {K V : Type 0} → (K → K → Bool) → K → Option (K × V) → Option V
member_of alike k None = None
member_of alike k (Some p) = if alike k p.0 then Some p.1 else None

pub filter_map_more : {A B : Type 0} (f : A → Option B) (xs : List A) (x : A) → filter_map f (xs ++ x ∷ []) ≡ filter_map f xs ++ cons_option (f x) []
filter_map_more f [] x = refl
filter_map_more {A} {B} f (y ∷ xs) x = ap (cons_option (f y)) (filter_map_more f xs x) ∙ first (f y) (filter_map f xs) (cons_option (f x) [])
  where
    first : (o : Option B) (ys zs : List B) → cons_option o (ys ++ zs) ≡ cons_option o ys ++ zs
    first None ys zs = refl
    first (Some y) ys zs = refl

module _ {A K V : Type 0} (alike : K → K → Bool) (keyed : A → Option (K × V)) where
  first_key : (o : Option (K × V)) (ps : List (K × V)) → cons_option (option_map (λ p. p.0) o) (map (λ p. p.0) ps) ≡ map (λ p. p.0) (cons_option o ps)
  first_key None ps = refl
  first_key (Some p) ps = refl

  keys_of : (xs : List A) → filter_map (λ x. option_map (λ p. p.0) (keyed x)) xs ≡ map (λ p. p.0) (filter_map keyed xs)
  keys_of [] = refl
  keys_of (x ∷ xs) = ap (cons_option (option_map (λ p. p.0) (keyed x))) (keys_of xs) ∙ first_key (keyed x) (filter_map keyed xs)

  either : (b : Bool) (v : V) (vs : List V) → cons_option (cond b (Some v) None) vs ≡ cond b (v ∷ vs) vs
  either true v vs = refl
  either false v vs = refl

  first_member : (k : K) (o : Option (K × V)) (ps : List (K × V)) → cons_option (member_of alike k o) (members alike k ps) ≡ members alike k (cons_option o ps)
  first_member k None ps = refl
  first_member k (Some p) ps = either (alike k p.0) p.1 (members alike k ps)

  members_in : (k : K) (xs : List A) → filter_map (λ x. member_of alike k (keyed x)) xs ≡ members alike k (filter_map keyed xs)
  members_in k [] = refl
  members_in k (x ∷ xs) = ap (cons_option (member_of alike k (keyed x))) (members_in k xs) ∙ first_member k (keyed x) (filter_map keyed xs)

  grouped_pairs : (xs : List A) → grouped alike (λ x. option_map (λ p. p.0) (keyed x))
      (λ k x. member_of alike k (keyed x)) xs ≡ groups alike (filter_map keyed xs)
  grouped_pairs xs = λ i. map (λ k. (k, members_in k xs i)) (firsts alike (keys_of xs i))

  pairs_more : IsEquivalence alike → (o : Option (K × V)) (ps : List (K × V)) → groups alike (ps ++ cons_option o []) ≡ and_member_if alike o (groups alike ps)
  pairs_more laws None ps = ap (groups alike) (append-nil ps)
  pairs_more laws (Some p) ps = groups_more alike laws p.0 p.1 ps

  as_pairs : (key_in : A → Option K) (member_in : K → A → Option V)
      → ((x : A) → key_in x ≡ option_map (λ p. p.0) (keyed x)) → ((k : K) (x : A) → member_in k x ≡ member_of alike k (keyed x))
      → (xs : List A) → grouped alike key_in member_in xs ≡ groups alike (filter_map keyed xs)
  as_pairs key_in member_in key_is member_is xs = (λ i. grouped alike (λ x. key_is x i) (λ k x. member_is k x i) xs) ∙ grouped_pairs xs

  -- one element more gives its member to the groups
  pub grouped_more : (key_in : A → Option K) (member_in : K → A → Option V) → IsEquivalence alike
      → ((x : A) → key_in x ≡ option_map (λ p. p.0) (keyed x)) → ((k : K) (x : A) → member_in k x ≡ member_of alike k (keyed x))
      → (xs : List A) (x : A) → grouped alike key_in member_in (xs ++ x ∷ []) ≡ and_member_if alike (keyed x) (grouped alike key_in member_in xs)
  grouped_more key_in member_in laws key_is member_is xs x =
      as_pairs key_in member_in key_is member_is (xs ++ x ∷ []) ∙ ap (groups alike) (filter_map_more keyed xs x)
      ∙ pairs_more laws (keyed x) (filter_map keyed xs)
      ∙ sym (ap (and_member_if alike (keyed x)) (as_pairs key_in member_in key_is member_is xs))

-- ---- none is empty

module _ {K V : Type 0} (test : K × List V → Bool) where
  kept : (b : Bool) (g : K × List V) (gs : List (K × List V)) → g.1 ≢ [] → HaveMembers gs → HaveMembers (cond b (g ∷ gs) gs)
  kept true g gs some rest = (some, rest)
  kept false g gs some rest = rest

  filtered : (gs : List (K × List V)) → HaveMembers gs → HaveMembers (filter test gs)
  filtered [] have = tt
  filtered (g ∷ gs) have = kept (test g) g (filter test gs) have.0 (filtered gs have.1)

some_members : {V : Type 0} (v : V) (vs : List V) → v ∷ vs ≢ []
some_members v vs e = cc

pairs_have : {K V : Type 0} (alike : K → K → Bool) → IsEquivalence alike → (ps : List (K × V)) → HaveMembers (groups alike ps)
pairs_have alike laws [] = tt
pairs_have {K} {V} alike laws (p ∷ ps) =
    subst HaveMembers (sym (grouped_first alike laws p ps))
    (some_members p.1 (members alike p.0 ps), filtered (λ (g : K × List V). not (alike p.0 g.0)) (groups alike ps) (pairs_have alike laws ps))

module _ {A K V : Type 0} (alike : K → K → Bool) (keyed : A → Option (K × V)) where
  -- each group of a list has a member
  pub grouped_have : (key_in : A → Option K) (member_in : K → A → Option V) → IsEquivalence alike
      → ((x : A) → key_in x ≡ option_map (λ p. p.0) (keyed x)) → ((k : K) (x : A) → member_in k x ≡ member_of alike k (keyed x))
      → (xs : List A) → HaveMembers (grouped alike key_in member_in xs)
  grouped_have key_in member_in laws key_is member_is xs =
      subst HaveMembers (sym (as_pairs alike keyed key_in member_in key_is member_is xs)) (pairs_have alike laws (filter_map keyed xs))
