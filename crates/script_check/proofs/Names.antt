-- Facts on names, and on sets of them.
use Rattle.std.proofs.Common.{◌≡◌, ℕ, suc, ◌<◌, ◌+◌, ◌-◌, List, [], ◌∷◌, ◌++◌, length, drop, Bool, true, false, cond, not, ◌||◌, ◌&&◌, if◌then◌else◌, refl, sym, ap, ◌∙◌, arith}
use Rattle.std.specs.BTreeSet as sorted
use Rattle.std.specs.BTreeSet.{BTreeSet}
use Rattle.std.specs.Cmp.Lexicographic.{slice_cmp}
use Rattle.std.specs.Ordering.{nat_cmp, is_eq}
use Rattle.std.specs.declared.cmp.Ordering.{Ordering}
use Rattle.std.specs.Str.{bytes_eq}
use Rattle.std.proofs.lemmas.Map.Text.{is_eq-slice_cmp}
use Rattle.std.proofs.lemmas.Slice.Eq.{bytes_eq-Decides}
use denote.Ref.{Bor}
use Rattle.script_tree.specs.declared.syntax.name.Name.{Name}
use Rattle.script_check.specs.Validity.{has, texts, with_name, with_names}
use Rattle.script_check.specs.Scopes.{holds, newest_first, AreApart}

same_bool : (a b : Bool) → (a ≡ true → b ≡ true) → (b ≡ true → a ≡ true) → a ≡ b
same_bool true b f g = sym (f refl)
same_bool false true f g = g refl
same_bool false false f g = refl

pub bytes_sym : (x y : List ℕ) → bytes_eq x y ≡ bytes_eq y x
bytes_sym x y =
    let d = bytes_eq-Decides x y in
    let e = bytes_eq-Decides y x in
    same_bool (bytes_eq x y) (bytes_eq y x) (λ p. e.1 (sym (d.0 p))) (λ p. d.1 (sym (e.0 p)))

pub bytes_same : (x y : List ℕ) → bytes_eq x y ≡ true → x ≡ y
bytes_same x y p = (bytes_eq-Decides x y).0 p

pub bytes_itself : (x : List ℕ) → bytes_eq x x ≡ true
bytes_itself x = (bytes_eq-Decides x x).1 refl

abbrev pub by_text : Bor (List ℕ) → Bor (List ℕ) → Ordering
by_text a b = slice_cmp nat_cmp a.now b.now

abbrev pub key : List ℕ → Bor (List ℕ)
key x = record { ref_ptr = (0, 0); now = x }

pub is_name : (x y : List ℕ) → is_eq (slice_cmp nat_cmp x y) ≡ bytes_eq y x
is_name x y = is_eq-slice_cmp x y ∙ bytes_sym x y

added : (a b r : Bool) → a ≡ b → cond a true r ≡ (b || r)
added true b r e = rw (← e) refl
added false b r e = rw (← e) refl

-- a set with one more name
pub set_grows : (s n : BTreeSet (Bor (List ℕ))) (name : Bor (List ℕ))
    → sorted.UpdatesBy by_text (by_text name) s n true → (x : List ℕ) → holds n x ≡ (bytes_eq x name.now || holds s x)
set_grows s n name u x = u.0 (key x) ∙ added (is_eq (slice_cmp nat_cmp name.now x)) (bytes_eq x name.now) (holds s x) (is_name name.now x)

taken : (a b r : Bool) → a ≡ b → cond a false r ≡ (not b && r)
taken true b r e = rw (← e) refl
taken false b r e = rw (← e) refl

-- a set with one name less
pub set_shrinks : (s n : BTreeSet (Bor (List ℕ))) (name : Bor (List ℕ))
    → sorted.UpdatesBy by_text (by_text name) s n false → (x : List ℕ)
    → holds n x ≡ (not (bytes_eq x name.now) && holds s x)
set_shrinks s n name u x = u.0 (key x) ∙ taken (is_eq (slice_cmp nat_cmp name.now x)) (bytes_eq x name.now) (holds s x) (is_name name.now x)

-- ---- the names of a scope

pub names_push : (older : List (List ℕ)) (xs : List (Bor (List ℕ))) (x : Bor (List ℕ)) → newest_first older (xs ++ x ∷ []) ≡ x.now ∷ newest_first older xs
names_push older [] x = refl
names_push older (y ∷ xs) x = names_push (y.now ∷ older) xs x

pub names_length : (older : List (List ℕ)) (xs : List (Bor (List ℕ))) → length (newest_first older xs) ≡ length xs + length older
names_length older [] = omega arith
names_length older (x ∷ xs) = omega (arith, names_length (x.now ∷ older) xs)

pub with_new : (known : List (List ℕ)) (x : List ℕ) → has known x ≡ false → with_name known x ≡ x ∷ known
with_new known x e = rw e refl

pub with_old : (known : List (List ℕ)) (x : List ℕ) → has known x ≡ true → with_name known x ≡ known
with_old known x e = rw e refl

-- one more name
pub known_more : (s n : BTreeSet (Bor (List ℕ))) (xs : List (Bor (List ℕ))) (name : Bor (List ℕ))
    → ((x : List ℕ) → holds s x ≡ has (newest_first [] xs) x) → sorted.UpdatesBy by_text (by_text name) s n true
    → (x : List ℕ) → holds n x ≡ has (newest_first [] (xs ++ name ∷ [])) x
known_more s n xs name told u x = set_grows s n name u x ∙ ap (λ b. bytes_eq x name.now || b) (told x) ∙ ap (λ ys. has ys x) (sym (names_push [] xs name))

pub apart_more : (xs : List (Bor (List ℕ))) (name : Bor (List ℕ)) → AreApart (newest_first [] xs)
    → has (newest_first [] xs) name.now ≡ false → AreApart (newest_first [] (xs ++ name ∷ []))
apart_more xs name a e = rw names_push (e, a)

-- one name less
less : (x y : List ℕ) (ys : List (List ℕ)) (b : Bool) → bytes_eq x y ≡ b → has ys y ≡ false → (not b && (b || has ys x)) ≡ has ys x
less x y ys true e apart = sym (ap (has ys) (bytes_same x y e) ∙ apart)
less x y ys false e apart = refl

pub known_less : (s n : BTreeSet (Bor (List ℕ))) (xs : List (Bor (List ℕ))) (name : Bor (List ℕ))
    → ((x : List ℕ) → holds s x ≡ has (newest_first [] (xs ++ name ∷ [])) x)
    → AreApart (newest_first [] (xs ++ name ∷ [])) → sorted.UpdatesBy by_text (by_text name) s n false
    → (x : List ℕ) → holds n x ≡ has (newest_first [] xs) x
known_less s n xs name told a u x =
    let apart : AreApart (name.now ∷ newest_first [] xs) = rw names_push at a in
    set_shrinks s n name u x ∙ ap (λ b. not (bytes_eq x name.now) && b)
    (told x ∙ ap (λ ys. has ys x) (names_push [] xs name))
    ∙ less x name.now (newest_first [] xs) (bytes_eq x name.now) refl apart.0

pub apart_less : (xs : List (Bor (List ℕ))) (name : Bor (List ℕ)) → AreApart (newest_first [] (xs ++ name ∷ [])) → AreApart (newest_first [] xs)
apart_less xs name a = let apart : AreApart (name.now ∷ newest_first [] xs) = rw names_push at a in apart.1

-- forgetting down to a length, one by one
pub forget_one : (s : List (List ℕ)) (n : ℕ) → n < length s → drop (length (drop 1 s) - n) (drop 1 s) ≡ drop (length s - n) s
forget_one [] n h = absurd (omega arith)
forget_one (x ∷ xs) n h =
    let e : suc (length xs) - n ≡ suc (length xs - n) = omega arith in
    sym (ap (λ k. drop k (x ∷ xs)) e)

-- ---- names one after another

with_has : (known : List (List ℕ)) (name x : List ℕ) (b : Bool) → has known name ≡ b
    → has (if b then known else name ∷ known) x ≡ (bytes_eq x name || has known x)
with_has known name x true e = there_already (bytes_eq x name) (has known x) (λ p. ap (has known) (bytes_same x name p) ∙ e)
  where
    there_already : (b c : Bool) → (b ≡ true → c ≡ true) → c ≡ (b || c)
    there_already true c f = f refl
    there_already false c f = refl
with_has known name x false e = refl

pub with_name_has : (known : List (List ℕ)) (name x : List ℕ) → has (with_name known name) x ≡ (bytes_eq x name || has known x)
with_name_has known name x = with_has known name x (has known name) refl

or_turn : (a b c : Bool) → ((a || b) || c) ≡ (b || (a || c))
or_turn true true c = refl
or_turn true false c = refl
or_turn false true c = refl
or_turn false false c = refl

pub with_names_has : (known : List (List ℕ)) (names : List Name) (x : List ℕ) → has (with_names known names) x ≡ (has known x || has (texts names) x)
with_names_has known [] x = or_none (has known x)
  where
    or_none : (a : Bool) → a ≡ (a || false)
    or_none true = refl
    or_none false = refl
with_names_has known (name ∷ names) x =
    with_names_has (with_name known name.text) names x
    ∙ ap (λ b. b || has (texts names) x) (with_name_has known name.text x)
    ∙ or_turn (bytes_eq x name.text) (has known x) (has (texts names) x)
