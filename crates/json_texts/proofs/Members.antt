-- Facts on members, items and digits.
use Rattle.std.proofs.Common.{◌≡◌, ◌∙◌, ℕ, Bool, ◌||◌, Bor, map, List, [], ◌∷◌, ◌++◌, Option, Some, None, option_map, false, cond, Ordering, Less, Equal, Greater, append_assoc, refl, ap, sym, arith, ◌≤◌, ◌-◌, length, take, drop, slice_index}
use Rattle.std.specs.Cmp.Lexicographic.{slice_cmp}
use Rattle.std.specs.Ordering.{nat_cmp, is_eq, match_ordering}
use Rattle.std.specs.Prelude.{IsSomeAnd, String, string_bytes}
use Rattle.std.specs.BTreeMap.{BTreeMap, UpdatesBy, get_by_text}
use Rattle.std.specs.List.{AllByRecursion, list_any}
use Rattle.std.specs.List.Sorted.{IsStrictlySortedBy}
use Rattle.std.specs.Map.{keys_of}
use Rattle.std.specs.Str.{bytes_eq}
use Rattle.std.specs.String.{string_cmp}
use Rattle.std.specs.declared.alloc.Global.{Global}
use Rattle.std.proofs.lemmas.Map.Text.{is_eq-slice_cmp, btree_map_updates_text}
use Rattle.std.proofs.lemmas.List.{take_all}
use Rattle.serde_json.specs.Data as json
use Rattle.serde_json.specs.Events.{items_len, members_len}
use Rattle.serde_json.specs.Find.{get_member}
use Rattle.serde_json.specs.View.{view, items_view, members_view}
use Rattle.serde_json.specs.declared.value.Value.{Value}
use Rattle.serde_json.proofs.Views.{Entry as JsonEntry, view-lookup}
use Rattle.basis.specs.Options.{◌>>=◌}
use Rattle.basis.proofs.Options.{some_is, bind_some}
use Rattle.json_texts.specs.Shapes.{Named, all_of, each_of, has_twice, pair_in}
use Rattle.json_texts.specs.Texts.{hex_byte, hex_bytes, only_member}

-- ---- one member

found_there : (o : Ordering) (d : json.Data) → match_ordering o None (Some d) None ≡ cond (is_eq o) (Some d) None
found_there Less d = refl
found_there Equal d = refl
found_there Greater d = refl

-- of one member, what is found under a name is the only one
pub one_member : (name : List ℕ) (ms : json.Members) → members_len ms ≡ 1 → get_member name ms ≡ only_member name ms
one_member name json.no_members h = absurd (omega arith)
one_member name (json.member k d json.no_members) h = found_there (slice_cmp nat_cmp name k) d ∙ ap (λ b. cond b (Some d) None) (is_eq-slice_cmp name k)
one_member name (json.member k d (json.member l e ms)) h = absurd (omega arith)

-- of more members or fewer, none is the only one
pub other_members : (name : List ℕ) (ms : json.Members) → (members_len ms ≡ 1 → ⊥) → only_member name ms ≡ None
other_members name json.no_members h = refl
other_members name (json.member k d json.no_members) h = absurd (h refl)
other_members name (json.member k d (json.member l e ms)) h = refl

-- ---- digits

-- the bytes so far, that of the next pair, and those of the digits behind it
pub next_pair : (rest past pushed : List ℕ) (byte n : ℕ) → 2 ≤ length rest → n ≡ length rest - 2
    → hex_byte (slice_index rest 0) (slice_index rest 1) ≡ Some byte → pushed ≡ past ++ byte ∷ []
    → option_map (λ more. past ++ more) (hex_bytes rest) ≡ option_map (λ more. pushed ++ more) (hex_bytes (take n (drop 2 rest)))
next_pair [] past pushed byte n two is spelled more = absurd (omega arith)
next_pair (b ∷ []) past pushed byte n two is spelled more = absurd (omega arith)
next_pair (b ∷ c ∷ rest) past pushed byte n two is spelled more =
    let all : take n rest ≡ rest = take_all n rest (omega arith) in
    rw (all, more, spelled) (moved (hex_bytes rest)) where
      moved : (found : Option (List ℕ)) → option_map (λ more. past ++ more) (found >>= (λ more. Some (byte ∷ more)))
          ≡ option_map (λ more. (past ++ byte ∷ []) ++ more) found
      moved None = refl
      moved (Some bytes) = ap Some (sym (append_assoc past (byte ∷ []) bytes))

-- ---- items

-- what isn't two items is no pair
pub other_items : (ds : json.Items) → (items_len ds ≡ 2 → ⊥) → pair_in ds ≡ None
other_items json.no_items h = refl
other_items (json.item d json.no_items) h = refl
other_items (json.item d (json.item e json.no_items)) h = absurd (h refl)
other_items (json.item d (json.item e (json.item f ds))) h = refl

-- all items so far, the next one, and those behind it
pub next_item : {A : Type 0} (read : json.Data → Option A) (past pushed : List A) (v : Value) (vs : List Value)
    → IsSomeAnd (read (view v)) (λ found. pushed ≡ past ++ found ∷ [])
    → option_map (λ more. past ++ more) (all_of read (items_view (v ∷ vs))) ≡ option_map (λ more. pushed ++ more) (all_of read (items_view vs))
next_item {A} read past pushed v vs more = moved (read (view v)) (all_of read (items_view vs)) more where
  moved : (first : Option A) (rest : Option (List A)) → IsSomeAnd first (λ found. pushed ≡ past ++ found ∷ [])
      → option_map (λ more. past ++ more) (first >>= (λ found. rest >>= (λ more. Some (found ∷ more)))) ≡ option_map (λ more. pushed ++ more) rest
  moved None rest more = absurd more
  moved (Some found) None more = refl
  moved (Some found) (Some xs) more = ap Some (sym (append_assoc past (found ∷ []) xs) ∙ ap (λ ys. ys ++ xs) (sym more))

-- an item that gives nothing
pub no_item : {A : Type 0} (read : json.Data → Option A) (past : List A) (v : Value) (vs : List Value)
    → read (view v) ≡ None → option_map (λ more. past ++ more) (all_of read (items_view (v ∷ vs))) ≡ None
no_item read past v vs is = rw is refl

-- all members so far, the next one, and those behind it
pub next_member : {A : Type 0} (read : json.Data → Option A) (past pushed : List (Named A)) (k : String Global) (v : Value) (es : List JsonEntry)
    → IsSomeAnd (read (view v)) (λ found. pushed ≡ past ++ (string_bytes k, found) ∷ [])
    → option_map (λ more. past ++ more) (each_of read (members_view ((k, v) ∷ es))) ≡ option_map (λ more. pushed ++ more) (each_of read (members_view es))
next_member {A} read past pushed k v es more = moved (read (view v)) (each_of read (members_view es)) more where
  moved : (first : Option A) (rest : Option (List (Named A))) → IsSomeAnd first (λ found. pushed ≡ past ++ (string_bytes k, found) ∷ [])
      → option_map (λ more. past ++ more) (first >>= (λ found. rest >>= (λ more. Some ((string_bytes k, found) ∷ more))))
      ≡ option_map (λ more. pushed ++ more) rest
  moved None rest more = absurd more
  moved (Some found) None more = refl
  moved (Some found) (Some xs) more = ap Some (sym (append_assoc past ((string_bytes k, found) ∷ []) xs) ∙ ap (λ ys. ys ++ xs) (sym more))

-- a member that gives nothing
pub no_member : {A : Type 0} (read : json.Data → Option A) (past : List (Named A)) (k : String Global) (v : Value) (es : List JsonEntry)
    → read (view v) ≡ None → option_map (λ more. past ++ more) (each_of read (members_view ((k, v) ∷ es))) ≡ None
no_member read past k v es is = rw is refl

-- ---- names of members

-- a test of texts is one of what they refer to
pub any_of_texts : (p : List ℕ → Bool) (texts : List (Bor (List ℕ))) → list_any (λ text. p text.now) texts ≡ list_any p (map (λ text. text.now) texts)
any_of_texts p [] = refl
any_of_texts p (text ∷ texts) = ap (λ b. p text.now || b) (any_of_texts p texts)

abbrev names : List JsonEntry → List (List ℕ)
names [] = []
names (e ∷ es) = string_bytes e.0 ∷ names es

none_in : (k : String Global) (es : List JsonEntry) → AllByRecursion (λ y. string_cmp k y ≡ Less) (keys_of es)
    → list_any (bytes_eq (string_bytes k)) (names es) ≡ false
none_in k [] h = refl
none_in k (e ∷ es) h = rw (sym (is_eq-slice_cmp (string_bytes k) (string_bytes e.0)) ∙ ap is_eq h.0) (none_in k es h.1)

names_once : (es : List JsonEntry) → IsStrictlySortedBy string_cmp (keys_of es) → has_twice (names es) ≡ false
unfolding IsStrictlySortedBy
names_once [] h = refl
names_once (e ∷ es) h = rw (none_in e.0 es h.0) (names_once es h.1)

same_names : {A : Type 0} (read : json.Data → Option A) (es : List JsonEntry) (xs : List (Named A))
    → each_of read (members_view es) ≡ Some xs → keys_of xs ≡ names es
same_names read [] xs h = rw (← some_is h) refl
same_names read (e ∷ es) xs h =
    let first = bind_some (read (view e.1)) _ xs h in
    let rest = bind_some (each_of read (members_view es)) _ xs first.2 in
    rw (← some_is rest.2) (ap (λ ks. string_bytes e.0 ∷ ks) (same_names read es rest.0 rest.1))

-- an object has each name once
pub members_once : {A : Type 0} (read : json.Data → Option A) (es : List JsonEntry) (xs : List (Named A))
    → IsStrictlySortedBy string_cmp (keys_of es) → Some xs ≡ each_of read (members_view es)
    → has_twice (keys_of xs) ≡ false
members_once read es xs ordered h = ap has_twice (same_names read es xs (sym h)) ∙ names_once es ordered

-- ---- members that are taken out

pub taken_out : (bs cs : List ℕ) (m n : BTreeMap (String Global) Value)
    → UpdatesBy string_cmp (λ k. slice_cmp nat_cmp bs (string_bytes k)) m n None → bytes_eq bs cs ≡ false
    → get_by_text n cs ≡ get_by_text m cs
taken_out bs cs m n updates other = btree_map_updates_text bs m n None updates cs ∙ ap (λ b. cond b None (get_by_text m cs)) other

pub found_in : (name : List ℕ) (m : BTreeMap (String Global) Value) (o : Option Value) → o ≡ get_by_text m name
    → option_map view o ≡ get_member name (members_view m.entries)
found_in name m o h = ap (option_map view) h ∙ view-lookup name m.entries
