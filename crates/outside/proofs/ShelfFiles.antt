-- The files that a map keeps.
use Rattle.std.proofs.Common.{◌≡◌, ℕ, Bool, true, false, cond, List, [], ◌∷◌, map, refl, sym, ap, ◌∙◌, Option, Some, None, Result, Ok, Err, String, string_bytes}
use Rattle.std.specs.declared.vec.Vec.{Vec}
use Rattle.std.specs.Ordering.{nat_cmp, eq_by_cmp, is_eq}
use Rattle.std.specs.declared.cmp.Ordering.TheVariants.{Less, Equal, Greater}
use Rattle.std.specs.Option.{option_map}
use Rattle.std.specs.Cmp.{eq_by_cmp_equiv}
use Rattle.std.specs.Cmp.Lexicographic.{slice_cmp, nat_list_cmp_total}
use Rattle.std.specs.Map.{lookup}
use Rattle.std.specs.Str.{bytes_eq}
use Rattle.std.specs.String.{string_cmp}
use Rattle.std.specs.BTreeMap.{BTreeMap, is_at, get_by_text, UpdatesBy}
use Rattle.std.specs.FinMap.{find, get, insert, get-from_entries, get-insert, same_map, nat_cmp-IsAntisymmetric, slice_cmp-IsAntisymmetric}
use Rattle.std.proofs.lemmas.Option.{same_Some}
use Rattle.std.proofs.lemmas.Map.Text.{btree_map_updates_text, is_eq-slice_cmp}
use Rattle.outside.specs.Files.{Files, OthersStay}
use Rattle.outside.specs.MemShelf.{file_of, files_of}
use Rattle.outside.specs.Shelves.{ShelfTold, IsPut}
use Rattle.outside.specs.declared.fault.Fault.{Fault}
use Rattle.outside.specs.declared.fault.Fault.TheVariants.{Failed, Memory}

-- a map over a choice
option_map-cond : {A B : Type 0} (f : A → B) (b : Bool) (x : A) (o : Option A)
    → option_map f (cond b (Some x) o) ≡ cond b (Some (f x)) (option_map f o)
option_map-cond f true x o = refl
option_map-cond f false x o = refl

-- two names that differ don't tie
apart_names : (p q : List ℕ) → (p ≡ q → ⊥) → eq_by_cmp (slice_cmp nat_cmp) p q ≡ false
apart_names p q apart = elim (slice_cmp nat_cmp p q) as (λ r. slice_cmp nat_cmp p q ≡ r → is_eq r ≡ false) [
  | Less ↦ λ _. refl
  | Equal ↦ λ e. absurd (apart (slice_cmp-IsAntisymmetric nat_cmp-IsAntisymmetric p q e))
  | Greater ↦ λ _. refl
] refl

module _ {A B : Type 0} where
  find-map : (es : List (String A × Vec ℕ B)) (q : List ℕ)
      → find (slice_cmp nat_cmp) q (map file_of es)
      ≡ option_map (λ bytes. bytes.items) (lookup (is_at (λ k. slice_cmp nat_cmp q (string_bytes k))) es)
  find-map [] q = refl
  find-map (e ∷ es) q =
      ap (cond (eq_by_cmp (slice_cmp nat_cmp) q (string_bytes e.0)) (Some e.1.items)) (find-map es q)
      ∙ sym (option_map-cond (λ bytes. bytes.items) (is_at (λ k. slice_cmp nat_cmp q (string_bytes k)) e.0) e.1 _)

  -- what is under a name
  pub get-files_of : (kept : BTreeMap (String A) (Vec ℕ B)) (name : List ℕ)
      → get (files_of kept) name ≡ option_map (λ bytes. bytes.items) (get_by_text kept name)
  get-files_of kept name = get-from_entries nat_list_cmp_total _ name ∙ find-map kept.entries name

  -- an entry that is set is a file that is put
  pub files_of-insert : (old new : BTreeMap (String A) (Vec ℕ B)) (name : List ℕ) (bytes : Vec ℕ B)
      → UpdatesBy string_cmp (λ k. slice_cmp nat_cmp name (string_bytes k)) old new (Some bytes)
      → files_of new ≡ insert (files_of old) name bytes.items
  files_of-insert old new name bytes updates = same_map nat_list_cmp_total (slice_cmp-IsAntisymmetric nat_cmp-IsAntisymmetric) _ _ (λ q.
      get-files_of new q
      ∙ ap (option_map (λ bytes. bytes.items)) (btree_map_updates_text name old new (Some bytes) updates q)
      ∙ option_map-cond (λ bytes. bytes.items) (bytes_eq name q) bytes (get_by_text old q)
      ∙ ap (λ b. cond b (Some bytes.items) (option_map (λ bytes. bytes.items) (get_by_text old q)))
      (sym (is_eq-slice_cmp name q) ∙ (eq_by_cmp_equiv nat_list_cmp_total).symm name q)
      ∙ ap (cond (eq_by_cmp (slice_cmp nat_cmp) q name) (Some bytes.items)) (sym (get-files_of old q))
      ∙ sym (get-insert nat_list_cmp_total (files_of old) name bytes.items q))

-- a file that is put leaves the others
others_stay-insert : (files after : Files) (name bytes : List ℕ)
    → after ≡ insert files name bytes → OthersStay (Some files) (Some after) name
others_stay-insert files after name bytes put = record {
  told = refl;
  others = λ old new at_first at_last other apart.
      ap (λ m. get m other) (sym (same_Some _ _ at_last) ∙ put)
      ∙ get-insert nat_list_cmp_total files name bytes other
      ∙ ap (λ b. cond b (Some bytes) (get files other)) (apart_names other name apart)
      ∙ ap (λ m. get m other) (same_Some _ _ at_first);
}

others_stay-put : (files : Option Files) (name bytes : List ℕ)
    → OthersStay files (option_map (λ fs. insert fs name bytes) files) name
others_stay-put None name bytes = record { told = refl; others = λ old new at_first at_last. cc }
others_stay-put (Some files) name bytes = others_stay-insert files _ name bytes refl

-- so does a write, refused or not
pub put-others : {A : Type 0} (old new : ShelfTold) (name bytes : List ℕ) (result : Result A Fault)
    → IsPut old new name bytes result → OthersStay old.files new.files name
put-others old new name bytes (Ok done) put = rw put (others_stay-put old.files name bytes)
put-others old new name bytes (Err Failed) put = put.1
put-others old new name bytes (Err Memory) put = put.1
