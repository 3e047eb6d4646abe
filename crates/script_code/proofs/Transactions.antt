-- The statements of a transaction from their shapes and values.
use Rattle.std.proofs.Common.{◌≡◌, ◌∙◌, ℕ, suc, List, [], ◌∷◌, ◌++◌, length, take, drop, map, refl, sym, ap, arith, length-append}
use Rattle.std.proofs.Math.Seq.{take-append_seam, drop-append_seam}
use Rattle.script_tree.specs.Datum.{Datum}
use Rattle.script_meaning.specs.Operations as o
use Rattle.script_meaning.specs.Operands as u
use Rattle.script_meaning.specs.Operands.{Unchecked, tested, values_of, values_of_all}
use Rattle.script_code.specs.CodeRun.{tests_with, changes_with, values_taken, filled, all_taken, all_filled}
use Rattle.script_code.specs.declared.instruction.Shape.{Shape}
use Rattle.script_code.specs.declared.instruction.Shape.TheVariants as shape
use Rattle.script_code.specs.declared.instruction.TestShape.{TestShape}

abbrev pub changed : List o.Change → List Datum
changed changes = map (λ c. c.value) changes

-- these are the tests, changes and statements of these shapes
pub record AreTests (shapes : List TestShape) (tests : List o.Test) : Type 0 where
  pub with : tests_with shapes (tested tests) ≡ tests
  pub count : length shapes ≡ length (tested tests)

pub record AreChanges (columns : List ℕ) (changes : List o.Change) : Type 0 where
  pub with : changes_with columns (changed changes) ≡ changes
  pub count : length columns ≡ length (changed changes)

pub record IsFilled (s : Shape) (u : Unchecked) : Type 0 where
  pub with : filled s (values_of u) ≡ u
  pub count : values_taken s ≡ length (values_of u)

pub record AreFilled (ss : List Shape) (us : List Unchecked) : Type 0 where
  pub with : all_filled ss (values_of_all us) ≡ us
  pub count : all_taken ss ≡ length (values_of_all us)

pub no_tests : AreTests [] []
no_tests = record { with = refl; count = refl }

pub more_tests : (s : TestShape) (ss : List TestShape) (d : Datum) (tests : List o.Test) → AreTests ss tests
    → AreTests (s ∷ ss) (record { column = s.column; comparison = s.comparison; value = d } ∷ tests)
more_tests s ss d tests h = record {
  with = ap
      (λ ts. record { column = s.column; comparison = s.comparison; value = d } ∷ ts) h.with;
  count =
      ap (λ n. suc n) h.count;
}

pub no_changes : AreChanges [] []
no_changes = record { with = refl; count = refl }

pub more_changes : (x : ℕ) (xs : List ℕ) (d : Datum) (changes : List o.Change) → AreChanges xs changes
    → AreChanges (x ∷ xs) (record { column = x; value = d } ∷ changes)
more_changes x xs d changes h = record { with = ap (λ cs. record { column = x; value = d } ∷ cs) h.with; count = ap (λ n. suc n) h.count }

pub inserts : (t n : ℕ) (ds : List Datum) → length ds ≡ n → IsFilled (shape.Insert t n) (u.insert t ds)
inserts t n ds h = record { with = refl; count = sym h }

pub selects : (t : ℕ) (columns : List ℕ) (shapes : List TestShape) (tests : List o.Test) → AreTests shapes tests
    → IsFilled (shape.Select t columns shapes) (u.select t columns tests)
selects t columns shapes tests h = record { with = ap (u.select t columns) h.with; count = h.count }

pub deletes : (t : ℕ) (shapes : List TestShape) (tests : List o.Test) → AreTests shapes tests → IsFilled (shape.Delete t shapes) (u.delete t tests)
deletes t shapes tests h = record { with = ap (u.delete t) h.with; count = h.count }

pub expects : (t : ℕ) (shapes : List TestShape) (d : Datum) (tests : List o.Test) → AreTests shapes tests
    → IsFilled (shape.Expect t shapes) (u.expect d t tests)
expects t shapes d tests h = record { with = ap (u.expect d t) h.with; count = ap (λ n. suc n) h.count }

-- changes take the first values, which they need not be told
changes_first : (columns : List ℕ) (ds es : List Datum) → length columns ≡ length ds → changes_with columns (ds ++ es) ≡ changes_with columns ds
changes_first [] [] es h = refl
changes_first [] (d ∷ ds) es h = absurd (omega (arith, h))
changes_first (x ∷ xs) [] es h = absurd (omega (arith, h))
changes_first (x ∷ xs) (d ∷ ds) es h = ap (λ cs. record { column = x; value = d } ∷ cs) (changes_first xs ds es (omega (arith, h)))

pub updates : (t : ℕ) (columns : List ℕ) (shapes : List TestShape) (changes : List o.Change) (tests : List o.Test)
    → AreChanges columns changes → AreTests shapes tests
    → IsFilled (shape.Update t columns shapes) (u.update t changes tests)
updates t columns shapes changes tests h k =
    let ds = changed changes in
    let es = tested tests in
    let first : changes_with columns (ds ++ es) ≡ changes = changes_first columns ds es h.count ∙ h.with in
    let rest : tests_with shapes (drop (length columns) (ds ++ es)) ≡ tests = ap (λ n. tests_with shapes (drop n (ds ++ es))) h.count ∙ ap (tests_with shapes) (drop-append_seam ds es) ∙ k.with in
    record {
      with = (λ i. u.update t (first i) (rest i));
      count = omega (arith, h.count, k.count, length-append ds es);
    }

pub none_filled : AreFilled [] []
none_filled = record { with = refl; count = refl }

pub more_filled : (s : Shape) (ss : List Shape) (u : Unchecked) (us : List Unchecked) → IsFilled s u → AreFilled ss us → AreFilled (s ∷ ss) (u ∷ us)
more_filled s ss u us h k =
    let ds = values_of u in
    let es = values_of_all us in
    let first : filled s (take (values_taken s) (ds ++ es)) ≡ u = ap (λ n. filled s (take n (ds ++ es))) h.count ∙ ap (filled s) (take-append_seam ds es) ∙ h.with in
    let rest : all_filled ss (drop (values_taken s) (ds ++ es)) ≡ us = ap (λ n. all_filled ss (drop n (ds ++ es))) h.count ∙ ap (all_filled ss) (drop-append_seam ds es) ∙ k.with in
    record {
      with = (λ i. first i ∷ rest i);
      count = omega (arith, h.count, k.count, length-append ds es);
    }
