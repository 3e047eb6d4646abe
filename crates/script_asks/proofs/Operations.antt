-- The operations of calls and transactions fit.
use Rattle.std.proofs.Common.{◌≡◌, ◌≢◌, ℕ, zero, suc, ◌<◌, ℤ, pos, negsuc, Bool, true, false, cond, List, [], ◌∷◌, ◌++◌, length, Some, Result, Ok, Err, refl, ap, subst, arith}
use Rattle.std.specs.Prelude.{nat_lt}
use Rattle.basis.specs.Lists.{nth}
use Rattle.basis.proofs.Booleans.{both-left, both-right}
use Rattle.basis.proofs.Options.{some_is, none_is_not}
use Rattle.script_tree.specs.ActLimits.{AreWithinLimits}
use Rattle.script_tree.specs.Datum.{Datum, text, list, data_of, IsWithinLimits}
use Rattle.script_tree.specs.Fit.{declares_store, table_widths, IsKey}
use Rattle.script_tree.specs.Programs.{Program}
use Rattle.script_tree.specs.Requests.{Request, IsRequestWithinLimits, text_fits}
use Rattle.script_tree.specs.Builtins.{takes_store}
use Rattle.script_tree.specs.declared.fault.ScriptFault.{ScriptFault}
use Rattle.script_tree.specs.declared.fault.ScriptFault.TheVariants.{TooLarge}
use Rattle.script_tree.specs.declared.syntax.builtin.Builtin.{Builtin}
use Rattle.script_tree.specs.declared.syntax.builtin.Builtin.TheVariants.{Len, Str, Escape, Num, Slice, Append, Kind, Param, Method, Path, Body, Read, Write, Get, Put, Remove, Clock, Random}
use Rattle.script_meaning.specs.BuiltinCalls.{Call, plain, of_request, operation, built_in}
use Rattle.script_meaning.specs.Kinds.{number_in, text_in, list_in}
use Rattle.script_meaning.specs.Operands as u
use Rattle.script_meaning.specs.Operands.{OpAnswer, Unchecked, first, second, third, name_in, read_op, write_op, get_op, put_op, remove_op, clock_op, random_op, bound_of, row_of, checked, all_checked, transact_op}
use Rattle.script_meaning.specs.Operations as o
use Rattle.script_meaning.specs.Operators.{printed, escaped_bytes}
use Rattle.script_meaning.specs.Results.{◌>>=◌}
use Rattle.script_fit.specs.FitsOperation.{FitsOperation}
use Rattle.script_fit.specs.FitsTransaction.{FitColumns, FitTests, FitChanges, FitsStatement, FitStatements}
use Rattle.script_asks.proofs.Values.{IsFine, fine_after, checked_fine, length_fine, sliced_fine, kind_within, number_of_within, request_text, built_fine}

first_within : (ds : List Datum) → AreWithinLimits ds → IsWithinLimits (first ds)
first_within [] h = refl
first_within (d ∷ ds) h = h.0

second_within : (ds : List Datum) → AreWithinLimits ds → IsWithinLimits (second ds)
second_within [] h = refl
second_within (d ∷ ds) h = first_within ds h.1

-- ---- names

name_is_key : (d : Datum) (x : List ℕ) → name_in d ≡ Ok x → (d ≡ text x) × IsKey x
name_is_key (text bs) x e = by (nat_lt 1024 (length bs)) refl e
  where
    by : (b : Bool) → nat_lt 1024 (length bs) ≡ b → ◌≡◌ {A = Result (List ℕ) ScriptFault} (cond b (Err TooLarge) (Ok bs)) (Ok x) → (text bs ≡ text x) × IsKey x
    by true p q = absurd cc
    by false p q =
        let same : bs ≡ x = cc in
        (ap text same, subst IsKey same (grind arith))
name_is_key d x e = absurd cc

module _ (program : Program) where
  -- an operation that is asked for fits
  abbrev pub Fitting : OpAnswer → Type 0
  Fitting (Ok op) = FitsOperation program op
  Fitting (Err f) = Unit {0}

  after_name : (d : Datum) (f : List ℕ → o.Op) → ((x : List ℕ) → IsKey x → FitsOperation program (f x)) → Fitting (name_in d >>= λ x. Ok (f x))
  after_name d f h = by (name_in d) refl
    where
      by : (r : Result (List ℕ) ScriptFault) → name_in d ≡ r → Fitting (r >>= λ x. Ok (f x))
      by (Ok x) e = h x (name_is_key d x e).1
      by (Err g) e = tt

  rolls : (n : ℤ) → Fitting (bound_of n >>= λ bound. Ok (record { object = o.dice; act = o.roll bound }))
  rolls (pos zero) = tt
  rolls (pos (suc n)) = grind arith
  rolls (negsuc n) = tt

  after_number : (r : Result ℤ ScriptFault) → Fitting (r >>= λ n. bound_of n >>= λ bound. Ok (record { object = o.dice; act = o.roll bound }))
  after_number (Ok n) = rolls n
  after_number (Err f) = tt

  -- what a call comes to
  abbrev pub IsFineCall : Call → Type 0
  IsFineCall (plain a) = IsFine a
  IsFineCall (of_request a) = IsFine a
  IsFineCall (operation op) = Fitting op

  -- the store is there, where the function takes one
  abbrev pub HasStore : Bool → List ℕ → Type 0
  HasStore true s = declares_store program.declarations s ≡ true
  HasStore false s = Unit {0}

  pub built_in_fine : (q : Request) (store : List ℕ) (b : Builtin) (ds : List Datum) → IsRequestWithinLimits q
      → HasStore (takes_store b) store → AreWithinLimits ds
      → IsFineCall (built_in q store b ds)
  built_in_fine q store Len ds l s h = length_fine (first ds)
  built_in_fine q store Str ds l s h = fine_after (printed (first ds)) _ (λ bs. checked_fine (text bs))
  built_in_fine q store Escape ds l s h = fine_after (text_in (first ds)) _ (λ bs. checked_fine (text (escaped_bytes bs)))
  built_in_fine q store Num ds l s h = fine_after (text_in (first ds)) _ (λ bs. number_of_within bs)
  built_in_fine q store Slice ds l s h = sliced_fine (first ds) (second ds) (third ds)
  built_in_fine q store Append ds l s h = fine_after (list_in (first ds)) _ (λ es. checked_fine (list (data_of (es ++ second ds ∷ []))))
  built_in_fine q store Kind ds l s h = kind_within (first ds)
  built_in_fine q store Param ds l s h = built_fine q (first ds) l
  built_in_fine q store Method ds l s h = request_text q.method (both-left _ _ l)
  built_in_fine q store Path ds l s h = request_text q.path (both-left _ _ (both-right (text_fits q.method) _ l))
  built_in_fine q store Body ds l s h = request_text q.body (both-left _ _ (both-right (text_fits q.path) _ (both-right (text_fits q.method) _ l)))
  built_in_fine q store Read ds l s h = after_name (first ds) _ (λ x k. k)
  built_in_fine q store Write ds l s h = after_name (first ds) _ (λ x k. (k, second_within ds h))
  built_in_fine q store Get ds l s h = after_name (first ds) _ (λ x k. (s, k))
  built_in_fine q store Put ds l s h = after_name (first ds) _ (λ x k. (s, (k, second_within ds h)))
  built_in_fine q store Remove ds l s h = after_name (first ds) _ (λ x k. (s, k))
  built_in_fine q store Clock ds l s h = tt
  built_in_fine q store Random ds l s h = after_number (number_in (first ds))

  -- ---- transactions

  -- the table is there, and this holds of how many columns it has
  abbrev OfTable : ℕ → (ℕ → Type 0) → Type 0
  OfTable t Holds = (width : ℕ) × (nth (table_widths program.declarations) t ≡ Some width) × Holds width

  -- a statement whose values weren't looked at
  abbrev pub FitsUnchecked : Unchecked → Type 0
  FitsUnchecked (u.insert t ds) = OfTable t (λ width. length ds ≡ width) × AreWithinLimits ds
  FitsUnchecked (u.select t columns tests) = OfTable t (λ width. (0 < length columns) × FitColumns width columns × FitTests width tests)
  FitsUnchecked (u.update t changes tests) = OfTable t (λ width. (0 < length changes) × FitChanges width changes × FitTests width tests)
  FitsUnchecked (u.delete t tests) = OfTable t (λ width. FitTests width tests)
  FitsUnchecked (u.expect d t tests) = OfTable t (λ width. FitTests width tests)

  abbrev pub FitUnchecked : List Unchecked → Type 0
  FitUnchecked [] = Unit {0}
  FitUnchecked (s ∷ ss) = FitsUnchecked s × FitUnchecked ss

  values_at : (ds : List Datum) → AreWithinLimits ds → (i : ℕ) (d : Datum) → nth ds i ≡ Some d → IsWithinLimits d
  values_at [] h i d e = absurd (none_is_not e)
  values_at (x ∷ ds) h zero d e = subst IsWithinLimits (some_is e) h.0
  values_at (x ∷ ds) h (suc i) d e = values_at ds h.1 i d e

  abbrev CheckedFits : Result o.Statement ScriptFault → Type 0
  CheckedFits (Ok s) = FitsStatement (table_widths program.declarations) s
  CheckedFits (Err f) = Unit {0}

  row_fits : (t : ℕ) (ds : List Datum) → FitsUnchecked (u.insert t ds) → CheckedFits (row_of ds >>= λ row. Ok (o.insert t row))
  row_fits t [] f = tt
  row_fits t (d ∷ ds) f = by (name_in d) refl
    where
      by : (r : Result (List ℕ) ScriptFault) → name_in d ≡ r → CheckedFits ((r >>= λ _. Ok (d ∷ ds)) >>= λ row. Ok (o.insert t row))
      by (Ok k) e = let n = name_is_key d k e in (f.0.0, f.0.1, record { columns = f.0.2; key = (k, n.0, n.1); values = values_at (d ∷ ds) f.1 })
      by (Err g) e = tt

  expect_fits : (t : ℕ) (tests : List o.Test) (r : Result ℤ ScriptFault) → OfTable t (λ width. FitTests width tests)
      → CheckedFits (r >>= λ n. Ok (o.expect n t tests))
  expect_fits t tests (Ok n) f = f
  expect_fits t tests (Err g) f = tt

  checked_fits : (s : Unchecked) → FitsUnchecked s → CheckedFits (checked s)
  checked_fits (u.insert t ds) f = row_fits t ds f
  checked_fits (u.select t columns tests) f = f
  checked_fits (u.update t changes tests) f = f
  checked_fits (u.delete t tests) f = f
  checked_fits (u.expect d t tests) f = expect_fits t tests (number_in d) f

  abbrev AllFit : Result (List o.Statement) ScriptFault → Type 0
  AllFit (Ok ss) = FitStatements (table_widths program.declarations) ss
  AllFit (Err f) = Unit {0}

  all_fit : (us : List Unchecked) → FitUnchecked us → AllFit (all_checked us)
  all_fit [] f = tt
  all_fit (s ∷ us) f = by (checked s) (checked_fits s f.0) (all_checked us) (all_fit us f.1)
    where
      by : (r : Result o.Statement ScriptFault) → CheckedFits r → (rs : Result (List o.Statement) ScriptFault) → AllFit rs
          → AllFit (r >>= λ s. rs >>= λ ss. Ok (s ∷ ss))
      by (Ok x) h (Ok xs) hs = (h, hs)
      by (Ok x) h (Err g) hs = tt
      by (Err g) h rs hs = tt

  abbrev IsMore : Result (List o.Statement) ScriptFault → Type 0
  IsMore (Ok ss) = 0 < length ss
  IsMore (Err f) = Unit {0}

  some_checked : (s : Unchecked) (us : List Unchecked) → IsMore (all_checked (s ∷ us))
  some_checked s us = by (checked s) (all_checked us)
    where
      by : (r : Result o.Statement ScriptFault) (rs : Result (List o.Statement) ScriptFault) → IsMore (r >>= λ s. rs >>= λ ss. Ok (s ∷ ss))
      by (Ok x) (Ok xs) = omega arith
      by (Ok x) (Err g) = tt
      by (Err g) rs = tt

  pub transacts : (us : List Unchecked) → us ≢ [] → FitUnchecked us → Fitting (transact_op us)
  transacts [] n f = absurd (n refl)
  transacts (s ∷ us) n f = by (all_checked (s ∷ us)) (all_fit (s ∷ us) f) (some_checked s us)
    where
      by : (r : Result (List o.Statement) ScriptFault) → AllFit r → IsMore r → Fitting (r >>= λ ss. Ok (record { object = o.tables; act = o.transact ss }))
      by (Ok ss) h m = (m, h)
      by (Err g) h m = tt
