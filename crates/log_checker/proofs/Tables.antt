-- Tables with one key more.
use Rattle.std.proofs.Common.{◌≡◌, ◌∙◌, ℕ, suc, ◌+◌, List, [], ◌∷◌, take, length, Option, Some, None, Bool, true, false, ◌||◌, cond, nat_eq, refl, ap, sym, arith}
use Rattle.std.specs.Prelude.{is_some}
use Rattle.std.specs.List.{list_any}
use Rattle.std.specs.Ordering.{nat_cmp, is_eq}
use Rattle.std.proofs.lemmas.Bool.Decides.{nat_tests}
use Rattle.std.proofs.lemmas.Bool.{eqb-true}
use Rattle.std.proofs.lemmas.List.{take_all}
use Rattle.basis.specs.Lists.{nth, or_else, first_answer}
use Rattle.period.specs.declared.report.Count.{Count}
use Rattle.audit_meaning.specs.Spots.{operations_in}
use Rattle.audit_meaning.proofs.Filters.{take_more}
use Rattle.request_tables.specs.IdTables.{number_of, Puts}
use Rattle.request_tables.specs.declared.id_table.IdTable.{IdTable}
use Rattle.log_checker.proofs.Firsts.{first_more}
use Rattle.log_checker.proofs.Tests.{eq_sym}

pub is_at_eq : (a b : ℕ) → is_eq (nat_cmp a b) ≡ nat_eq a b
is_at_eq a b = grind (arith, nat_tests)

-- ---- counts

-- a request has a count among these exactly where one names it
pub counted_any : (r : ℕ) (counts : List Count) → is_some (first_answer (operations_in r) counts) ≡ list_any (λ count. nat_eq count.rid r) counts
unfolding first_answer or_else
counted_any r [] = refl
counted_any r (c ∷ counts) = go (nat_eq r c.rid) (nat_eq c.rid r) (eq_sym r c.rid) (counted_any r counts)
  where
    go : (a b : Bool) → a ≡ b → is_some (first_answer (operations_in r) counts) ≡ list_any (λ count. nat_eq count.rid r) counts
        → is_some (or_else (cond a (Some c.operations) None) (first_answer (operations_in r) counts)) ≡ (b || list_any (λ count. nat_eq count.rid r) counts)
    go true true e h = refl
    go true false e h = absurd (cc)
    go false true e h = absurd (cc)
    go false false e h = h

absent_first : {X : Type 0} (b : Bool) (x : X) (o : Option X) → (b ≡ true → o ≡ None) → cond b (Some x) o ≡ or_else o (cond b (Some x) None)
unfolding or_else
absent_first true x None h = refl
absent_first true x (Some y) h = absurd (let e = h refl in cc)
absent_first false x None h = refl
absent_first false x (Some y) h = refl

-- one count more, of a request that had none
pub counted_more : (counts : List Count) (i : ℕ) (c : Count) (old new : IdTable) → nth counts i ≡ Some c
    → ((r : ℕ) → number_of old r ≡ first_answer (operations_in r) (take i counts)) → number_of old c.rid ≡ None
    → Puts c.rid c.operations old new
    → (r : ℕ) → number_of new r ≡ first_answer (operations_in r) (take (i + 1) counts)
counted_more counts i c old new at told none puts r =
    puts r
    ∙ absent_first (nat_eq r c.rid) c.operations (number_of old r) (λ same. ap (number_of old) (eqb-true r c.rid same) ∙ none)
    ∙ ap (λ o. or_else o (operations_in r c)) (told r)
    ∙ sym (first_more (operations_in r) (take i counts) c)
    ∙ ap (first_answer (operations_in r)) (sym (take_more counts i c at) ∙ ap (λ n. take n counts) (let e : suc i ≡ i + 1 = omega arith in e))

pub missing : {X : Type 0} (o : Option X) → is_some o ≡ false → o ≡ None
missing None e = refl
missing (Some x) e = absurd (cc)

pub all_taken : {X : Type 0} (xs : List X) (n : ℕ) → n ≡ length xs → take n xs ≡ xs
all_taken xs n e = take_all n xs (omega arith)
