-- What the tests of equality tell.
use Rattle.std.proofs.Common.{◌≡◌, ℕ, Bool, true, false, List, [], ◌∷◌, Option, Some, None, nat_eq, refl, sym, ap, ◌∙◌, if◌then◌else◌, true≢false}
use Rattle.std.specs.Ordering.{int_eq, is_eq}
use Rattle.script_tree.specs.declared.comparison.Comparison.{Comparison}
use Rattle.script_tree.specs.declared.comparison.Comparison.TheVariants as by
use Rattle.script_tree.specs.Faults.{fault_number}
use Rattle.script_tree.specs.declared.fault.ScriptFault.{ScriptFault}
use Rattle.script_tree.specs.declared.fault.ScriptFault.TheVariants.{WrongKind, Overflow, ZeroDivisor, OutOfRange, TooLarge, OutOfSteps, TooManyOperations, TooDeep, BadBound}
use Rattle.std.specs.declared.cmp.Ordering.{Ordering}
use Rattle.std.specs.declared.cmp.Ordering.TheVariants.{Less, Equal, Greater}
use Rattle.std.specs.Str.{bytes_eq}
use Rattle.std.specs.Cmp.{tied_itself}
use Rattle.std.proofs.lemmas.Bool.{and_parts, and_from, eqb-true, eq-eqb}
use Rattle.std.proofs.lemmas.Bool.Decides.{Decides-int_eq}
use Rattle.std.proofs.lemmas.Slice.Eq.{bytes_eq-Decides}
use Rattle.script_tree.specs.Order.{compare}
use Rattle.script_tree.specs.OrderLaws.{compare_total, compare_exact}
use Rattle.script_tree.specs.declared.operation.Act.{Act}
use Rattle.script_tree.specs.declared.operation.Act.TheVariants.{Read, Write, Get, Put, Remove, Transact, Now, Roll}
use Rattle.script_tree.specs.declared.transaction.Statement.{Statement}
use Rattle.script_tree.specs.declared.transaction.Statement.TheVariants.{Insert, Select, Update, Delete, Expect}
use Rattle.script_tree.specs.declared.request.Response.{Response}
use Rattle.script_tree.specs.declared.path.Path.{Path}
use Rattle.script_tree.specs.declared.path.End.{End}
use Rattle.script_tree.specs.declared.path.End.TheVariants.{Normal as normal, Fault as faulted, AnswerFault as answer_faulted}
use Rattle.basis.specs.Lists.{each}
use Rattle.script_tree.specs.Paths.{same_page, same_decision, same_end, same_path}
use Rattle.script_tree.specs.Alike.{same_datum, same_test, same_comparison, same_change, same_statement, same_act, same_response}

abbrev Tells : {A : Type 0} → (A → A → Bool) → Type 0
Tells {A} f = ((a b : A) → f a b ≡ true → a ≡ b) × ((a : A) → f a a ≡ true)

each_tells : {A : Type 0} (f : A → A → Bool) → Tells f → Tells (each f)
each_tells {A} f t = (is, itself)
  where
    is : (xs ys : List A) → each f xs ys ≡ true → xs ≡ ys
    is [] [] e = refl
    is [] (y ∷ ys) e = absurd (true≢false (sym e))
    is (x ∷ xs) [] e = absurd (true≢false (sym e))
    is (x ∷ xs) (y ∷ ys) e = let p = and_parts (f x y) (each f xs ys) e in λ i. t.0 x y p.0 i ∷ is xs ys p.1 i

    itself : (xs : List A) → each f xs xs ≡ true
    itself [] = refl
    itself (x ∷ xs) = and_from (f x x) (each f xs xs) (t.1 x) (itself xs)

nat_tells : Tells nat_eq
nat_tells = (eqb-true, λ a. eq-eqb a a refl)

int_tells : Tells int_eq
int_tells = (λ a b. (Decides-int_eq a b).0, λ a. (Decides-int_eq a a).1 refl)

bytes_tells : Tells bytes_eq
bytes_tells = (λ a b. (bytes_eq-Decides a b).0, λ a. (bytes_eq-Decides a a).1 refl)

equal : (o : Ordering) → is_eq o ≡ true → o ≡ Equal
equal Less e = absurd (true≢false (sym e))
equal Equal e = refl
equal Greater e = absurd (true≢false (sym e))

datum_tells : Tells same_datum
datum_tells = (λ a b e. compare_exact a b (equal (compare a b) e), λ a. ap is_eq (tied_itself compare_total a))

comparison_is : (a b : Comparison) → same_comparison a b ≡ true → a ≡ b
comparison_is by.Equal by.Equal e = refl
comparison_is by.Unequal by.Unequal e = refl
comparison_is by.Less by.Less e = refl
comparison_is by.AtMost by.AtMost e = refl
comparison_is by.Greater by.Greater e = refl
comparison_is by.AtLeast by.AtLeast e = refl
comparison_is a b e = absurd (true≢false (sym e))

comparison_itself : (a : Comparison) → same_comparison a a ≡ true
comparison_itself by.Equal = refl
comparison_itself by.Unequal = refl
comparison_itself by.Less = refl
comparison_itself by.AtMost = refl
comparison_itself by.Greater = refl
comparison_itself by.AtLeast = refl

test_tells : Tells same_test
test_tells = (
  λ a b e.
      let p = and_parts (nat_eq a.column b.column) _ e in
      let q = and_parts (same_comparison a.comparison b.comparison) (same_datum a.value b.value) p.1 in
      λ i. record { column = eqb-true a.column b.column p.0 i; comparison = comparison_is a.comparison b.comparison q.0 i; value = datum_tells.0 a.value b.value q.1 i },
  λ a. and_from _ _ (nat_tells.1 a.column) (and_from _ _ (comparison_itself a.comparison) (datum_tells.1 a.value)),
)

change_tells : Tells same_change
change_tells = (
  λ a b e.
      let p = and_parts (nat_eq a.column b.column) (same_datum a.value b.value) e in
      λ i. record { column = eqb-true a.column b.column p.0 i; value = datum_tells.0 a.value b.value p.1 i },
  λ a. and_from _ _ (nat_tells.1 a.column) (datum_tells.1 a.value),
)

statement_is : (a b : Statement) → same_statement a b ≡ true → a ≡ b
statement_is (Insert t r) (Insert u s) e =
    let p = and_parts (nat_eq t u) (each same_datum r s) e in
    λ i. Insert (eqb-true t u p.0 i) ((each_tells same_datum datum_tells).0 r s p.1 i)
statement_is (Select t c a) (Select u d b) e =
    let p = and_parts (nat_eq t u) _ e in let q = and_parts (each nat_eq c d) (each same_test a b) p.1 in
    λ i. Select (eqb-true t u p.0 i) ((each_tells nat_eq nat_tells).0 c d q.0 i) ((each_tells same_test test_tells).0 a b q.1 i)
statement_is (Update t c a) (Update u d b) e =
    let p = and_parts (nat_eq t u) _ e in let q = and_parts (each same_change c d) (each same_test a b) p.1 in
    λ i. Update (eqb-true t u p.0 i) ((each_tells same_change change_tells).0 c d q.0 i) ((each_tells same_test test_tells).0 a b q.1 i)
statement_is (Delete t a) (Delete u b) e =
    let p = and_parts (nat_eq t u) (each same_test a b) e in
    λ i. Delete (eqb-true t u p.0 i) ((each_tells same_test test_tells).0 a b p.1 i)
statement_is (Expect m t a) (Expect n u b) e =
    let p = and_parts (int_eq m n) _ e in let q = and_parts (nat_eq t u) (each same_test a b) p.1 in
    λ i. Expect (int_tells.0 m n p.0 i) (eqb-true t u q.0 i) ((each_tells same_test test_tells).0 a b q.1 i)
statement_is a b e = absurd (true≢false (sym e))

statement_itself : (a : Statement) → same_statement a a ≡ true
statement_itself (Insert t r) = and_from _ _ (nat_tells.1 t) ((each_tells same_datum datum_tells).1 r)
statement_itself (Select t c a) = and_from _ _ (nat_tells.1 t) (and_from _ _ ((each_tells nat_eq nat_tells).1 c) ((each_tells same_test test_tells).1 a))
statement_itself (Update t c a) = and_from _ _ (nat_tells.1 t)
    (and_from _ _ ((each_tells same_change change_tells).1 c) ((each_tells same_test test_tells).1 a))
statement_itself (Delete t a) = and_from _ _ (nat_tells.1 t) ((each_tells same_test test_tells).1 a)
statement_itself (Expect n t a) = and_from _ _ (int_tells.1 n) (and_from _ _ (nat_tells.1 t) ((each_tells same_test test_tells).1 a))

pub act_is : (a b : Act) → same_act a b ≡ true → a ≡ b
act_is Read Read e = refl
act_is (Write a) (Write b) e = ap Write (datum_tells.0 a b e)
act_is (Get k) (Get l) e = ap Get (bytes_tells.0 k l e)
act_is (Put k a) (Put l b) e = let p = and_parts (bytes_eq k l) (same_datum a b) e in λ i. Put (bytes_tells.0 k l p.0 i) (datum_tells.0 a b p.1 i)
act_is (Remove k) (Remove l) e = ap Remove (bytes_tells.0 k l e)
act_is (Transact a) (Transact b) e = ap Transact ((each_tells same_statement (statement_is, statement_itself)).0 a b e)
act_is Now Now e = refl
act_is (Roll a) (Roll b) e = ap Roll (int_tells.0 a b e)
act_is a b e = absurd (true≢false (sym e))

pub act_itself : (a : Act) → same_act a a ≡ true
act_itself Read = refl
act_itself (Write a) = datum_tells.1 a
act_itself (Get k) = bytes_tells.1 k
act_itself (Put k a) = and_from _ _ (bytes_tells.1 k) (datum_tells.1 a)
act_itself (Remove k) = bytes_tells.1 k
act_itself (Transact a) = (each_tells same_statement (statement_is, statement_itself)).1 a
act_itself Now = refl
act_itself (Roll a) = int_tells.1 a

pub response_is : (a b : Response) → same_response a b ≡ true → a ≡ b
response_is a b e = let p = and_parts (nat_eq a.status b.status) (bytes_eq a.body b.body) e in λ i. record { status = eqb-true a.status b.status p.0 i; body = bytes_tells.0 a.body b.body p.1 i }

pub response_itself : (a : Response) → same_response a a ≡ true
response_itself a = and_from _ _ (nat_tells.1 a.status) (bytes_tells.1 a.body)

number_is : (a b : Option ℕ) → same_page a b ≡ true → a ≡ b
number_is None None e = refl
number_is (Some a) (Some b) e = ap (λ n. Some n) (eqb-true a b e)
number_is None (Some b) e = absurd (true≢false (sym e))
number_is (Some a) None e = absurd (true≢false (sym e))

pub number_itself : (a : Option ℕ) → same_page a a ≡ true
number_itself None = refl
number_itself (Some a) = nat_tells.1 a

pub truth_is : (a b : Bool) → same_decision a b ≡ true → a ≡ b
truth_is true true e = refl
truth_is false false e = refl
truth_is true false e = absurd (true≢false (sym e))
truth_is false true e = absurd (true≢false (sym e))

pub truth_itself : (a : Bool) → same_decision a a ≡ true
truth_itself true = refl
truth_itself false = refl

-- the fault of a number
fault_by : ℕ → ScriptFault
fault_by n =
    if nat_eq n 1 then WrongKind else (
    if nat_eq n 2 then Overflow else (
    if nat_eq n 3 then ZeroDivisor else (
    if nat_eq n 4 then OutOfRange else (
    if nat_eq n 5 then TooLarge else (
    if nat_eq n 6 then OutOfSteps else (
    if nat_eq n 7 then TooManyOperations else (
    if nat_eq n 8 then TooDeep else (
    BadBound))))))))

fault_again : (f : ScriptFault) → fault_by (fault_number f) ≡ f
unfolding fault_by
fault_again WrongKind = refl
fault_again Overflow = refl
fault_again ZeroDivisor = refl
fault_again OutOfRange = refl
fault_again TooLarge = refl
fault_again OutOfSteps = refl
fault_again TooManyOperations = refl
fault_again TooDeep = refl
fault_again BadBound = refl

pub fault_is : (a b : ScriptFault) → fault_number a ≡ fault_number b → a ≡ b
fault_is a b e = sym (fault_again a) ∙ ap fault_by e ∙ fault_again b

end_is : (a b : End) → same_end a b ≡ true → a ≡ b
end_is normal normal e = refl
end_is (faulted a) (faulted b) e = ap faulted (fault_is a b (eqb-true (fault_number a) (fault_number b) e))
end_is answer_faulted answer_faulted e = refl
end_is a b e = absurd (true≢false (sym e))

end_itself : (a : End) → same_end a a ≡ true
end_itself normal = refl
end_itself (faulted a) = nat_tells.1 (fault_number a)
end_itself answer_faulted = refl

pub path_is : (a b : Path) → same_path a b ≡ true → a ≡ b
path_is a b e =
    let p = and_parts (same_page a.page b.page) _ e in
    let q = and_parts (each same_decision a.decisions b.decisions) _ p.1 in
    let r = and_parts (nat_eq a.steps b.steps) (same_end a.end b.end) q.1 in
    λ i. record { page = number_is a.page b.page p.0 i; decisions = (each_tells same_decision (truth_is, truth_itself)).0 a.decisions b.decisions q.0 i; steps = eqb-true a.steps b.steps r.0 i; end = end_is a.end b.end r.1 i }

pub path_itself : (a : Path) → same_path a a ≡ true
path_itself a = and_from _ _ (number_itself a.page)
    (and_from _ _ ((each_tells same_decision (truth_is, truth_itself)).1 a.decisions)
    (and_from _ _ (nat_tells.1 a.steps) (end_itself a.end)))
