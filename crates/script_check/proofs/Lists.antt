-- Facts on lists, and on what is found along them.
use Rattle.std.proofs.Common.{◌≡◌, ℕ, suc, ◌<◌, ◌≤◌, ◌+◌, List, [], ◌∷◌, ◌++◌, length, take, drop, get_or, Option, sym, ap, ◌∙◌, arith, drop-cons}
use Rattle.std.proofs.lemmas.List.{drop_all, take_more}
use Rattle.script_check.specs.Least.{lower}
use Rattle.script_check.specs.Validity.{in_turn}
use Rattle.script_check.specs.declared.fault.CheckFault.{CheckFault}
use Rattle.script_tree.specs.declared.syntax.declaration.Declaration.{Declaration}
use Rattle.script_check.proofs.Least.{lower_append, lower_none, lower_swap}

-- what is left at a place of a list
pub left : {A : Type 0} (xs : List A) (i : ℕ) (x : A) → i < length xs → x ≡ get_or xs i x → drop i xs ≡ x ∷ drop (i + 1) xs
left {A} xs i x h e =
    let q : suc i ≡ i + 1 = omega arith in
    drop-cons xs i x h ∙ ap (λ y. y ∷ drop (suc i) xs) (sym e) ∙ ap (λ n. x ∷ drop n xs) q

pub none_left : {A : Type 0} (xs : List A) (i : ℕ) → length xs ≤ i → drop i xs ≡ []
none_left {A} xs i h = drop_all i xs h

-- what stands before the next place
pub taken : {A : Type 0} (xs : List A) (i : ℕ) (x : A) → i < length xs → x ≡ get_or xs i x → take (i + 1) xs ≡ take i xs ++ x ∷ []
taken {A} xs i x h e = take_more xs i x h ∙ ap (λ y. take i xs ++ y ∷ []) (sym e)

-- what was found of the first part is there before what is found of the rest
pub then_rest : (l m : Option CheckFault) (fs gs : List CheckFault) → m ≡ lower l fs → lower m gs ≡ lower l (fs ++ gs)
then_rest l m fs gs e = ap (λ n. lower n gs) e ∙ sym (lower_append l fs gs)

pub then_next : (l m n : Option CheckFault) (fs gs : List CheckFault) → m ≡ lower l fs → n ≡ lower m gs → n ≡ lower l (fs ++ gs)
then_next l m n fs gs p q = q ∙ then_rest l m fs gs p

-- the same where the first was found last
pub then_before : (l m n : Option CheckFault) (fs gs : List CheckFault) → m ≡ lower l gs → n ≡ lower m fs → n ≡ lower l (fs ++ gs)
then_before l m n fs gs p q = q ∙ ap (λ k. lower k fs) p ∙ lower_swap l gs fs ∙ sym (lower_append l fs gs)

-- one declaration more
pub one_on : (faults : List Declaration → Declaration → List CheckFault) (ds : List Declaration) (i : ℕ)
    (d : Declaration) (l m : Option CheckFault) → i < length ds → d ≡ get_or ds i d
    → m ≡ lower l (faults (take i ds) d)
    → lower m (in_turn faults (take (i + 1) ds) (drop (i + 1) ds)) ≡ lower l (in_turn faults (take i ds) (drop i ds))
one_on faults ds i d l m h e p =
    let rest = drop (i + 1) ds in
    ap (λ t. lower m (in_turn faults t rest)) (taken ds i d h e)
    ∙ then_rest l m (faults (take i ds) d) (in_turn faults (take i ds ++ d ∷ []) rest) p
    ∙ ap (λ ys. lower l (in_turn faults (take i ds) ys)) (sym (left ds i d h e))

-- all declarations
pub all_on : (faults : List Declaration → Declaration → List CheckFault) (ds : List Declaration) (i : ℕ)
    (l m : Option CheckFault) → length ds ≤ i
    → lower m (in_turn faults (take i ds) (drop i ds)) ≡ lower l (in_turn faults [] ds)
    → m ≡ lower l (in_turn faults [] ds)
all_on faults ds i l m h told = sym (lower_none m) ∙ ap (λ ys. lower m (in_turn faults (take i ds) ys)) (sym (none_left ds i h)) ∙ told

-- ---- a loop over a list, whose faults are those of each of its members

pub next_of_loop : {A : Type 0} (all : List A → List CheckFault) (each : A → List CheckFault) → ((x : A) (xs : List A) → all (x ∷ xs) ≡ each x ++ all xs)
    → (xs : List A) (i : ℕ) (x : A) (l m : Option CheckFault) → i < length xs → x ≡ get_or xs i x
    → m ≡ lower l (each x) → lower m (all (drop (i + 1) xs)) ≡ lower l (all (drop i xs))
next_of_loop {A} all each step xs i x l m h e p =
    let rest = drop (i + 1) xs in
    then_rest l m (each x) (all rest) p ∙ ap (lower l) (sym (step x rest)) ∙ ap (λ ys. lower l (all ys)) (sym (left xs i x h e))

pub end_of_loop : {A : Type 0} (all : List A → List CheckFault) → all [] ≡ []
    → (xs : List A) (i : ℕ) (l m : Option CheckFault) → length xs ≤ i → lower m (all (drop i xs)) ≡ lower l (all xs)
    → m ≡ lower l (all xs)
end_of_loop {A} all none xs i l m h told = sym (lower_none m) ∙ ap (lower m) (sym none) ∙ ap (λ ys. lower m (all ys)) (sym (none_left xs i h)) ∙ told
