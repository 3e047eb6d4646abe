-- Facts on blocks.
use Rattle.std.proofs.Common.{◌≡◌, ℕ, zero, suc, ◌<◌, ◌≤◌, ◌+◌, ◌-◌, List, [], ◌∷◌, ◌++◌, length, drop, get_or, Bool, true, false, if◌then◌else◌, Option, refl, sym, ap, ◌∙◌, arith, append_assoc, length-append}
use Rattle.script_tree.specs.Programs.{Program}
use Rattle.script_tree.specs.StatementWeight.{statement_weight, statements_weight}
use Rattle.script_tree.specs.Syntax.{Statement, let_, set_, if_, while_, for_, echo, status, return, do_}
use Rattle.script_tree.specs.SyntaxLists.{statements_of}
use Rattle.script_check.specs.Validity.{has, with_name, known_after, statement_faults, block_faults}
use Rattle.script_check.specs.Least.{lower}
use Rattle.script_check.specs.declared.fault.CheckFault.{CheckFault}
use Rattle.script_check.proofs.Least.{lower_none}
use Rattle.script_check.proofs.Lists.{left, none_left, then_rest}

-- The names are these, and perhaps newer ones before them.
abbrev pub Grows : List (List ℕ) → List (List ℕ) → Type 0
Grows old new = (xs : List (List ℕ)) × (new ≡ xs ++ old)

pub grows_same : (old new : List (List ℕ)) → new ≡ old → Grows old new
grows_same old new e = ([], e)

pub grows_then : (a b c : List (List ℕ)) → Grows a b → Grows b c → Grows a c
grows_then a b c p q = (q.0 ++ p.0, q.1 ∙ ap (λ ys. q.0 ++ ys) p.1 ∙ sym (append_assoc q.0 p.0 a))

name_grows : (known : List (List ℕ)) (x : List ℕ) (b : Bool) → Grows known (if b then known else x ∷ known)
name_grows known x true = ([], refl)
name_grows known x false = (x ∷ [], refl)

pub with_name_grows : (known : List (List ℕ)) (x : List ℕ) → Grows known (with_name known x)
with_name_grows known x = name_grows known x (has known x)

pub after_grows : (known : List (List ℕ)) (s : Statement) → Grows known (known_after known s)
after_grows known (let_ at x e) = with_name_grows known x.text
after_grows known (set_ at x e) = ([], refl)
after_grows known (if_ at e body other) = ([], refl)
after_grows known (while_ at e body) = ([], refl)
after_grows known (for_ at x e body) = ([], refl)
after_grows known (echo at e) = ([], refl)
after_grows known (status at e) = ([], refl)
after_grows known (return at e) = ([], refl)
after_grows known (do_ at e) = ([], refl)

drop_front : (xs old : List (List ℕ)) → drop (length xs) (xs ++ old) ≡ old
drop_front [] old = refl
drop_front (x ∷ xs) old = drop_front xs old

-- forgetting the newer names
pub left_again : (old new : List (List ℕ)) → Grows old new → drop (length new - length old) new ≡ old
left_again old new g =
    let n : length (g.0 ++ old) - length old ≡ length g.0 = omega (arith, length-append g.0 old) in
    ap (λ s. drop (length s - length old) s) g.1 ∙ ap (λ k. drop k (g.0 ++ old)) n ∙ drop_front g.0 old

pub lighter_statement : (ss : List Statement) (i : ℕ) (s : Statement) → i < length ss → s ≡ get_or ss i s
    → statement_weight s < statements_weight (statements_of ss)
lighter_statement [] i s h q = absurd (omega arith)
lighter_statement (f ∷ ss) zero s h q = rw q (omega arith)
lighter_statement (f ∷ ss) (suc i) s h q = omega (arith, lighter_statement ss i s (omega arith) q)

-- ---- a statement, and the others of its block

pub block_next : (program : Program) (known after : List (List ℕ)) (ss : List Statement) (i : ℕ) (s : Statement)
    (l m : Option CheckFault) → i < length ss → s ≡ get_or ss i s → after ≡ known_after known s
    → m ≡ lower l (statement_faults program known s)
    → lower m (block_faults program after (drop (i + 1) ss)) ≡ lower l (block_faults program known (drop i ss))
block_next program known after ss i s l m h e is p =
    let rest = drop (i + 1) ss in
    ap (λ k. lower m (block_faults program k rest)) is
    ∙ then_rest l m (statement_faults program known s) (block_faults program (known_after known s) rest) p
    ∙ ap (λ ys. lower l (block_faults program known ys)) (sym (left ss i s h e))

pub block_end : (program : Program) (known : List (List ℕ)) (ss : List Statement) (i : ℕ) (m : Option CheckFault)
    → length ss ≤ i → lower m (block_faults program known (drop i ss)) ≡ m
block_end program known ss i m h = ap (λ ys. lower m (block_faults program known ys)) (none_left ss i h) ∙ lower_none m
