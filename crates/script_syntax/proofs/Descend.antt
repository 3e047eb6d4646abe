-- Steps of the parser.
use Rattle.std.proofs.Common.{◌≡◌, ℕ, zero, suc, ◌-◌, ◌<◌, ◌≤◌, nat_eq, OnOk, length, map, List, [], ◌∷◌, ◌++◌, Option, Some, None, Bool, true, false, if◌then◌else◌, Result, Ok, Err, refl, sym, ap, ◌∙◌, subst, arith}
use Rattle.std.proofs.lemmas.Bool.Decides.{nat_tests}
use Rattle.basis.specs.declared.or_memory.OrMemory.{OrMemory}
use Rattle.basis.specs.declared.or_memory.OrMemory.TheVariants.{Memory, Other}
use Rattle.script_tree.specs.declared.syntax.operator.UnaryOperator.{UnaryOperator}
use Rattle.script_tree.specs.Syntax.{Expression}
use Rattle.script_tokens.specs.Feed.{is_word, stands, behind_first, rest_of, fault_at}
use Rattle.script_tokens.specs.Scans.{Scan, before}
use Rattle.script_tokens.specs.declared.fault.SyntaxFault.{SyntaxFault}
use Rattle.script_tokens.specs.Kinds as kind
use Rattle.script_tokens.specs.Kinds.{Kind, Token, token}
use Rattle.script_tokens.specs.declared.word.Word.{Word}
use Rattle.script_tokens.specs.declared.word.Word.TheVariants as w
use Rattle.script_tokens.proofs.Feeds.{word_is}
use Rattle.script_grammar.specs.Grouping.{most_repeats}
use Rattle.script_grammar.specs.declared.joint.Joint.{Joint}
use Rattle.script_grammar.specs.declared.joint.Joint.TheVariants.{Indexing, And, Or, Operator}
use Rattle.script_grammar.specs.Machine.{joint_level, joint_of, prefix_of, Val, of_expressions, Act, joined_by, prefixed, called, adds_name, adds_expression, adds_query, adds_statement, adds_declaration, otherwise, apply, Symbol, act, word, a_name, operand, prefixes, atom, tail, name_tail, arguments, more_arguments, more_names, parameters, a_query, more_queries, filter, more_tests, more_sets, a_statement, statements, else_part, declarations, block, begin_declaration, test, assignment, State, after_joint, feed, stuck, fed, run}
use Rattle.script_grammar.proofs.Steps.{step_on, same_step, act_runs as acts_on}
use Rattle.script_syntax.specs.Parses.{reading, stuck_fault, fault_in, Stops, Parses, Joins, expression_value, after, Begins, word_token, of_level, joint_at, placed_prefix, prefix_at}

-- ---- a failure below is a failure above

-- from some symbols the machine comes to others
abbrev pub Leads : List Symbol → List Val → Scan → List Symbol → List Val → Scan → Type 0
Leads symbols from old sub before mid = (k : List Symbol) (vs : List Val)
    → (l : List Symbol) × (us : List Val) × (reading old (symbols ++ k) (from ++ vs)
    ≡ reading mid (sub ++ l) (before ++ us))

pub fails : (symbols : List Symbol) (from : List Val) (old : Scan) (sub : List Symbol) (before : List Val) (mid : Scan) (e : OrMemory SyntaxFault)
    → Leads symbols from old sub before mid → Stops sub before e mid → Stops symbols from e old
fails symbols from old sub before mid Memory l g = tt
fails symbols from old sub before mid (Other u) l g = λ k vs. ap fault_in (l k vs).2 ∙ g (l k vs).0 (l k vs).1

-- what is read by other symbols, which do the same
pub follows : {X : Type 0} (to : X → List Val) (symbols : List Symbol) (from : List Val) (old : Scan)
    (sub : List Symbol) (before : List Val) (mid new : Scan) (r : Result X (OrMemory SyntaxFault))
    → ((k : List Symbol) (vs : List Val) → reading old (symbols ++ k) (from ++ vs)
    ≡ reading mid (sub ++ k) (before ++ vs)) → Parses to sub before r mid new → Parses to symbols from r old new
follows to symbols from old sub before mid new (Ok x) e g = λ k vs. e k vs ∙ g k vs
follows to symbols from old sub before mid new (Err Memory) e g = tt
follows to symbols from old sub before mid new (Err (Other u)) e g = λ k vs. ap fault_in (e k vs) ∙ g k vs

-- what a first token begins
pub begin_follows : {X : Type 0} (to : X → List Val) (t : Token) (begin : List Symbol → List Val → Option State)
    (old : Scan) (sub : List Symbol) (before : List Val) (new : Scan) (r : Result X (OrMemory SyntaxFault))
    → ((k : List Symbol) (vs : List Val) → after t old (begin k vs) ≡ reading old (sub ++ k) (before ++ vs))
    → Parses to sub before r old new → Begins to t begin r old new
begin_follows to t begin old sub before new (Ok x) e g = λ k vs. e k vs ∙ g k vs
begin_follows to t begin old sub before new (Err Memory) e g = tt
begin_follows to t begin old sub before new (Err (Other u)) e g = λ k vs. ap fault_in (e k vs) ∙ g k vs

-- ---- words

not_in_front : (v : Word) (t : Token) (ts : List Token) → stands v (t ∷ ts) ≡ false → is_word v t.kind ≡ false
not_in_front v t ts h = h

no_stands : {P : Type 0} → false ≡ true → P
no_stands h = cc

other_word : (u v : Word) (t : Kind) → is_word v t ≡ true → is_word u (kind.fixed v) ≡ false → is_word u t ≡ false
other_word u v t h n = ap (is_word u) (word_is v t h) ∙ n

behind_shorter_of : (ts : List Token) → length (behind_first ts) ≤ length ts
behind_shorter_of [] = omega arith
behind_shorter_of (t ∷ ts) = omega arith

pub behind_shorter : (s : Scan) → length (rest_of s).tokens ≤ length s.tokens
behind_shorter s = behind_shorter_of s.tokens

-- ---- expressions

operand_more_of : (l : ℕ) (ts : List Token) (k : List Symbol) (vs : List Val) → 2 ≤ l
    → run ts (operand l ∷ k) vs ≡ run ts (operand (l - 1) ∷ tail l (most_repeats l) ∷ k) vs
operand_more_of zero ts k vs h = absurd (omega (arith, h))
operand_more_of (suc zero) ts k vs h = absurd (omega (arith, h))
operand_more_of (suc (suc r)) [] k vs h = refl
operand_more_of (suc (suc r)) (t ∷ ts) k vs h =
    let q : suc (suc r) - 1 ≡ suc r = omega arith in
    rw q (same_step t ts (operand (suc (suc r)) ∷ k) (operand (suc r) ∷ tail (suc (suc r)) (most_repeats (suc (suc r))) ∷ k) vs vs refl)

operand_one_of : (ts : List Token) (k : List Symbol) (vs : List Val) → run ts (operand 1 ∷ k) vs ≡ run ts (prefixes (most_repeats 1) ∷ k) vs
operand_one_of [] k vs = refl
operand_one_of (t ∷ ts) k vs = refl

no_level : {P : Type 0} (j : Joint) → None ≡ Some j → P
no_level j h = cc

the_joint : (i j : Joint) → Some i ≡ Some j → i ≡ j
the_joint i j h = cc

level_case : (b : Bool) (i j : Joint) → (if b then Some i else None) ≡ Some j → (i ≡ j) × (b ≡ true)
level_case true i j h = (the_joint i j h, refl)
level_case false i j h = no_level j h

level_is : (l : ℕ) (o : Option Joint) (j : Joint) → of_level l o ≡ Some j → (o ≡ Some j) × (joint_level j ≡ l)
level_is l None j h = no_level j h
level_is l (Some i) j h =
    let c = level_case (nat_eq (joint_level i) l) i j h in
    (ap Some c.0, subst (λ x. joint_level x ≡ l) c.0 (grind (arith, nat_tests, c.1)))

itself : (n : ℕ) → nat_eq n n ≡ true
itself n = grind (arith, nat_tests)

high_joint : (j : Joint) (l left : ℕ) (k : List Symbol) → joint_level j ≡ l → 2 ≤ l
    → after_joint j l left k ≡ operand (l - 1) ∷ act (joined_by j) ∷ tail l left ∷ k
high_joint Indexing l left k e h = absurd (omega (arith, e, h))
high_joint And l left k e h = refl
high_joint Or l left k e h = refl
high_joint (Operator operator) l left k e h = refl

joint_runs_of : (l left : ℕ) (ts : List Token) (j : Joint) → joint_at l ts ≡ Some j → 2 ≤ l → 0 < left
    → (k : List Symbol) (vs : List Val) → run ts (tail l left ∷ k) vs
    ≡ run (behind_first ts) (operand (l - 1) ∷ act (joined_by j) ∷ tail l (left - 1) ∷ k) vs
joint_runs_of l left [] j h b s k vs = no_level j h
joint_runs_of l zero (t ∷ ts) j h b s k vs = absurd (omega (arith, s))
joint_runs_of l (suc left) (t ∷ ts) j h b s k vs =
    let c = level_is l (joint_of t.kind) j h in
    let q : suc left - 1 ≡ left = omega arith in
    let e : feed t (tail l (suc left) ∷ k) vs ≡ Some (after_joint j l left k, vs) = rw (c.0, c.1, itself) refl in
    rw q (step_on t ts (tail l (suc left) ∷ k) (after_joint j l left k) vs vs e ∙ ap (λ z. run ts z vs) (high_joint j l left k c.1 b))

joint_stuck_of : (l : ℕ) (ts : List Token) (j : Joint) → joint_at l ts ≡ Some j → (k : List Symbol) (vs : List Val) → run ts (tail l 0 ∷ k) vs ≡ stuck ts
joint_stuck_of l [] j h k vs = no_level j h
joint_stuck_of l (t ∷ ts) j h k vs =
    let c = level_is l (joint_of t.kind) j h in
    let e : feed t (tail l 0 ∷ k) vs ≡ None = rw (c.0, c.1, itself) refl in
    ap (λ o. fed t ts o (λ m us. run ts m us)) e

index_runs_of : (left : ℕ) (ts : List Token) → stands w.SquareOpen ts ≡ true → 0 < left
    → (k : List Symbol) (vs : List Val) → run ts (tail 0 left ∷ k) vs
    ≡ run (behind_first ts) (operand 6 ∷ word w.SquareClose ∷ act (joined_by Indexing) ∷ tail 0 (left - 1) ∷ k) vs
index_runs_of left [] h s k vs = no_stands h
index_runs_of zero (t ∷ ts) h s k vs = absurd (omega (arith, s))
index_runs_of (suc left) (t ∷ ts) h s k vs =
    let q : suc left - 1 ≡ left = omega arith in
    let e : feed t (tail 0 (suc left) ∷ k) vs ≡ Some (after_joint Indexing 0 left k, vs) = rw (word_is w.SquareOpen t.kind h) refl in
    rw q (step_on t ts (tail 0 (suc left) ∷ k) (after_joint Indexing 0 left k) vs vs e)

index_stuck_of : (ts : List Token) → stands w.SquareOpen ts ≡ true → (k : List Symbol) (vs : List Val) → run ts (tail 0 0 ∷ k) vs ≡ stuck ts
index_stuck_of [] h k vs = no_stands h
index_stuck_of (t ∷ ts) h k vs =
    let e : feed t (tail 0 0 ∷ k) vs ≡ None = rw (word_is w.SquareOpen t.kind h) refl in
    ap (λ o. fed t ts o (λ m us. run ts m us)) e

-- ---- prefixes

no_prefix_is : {P : Type 0} (x : ℕ × UnaryOperator) → None ≡ Some x → P
no_prefix_is x h = cc

the_prefix : (at : ℕ) (operator : UnaryOperator) (x : ℕ × UnaryOperator) → Some (at, operator) ≡ Some x → (x.0 ≡ at) × (x.1 ≡ operator)
the_prefix at operator x h =
    let e : x ≡ (at, operator) = cc in
    (ap (λ (y : ℕ × UnaryOperator). y.0) e, ap (λ (y : ℕ × UnaryOperator). y.1) e)

placed_is : (at : ℕ) (o : Option UnaryOperator) (x : ℕ × UnaryOperator) → placed_prefix at o ≡ Some x → (x.0 ≡ at) × (o ≡ Some x.1)
placed_is at None x h = no_prefix_is x h
placed_is at (Some operator) x h = let p = the_prefix at operator x h in (p.0, ap Some (sym p.1))

none_placed : (at : ℕ) (o : Option UnaryOperator) → placed_prefix at o ≡ None → o ≡ None
none_placed at None h = refl
none_placed at (Some operator) h = cc

no_prefix_runs_of : (left : ℕ) (ts : List Token) → prefix_at ts ≡ None → (k : List Symbol) (vs : List Val)
    → run ts (prefixes left ∷ k) vs ≡ run ts (atom ∷ tail 0 (most_repeats 0) ∷ k) vs
no_prefix_runs_of left [] h k vs = refl
no_prefix_runs_of left (t ∷ ts) h k vs = same_step t ts (prefixes left ∷ k) (atom ∷ tail 0 (most_repeats 0) ∷ k) vs vs
    (rw (none_placed t.at (prefix_of t.kind) h) refl)

prefix_runs_of : (left : ℕ) (ts : List Token) (x : ℕ × UnaryOperator) → prefix_at ts ≡ Some x → 0 < left
    → (k : List Symbol) (vs : List Val) → run ts (prefixes left ∷ k) vs
    ≡ run (behind_first ts) (prefixes (left - 1) ∷ act (prefixed x.0 x.1) ∷ k) vs
prefix_runs_of left [] x h s k vs = no_prefix_is x h
prefix_runs_of zero (t ∷ ts) x h s k vs = absurd (omega (arith, s))
prefix_runs_of (suc left) (t ∷ ts) x h s k vs =
    let p = placed_is t.at (prefix_of t.kind) x h in
    let q : suc left - 1 ≡ left = omega arith in
    rw (q, p.0) (step_on t ts (prefixes (suc left) ∷ k) (prefixes left ∷ act (prefixed t.at x.1) ∷ k) vs vs (rw p.1 refl))

pub map_push : {A B : Type 0} (f : A → B) (xs : List A) (x : A) → map f (xs ++ x ∷ []) ≡ map f xs ++ f x ∷ []
map_push f [] x = refl
map_push f (y ∷ xs) x = ap (λ l. f y ∷ l) (map_push f xs x)

-- ---- lists

arguments_runs_of : (v : Word) (ts : List Token) → stands v ts ≡ false → (k : List Symbol) (vs : List Val)
    → run ts (arguments v ∷ k) vs ≡ run ts (operand 6 ∷ act adds_expression ∷ more_arguments v ∷ k) vs
arguments_runs_of v [] h k vs = refl
arguments_runs_of v (t ∷ ts) h k vs = same_step t ts (arguments v ∷ k) (operand 6 ∷ act adds_expression ∷ more_arguments v ∷ k) vs vs (rw h refl)

more_arguments_run_of : (v : Word) (ts : List Token) → stands v ts ≡ false → (k : List Symbol) (vs : List Val)
    → run ts (more_arguments v ∷ k) vs ≡ run ts
    (word w.Comma ∷ operand 6 ∷ act adds_expression ∷ more_arguments v ∷ k) vs
more_arguments_run_of v [] h k vs = refl
more_arguments_run_of v (t ∷ ts) h k vs = same_step t ts (more_arguments v ∷ k)
    (word w.Comma ∷ operand 6 ∷ act adds_expression ∷ more_arguments v ∷ k) vs vs (rw h refl)

more_names_run_of : (v : Word) (ts : List Token) → stands v ts ≡ false → (k : List Symbol) (vs : List Val)
    → run ts (more_names v ∷ k) vs ≡ run ts (word w.Comma ∷ a_name ∷ act adds_name ∷ more_names v ∷ k) vs
more_names_run_of v [] h k vs = refl
more_names_run_of v (t ∷ ts) h k vs = same_step t ts (more_names v ∷ k) (word w.Comma ∷ a_name ∷ act adds_name ∷ more_names v ∷ k) vs vs (rw h refl)

parameters_run_of : (ts : List Token) → stands w.Close ts ≡ false → (k : List Symbol) (vs : List Val)
    → run ts (parameters ∷ k) vs ≡ run ts (a_name ∷ act adds_name ∷ more_names w.Close ∷ k) vs
parameters_run_of [] h k vs = refl
parameters_run_of (t ∷ ts) h k vs = same_step t ts (parameters ∷ k) (a_name ∷ act adds_name ∷ more_names w.Close ∷ k) vs vs (rw h refl)

call_runs_of : (at : ℕ) (x : List ℕ) (ts : List Token) → stands w.Open ts ≡ true → (k : List Symbol) (vs : List Val)
    → run ts (name_tail at x ∷ k) vs ≡ run (behind_first ts) (arguments w.Close ∷ act (called at x) ∷ k)
    (of_expressions [] ∷ vs)
call_runs_of at x [] h k vs = no_stands h
call_runs_of at x (t ∷ ts) h k vs = step_on t ts (name_tail at x ∷ k) (arguments w.Close ∷ act (called at x) ∷ k) vs (of_expressions [] ∷ vs) (rw h refl)

more_queries_run_of : (ts : List Token) → stands w.BraceClose ts ≡ false → (k : List Symbol) (vs : List Val)
    → run ts (more_queries ∷ k) vs ≡ run ts (a_query ∷ act adds_query ∷ more_queries ∷ k) vs
more_queries_run_of [] h k vs = refl
more_queries_run_of (t ∷ ts) h k vs = same_step t ts (more_queries ∷ k) (a_query ∷ act adds_query ∷ more_queries ∷ k) vs vs (rw h refl)

queries_end_of : (ts : List Token) → stands w.BraceClose ts ≡ true → (k : List Symbol) (vs : List Val)
    → run ts (more_queries ∷ k) vs ≡ run (behind_first ts) k vs
queries_end_of [] h k vs = no_stands h
queries_end_of (t ∷ ts) h k vs = step_on t ts (more_queries ∷ k) k vs vs (rw h refl)

filter_runs_of : (ts : List Token) → stands w.Where ts ≡ true → (k : List Symbol) (vs : List Val)
    → run ts (filter ∷ k) vs ≡ run (behind_first ts) (test (more_tests ∷ k)) vs
filter_runs_of [] h k vs = no_stands h
filter_runs_of (t ∷ ts) h k vs = step_on t ts (filter ∷ k) (test (more_tests ∷ k)) vs vs (rw h refl)

no_filter_runs_of : (ts : List Token) → stands w.Where ts ≡ false → (k : List Symbol) (vs : List Val) → run ts (filter ∷ k) vs ≡ run ts k vs
no_filter_runs_of [] h k vs = refl
no_filter_runs_of (t ∷ ts) h k vs = same_step t ts (filter ∷ k) k vs vs (rw h refl)

more_tests_run_of : (ts : List Token) → stands w.And ts ≡ true → (k : List Symbol) (vs : List Val)
    → run ts (more_tests ∷ k) vs ≡ run (behind_first ts) (test (more_tests ∷ k)) vs
more_tests_run_of [] h k vs = no_stands h
more_tests_run_of (t ∷ ts) h k vs = step_on t ts (more_tests ∷ k) (test (more_tests ∷ k)) vs vs (rw h refl)

more_sets_run_of : (ts : List Token) → stands w.Comma ts ≡ true → (k : List Symbol) (vs : List Val)
    → run ts (more_sets ∷ k) vs ≡ run (behind_first ts) (assignment (more_sets ∷ k)) vs
more_sets_run_of [] h k vs = no_stands h
more_sets_run_of (t ∷ ts) h k vs = step_on t ts (more_sets ∷ k) (assignment (more_sets ∷ k)) vs vs (rw h refl)

-- ---- statements

statements_run_of : (ts : List Token) → stands w.BraceClose ts ≡ false → (k : List Symbol) (vs : List Val)
    → run ts (statements ∷ k) vs ≡ run ts (a_statement ∷ act adds_statement ∷ statements ∷ k) vs
statements_run_of [] h k vs = refl
statements_run_of (t ∷ ts) h k vs = same_step t ts (statements ∷ k) (a_statement ∷ act adds_statement ∷ statements ∷ k) vs vs (rw h refl)

else_runs_of : (ts : List Token) → stands w.Else ts ≡ true → (k : List Symbol) (vs : List Val)
    → run ts (else_part ∷ k) vs ≡ run (behind_first ts) (block (act otherwise ∷ k)) vs
else_runs_of [] h k vs = no_stands h
else_runs_of (t ∷ ts) h k vs = step_on t ts (else_part ∷ k) (block (act otherwise ∷ k)) vs vs (rw h refl)

-- ---- the same, with what stands behind the tokens

pub operand_more : (l : ℕ) (s : Scan) (k : List Symbol) (vs : List Val) → 2 ≤ l
    → reading s (operand l ∷ k) vs ≡ reading s (operand (l - 1) ∷ tail l (most_repeats l) ∷ k) vs
operand_more l s k vs h0 = ap (λ o. (o, s.end)) (operand_more_of l s.tokens k vs h0)

pub operand_one : (s : Scan) (k : List Symbol) (vs : List Val) → reading s (operand 1 ∷ k) vs ≡ reading s (prefixes (most_repeats 1) ∷ k) vs
operand_one s k vs = ap (λ o. (o, s.end)) (operand_one_of s.tokens k vs)

pub joint_runs : (l left : ℕ) (s : Scan) (j : Joint) → joint_at l s.tokens ≡ Some j → 2 ≤ l → 0 < left
    → (k : List Symbol) (vs : List Val) → reading s (tail l left ∷ k) vs
    ≡ reading (rest_of s) (operand (l - 1) ∷ act (joined_by j) ∷ tail l (left - 1) ∷ k) vs
joint_runs l left s j h0 h1 h2 k vs = ap (λ o. (o, s.end)) (joint_runs_of l left s.tokens j h0 h1 h2 k vs)

-- what is read behind a joint is joined by it
pub joins : (j : Joint) (l left : ℕ) (old mid new : Scan) (sub : List Symbol) (r : Result Expression (OrMemory SyntaxFault))
    → ((k : List Symbol) (vs : List Val) → reading old (tail l left ∷ k) vs ≡ reading mid (sub ++ act (joined_by j) ∷ tail l (left - 1) ∷ k) vs)
    → Parses expression_value sub [] r mid new → Joins j l left r old new
joins j l left old mid new sub (Ok e) f g = λ k vs. f k vs ∙ g (act (joined_by j) ∷ tail l (left - 1) ∷ k) vs
joins j l left old mid new sub (Err Memory) f g = tt
joins j l left old mid new sub (Err (Other u)) f g = λ k vs. ap fault_in (f k vs) ∙ g (act (joined_by j) ∷ tail l (left - 1) ∷ k) vs

-- what holds holds of what is read
pub on_read : {X : Type 0} {P : Type 0} (r : Result X (OrMemory SyntaxFault)) → P → OnOk r P
on_read (Ok x) p = p
on_read (Err e) p = tt

-- a failure behind a joint is a failure of the whole
pub joint_fails : (symbols : List Symbol) (l left : ℕ) (v : Val) (old mid : Scan) (e : OrMemory SyntaxFault)
    → ((k : List Symbol) (vs : List Val) → reading old (symbols ++ k) vs ≡ reading mid (tail l left ∷ k) (v ∷ vs))
    → Stops (tail l left ∷ []) [] e mid → Stops symbols [] e old
joint_fails symbols l left v old mid Memory told g = tt
joint_fails symbols l left v old mid (Other u) told g = λ k vs. ap fault_in (told k vs) ∙ g k (v ∷ vs)

pub index_stuck : (s : Scan) → stands w.SquareOpen s.tokens ≡ true → (k : List Symbol) (vs : List Val)
    → fault_in (reading s (tail 0 0 ∷ k) vs) ≡ Some (fault_at s)
index_stuck s h k vs = ap (λ o. stuck_fault o s.end) (index_stuck_of s.tokens h k vs)

pub index_runs : (left : ℕ) (s : Scan) → stands w.SquareOpen s.tokens ≡ true → 0 < left
    → (k : List Symbol) (vs : List Val) → reading s (tail 0 left ∷ k) vs
    ≡ reading (rest_of s) (operand 6 ∷ word w.SquareClose ∷ act (joined_by Indexing) ∷ tail 0 (left - 1) ∷ k) vs
index_runs left s h0 h1 k vs = ap (λ o. (o, s.end)) (index_runs_of left s.tokens h0 h1 k vs)

pub no_prefix_runs : (left : ℕ) (s : Scan) → prefix_at s.tokens ≡ None → (k : List Symbol) (vs : List Val)
    → reading s (prefixes left ∷ k) vs ≡ reading s (atom ∷ tail 0 (most_repeats 0) ∷ k) vs
no_prefix_runs left s h0 k vs = ap (λ o. (o, s.end)) (no_prefix_runs_of left s.tokens h0 k vs)

pub prefix_runs : (left : ℕ) (s : Scan) (x : ℕ × UnaryOperator) → prefix_at s.tokens ≡ Some x → 0 < left
    → (k : List Symbol) (vs : List Val) → reading s (prefixes left ∷ k) vs
    ≡ reading (rest_of s) (prefixes (left - 1) ∷ act (prefixed x.0 x.1) ∷ k) vs
prefix_runs left s x h0 h1 k vs = ap (λ o. (o, s.end)) (prefix_runs_of left s.tokens x h0 h1 k vs)

pub arguments_runs : (v : Word) (s : Scan) → stands v s.tokens ≡ false → (k : List Symbol) (vs : List Val)
    → reading s (arguments v ∷ k) vs ≡ reading s (operand 6 ∷ act adds_expression ∷ more_arguments v ∷ k) vs
arguments_runs v s h0 k vs = ap (λ o. (o, s.end)) (arguments_runs_of v s.tokens h0 k vs)

pub more_arguments_run : (v : Word) (s : Scan) → stands v s.tokens ≡ false → (k : List Symbol) (vs : List Val)
    → reading s (more_arguments v ∷ k) vs ≡ reading s
    (word w.Comma ∷ operand 6 ∷ act adds_expression ∷ more_arguments v ∷ k) vs
more_arguments_run v s h0 k vs = ap (λ o. (o, s.end)) (more_arguments_run_of v s.tokens h0 k vs)

pub more_names_run : (v : Word) (s : Scan) → stands v s.tokens ≡ false → (k : List Symbol) (vs : List Val)
    → reading s (more_names v ∷ k) vs ≡ reading s (word w.Comma ∷ a_name ∷ act adds_name ∷ more_names v ∷ k) vs
more_names_run v s h0 k vs = ap (λ o. (o, s.end)) (more_names_run_of v s.tokens h0 k vs)

pub parameters_run : (s : Scan) → stands w.Close s.tokens ≡ false → (k : List Symbol) (vs : List Val)
    → reading s (parameters ∷ k) vs ≡ reading s (a_name ∷ act adds_name ∷ more_names w.Close ∷ k) vs
parameters_run s h0 k vs = ap (λ o. (o, s.end)) (parameters_run_of s.tokens h0 k vs)

pub call_runs : (at : ℕ) (x : List ℕ) (s : Scan) → stands w.Open s.tokens ≡ true → (k : List Symbol) (vs : List Val)
    → reading s (name_tail at x ∷ k) vs ≡ reading (rest_of s) (arguments w.Close ∷ act (called at x) ∷ k)
    (of_expressions [] ∷ vs)
call_runs at x s h0 k vs = ap (λ o. (o, s.end)) (call_runs_of at x s.tokens h0 k vs)

pub more_queries_run : (s : Scan) → stands w.BraceClose s.tokens ≡ false → (k : List Symbol) (vs : List Val)
    → reading s (more_queries ∷ k) vs ≡ reading s (a_query ∷ act adds_query ∷ more_queries ∷ k) vs
more_queries_run s h0 k vs = ap (λ o. (o, s.end)) (more_queries_run_of s.tokens h0 k vs)

pub queries_end : (s : Scan) → stands w.BraceClose s.tokens ≡ true → (k : List Symbol) (vs : List Val)
    → reading s (more_queries ∷ k) vs ≡ reading (rest_of s) k vs
queries_end s h0 k vs = ap (λ o. (o, s.end)) (queries_end_of s.tokens h0 k vs)

pub filter_runs : (s : Scan) → stands w.Where s.tokens ≡ true → (k : List Symbol) (vs : List Val)
    → reading s (filter ∷ k) vs ≡ reading (rest_of s) (test (more_tests ∷ k)) vs
filter_runs s h0 k vs = ap (λ o. (o, s.end)) (filter_runs_of s.tokens h0 k vs)

pub no_filter_runs : (s : Scan) → stands w.Where s.tokens ≡ false → (k : List Symbol) (vs : List Val) → reading s (filter ∷ k) vs ≡ reading s k vs
no_filter_runs s h0 k vs = ap (λ o. (o, s.end)) (no_filter_runs_of s.tokens h0 k vs)

pub more_tests_run : (s : Scan) → stands w.And s.tokens ≡ true → (k : List Symbol) (vs : List Val)
    → reading s (more_tests ∷ k) vs ≡ reading (rest_of s) (test (more_tests ∷ k)) vs
more_tests_run s h0 k vs = ap (λ o. (o, s.end)) (more_tests_run_of s.tokens h0 k vs)

pub more_sets_run : (s : Scan) → stands w.Comma s.tokens ≡ true → (k : List Symbol) (vs : List Val)
    → reading s (more_sets ∷ k) vs ≡ reading (rest_of s) (assignment (more_sets ∷ k)) vs
more_sets_run s h0 k vs = ap (λ o. (o, s.end)) (more_sets_run_of s.tokens h0 k vs)

pub statements_run : (s : Scan) → stands w.BraceClose s.tokens ≡ false → (k : List Symbol) (vs : List Val)
    → reading s (statements ∷ k) vs ≡ reading s (a_statement ∷ act adds_statement ∷ statements ∷ k) vs
statements_run s h0 k vs = ap (λ o. (o, s.end)) (statements_run_of s.tokens h0 k vs)

pub else_runs : (s : Scan) → stands w.Else s.tokens ≡ true → (k : List Symbol) (vs : List Val)
    → reading s (else_part ∷ k) vs ≡ reading (rest_of s) (block (act otherwise ∷ k)) vs
else_runs s h0 k vs = ap (λ o. (o, s.end)) (else_runs_of s.tokens h0 k vs)

pub joint_stuck : (l : ℕ) (s : Scan) (j : Joint) → joint_at l s.tokens ≡ Some j → (k : List Symbol) (vs : List Val)
    → fault_in (reading s (tail l 0 ∷ k) vs) ≡ Some (fault_at s)
joint_stuck l s j h k vs = ap (λ o. stuck_fault o s.end) (joint_stuck_of l s.tokens j h k vs)

pub act_runs : (a : Act) (s : Scan) (k : List Symbol) (vs : List Val) → reading s (act a ∷ k) vs ≡ reading s k (apply a vs)
act_runs a s k vs = ap (λ o. (o, s.end)) (acts_on a s.tokens k vs)

pub first_word : (at : ℕ) (v : Word) (s behind : Scan) → s ≡ before (word_token at v) behind
    → (k : List Symbol) (vs : List Val) → reading s (declarations ∷ k) vs
    ≡ after (word_token at v) behind (begin_declaration at v (act adds_declaration ∷ declarations ∷ k) vs)
first_word at v s behind h k vs = rw h refl
