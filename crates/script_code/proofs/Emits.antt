-- How code is written.
use Rattle.std.proofs.Common.{◌≡◌, ◌<◌, ◌+◌, ◌-◌, ℕ, zero, suc, Bool, false, List, [], ◌∷◌, ◌++◌, length, get_or, map, refl, sym, ap, ◌∙◌, arith, append_assoc, length-append}
use Rattle.std.specs.Prelude.{slice_set, Result, Ok, Err, OnOk}
use Rattle.std.proofs.Math.Seq.{set-append_seam}
use Rattle.script_tree.specs.Declarations as meant
use Rattle.script_tree.specs.ExpressionView.{condition_of, assignment_of}
use Rattle.script_tree.specs.ExpressionWeight.{expression_weight, expression_list_weight, query_weight, query_list_weight, condition_list_weight, assignment_list_weight}
use Rattle.script_tree.specs.Programs.{Program}
use Rattle.script_tree.specs.Syntax.{Expression, Expressions, no_expression, expression, list, Query, Statement}
use Rattle.script_tree.specs.SyntaxLists.{expressions_of}
use Rattle.script_tree.specs.StatementWeight.{statement_weight, statement_list_weight}
use Rattle.script_tree.specs.declared.syntax.expression.Condition.{Condition}
use Rattle.script_tree.specs.declared.syntax.expression.Assignment.{Assignment}
use Rattle.script_meaning.specs.Evaluate.{names_store, store_name}
use Rattle.script_code.specs.Callees.{callee_named, numbered, has_store_first, call_of}
use Rattle.script_code.specs.Code.{Instructions, Names, how_many, call_code, expression_code, expressions_code, arguments_code}
use Rattle.script_code.specs.Jumps.{jumped, branch_beyond}
use Rattle.script_code.specs.declared.callee.Callee.{Callee}
use Rattle.script_code.specs.declared.instruction.Instruction.TheVariants.{Branch, List as Listed}
use Rattle.script_code.specs.declared.instruction.Instruction.{Instruction}

-- an instruction is written before others, and again after them
pub patched : (base mid c1 c2 : Instructions) (x i : Instruction) (n : ℕ) → n ≡ length base → c1 ≡ base ++ x ∷ []
    → c2 ≡ c1 ++ mid → slice_set c2 n i ≡ base ++ i ∷ mid
patched base mid c1 c2 x i n a b c =
    (λ z. slice_set ((c ∙ ap (λ l. l ++ mid) b ∙ append_assoc base (x ∷ []) mid) z) (a z) i) ∙ set-append_seam base x mid i

-- how many stand after it
pub passed_by : (base mid c1 c2 : Instructions) (x : Instruction) (n m : ℕ) → n ≡ length base → c1 ≡ base ++ x ∷ []
    → c2 ≡ c1 ++ mid → m ≡ length c2 → m - n ≡ length mid + 1
passed_by base mid c1 c2 x n m a b c d = omega (arith, a, d, ap length b, ap length c, length-append base (x ∷ []), length-append c1 mid)

-- a jump past the code that was written after it
pub jump_written : (jump : ℕ → Instruction) (base mid c1 c2 : Instructions) (x : Instruction) (n m : ℕ)
    → n ≡ length base → c1 ≡ base ++ x ∷ [] → c2 ≡ c1 ++ mid → m ≡ length c2
    → slice_set c2 n (jump (m - n - 1)) ≡ base ++ jumped jump mid
jump_written jump base mid c1 c2 x n m a b c d =
    let by = passed_by base mid c1 c2 x n m a b c d in
    let far : m - n - 1 ≡ length mid = omega (arith, by) in
    patched base mid c1 c2 x (jump (m - n - 1)) n a b c ∙ ap (λ k. base ++ jump k ∷ mid) far

-- the same, and the jump passes one instruction more
pub branch_written : (base mid c1 c2 : Instructions) (x : Instruction) (n m : ℕ) → n ≡ length base → c1 ≡ base ++ x ∷ [] → c2 ≡ c1 ++ mid → m ≡ length c2
    → slice_set c2 n (Branch (m - n)) ≡ base ++ jumped branch_beyond mid
branch_written base mid c1 c2 x n m a b c d =
    patched base mid c1 c2 x (Branch (m - n)) n a b c ∙ ap (λ k. base ++ Branch k ∷ mid) (passed_by base mid c1 c2 x n m a b c d)

-- what is in a list weighs less than it
pub operand_lighter : (es : List Expression) (i : ℕ) (e : Expression) → i < length es → e ≡ get_or es i e → expression_weight e < expression_list_weight es
operand_lighter [] i e h p = absurd (omega arith)
operand_lighter (t ∷ es) zero e h p = rw p (omega arith)
operand_lighter (t ∷ es) (suc i) e h p = omega (arith, operand_lighter es i e (omega arith) p)

pub query_lighter : (qs : List Query) (i : ℕ) (q : Query) → i < length qs → q ≡ get_or qs i q → query_weight q < query_list_weight qs
query_lighter [] i q h p = absurd (omega arith)
query_lighter (t ∷ qs) zero q h p = rw p (omega arith)
query_lighter (t ∷ qs) (suc i) q h p = omega (arith, query_lighter qs i q (omega arith) p)

pub condition_lighter : (cs : List Condition) (i : ℕ) (c : Condition) → i < length cs → c ≡ get_or cs i c
    → expression_weight c.value < condition_list_weight (map condition_of cs)
condition_lighter [] i c h p = absurd (omega arith)
condition_lighter (t ∷ cs) zero c h p = rw p (omega arith)
condition_lighter (t ∷ cs) (suc i) c h p = omega (arith, condition_lighter cs i c (omega arith) p)

pub assignment_lighter : (as' : List Assignment) (i : ℕ) (a : Assignment) → i < length as' → a ≡ get_or as' i a
    → expression_weight a.value < assignment_list_weight (map assignment_of as')
assignment_lighter [] i a h p = absurd (omega arith)
assignment_lighter (t ∷ as') zero a h p = rw p (omega arith)
assignment_lighter (t ∷ as') (suc i) a h p = omega (arith, assignment_lighter as' i a (omega arith) p)

pub statement_lighter : (ss : List Statement) (i : ℕ) (s : Statement) → i < length ss → s ≡ get_or ss i s → statement_weight s < statement_list_weight ss
statement_lighter [] i s h p = absurd (omega arith)
statement_lighter (t ∷ ss) zero s h p = rw p (omega arith)
statement_lighter (t ∷ ss) (suc i) s h p = omega (arith, statement_lighter ss i s (omega arith) p)

-- ---- calls

pub as_many : (es : List Expression) → how_many (expressions_of es) ≡ length es
as_many [] = refl
as_many (e ∷ es) = ap suc (as_many es)

pub store_first : (program : Program) (f : List ℕ) (c : meant.Callee) → has_store_first (numbered program f c) ≡ names_store c
store_first program f (meant.own g) = refl
store_first program f (meant.built b) = refl
store_first program f meant.unknown = refl

pub call_as_numbered : (program : Program) (f store : List ℕ) (n : ℕ) (c : meant.Callee)
    → call_of (numbered program f c) store n ≡ call_code program f store n c
call_as_numbered program f store n (meant.own g) = refl
call_as_numbered program f store n (meant.built b) = refl
call_as_numbered program f store n meant.unknown = refl

pub OnOk-map : {T E : Type 0} {P Q : Type 0} (r : Result T E) → (P → Q) → OnOk r P → OnOk r Q
OnOk-map (Ok x) f p = f p
OnOk-map (Err e) f p = tt

pub all_arguments : (program : Program) (ns : Names) (es : Expressions) → expressions_code program ns es ≡ arguments_code program ns false es
all_arguments program ns no_expression = refl
all_arguments program ns (expression e es) = refl

-- the arguments, and the call after them
pub call_written : (program : Program) (ns : Names) (f : List ℕ) (es es1 es2 : List Expression) (callee : Callee)
    (takes : Bool) (call : Instruction) (c0 c1 c2 : Instructions)
    → es1 ≡ es → es2 ≡ es → callee ≡ callee_named program f → takes ≡ has_store_first callee
    → call ≡ call_of callee (store_name (expressions_of es2)) (length es2)
    → c1 ≡ c0 ++ arguments_code program ns takes (expressions_of es1) → c2 ≡ c1 ++ call ∷ []
    → c2 ≡ c0 ++ (arguments_code program ns (names_store (meant.callee_in program f)) (expressions_of es)
    ++ call_code program f (store_name (expressions_of es)) (how_many (expressions_of es))
    (meant.callee_in program f) ∷ [])
call_written program ns f es es1 es2 callee takes call c0 c1 c2 same1 same2 named stores calls written put =
    let stored : takes ≡ names_store (meant.callee_in program f) = stores ∙ ap has_store_first named ∙ store_first program f (meant.callee_in program f) in
    let called : call ≡ call_code program f (store_name (expressions_of es)) (how_many (expressions_of es)) (meant.callee_in program f) =
    calls ∙ (λ j. call_of (named j) (store_name (expressions_of (same2 j))) (length (same2 j)))
    ∙ ap (call_of (callee_named program f) (store_name (expressions_of es))) (sym (as_many es))
    ∙ call_as_numbered program f (store_name (expressions_of es)) (how_many (expressions_of es)) (meant.callee_in program f) in
    put
    ∙ (λ j. (written ∙ (λ k. c0 ++ arguments_code program ns (stored k) (expressions_of (same1 k)))) j ++ called j ∷ [])
    ∙ append_assoc c0 (arguments_code program ns (names_store (meant.callee_in program f)) (expressions_of es)) _

-- the members, and the list after them
pub list_written : (program : Program) (ns : Names) (at : ℕ) (es es1 : List Expression) (n : ℕ) (c0 c1 c2 : Instructions)
    → es1 ≡ es → n ≡ length es → c1 ≡ c0 ++ expressions_code program ns (expressions_of es1) → c2 ≡ c1 ++ Listed n ∷ []
    → c2 ≡ c0 ++ expression_code program ns (list at (expressions_of es))
list_written program ns at es es1 n c0 c1 c2 same many written put =
    put
    ∙ (λ j. (written ∙ (λ k. c0 ++ expressions_code program ns (expressions_of (same k)))) j ++ Listed ((many ∙ sym (as_many es)) j) ∷ [])
    ∙ append_assoc c0 (expressions_code program ns (expressions_of es)) _
