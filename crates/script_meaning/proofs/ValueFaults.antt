-- Operators, built-in functions and operations have no fault but of their values.
use Rattle.std.proofs.Common.{◌≡◌, ℕ, zero, suc, Bool, true, false, if◌then◌else◌, ◌&&◌, nat_lt, nat_le, ℤ, pos, negsuc, ◌+ℤ◌, ◌-ℤ◌, ◌*ℤ◌, neg_ℤ, List, [], ◌∷◌, ◌++◌, length, Option, Some, None, Result, Ok, Err, refl, sym, ap, ◌∙◌, true≢false}
use Rattle.std.specs.Prelude.{slice_get, int_div}
use Rattle.std.specs.Ordering.{int_eq}
use Rattle.script_tree.specs.Datum.{Datum, null, bool, number, text, list, members, data_of, is_within_limits}
use Rattle.script_tree.specs.Requests.{Request}
use Rattle.script_tree.specs.declared.comparison.Comparison.{Comparison}
use Rattle.script_tree.specs.declared.comparison.Comparison.TheVariants.{Equal, Unequal, Less, AtMost, Greater, AtLeast}
use Rattle.script_tree.specs.declared.fault.ScriptFault.{ScriptFault}
use Rattle.script_tree.specs.declared.fault.ScriptFault.TheVariants.{OutOfSteps}
use Rattle.script_tree.specs.declared.limits.TheConstants.{MOST_KEY_BYTES}
use Rattle.script_tree.specs.declared.syntax.builtin.Builtin.{Builtin}
use Rattle.script_tree.specs.declared.syntax.builtin.Builtin.TheVariants as b
use Rattle.script_tree.specs.declared.syntax.operator.BinaryOperator.{BinaryOperator}
use Rattle.script_tree.specs.declared.syntax.operator.BinaryOperator.TheVariants.{Compare, Plus, Minus, Times, Quotient, Remainder}
use Rattle.script_tree.specs.declared.syntax.operator.UnaryOperator.{UnaryOperator}
use Rattle.script_tree.specs.declared.syntax.operator.UnaryOperator.TheVariants.{Not, Negate}
use Rattle.script_meaning.specs.BuiltinCalls.{Call, plain, of_request, operation, built_in}
use Rattle.script_meaning.specs.Kinds.{bool_in, number_in, text_in, list_in}
use Rattle.script_meaning.specs.Operands as u
use Rattle.script_meaning.specs.Operands.{OpAnswer, Unchecked, first, second, third, name_in, read_op, write_op, get_op, put_op, remove_op, random_op, bound_of, row_of, checked, all_checked, transact_op, is_status, status_of, status_in}
use Rattle.script_meaning.specs.Operations as o
use Rattle.script_meaning.specs.Operators.{Answer, in_64_bits, if_in_64_bits, if_within_limits, plus, ordered, compared, found, at_place, indexed, listed, unary_answer, binary_answer, printed, length_of, escaped_bytes, as_text, escaped, sliced, appended, part, part_of}
use Rattle.script_meaning.specs.Results.{◌>>=◌}
use Rattle.script_meaning.specs.ValueFaults.{is_of_values, FailsByValues}

pub in_turn : {A B : Type 0} (r : Result A ScriptFault) (f : A → Result B ScriptFault) → FailsByValues r
    → ((x : A) → FailsByValues (f x)) → FailsByValues (r >>= f)
in_turn (Ok x) f h k = k x
in_turn (Err e) f h k = h

one_of : {A : Type 0} (c : Bool) (r s : Result A ScriptFault) → FailsByValues r → FailsByValues s → FailsByValues (if c then r else s)
one_of true r s h k = h
one_of false r s h k = k

-- ---- kinds and limits

pub of_bool : (d : Datum) → FailsByValues (bool_in d)
of_bool null = refl
of_bool (bool x) = tt
of_bool (number n) = refl
of_bool (text bs) = refl
of_bool (list ds) = refl

of_number : (d : Datum) → FailsByValues (number_in d)
of_number null = refl
of_number (bool x) = refl
of_number (number n) = tt
of_number (text bs) = refl
of_number (list ds) = refl

of_text : (d : Datum) → FailsByValues (text_in d)
of_text null = refl
of_text (bool x) = refl
of_text (number n) = refl
of_text (text bs) = tt
of_text (list ds) = refl

of_list : (d : Datum) → FailsByValues (list_in d)
of_list null = refl
of_list (bool x) = refl
of_list (number n) = refl
of_list (text bs) = refl
of_list (list ds) = tt

of_64_bits : (z : ℤ) → FailsByValues (if_in_64_bits z)
of_64_bits z = one_of (in_64_bits z) _ _ tt refl

of_limits : (d : Datum) → FailsByValues (if_within_limits d)
of_limits d = one_of (is_within_limits d) _ _ tt refl

-- ---- operators

of_plus : (a c : Datum) → FailsByValues (plus a c)
of_plus null c = refl
of_plus (bool x) c = refl
of_plus (number m) c = in_turn (number_in c) _ (of_number c) (λ n. of_64_bits (m +ℤ n))
of_plus (text bs) c = in_turn (text_in c) _ (of_text c) (λ cs. of_limits (text (bs ++ cs)))
of_plus (list ds) c = in_turn (list_in c) _ (of_list c) (λ es. of_limits (list (data_of (members ds ++ es))))

of_numbers : (f : ℤ → ℤ → Answer) → ((m n : ℤ) → FailsByValues (f m n)) → (a c : Datum) → FailsByValues (number_in a >>= λ m. number_in c >>= λ n. f m n)
of_numbers f h a c = in_turn (number_in a) _ (of_number a) (λ m. in_turn (number_in c) _ (of_number c) (λ n. h m n))

of_ordered : (comparison : Comparison) (a c : Datum) → FailsByValues (ordered comparison a c)
of_ordered comparison null c = refl
of_ordered comparison (bool x) c = refl
of_ordered comparison (number m) c = in_turn (number_in c) _ (of_number c) (λ n. tt)
of_ordered comparison (text bs) c = in_turn (text_in c) _ (of_text c) (λ cs. tt)
of_ordered comparison (list ds) c = refl

of_compared : (comparison : Comparison) (a c : Datum) → FailsByValues (compared comparison a c)
of_compared Equal a c = tt
of_compared Unequal a c = tt
of_compared Less a c = of_ordered Less a c
of_compared AtMost a c = of_ordered AtMost a c
of_compared Greater a c = of_ordered Greater a c
of_compared AtLeast a c = of_ordered AtLeast a c

pub of_unary : (op : UnaryOperator) (a : Datum) → FailsByValues (unary_answer op a)
of_unary Not a = in_turn (bool_in a) _ (of_bool a) (λ x. tt)
of_unary Negate a = in_turn (number_in a) _ (of_number a) (λ n. of_64_bits (neg_ℤ n))

pub of_binary : (op : BinaryOperator) (a c : Datum) → FailsByValues (binary_answer op a c)
of_binary (Compare comparison) a c = of_compared comparison a c
of_binary Plus a c = of_plus a c
of_binary Minus a c = of_numbers (λ m n. if_in_64_bits (m -ℤ n)) (λ m n. of_64_bits (m -ℤ n)) a c
of_binary Times a c = of_numbers (λ m n. if_in_64_bits (m *ℤ n)) (λ m n. of_64_bits (m *ℤ n)) a c
of_binary Quotient a c = of_numbers _ (λ m n. one_of (int_eq n (pos 0)) _ _ refl (of_64_bits (int_div m n))) a c
of_binary Remainder a c = of_numbers _ (λ m n. one_of (int_eq n (pos 0)) _ _ refl (one_of (in_64_bits (int_div m n)) _ _ tt refl)) a c

of_found : {A : Type 0} (x : Option A) → FailsByValues (found x)
of_found None = refl
of_found (Some x) = tt

of_place : {A : Type 0} (xs : List A) (z : ℤ) → FailsByValues (at_place xs z)
of_place xs (pos i) = of_found (slice_get xs i)
of_place xs (negsuc i) = refl

pub of_index : (a c : Datum) → FailsByValues (indexed a c)
of_index null c = refl
of_index (bool x) c = refl
of_index (number n) c = refl
of_index (text bs) c = in_turn (number_in c) _ (of_number c) (λ i. in_turn (at_place bs i) _ (of_place bs i) (λ byte. tt))
of_index (list ds) c = in_turn (number_in c) _ (of_number c) (λ i. of_place (members ds) i)

-- ---- calls

pub of_printed : (d : Datum) → FailsByValues (printed d)
of_printed null = tt
of_printed (bool true) = tt
of_printed (bool false) = tt
of_printed (number n) = tt
of_printed (text bs) = tt
of_printed (list ds) = refl

of_length : (d : Datum) → FailsByValues (length_of d)
of_length null = refl
of_length (bool x) = refl
of_length (number n) = refl
of_length (text bs) = tt
of_length (list ds) = tt

of_part : {A : Type 0} (xs : List A) (x y : ℤ) → FailsByValues (part xs x y)
of_part xs (pos x) (pos y) = one_of (nat_le x y && nat_le y (length xs)) _ _ tt refl
of_part xs (pos x) (negsuc y) = refl
of_part xs (negsuc x) y = refl

of_part_of : (d : Datum) (x y : ℤ) → FailsByValues (part_of d x y)
of_part_of null x y = refl
of_part_of (bool c) x y = refl
of_part_of (number n) x y = refl
of_part_of (text bs) x y = in_turn (part bs x y) _ (of_part bs x y) (λ cs. of_limits (text cs))
of_part_of (list ds) x y = in_turn (part (members ds) x y) _ (of_part (members ds) x y) (λ es. of_limits (list (data_of es)))

of_name : (d : Datum) → FailsByValues (name_in d)
of_name d = in_turn (text_in d) _ (of_text d) (λ x. one_of (nat_lt MOST_KEY_BYTES (length x)) _ _ refl tt)

of_bound : (z : ℤ) → FailsByValues (bound_of z)
of_bound (pos zero) = refl
of_bound (pos (suc n)) = tt
of_bound (negsuc n) = refl

-- two calls of one built-in function
abbrev pub AreAlike : Call → Call → Type 0
AreAlike (plain a) (plain b) = FailsByValues a × FailsByValues b
AreAlike (of_request a) (of_request b) = FailsByValues a × FailsByValues b
AreAlike (operation a) (operation b) = FailsByValues a × FailsByValues b
AreAlike a b = ⊥

of_named : (d : Datum) (f : List ℕ → o.Op) → FailsByValues (name_in d >>= λ x. Ok (f x))
of_named d f = in_turn (name_in d) (λ x. Ok (f x)) (of_name d) (λ x. tt)

of_text_made : (d : Datum) (f : List ℕ → Datum) → FailsByValues (text_in d >>= λ x. Ok (f x))
of_text_made d f = in_turn (text_in d) (λ x. Ok (f x)) (of_text d) (λ x. tt)

of_as_text : (d : Datum) → FailsByValues (as_text d)
of_as_text d = in_turn (printed d) _ (of_printed d) (λ bs. of_limits (text bs))

of_escaped : (d : Datum) → FailsByValues (escaped d)
of_escaped d = in_turn (text_in d) _ (of_text d) (λ bs. of_limits (text (escaped_bytes bs)))

of_sliced : (ds : List Datum) → FailsByValues (sliced (first ds) (second ds) (third ds))
of_sliced ds = of_numbers (part_of (first ds)) (of_part_of (first ds)) (second ds) (third ds)

of_appended : (ds : List Datum) → FailsByValues (appended (first ds) (second ds))
of_appended ds = in_turn (list_in (first ds)) _ (of_list (first ds)) (λ es. of_limits (list (data_of (es ++ second ds ∷ []))))

of_random : (ds : List Datum) → FailsByValues (random_op ds)
of_random ds = in_turn (number_in (first ds)) _ (of_number (first ds)) (λ n. in_turn (bound_of n) _ (of_bound n) (λ bound. tt))

pub calls_alike : (q p : Request) (store : List ℕ) (f : Builtin) (ds es : List Datum) → AreAlike (built_in q store f ds) (built_in p store f es)
calls_alike q p store b.Len ds es = (of_length (first ds), of_length (first es))
calls_alike q p store b.Str ds es = (of_as_text (first ds), of_as_text (first es))
calls_alike q p store b.Escape ds es = (of_escaped (first ds), of_escaped (first es))
calls_alike q p store b.Num ds es = (of_text_made (first ds) _, of_text_made (first es) _)
calls_alike q p store b.Slice ds es = (of_sliced ds, of_sliced es)
calls_alike q p store b.Append ds es = (of_appended ds, of_appended es)
calls_alike q p store b.Kind ds es = (tt, tt)
calls_alike q p store b.Param ds es = (of_text_made (first ds) _, of_text_made (first es) _)
calls_alike q p store b.Method ds es = (tt, tt)
calls_alike q p store b.Path ds es = (tt, tt)
calls_alike q p store b.Body ds es = (tt, tt)
calls_alike q p store b.Read ds es = (of_named (first ds) _, of_named (first es) _)
calls_alike q p store b.Write ds es = (of_named (first ds) _, of_named (first es) _)
calls_alike q p store b.Get ds es = (of_named (first ds) _, of_named (first es) _)
calls_alike q p store b.Put ds es = (of_named (first ds) _, of_named (first es) _)
calls_alike q p store b.Remove ds es = (of_named (first ds) _, of_named (first es) _)
calls_alike q p store b.Clock ds es = (tt, tt)
calls_alike q p store b.Random ds es = (of_random ds, of_random es)

-- ---- transactions, and the status of a response

of_row : (ds : List Datum) → FailsByValues (row_of ds)
of_row [] = refl
of_row (d ∷ ds) = in_turn (name_in d) _ (of_name d) (λ x. tt)

of_checked : (s : Unchecked) → FailsByValues (checked s)
of_checked (u.insert t ds) = in_turn (row_of ds) _ (of_row ds) (λ row. tt)
of_checked (u.select t columns tests) = tt
of_checked (u.update t changes tests) = tt
of_checked (u.delete t tests) = tt
of_checked (u.expect d t tests) = in_turn (number_in d) _ (of_number d) (λ n. tt)

pub of_all_checked : (ss : List Unchecked) → FailsByValues (all_checked ss)
of_all_checked [] = tt
of_all_checked (s ∷ ss) = in_turn (checked s) _ (of_checked s) (λ x. in_turn (all_checked ss) _ (of_all_checked ss) (λ xs. tt))

of_status : (z : ℤ) → FailsByValues (status_of z)
of_status (pos n) = one_of (is_status n) _ _ tt refl
of_status (negsuc n) = refl

pub of_transaction : (ss : List Unchecked) → FailsByValues (transact_op ss)
of_transaction ss = in_turn (all_checked ss) _ (of_all_checked ss) (λ xs. tt)

pub of_listed : (ds : List Datum) → FailsByValues (listed ds)
of_listed ds = of_limits (list (data_of ds))

pub of_status_in : (d : Datum) → FailsByValues (status_in d)
of_status_in d = in_turn (number_in d) _ (of_number d) (λ z. of_status z)

pub of_list_in : (d : Datum) → FailsByValues (list_in d)
of_list_in d = of_list d

-- such a fault isn't a want of steps
pub not_steps : (f : ScriptFault) → is_of_values f ≡ true → f ≡ OutOfSteps → ⊥
not_steps f h e = true≢false (sym h ∙ ap is_of_values e)
