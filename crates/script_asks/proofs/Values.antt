-- What operators and built-in functions make of values within the limits is within them.
use Rattle.std.proofs.Common.{◌≡◌, ℕ, zero, suc, ◌≤◌, ◌+◌, ℤ, pos, negsuc, Bool, true, false, cond, List, [], ◌∷◌, ◌++◌, length, Option, Some, None, Result, Ok, Err, refl, subst, arith}
use Rattle.std.specs.Prelude.{nat_le, ◌&&◌, ◌==◌, slice_get, ◌+ℤ◌, ◌-ℤ◌, ◌*ℤ◌, neg_ℤ, int_div, int_rem}
use Rattle.std.specs.Ordering.{int_eq}
use Rattle.std.specs.Str.{bytes_eq}
use Rattle.std.specs.Fmt.{signed_decimal}
use Rattle.std.specs.List.{list_all}
use Rattle.basis.proofs.Booleans.{both-left, both-right}
use Rattle.basis.proofs.Options.{some_is, none_is_not}
use Rattle.script_tree.specs.Datum.{Datum, Data, null, bool, number, text, list, members, none, more, data_of, size, nesting, members_size, members_nesting, is_within_limits, IsWithinLimits}
use Rattle.script_tree.specs.Requests.{Request, IsRequestWithinLimits, text_fits, parameter_fits}
use Rattle.script_tree.specs.declared.comparison.Comparison.{Comparison}
use Rattle.script_tree.specs.declared.comparison.Comparison.TheVariants.{Equal, Unequal, Less, AtMost, Greater, AtLeast}
use Rattle.script_tree.specs.declared.fault.ScriptFault.{ScriptFault}
use Rattle.script_tree.specs.declared.fault.ScriptFault.TheVariants.{TooLarge, Overflow, ZeroDivisor}
use Rattle.script_tree.specs.declared.request.Parameter.{Parameter}
use Rattle.script_tree.specs.declared.syntax.operator.UnaryOperator.{UnaryOperator}
use Rattle.script_tree.specs.declared.syntax.operator.UnaryOperator.TheVariants.{Not, Negate}
use Rattle.script_tree.specs.declared.syntax.operator.BinaryOperator.{BinaryOperator}
use Rattle.script_tree.specs.declared.syntax.operator.BinaryOperator.TheVariants.{Compare, Plus, Minus, Times, Quotient, Remainder}
use Rattle.script_meaning.specs.Kinds.{bool_in, number_in, text_in, list_in}
use Rattle.script_meaning.specs.Operators.{Answer, in_64_bits, if_in_64_bits, if_within_limits, found, digits_value, part, plus, minus, times, quotient, remainder, ordered, compared, at_place, indexed, unary_answer, binary_answer, length_of, number_of, if_printed, kind_of, part_of, sliced}
use Rattle.script_meaning.specs.Results.{◌>>=◌}
use Rattle.script_meaning.specs.BuiltinCalls.{parameter, parameter_in}

-- an answer that is a value is within the limits
abbrev pub IsFine : Answer → Type 0
IsFine (Ok d) = IsWithinLimits d
IsFine (Err f) = Unit {0}

pub fine_after : {A : Type 0} (r : Result A ScriptFault) (f : A → Answer) → ((a : A) → IsFine (f a)) → IsFine (r >>= f)
fine_after (Ok a) f h = h a
fine_after (Err e) f h = tt

pub checked_fine : (d : Datum) → IsFine (if_within_limits d)
checked_fine d = by (is_within_limits d) refl
  where
    by : (b : Bool) → is_within_limits d ≡ b → IsFine (cond b (Ok d) (Err TooLarge))
    by true e = e
    by false e = tt

in_64_fine : (z : ℤ) → IsFine (if_in_64_bits z)
in_64_fine z = by (in_64_bits z)
  where
    by : (b : Bool) → IsFine (cond b (Ok (number z)) (Err Overflow))
    by true = refl
    by false = tt

-- ---- members

le_true : (a b : ℕ) → a ≤ b → nat_le a b ≡ true
le_true a b h = grind arith

true_le : (a b : ℕ) → nat_le a b ≡ true → a ≤ b
true_le a b h = grind arith

member_size : (ds : Data) (i : ℕ) (d : Datum) → slice_get (members ds) i ≡ Some d → size d ≤ members_size ds
member_size none i d e = absurd (none_is_not e)
member_size (more x ds) zero d e = let q : x ≡ d = some_is e in subst (λ y. size y ≤ size x + members_size ds) q (omega arith)
member_size (more x ds) (suc i) d e = let h : size d ≤ members_size ds = member_size ds i d e in omega arith

member_nesting : (ds : Data) (i : ℕ) (d : Datum) → slice_get (members ds) i ≡ Some d → nesting d ≤ members_nesting ds
member_nesting none i d e = absurd (none_is_not e)
member_nesting (more x ds) zero d e = let q : x ≡ d = some_is e in subst (λ y. nesting y ≤ members_nesting (more x ds)) q (omega arith)
member_nesting (more x ds) (suc i) d e = let h : nesting d ≤ members_nesting ds = member_nesting ds i d e in omega arith

within : (d : Datum) → size d ≤ 65536 → nesting d ≤ 16 → IsWithinLimits d
within d s n = rw (le_true (size d) 65536 s, le_true (nesting d) 16 n) refl

size_within : (d : Datum) → IsWithinLimits d → size d ≤ 65536
size_within d h = true_le (size d) 65536 (both-left (nat_le (size d) 65536) _ h)

nesting_within : (d : Datum) → IsWithinLimits d → nesting d ≤ 16
nesting_within d h = true_le (nesting d) 16 (both-right (nat_le (size d) 65536) _ h)

pub member_within : (ds : Data) (i : ℕ) (d : Datum) → IsWithinLimits (list ds) → slice_get (members ds) i ≡ Some d → IsWithinLimits d
member_within ds i d h e =
    let s : size d ≤ members_size ds = member_size ds i d e in
    let n : nesting d ≤ members_nesting ds = member_nesting ds i d e in
    let t : size (list ds) ≤ 65536 = size_within (list ds) h in
    let m : nesting (list ds) ≤ 16 = nesting_within (list ds) h in
    within d (omega arith) (omega arith)

pub text_within : (bytes : List ℕ) → length bytes ≤ 65535 → IsWithinLimits (text bytes)
text_within bytes h = within (text bytes) (omega arith) (omega arith)

-- ---- operators

plus_fine : (a b : Datum) → IsFine (plus a b)
plus_fine null b = tt
plus_fine (bool a) b = tt
plus_fine (number m) b = fine_after (number_in b) _ (λ n. in_64_fine (m +ℤ n))
plus_fine (text bs) b = fine_after (text_in b) _ (λ cs. checked_fine (text (bs ++ cs)))
plus_fine (list ds) b = fine_after (list_in b) _ (λ es. checked_fine (list (data_of (members ds ++ es))))

minus_fine : (a b : Datum) → IsFine (minus a b)
minus_fine a b = fine_after (number_in a) _ (λ m. fine_after (number_in b) _ (λ n. in_64_fine (m -ℤ n)))

times_fine : (a b : Datum) → IsFine (times a b)
times_fine a b = fine_after (number_in a) _ (λ m. fine_after (number_in b) _ (λ n. in_64_fine (m *ℤ n)))

unless_zero : (b : Bool) (f : ScriptFault) (a : Answer) → IsFine a → IsFine (cond b (Err f) a)
unless_zero true f a h = tt
unless_zero false f a h = h

quotient_fine : (a b : Datum) → IsFine (quotient a b)
quotient_fine a b = fine_after (number_in a) _ (λ m. fine_after (number_in b) _ (λ n. unless_zero (int_eq n (pos 0)) ZeroDivisor (if_in_64_bits (int_div m n)) (in_64_fine (int_div m n))))

number_if : (b : Bool) (z : ℤ) (f : ScriptFault) → IsFine (cond b (Ok (number z)) (Err f))
number_if true z f = refl
number_if false z f = tt

remainder_fine : (a b : Datum) → IsFine (remainder a b)
remainder_fine a b = fine_after (number_in a) _ (λ m. fine_after (number_in b) _ (λ n. unless_zero (int_eq n (pos 0)) ZeroDivisor (cond (in_64_bits (int_div m n)) (Ok (number (int_rem m n))) (Err Overflow)) (number_if (in_64_bits (int_div m n)) (int_rem m n) Overflow)))

ordered_fine : (c : Comparison) (a b : Datum) → IsFine (ordered c a b)
ordered_fine c null b = tt
ordered_fine c (bool a) b = tt
ordered_fine c (number m) b = fine_after (number_in b) _ (λ n. refl)
ordered_fine c (text bs) b = fine_after (text_in b) _ (λ cs. refl)
ordered_fine c (list ds) b = tt

compared_fine : (c : Comparison) (a b : Datum) → IsFine (compared c a b)
compared_fine Equal a b = refl
compared_fine Unequal a b = refl
compared_fine Less a b = ordered_fine Less a b
compared_fine AtMost a b = ordered_fine AtMost a b
compared_fine Greater a b = ordered_fine Greater a b
compared_fine AtLeast a b = ordered_fine AtLeast a b

pub binary_fine : (op : BinaryOperator) (a b : Datum) → IsFine (binary_answer op a b)
binary_fine (Compare c) a b = compared_fine c a b
binary_fine Plus a b = plus_fine a b
binary_fine Minus a b = minus_fine a b
binary_fine Times a b = times_fine a b
binary_fine Quotient a b = quotient_fine a b
binary_fine Remainder a b = remainder_fine a b

pub unary_fine : (op : UnaryOperator) (a : Datum) → IsFine (unary_answer op a)
unary_fine Not a = fine_after (bool_in a) _ (λ b. refl)
unary_fine Negate a = fine_after (number_in a) _ (λ n. in_64_fine (neg_ℤ n))

place_fine : (ds : Data) (i : ℤ) → IsWithinLimits (list ds) → IsFine (at_place (members ds) i)
place_fine ds (negsuc i) h = tt
place_fine ds (pos i) h = by (slice_get (members ds) i) refl
  where
    by : (o : Option Datum) → slice_get (members ds) i ≡ o → IsFine (found o)
    by None e = tt
    by (Some d) e = member_within ds i d h e

pub indexed_fine : (a b : Datum) → IsWithinLimits a → IsFine (indexed a b)
indexed_fine null b h = tt
indexed_fine (bool a) b h = tt
indexed_fine (number n) b h = tt
indexed_fine (text bs) b h = fine_after (number_in b) _ (λ i. fine_after (at_place bs i) _ (λ byte. refl))
indexed_fine (list ds) b h = fine_after (number_in b) _ (λ i. place_fine ds i h)

-- ---- built-in functions

pub length_fine : (d : Datum) → IsFine (length_of d)
length_fine null = tt
length_fine (bool b) = tt
length_fine (number n) = tt
length_fine (text bs) = refl
length_fine (list ds) = refl

or_null : (b : Bool) (z : ℤ) → IsWithinLimits (cond b (number z) null)
or_null true z = refl
or_null false z = refl

pub number_of_within : (bytes : List ℕ) → IsWithinLimits (number_of bytes)
number_of_within [] = refl
number_of_within (b ∷ bs) = by (b == 45)
  where
    by : (c : Bool) → IsWithinLimits (cond c (if_printed (neg_ℤ (pos (digits_value 0 bs))) (b ∷ bs)) (if_printed (pos (digits_value 0 (b ∷ bs))) (b ∷ bs)))
    by true = or_null (bytes_eq (signed_decimal (neg_ℤ (pos (digits_value 0 bs)))) (b ∷ bs)
        && in_64_bits (neg_ℤ (pos (digits_value 0 bs)))) (neg_ℤ (pos (digits_value 0 bs)))
    by false = or_null (bytes_eq (signed_decimal (pos (digits_value 0 (b ∷ bs)))) (b ∷ bs)
        && in_64_bits (pos (digits_value 0 (b ∷ bs)))) (pos (digits_value 0 (b ∷ bs)))

pub kind_within : (d : Datum) → IsWithinLimits (text (kind_of d))
kind_within null = refl
kind_within (bool b) = refl
kind_within (number n) = refl
kind_within (text bs) = refl
kind_within (list ds) = refl

part_fine : (d : Datum) (a b : ℤ) → IsFine (part_of d a b)
part_fine null a b = tt
part_fine (bool c) a b = tt
part_fine (number n) a b = tt
part_fine (text bs) a b = fine_after (part bs a b) _ (λ cs. checked_fine (text cs))
part_fine (list ds) a b = fine_after (part (members ds) a b) _ (λ es. checked_fine (list (data_of es)))

pub sliced_fine : (d a b : Datum) → IsFine (sliced d a b)
sliced_fine d a b = fine_after (number_in a) _ (λ m. fine_after (number_in b) _ (λ n. part_fine d m n))

-- ---- what a request says

pub request_text : (bytes : List ℕ) → text_fits bytes ≡ true → IsWithinLimits (text bytes)
request_text bytes h = text_within bytes (true_le (length bytes) 65535 h)

parameter_within : (x : List ℕ) (ps : List Parameter) → list_all parameter_fits ps ≡ true → IsWithinLimits (parameter x ps)
parameter_within x [] h = refl
parameter_within x (p ∷ ps) h = by (parameter_within x ps (both-right (parameter_fits p) _ h)) (bytes_eq x p.name)
  where
    by : IsWithinLimits (parameter x ps) → (b : Bool) → IsWithinLimits (cond b (text p.value) (parameter x ps))
    by ih true = request_text p.value (both-right (text_fits p.name) _ (both-left (parameter_fits p) _ h))
    by ih false = ih

-- a call's answer by its arguments or the request
pub built_fine : (q : Request) (d : Datum) → IsRequestWithinLimits q → IsFine (parameter_in q d)
built_fine q d h = fine_after (text_in d) _ (λ x. parameter_within x q.parameters
    (both-right _ _ (both-right (text_fits q.body) _ (both-right (text_fits q.path) _ (both-right (text_fits q.method) _ h)))))
