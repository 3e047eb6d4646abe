-- Parameters, requests and responses at a place: no two are spelled alike, and none stands where a part of it is missed.
use Rattle.std.proofs.Common.{◌≡◌, ℕ, ◌+◌, ◌<◌, ◌≤◌, ◌^◌, nat_le, true, ◌&&◌, List, [], ◌∷◌, ◌++◌, length, take, drop, refl, sym, ap, subst, ◌∙◌, append_assoc, arith}
use Rattle.std.specs.Int.{w16, w32, to_be_bytes}
use Rattle.std.specs.List.{list_all}
use Rattle.std.proofs.lemmas.Bool.{leb-true}
use Rattle.std.proofs.lemmas.List.{append-nil, length-append, take-append-drop, length-take, length-drop}
use Rattle.basis.proofs.Booleans.{both_true}
use Rattle.script_tree.specs.declared.limits.TheConstants.{MOST_PARAMETERS, MOST_REQUEST_TEXT_BYTES}
use Rattle.script_tree.specs.Requests.{Request, request_with, IsRequestWithinLimits, text_fits, parameter_fits, parameters_fit}
use Rattle.script_tree.specs.declared.request.Parameter.{Parameter}
use Rattle.script_tree.specs.declared.request.Response.{Response}
use Rattle.wire.specs.Spellings.{Field, IsSpelled, IsFieldAt, NoneIsAt, HasOneSpelling, number_field, bytes_field, bytes_spelling}
use Rattle.wire.proofs.Spelled.{joined, first_part, second_part, same_field}
use Rattle.wire.proofs.Sequences.{pair_field, both_there, no_first, no_second, pair_one}
use Rattle.wire.proofs.OneSpelling.{one_of_16, one_of_32, bytes_one}
use Rattle.trace_format.specs.Events.{parameter_spelling, parameters_spelling, AreParameters, parameter_field, parameters_field, request_field, response_field}

-- ---- parameters

abbrev parameter_parts : Field (List ℕ × List ℕ)
parameter_parts = pair_field bytes_field (λ name. bytes_field)

abbrev parameter_from : List ℕ × List ℕ → Parameter
parameter_from p = record { name = p.0; value = p.1 }

pub parameter_one : HasOneSpelling parameter_field
parameter_one x y r s p q e =
    let same = pair_one bytes_field (λ name. bytes_field) bytes_one (λ name. bytes_one) (x.name, x.value) (y.name, y.value) r s p q e in
    (ap parameter_from same.0, same.1)

pub no_name : (bytes : List ℕ) (at : ℕ) → NoneIsAt bytes_field bytes at → NoneIsAt parameter_field bytes at
no_name bytes at none p next here = no_first bytes_field (λ name. bytes_field) bytes at none (p.name, p.value) next here

pub no_value : (bytes : List ℕ) (at : ℕ) (name : List ℕ) (mid : ℕ) → IsFieldAt bytes_field bytes at name mid
    → NoneIsAt bytes_field bytes mid → NoneIsAt parameter_field bytes at
no_value bytes at name mid there none p next here = no_second bytes_field (λ n. bytes_field) bytes_one bytes at name mid there none (p.name, p.value) next here

pub parameters_one : (count : ℕ) → HasOneSpelling (parameters_field count)
parameters_one count [] [] r s p q e = (refl, e)
parameters_one count [] (y ∷ ys) r s p q e = absurd (omega (arith, p.0, q.0))
parameters_one count (x ∷ xs) [] r s p q e = absurd (omega (arith, p.0, q.0))
parameters_one count (x ∷ xs) (y ∷ ys) r s p q e =
    let left = sym (append_assoc (parameter_spelling x) (parameters_spelling xs) r) in
    let right = append_assoc (parameter_spelling y) (parameters_spelling ys) s in
    let first = parameter_one x y (parameters_spelling xs ++ r) (parameters_spelling ys ++ s) p.1.0 q.1.0 (left ∙ e ∙ right) in
    let len : length ys ≡ length xs = omega (arith, p.0, q.0) in
    let rest = parameters_one (length xs) xs ys r s (refl, p.1.1) (len, q.1.1) first.1 in
    (ap (λ (z : Parameter). z ∷ xs) first.0 ∙ ap (λ (zs : List Parameter). y ∷ zs) rest.0, rest.1)

parameters_spelling-append : (xs ys : List Parameter) → parameters_spelling (xs ++ ys) ≡ parameters_spelling xs ++ parameters_spelling ys
parameters_spelling-append [] ys = refl
parameters_spelling-append (x ∷ xs) ys = ap (λ (s : List ℕ). parameter_spelling x ++ s)
    (parameters_spelling-append xs ys) ∙ sym
    (append_assoc (parameter_spelling x) (parameters_spelling xs) (parameters_spelling ys))

AreParameters-append : (xs ys : List Parameter) → AreParameters xs → AreParameters ys → AreParameters (xs ++ ys)
AreParameters-append [] ys p q = q
AreParameters-append (x ∷ xs) ys p q = (p.0, AreParameters-append xs ys p.1 q)

AreParameters-parts : (xs ys : List Parameter) → AreParameters (xs ++ ys) → AreParameters xs × AreParameters ys
AreParameters-parts [] ys p = (tt, p)
AreParameters-parts (x ∷ xs) ys p = let rest = AreParameters-parts xs ys p.1 in ((p.0, rest.0), rest.1)

-- one parameter more
pub parameter_more : (count : ℕ) (bytes : List ℕ) (at : ℕ) (xs : List Parameter) (mid : ℕ) (x : Parameter) (next : ℕ)
    → IsFieldAt (parameters_field count) bytes at xs mid → IsFieldAt parameter_field bytes mid x next
    → IsFieldAt (parameters_field (count + 1)) bytes at (xs ++ x ∷ []) next
parameter_more count bytes at xs mid x next p q =
    let more : parameters_spelling (xs ++ x ∷ []) ≡ parameters_spelling xs ++ parameter_spelling x = parameters_spelling-append xs (x ∷ []) ∙ ap (λ (s : List ℕ). parameters_spelling xs ++ s) (append-nil (parameter_spelling x)) in
    let Here : List ℕ → Type 0 = λ s. IsSpelled bytes at s next in (
      (omega (arith, length-append xs (x ∷ []), p.0.0), AreParameters-append xs (x ∷ []) p.0.1 (q.0, tt)),
      subst Here (sym more) (joined bytes (parameters_spelling xs) (parameter_spelling x) at mid next p.1 q.1),
    )

-- where a parameter is missed behind these, there are no more
pub no_parameter : (count : ℕ) (bytes : List ℕ) (at : ℕ) (xs : List Parameter) (mid n : ℕ)
    → IsFieldAt (parameters_field n) bytes at xs mid → n < count → NoneIsAt parameter_field bytes mid
    → NoneIsAt (parameters_field count) bytes at
no_parameter count bytes at xs mid n here fewer none ps next p =
    let Whole : List Parameter → Type 0 = λ qs. AreParameters qs × IsSpelled bytes at (parameters_spelling qs) next in
    go (take n ps) (drop n ps) (omega (arith, length-take n ps, p.0.0)) (omega (arith, length-drop n ps, p.0.0))
    (subst Whole (sym (take-append-drop n ps)) (p.0.1, p.1))
  where
    go : (front back : List Parameter) → length front ≡ n → 0 < length back
        → AreParameters (front ++ back) × IsSpelled bytes at (parameters_spelling (front ++ back)) next → ⊥
    go front [] len some whole = absurd (omega arith)
    go front (y ∷ ys) len some whole =
        let rest : List ℕ = parameter_spelling y ++ parameters_spelling ys in
        let end' : ℕ = at + length (parameters_spelling front) in
        let are = AreParameters-parts front (y ∷ ys) whole.0 in
        let Here : List ℕ → Type 0 = λ s. IsSpelled bytes at s next in
        let spelled = subst Here (parameters_spelling-append front (y ∷ ys)) whole.1 in
        let same = same_field (parameters_field n) (parameters_one n) bytes at front xs end' mid ((len, are.0), first_part bytes (parameters_spelling front) rest at next spelled) here in
        let Behind : ℕ → Type 0 = λ m. IsSpelled bytes m rest next in
        let behind = subst Behind same.1 (second_part bytes (parameters_spelling front) rest at next spelled) in
        none y (mid + length (parameter_spelling y)) (are.1.0, first_part bytes (parameter_spelling y) (parameters_spelling ys) mid next behind)

-- ---- requests

-- a number of parameters that a request may have
abbrev pub few_field : Field ℕ
few_field = record { allows = λ n. (n < 2 ^ 32) × (n ≤ MOST_PARAMETERS); spelling = λ n. to_be_bytes w32 n }

few_one : HasOneSpelling few_field
few_one x y r s p q e = one_of_32 x y r s p.0 q.0 e

abbrev pub last_parts : ℕ → Field (List Parameter × List ℕ)
last_parts count = pair_field (parameters_field count) (λ ps. bytes_field)

abbrev pub counted_parts : Field (ℕ × (List Parameter × List ℕ))
counted_parts = pair_field few_field last_parts

abbrev pub path_parts : Field (List ℕ × (ℕ × (List Parameter × List ℕ)))
path_parts = pair_field bytes_field (λ path. counted_parts)

abbrev pub request_parts : Field (List ℕ × (List ℕ × (ℕ × (List Parameter × List ℕ))))
request_parts = pair_field bytes_field (λ method. path_parts)

last_one : (count : ℕ) → HasOneSpelling (last_parts count)
last_one count = pair_one (parameters_field count) (λ ps. bytes_field) (parameters_one count) (λ ps. bytes_one)

counted_one : HasOneSpelling counted_parts
counted_one = pair_one few_field last_parts few_one last_one

path_one : HasOneSpelling path_parts
path_one = pair_one bytes_field (λ path. counted_parts) bytes_one (λ path. counted_one)

parts_one : HasOneSpelling request_parts
parts_one = pair_one bytes_field (λ method. path_parts) bytes_one (λ method. path_one)

abbrev parts_of : Request → List ℕ × (List ℕ × (ℕ × (List Parameter × List ℕ)))
parts_of q = (q.method, (q.path, (length q.parameters, (q.parameters, q.body))))

abbrev request_from : List ℕ × (List ℕ × (ℕ × (List Parameter × List ℕ))) → Request
request_from p = request_with p.0 p.1.0 p.1.1.1.0 p.1.1.1.1

short_text : (text : List ℕ) → text_fits text ≡ true → length text < 2 ^ 32
short_text text e =
    let small : length text ≤ MOST_REQUEST_TEXT_BYTES = leb-true (length text) MOST_REQUEST_TEXT_BYTES e in
    omega arith

are_parameters : (ps : List Parameter) → list_all parameter_fits ps ≡ true → AreParameters ps
are_parameters [] e = tt
are_parameters (p ∷ ps) e =
    let both = both_true (parameter_fits p) (list_all parameter_fits ps) e in
    let texts = both_true (text_fits p.name) (text_fits p.value) both.0 in
    ((short_text p.name texts.0, short_text p.value texts.1), are_parameters ps both.1)

parts_allowed : (q : Request) → IsRequestWithinLimits q → request_parts.allows (parts_of q)
parts_allowed q limited =
    let a = both_true (text_fits q.method) (text_fits q.path && (text_fits q.body && parameters_fit q.parameters)) limited in
    let b = both_true (text_fits q.path) (text_fits q.body && parameters_fit q.parameters) a.1 in
    let c = both_true (text_fits q.body) (parameters_fit q.parameters) b.1 in
    let d = both_true (nat_le (length q.parameters) MOST_PARAMETERS) (list_all parameter_fits q.parameters) c.1 in
    let few : length q.parameters ≤ MOST_PARAMETERS = leb-true (length q.parameters) MOST_PARAMETERS d.0 in
    (short_text q.method a.0, (short_text q.path b.0, ((omega arith, few), ((refl, are_parameters q.parameters d.1), short_text q.body c.0))))

pub request_one : HasOneSpelling request_field
request_one x y r s p q e =
    let same = parts_one (parts_of x) (parts_of y) r s (parts_allowed x p) (parts_allowed y q) e in
    (ap request_from same.0, same.1)

no_parts : (bytes : List ℕ) (at : ℕ) → NoneIsAt request_parts bytes at → NoneIsAt request_field bytes at
no_parts bytes at none q next p = none (parts_of q) next (parts_allowed q p.0, p.1)

pub no_method : (bytes : List ℕ) (at : ℕ) → NoneIsAt bytes_field bytes at → NoneIsAt request_field bytes at
no_method bytes at none = no_parts bytes at (no_first bytes_field (λ method. path_parts) bytes at none)

behind_method : (bytes : List ℕ) (at : ℕ) (m : List ℕ) (a : ℕ) → IsFieldAt bytes_field bytes at m a
    → NoneIsAt path_parts bytes a → NoneIsAt request_field bytes at
behind_method bytes at m a method none = no_parts bytes at (no_second bytes_field (λ x. path_parts) bytes_one bytes at m a method none)

pub no_path : (bytes : List ℕ) (at : ℕ) (m : List ℕ) (a : ℕ) → IsFieldAt bytes_field bytes at m a
    → NoneIsAt bytes_field bytes a → NoneIsAt request_field bytes at
no_path bytes at m a method none = behind_method bytes at m a method (no_first bytes_field (λ path. counted_parts) bytes a none)

behind_path : (bytes : List ℕ) (at : ℕ) (m : List ℕ) (a : ℕ) (p : List ℕ) (b : ℕ) → IsFieldAt bytes_field bytes at m a
    → IsFieldAt bytes_field bytes a p b → NoneIsAt counted_parts bytes b → NoneIsAt request_field bytes at
behind_path bytes at m a p b method path none =
    behind_method bytes at m a method (no_second bytes_field (λ x. counted_parts) bytes_one bytes a p b path none)

pub no_count : (bytes : List ℕ) (at : ℕ) (m : List ℕ) (a : ℕ) (p : List ℕ) (b : ℕ)
    → IsFieldAt bytes_field bytes at m a → IsFieldAt bytes_field bytes a p b → NoneIsAt (number_field w32) bytes b
    → NoneIsAt request_field bytes at
no_count bytes at m a p b method path none =
    behind_path bytes at m a p b method path (no_first few_field last_parts bytes b (λ n next here. none n next (here.0.0, here.1)))

pub too_many : (bytes : List ℕ) (at : ℕ) (m : List ℕ) (a : ℕ) (p : List ℕ) (b n c : ℕ)
    → IsFieldAt bytes_field bytes at m a → IsFieldAt bytes_field bytes a p b
    → IsFieldAt (number_field w32) bytes b n c → MOST_PARAMETERS < n → NoneIsAt request_field bytes at
too_many bytes at m a p b n c method path count more =
    behind_path bytes at m a p b method path (no_first few_field last_parts bytes b (λ k next here. let same : k ≡ n = (same_field (number_field w32) one_of_32 bytes b k n next c (here.0.0, here.1) count).0 in omega (arith, here.0.1)))

-- A request at a place, read as far as its parameters: its fields, and where they stand.
pub record Begun (bytes : List ℕ) (at : ℕ) : Type 0 where
  pub method : List ℕ
  pub path_at : ℕ
  pub path : List ℕ
  pub count_at : ℕ
  pub count : ℕ
  pub next : ℕ
  pub has_method : IsFieldAt bytes_field bytes at method path_at
  pub has_path : IsFieldAt bytes_field bytes path_at path count_at
  pub has_count : IsFieldAt (number_field w32) bytes count_at count next
  pub few : count ≤ MOST_PARAMETERS

-- what was read, by the facts of its fields
abbrev pub begun : {bytes : List ℕ} {at : ℕ} {m : List ℕ} {a : ℕ} {p : List ℕ} {b n c : ℕ}
    → IsFieldAt bytes_field bytes at m a → IsFieldAt bytes_field bytes a p b
    → IsFieldAt (number_field w32) bytes b n c → n ≤ MOST_PARAMETERS → Begun bytes at
begun method path count few = record {
  method = _;
  path_at = _;
  path = _;
  count_at = _;
  count = _;
  next = _;
  has_method = method;
  has_path = path;
  has_count = count;
  few = few;
}

behind_count : (bytes : List ℕ) (at : ℕ) (r : Begun bytes at) → NoneIsAt (last_parts r.count) bytes r.next → NoneIsAt request_field bytes at
behind_count bytes at r none =
    let behind = no_second few_field last_parts few_one bytes r.count_at r.count r.next ((r.has_count.0, r.few), r.has_count.1) none in
    behind_path bytes at r.method r.path_at r.path r.count_at r.has_method r.has_path behind

pub no_parameters : (bytes : List ℕ) (at : ℕ) (r : Begun bytes at) → NoneIsAt (parameters_field r.count) bytes r.next → NoneIsAt request_field bytes at
no_parameters bytes at r none = behind_count bytes at r (no_first (parameters_field r.count) (λ ps. bytes_field) bytes r.next none)

-- One that was read as far as its body, with its parameters.
pub record BegunWhole (bytes : List ℕ) (at : ℕ) : Type 0 where
  pub begun : Begun bytes at
  pub parameters : List Parameter
  pub next : ℕ
  pub has_parameters : IsFieldAt (parameters_field begun.count) bytes begun.next parameters next

-- with these parameters behind it
abbrev pub begun_whole : {bytes : List ℕ} {at : ℕ} (r : Begun bytes at) (ps : List Parameter) (next : ℕ)
    → IsFieldAt (parameters_field r.count) bytes r.next ps next → BegunWhole bytes at
begun_whole r ps next has = record { begun = r; parameters = ps; next = next; has_parameters = has }

pub no_body : (bytes : List ℕ) (at : ℕ) (r : BegunWhole bytes at) → NoneIsAt bytes_field bytes r.next → NoneIsAt request_field bytes at
no_body bytes at r none =
    let n = r.begun.count in
    behind_count bytes at r.begun (no_second (parameters_field n) (λ ps. bytes_field)
    (parameters_one n) bytes r.begun.next r.parameters r.next r.has_parameters none)

-- the request of what was read, and this body
abbrev pub request_read : {bytes : List ℕ} {at : ℕ} → BegunWhole bytes at → List ℕ → Request
request_read r body = request_with r.begun.method r.begun.path r.parameters body

abbrev parts_read : {bytes : List ℕ} {at : ℕ} → BegunWhole bytes at → List ℕ → List ℕ × (List ℕ × (ℕ × (List Parameter × List ℕ)))
parts_read r body = (r.begun.method, (r.begun.path, (r.begun.count, (r.parameters, body))))

all_parts : (bytes : List ℕ) (at : ℕ) (r : BegunWhole bytes at) (body : List ℕ) (next : ℕ)
    → IsFieldAt bytes_field bytes r.next body next → IsFieldAt request_parts bytes at (parts_read r body) next
all_parts bytes at r body next rest =
    let b = r.begun in
    let last = both_there (parameters_field b.count) (λ xs. bytes_field) bytes b.next r.parameters r.next body next r.has_parameters rest in
    let counted = both_there few_field last_parts bytes b.count_at b.count b.next (r.parameters, body) next ((b.has_count.0, b.few), b.has_count.1) last in
    let path = both_there bytes_field (λ x. counted_parts) bytes b.path_at b.path b.count_at (b.count, (r.parameters, body)) next b.has_path counted in
    both_there bytes_field (λ x. path_parts) bytes at b.method b.path_at (b.path, (b.count, (r.parameters, body))) next b.has_method path

-- the whole of it
pub request_there : (bytes : List ℕ) (at : ℕ) (r : BegunWhole bytes at) (body : List ℕ) (next : ℕ) (q : Request) → IsFieldAt bytes_field bytes r.next body next
    → q ≡ request_read r body → IsRequestWithinLimits (request_read r body) → IsFieldAt request_field bytes at q next
request_there bytes at r body next q rest is limited =
    let parts = all_parts bytes at r body next rest in
    let len : r.begun.count ≡ length r.parameters = sym r.has_parameters.0.0 in
    let s4 : List ℕ = parameters_spelling r.parameters ++ bytes_spelling body in
    let Count : ℕ → Type 0 = λ k. IsSpelled bytes at (bytes_spelling r.begun.method ++ (bytes_spelling r.begun.path ++ (to_be_bytes w32 k ++ s4))) next in
    let Here : Request → Type 0 = λ x. IsFieldAt request_field bytes at x next in
    subst Here (sym is) (limited, subst Count len parts.1)

-- and none where it is beyond the limits
pub not_limited : (bytes : List ℕ) (at : ℕ) (r : BegunWhole bytes at) (body : List ℕ) (next : ℕ)
    → IsFieldAt bytes_field bytes r.next body next → ¬ IsRequestWithinLimits (request_read r body)
    → NoneIsAt request_field bytes at
not_limited bytes at r body next rest not q end' here =
    let same = same_field request_parts parts_one bytes at (parts_of q) (parts_read r body) end' next (parts_allowed q here.0, here.1) (all_parts bytes at r body next rest) in
    not (subst IsRequestWithinLimits (ap request_from same.0) here.0)

-- ---- responses

abbrev response_parts : Field (ℕ × List ℕ)
response_parts = pair_field (number_field w16) (λ status. bytes_field)

abbrev response_from : ℕ × List ℕ → Response
response_from p = record { status = p.0; body = p.1 }

pub response_one : HasOneSpelling response_field
response_one x y r s p q e =
    let same = pair_one (number_field w16) (λ status. bytes_field) one_of_16 (λ status. bytes_one) (x.status, x.body) (y.status, y.body) r s p q e in
    (ap response_from same.0, same.1)

pub no_status : (bytes : List ℕ) (at : ℕ) → NoneIsAt (number_field w16) bytes at → NoneIsAt response_field bytes at
no_status bytes at none x next here = no_first (number_field w16) (λ status. bytes_field) bytes at none (x.status, x.body) next here

pub no_response_body : (bytes : List ℕ) (at status mid : ℕ) → IsFieldAt (number_field w16) bytes at status mid
    → NoneIsAt bytes_field bytes mid → NoneIsAt response_field bytes at
no_response_body bytes at status mid there none x next here =
    no_second (number_field w16) (λ s. bytes_field) one_of_16 bytes at status mid there none
    (x.status, x.body) next here
