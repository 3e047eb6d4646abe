-- Facts on drawn jobs.
use Rattle.std.proofs.Common.{◌≡◌, ℕ, suc, ◌+◌, ◌/◌, ◌%◌, ◌<◌, ◌≤◌, Bool, true, false, ◌&&◌, List, [], ◌∷◌, ◌++◌, length, codes, if◌then◌else◌, refl, sym, append_assoc, arith}
use Rattle.std.specs.Prelude.{nat_le, ◌==◌}
use Rattle.std.specs.Fmt.{decimal}
use Rattle.std.proofs.lemmas.Fmt.{length-decimal-le_succ}
use Rattle.script_tree.specs.Requests.{Request, text_fits, parameters_fit, is_request_within_limits}
use Rattle.script_tree.specs.declared.limits.TheConstants.{MOST_REQUEST_TEXT_BYTES}
use Rattle.self_test_jobs.specs.Generated.{next, upper_half, request_drawn, drawn_from}

-- the jobs so far, the next one, and those of the draws that are left
pub next_draw : (left more x : ℕ) (past pushed : List Request) (q : Request) → left ≡ more + 1
    → q ≡ request_drawn (upper_half (next x)) → pushed ≡ past ++ q ∷ []
    → past ++ drawn_from left x ≡ pushed ++ drawn_from more (next x)
next_draw left more x past pushed q one is all =
    let suc_more : left ≡ suc more = omega arith in
    rw (suc_more, all, is) (sym (append_assoc past (request_drawn (upper_half (next x)) ∷ []) (drawn_from more (next x))))

-- ---- limits

path_fits : (a b c : Bool) → text_fits (if a then codes "/hit" else (if b then codes "/put" else (if c then codes "/get" else codes "/row"))) ≡ true
path_fits true b c = refl
path_fits false true c = refl
path_fits false false true = refl
path_fits false false false = refl

parameters_fits : (a : Bool) (value : List ℕ) → text_fits value ≡ true
    → parameters_fit (if a then [] else record { name = codes "k"; value = value } ∷ []) ≡ true
parameters_fits true value h = refl
parameters_fits false value h = rw h refl

key_fits : (k : ℕ) → k < 8 → text_fits (decimal k) ≡ true
key_fits k h =
    let short : length (decimal k) ≤ k + 1 = length-decimal-le_succ k (omega arith) in
    le_true (length (decimal k)) MOST_REQUEST_TEXT_BYTES (omega arith) where
      le_true : (a b : ℕ) → a ≤ b → nat_le a b ≡ true
      le_true a b e = grind arith

pub drawn_fits : (d : ℕ) → is_request_within_limits (request_drawn d) ≡ true
drawn_fits d =
    let path = path_fits (d % 4 == 0) (d % 4 == 1) (d % 4 == 2) in
    let parameters = parameters_fits (d % 4 == 0) (decimal (d / 4 % 8)) (key_fits (d / 4 % 8) (omega arith)) in
    λ i. text_fits (codes "GET") && (path i && (text_fits [] && parameters i))
