-- A request that is kept as a trace spells it.
use Rattle.std.specs.Prelude.{◌≡◌, ℕ, List}
use Rattle.std.specs.Coded.{Coded-set}
use Rattle.std.proofs.Math.Path.{Σ_path}
use Rattle.std.proofs.Math.Logic.{∥∥₁_elim, ∥∥₁_prop}
use Rattle.script_tree.specs.Requests.{Request, IsRequestWithinLimits}
use Rattle.script_tree.specs.contracts.request.Request as request_type
use Rattle.trace_format.specs.Events.{request_spelling}

-- The bytes spell this request, which is within its limits.
pub record IsPacked (bytes : List ℕ) (request : Request) : Type 0 where
  pub spelled : bytes ≡ request_spelling request
  pub limits : IsRequestWithinLimits request

-- They spell this request and no other.
pub record IsPackedAlone (bytes : List ℕ) (request : Request) : Type 0 where
  pub this : IsPacked bytes request
  pub only : (other : Request) → IsPacked bytes other → other ≡ request

-- the request that bytes spell
abbrev pub Packed : List ℕ → Type 0
Packed bytes = (request : Request) × ∥ IsPackedAlone bytes request ∥₁

-- Two such requests of the same bytes are one.
same_request : (bytes : List ℕ) (p q : Request) → ∥ IsPackedAlone bytes p ∥₁ → ∥ IsPackedAlone bytes q ∥₁ → p ≡ q
same_request bytes p q a b =
    let set = Coded-set request_type.the_row.coded p q in
    ∥∥₁_elim a set (λ x. ∥∥₁_elim b set (λ y. y.only p x.this))

-- There is at most one request that bytes spell.
pub packed_once : (bytes : List ℕ) → IsProp (Packed bytes)
packed_once bytes x y =
    let same : x.0 ≡ y.0 = same_request bytes x.0 y.0 x.1 y.1 in
    Σ_path same (λ i. ∥∥₁_prop (coe 0 i (j. ∥ IsPackedAlone bytes (same j) ∥₁) x.1) (coe 1 i (j. ∥ IsPackedAlone bytes (same j) ∥₁) y.1) i)
