-- Facts on jobs that are read one by one.
use Rattle.std.proofs.Common.{◌≡◌, ◌∙◌, ℕ, ◌-◌, ◌<◌, ◌≤◌, List, [], ◌∷◌, ◌++◌, length, append_assoc, map, Bor, None, Some, option_map, refl, sym, ap, subst, arith, rules}
use Rattle.json.specs.Token.{Token}
use Rattle.json.specs.Json.{Items, array, item, no_items, items, parse_map, after_end_array, value}
use Rattle.json.specs.Lex.{tokens}
use Rattle.json.specs.Value as borrowed
use Rattle.json.specs.declared.value.Value.{Value}
use Rattle.json.proofs.Grammar.{value-begin_array, items_more, items_end}
use Rattle.serde_json.specs.Data as tree
use Rattle.serde_json.specs.Read.{of_json, of_items, of_members, max_depth, read}
use Rattle.serde_json.specs.View.{view, items_view}
use Rattle.serde_json.specs.declared.value.Value as owned
use Rattle.std.specs.declared.alloc.Global.{Global}
use Rattle.script_tree.specs.Requests.{Request}
use Rattle.workload.specs.Jobs.{jobs_of}
use Rattle.workload.specs.OneByOne.{GiveJobs, item_of_text, BeginWithJob, BeginWithJobs}

-- The tokens begin with fewer than n jobs, which give these requests, and the end of their array.
abbrev BeginWithFewer : ℕ → List Token → List Request → List Token → Type 0
BeginWithFewer n ts qs left = (js : Items) × (items item_of_text n ts ≡ Some (js, left)) × GiveJobs js qs

-- a job, and the jobs behind it
one_before : (n : ℕ) (ts us left : List Token) (q : Request) (qs : List Request) → 0 < n → after_end_array ts ≡ None
    → BeginWithJob ts q us → BeginWithFewer (n - 1) us qs left → BeginWithFewer n ts (q ∷ qs) left
one_before n ts us left q qs some going (j, first, (d, is, job)) (js, rest, (ds, are, jobs)) = (
  item j js,
  items_more item_of_text n ts us j some going first ∙ ap (parse_map (item j)) rest,
  (tree.item d ds, rw (is, are) refl, rw (job, jobs) refl),
)

-- no job, where the array ends
none_left : (n : ℕ) (ts left : List Token) → length ts ≤ n → after_end_array ts ≡ Some left → BeginWithFewer n ts [] left
none_left n ts left enough e = (no_items, items_end item_of_text n ts left enough e, (tree.no_items, refl, refl))

-- With whichever jobs are left, those so far are all jobs.
abbrev pub GoOn : List Token → List Request → ℕ → List Token → Type 0
GoOn all past turns ts = (more : List Request) (left : List Token) → BeginWithFewer turns ts more left → BeginWithJobs all (past ++ more) left

pub next_turn : (all ts us : List Token) (n : ℕ) (past pushed : List Request) (q : Request) → 0 < n
    → after_end_array ts ≡ None → BeginWithJob ts q us → pushed ≡ past ++ q ∷ []
    → GoOn all past n ts → GoOn all pushed (n - 1) us
next_turn all ts us n past pushed q some going first is so_far more left rest =
    subst (λ qs. BeginWithJobs all qs left) (sym (append_assoc past (q ∷ []) more) ∙ ap (λ qs. qs ++ more) (sym is))
    (so_far (q ∷ more) left (one_before n ts us left q more some going first rest))

pub last_turn : (all ts left : List Token) (n : ℕ) (past qs : List Request) → length ts ≤ n
    → after_end_array ts ≡ Some left → qs ≡ past → GoOn all past n ts → BeginWithJobs all qs left
last_turn all ts left n past qs enough e is so_far =
    let same : past ++ [] ≡ qs = search (rules, is) in
    subst (λ rs. BeginWithJobs all rs left) same (so_far [] left (none_left n ts left enough e))

-- a text that is an array of jobs
pub whole_text : (text : List ℕ) (ts : List Token) (qs : List Request) → tokens text ≡ Token.begin_array ∷ ts → BeginWithJobs ts qs []
    → (d : tree.Data) × (read text ≡ Some d) × (jobs_of d ≡ Some qs)
whole_text text ts qs opens (js, all, (ds, are, jobs)) =
    let whole = ap (value max_depth) opens ∙ value-begin_array max_depth ts (omega arith) ∙ ap (parse_map array) all in
    (tree.array ds, rw whole (ap (option_map tree.array) are), jobs)

-- ---- trees

-- what gives a tree each gives the trees of all
pub all_trees : (vs : List (Value Global)) (ts : List owned.Value)
    → map (λ v. of_json (borrowed.value_view v)) vs ≡ map (λ t. Some (view t)) ts
    → of_items (borrowed.items_view vs) ≡ Some (items_view ts)
all_trees [] [] e = refl
all_trees [] (t ∷ ts) e = absurd cc
all_trees (v ∷ vs) [] e = absurd cc
all_trees (v ∷ vs) (t ∷ ts) e =
    let first : of_json (borrowed.value_view v) ≡ Some (view t) = cc in
    let rest : map (λ v. of_json (borrowed.value_view v)) vs ≡ map (λ t. Some (view t)) ts = cc in
    rw (first, all_trees vs ts rest) refl

-- the next member, put in after those before it
pub next_member : (m : Bor (List ℕ) × Value Global) (ms : List (Bor (List ℕ) × Value Global)) (d : tree.Data)
    (old : tree.Members) → of_json (borrowed.value_view m.1) ≡ Some d
    → of_members (borrowed.members_view (m ∷ ms)) old ≡ of_members (borrowed.members_view ms) (tree.put m.0.now d old)
next_member m ms d old is = rw is refl
