-- How the members of a group went on together: what each wants, or how each ends.
use Rattle.std.specs.Prelude.{◌≡◌, ◌≢◌, ◌<◌, ◌+◌, ◌⊎◌, ◌++◌, ℕ, List, [], length, map, get_or, Option, option_map, Ok}
use Rattle.script_tree.specs.Datum.{Datum}
use Rattle.script_tree.specs.Declarations.{page_in}
use Rattle.script_tree.specs.Programs.{Program}
use Rattle.script_tree.specs.Requests.{Request}
use Rattle.script_tree.specs.declared.path.Path.{Path}
use Rattle.script_tree.specs.declared.request.Response.{Response}
use Rattle.script_meaning.specs.Conduct as meant
use Rattle.script_meaning.specs.Conduct.{Conduct, conduct, ended}
use Rattle.script_meaning.specs.Costs.{costs_of}
use Rattle.script_meaning.specs.Evaluate.{Flow}
use Rattle.script_meaning.specs.GroupCost.{group_cost}
use Rattle.script_meaning.specs.Run.{Ran}
use Rattle.script_code.specs.Code.{Entry}
use Rattle.script_code.specs.Translated.{IsCodeOf, at_path}
use Rattle.script_code.specs.declared.translate.Code.{Code}
use Rattle.script_code.specs.declared.translate.PageEntry.{PageEntry}
use Rattle.group_laws.specs.Shown.{shown_of}
use Rattle.multi_nodes.specs.Answers.{nothing}
use Rattle.multi_nodes.specs.Members.{members_at, request_at}
use Rattle.multi_state.specs.Parting.{TwoOf}
use Rattle.multi_state.specs.Progress.{bare}
use Rattle.multi_state.specs.Spending.{IsStart}
use Rattle.multi_state.specs.Totals.{costs_of_all}
use Rattle.multi_run.specs.Acts.{frames_at}
use Rattle.multi_machine.specs.Lockstep.{InLockstep, HavePage, Rises}
use Rattle.multi_machine.specs.Responses.{response_at}
use Rattle.multi_run.specs.Runs.{Runs}
use Rattle.multi_state.specs.Stacks.{stack_at}
use Rattle.multi_machine.specs.declared.ending.Ended.{Ended}
use Rattle.multi_machine.specs.declared.machine.GroupStep.{GroupStep}
use Rattle.multi_machine.specs.declared.machine.GroupStep.TheVariants.{Wants, Ends, Differ}
use Rattle.multi_machine.specs.declared.machine.Waiting.{Waiting}
use Rattle.multi_run.specs.declared.run.Run as group
use Rattle.multi_state.specs.declared.went.Went.TheVariants as went

-- ---- a member

-- what a program does with a member's request, where it was told these answers
abbrev pub conduct_at : Program → List Request → (told : ℕ → List Datum) → ℕ → Conduct
conduct_at program qs told i = conduct program (request_at qs i) (told i)

-- the number of a member's page
abbrev pub page_at : Program → List Request → ℕ → Option ℕ
page_at program qs i = option_map (λ page. page.number) (page_in program (request_at qs i).path)

-- ---- where a group begins

-- the path of each request has this page, or none
abbrev pub HaveEntry : List Request → Code → Option PageEntry → Type 0
HaveEntry qs code page = (i : ℕ) → i < length qs → at_path code.pages (request_at qs i).path ≡ page

-- the path of some request has another page, or one where there is none, or none where there is one
abbrev pub SomeLackEntry : List Request → Code → Option PageEntry → Type 0
SomeLackEntry qs code page = (i : ℕ) × (i < length qs) × (at_path code.pages (request_at qs i).path ≢ page)

-- at a place of the code, where nothing is done
pub record IsFresh (place : ℕ) (m : group.Run) : Type 0 where
  pub frames : (i : ℕ) → frames_at i m.frames.items ≡ []
  pub place' : m.place ≡ place
  pub stack : (i : ℕ) → stack_at i m.state.stack ≡ []
  pub slots : (i : ℕ) → members_at i m.state.slots.items ≡ []
  pub account : IsStart m.state.account

-- ---- where a group is

-- After these answers each member is where the group is, on the page that all have; so many nodes were evaluated.
pub record StandsAfter (program : Program) (qs : List Request) (code : Code) (told : ℕ → List Datum) (m : group.Run) (spent : ℕ) : Type 0 where
  pub means : IsCodeOf program code
  pub some : 0 < length qs
  pub entry : Entry
  pub page : HavePage qs code entry
  pub lockstep : InLockstep qs code entry.place told m spent

-- After these answers each member wants its operation.
pub record AllWant (program : Program) (qs : List Request) (told : ℕ → List Datum) (spent : ℕ) (w : Waiting) : Type 0 where
  pub requests : w.group ≡ qs
  pub wants' : (i : ℕ) → i < length qs → (conduct_at program qs told i).ending ≡ meant.Wants (get_or w.ops i nothing)
  -- how the group came here: it stood somewhere, and ran on
  pub was : group.Run
  pub earlier : ℕ
  pub before : ℕ
  pub after' : ℕ
  pub stood : StandsAfter program qs w.code.now told was earlier
  pub runs : Runs before after' qs w.code.now was (Ok (went.Wants w.ops)) w.run
  pub rises : Rises before after' earlier spent

-- A run is over, with this response, and after the steps and with the end of the group.
pub record EndsWith (c : Conduct) (response : Response) (e : Ended) : Type 0 where
  pub path : Path
  pub ending : c.ending ≡ meant.Ends response path
  pub steps : path.steps ≡ e.steps
  pub end : path.end ≡ e.end

-- After these answers the run of each member is over, after the same steps and with the same end, marks and page; so many
-- nodes were evaluated as the group costs.
pub record AllEnd (program : Program) (qs : List Request) (told : ℕ → List Datum) (spent : ℕ) (e : Ended) : Type 0 where
  pub ends' : (i : ℕ) → i < length qs → EndsWith (conduct_at program qs told i) (response_at i e) e
  pub marks : (i j : ℕ) → i < length qs → j < length qs → map bare (conduct_at program qs told i).trail ≡ map bare (conduct_at program qs told j).trail
  pub pages : (i j : ℕ) → i < length qs → j < length qs → page_at program qs i ≡ page_at program qs j
  pub costs : spent ≡ group_cost (costs_of_all 0 (length qs) (λ i. costs_of program (request_at qs i) (told i)))

-- Of two conducts other things show.
pub record ShowOtherwise (c d : Conduct) : Type 0 where
  pub page : ℕ
  pub other : ℕ
  pub ran : Ran Flow
  pub ran' : Ran Flow
  pub one : c ≡ ended page ran
  pub two : d ≡ ended other ran'
  pub shown' : shown_of ran ≢ shown_of ran'

-- The pages of two members have other numbers, or after these answers, and whatever answers follow, other things show of what
-- they do.
abbrev pub AreApart : Program → List Request → (told : ℕ → List Datum) → (i j : ℕ) → Type 0
AreApart program qs told i j = (page_at program qs i ≢ page_at program qs j)
    ⊎ ((more others : List Datum) → ShowOtherwise (conduct program (request_at qs i) (told i ++ more)) (conduct program (request_at qs j) (told j ++ others)))

-- Two members are apart.
abbrev pub MembersPart : Program → List Request → (told : ℕ → List Datum) → Type 0
MembersPart program qs told = TwoOf (length qs) (AreApart program qs told)

-- The count rose from this one on, by a number of which this holds.
abbrev pub RoseBy : (begun count : ℕ) → (holds : ℕ → Type 0) → Type 0
RoseBy begun count holds = (spent : ℕ) × (count ≡ begun + spent) × holds spent

-- After these answers the members are so far, and by what they spent the count of nodes rose since they began.
abbrev pub IsStep : Program → List Request → (told : ℕ → List Datum) → (begun count : ℕ) → GroupStep → Type 0
IsStep program qs told begun count (Wants w) = RoseBy begun count (λ spent. AllWant program qs told spent w)
IsStep program qs told begun count (Ends e) = RoseBy begun count (λ spent. AllEnd program qs told spent e)
IsStep program qs told begun count Differ = MembersPart program qs told
