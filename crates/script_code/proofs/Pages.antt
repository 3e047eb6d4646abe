-- The code of a program means the program.
use Rattle.std.proofs.Common.{◌≡◌, ◌<◌, ◌+◌, ℕ, suc, Bool, true, false, cond, List, [], ◌∷◌, ◌++◌, length, Option, Some, None, refl, sym, ap, ◌∙◌, subst, arith, append_assoc, length-append}
use Rattle.std.specs.Prelude.{slice_get, option_map}
use Rattle.std.specs.Str.{bytes_eq}
use Rattle.std.proofs.Math.Seq.{get_or-append_seam}
use Rattle.std.proofs.lemmas.Option.{slice_get-get_or}
use Rattle.basis.proofs.Options.{some_is, none_is_not}
use Rattle.script_tree.specs.Datum.{Datum}
use Rattle.script_tree.specs.Declarations as d
use Rattle.script_tree.specs.Declarations.{DeclaredFunction, NumberedPage, page_from, page_in, function_in}
use Rattle.script_tree.specs.Programs.{Program}
use Rattle.script_tree.specs.Requests.{Request}
use Rattle.script_tree.specs.SyntaxLists.{statements_of}
use Rattle.script_tree.specs.declared.limits.TheConstants.{MOST_STEPS}
use Rattle.script_tree.specs.declared.syntax.declaration.Declaration.{Declaration}
use Rattle.script_tree.specs.declared.syntax.declaration.Declaration.TheVariants.{Store, Table, Function, Page}
use Rattle.script_check.specs.Validity.{IsValid}
use Rattle.script_asks.proofs.Valid.{bodies_sound, page_sound}
use Rattle.script_meaning.specs.Conduct.{conduct, on_page, ended, start}
use Rattle.script_meaning.specs.Evaluate.{Setting, Flow, on, back, run, block}
use Rattle.script_meaning.specs.Run.{Progress, Ran, goes, stops}
use Rattle.script_meaning.specs.Costs.{keeping, page_run, costs_in, costs_on, costs_of}
use Rattle.script_code.specs.Code.{Instructions, Names, Entry, texts, function_from, function_number, block_code, declaration_code, declarations_code, places_from, entry_from}
use Rattle.script_code.specs.CodeRun.{exec}
use Rattle.script_code.specs.Means.{code_conduct, code_costs, Means}
use Rattle.script_code.specs.declared.instruction.Instruction.TheVariants.{End, Halt}
use Rattle.script_code.proofs.Leads.{Goal, Leads, leads_on, leads_same, Does, HasAt, has_front, has_back, has_all, move}
use Rattle.script_code.proofs.Slots.{values}
use Rattle.script_code.proofs.Calls.{Placed}
use Rattle.script_code.proofs.Flows.{FineFlow, to}
use Rattle.script_code.proofs.Blocks.{Linked, block_names, block_runs}

-- the member behind these
behind : (xs : List ℕ) (x : ℕ) (ys : List ℕ) → slice_get (xs ++ x ∷ ys) (length xs) ≡ Some x
behind xs x ys =
    let within : length xs < length (xs ++ x ∷ ys) = omega (arith, length-append xs (x ∷ ys)) in
    slice_get-get_or (xs ++ x ∷ ys) (length xs) x within ∙ ap Some (get_or-append_seam xs x ys x)

module _ (program : Program) (functions : List ℕ) (code : Instructions) where
  -- the code of the later declarations stands behind that of the earlier ones
  record Stands (earlier : Instructions) (place : ℕ) (later : List Declaration) : Type 0 where
    all : code ≡ earlier ++ declarations_code program later
    behind : place ≡ length earlier

  next : (earlier : Instructions) (place : ℕ) (x : Declaration) (later : List Declaration)
      → Stands earlier place (x ∷ later) → Stands (earlier ++ declaration_code program x)
      (place + length (declaration_code program x)) later
  next earlier place x later h = record {
    all = h.all ∙ sym (append_assoc earlier (declaration_code program x) (declarations_code program later));
    behind = omega (arith, h.behind, length-append earlier (declaration_code program x));
  }

  none_here : (earlier : Instructions) (place : ℕ) (x : Declaration) (later : List Declaration)
      → declaration_code program x ≡ [] → Stands earlier place (x ∷ later) → Stands earlier place later
  none_here earlier place x later none h = record { all = h.all ∙ ap (λ is. earlier ++ (is ++ declarations_code program later)) none; behind = h.behind }

  stands_here : (earlier : Instructions) (place : ℕ) (x : Declaration) (later : List Declaration)
      → Stands earlier place (x ∷ later) → HasAt code place (declaration_code program x)
  stands_here earlier place x later h =
      let is = declaration_code program x in
      has_front code place is (declarations_code program later)
      (subst (λ c. HasAt c place (is ++ declarations_code program later)) (sym h.all)
      (subst (λ n. HasAt (earlier ++ (is ++ declarations_code program later)) n (is ++ declarations_code program later)) (sym h.behind) (has_all (is ++ declarations_code program later) earlier)))

  -- ---- functions

  -- where the function's code stands
  record IsFunctionAt (number : ℕ) (g : DeclaredFunction) : Type 0 where
    place : ℕ
    found : slice_get functions number ≡ Some place
    has : HasAt code place (block_code program (texts g.parameters) (statements_of g.body) ++ End ∷ [])

  function_at : (f : List ℕ) (g : DeclaredFunction) (later : List Declaration) (earlier : Instructions) (place : ℕ)
      (places : List ℕ) → Stands earlier place later → functions ≡ places ++ places_from program place later
      → d.function_from f later ≡ Some g → IsFunctionAt (function_from (length places) f later) g
  function_at f g [] earlier place places h all is = absurd (none_is_not is)
  function_at f g (Store at_ name ∷ ds) earlier place places h all is =
      function_at f g ds earlier place places (none_here earlier place (Store at_ name) ds refl h) all is
  function_at f g (Table at_ name columns ∷ ds) earlier place places h all is =
      function_at f g ds earlier place places (none_here earlier place (Table at_ name columns) ds refl h) all is
  function_at f g (Page at_ path body ∷ ds) earlier place places h all is = function_at f g ds _ _ places (next earlier place (Page at_ path body) ds h) all is
  function_at f g (Function at_ name parameters body ∷ ds) earlier place places h all is =
      by (bytes_eq f name.text) is (λ r. function_at f g ds _ _ (places ++ place ∷ [])
      (next earlier place x ds h) all' r)
    where
      x : Declaration
      x = Function at_ name parameters body

      all' : functions ≡ (places ++ place ∷ []) ++ places_from program (place + length (declaration_code program x)) ds
      all' = all ∙ sym (append_assoc places (place ∷ []) (places_from program (place + length (declaration_code program x)) ds))

      here : IsFunctionAt (length places) (record { parameters = parameters; body = body })
      here = record {
        place = place;
        found = ap (λ ps. slice_get ps (length places)) all ∙ behind places place (places_from program (place + length (declaration_code program x)) ds);
        has = stands_here earlier place x ds h;
      }

      by : (c : Bool) → cond c (Some (record { parameters = parameters; body = body })) (d.function_from f ds) ≡ Some g
          → (d.function_from f ds ≡ Some g → IsFunctionAt (function_from (length (places ++ place ∷ [])) f ds) g)
          → IsFunctionAt (cond c (length places) (function_from (length places + 1) f ds)) g
      by true r more = subst (λ y. IsFunctionAt (length places) y) (some_is r) here
      by false r more =
          let long : length (places ++ place ∷ []) ≡ length places + 1 = omega (arith, length-append places (place ∷ [])) in
          subst (λ n. IsFunctionAt (function_from n f ds) g) long (more r)

  -- ---- pages

  -- the entry is that of the page, and there its code stands
  abbrev IsEntryOf : Option NumberedPage → Option Entry → Type 0
  IsEntryOf None None = Unit {0}
  IsEntryOf None (Some entry) = ⊥
  IsEntryOf (Some page) None = ⊥
  IsEntryOf (Some page) (Some entry) = (entry.number ≡ page.number) × HasAt code entry.place (block_code program [] (statements_of page.body) ++ Halt ∷ [])

  page_at : (path : List ℕ) (n : ℕ) (later : List Declaration) (earlier : Instructions) (place : ℕ)
      → Stands earlier place later → IsEntryOf (page_from n path later) (entry_from program n place path later)
  page_at path n [] earlier place h = tt
  page_at path n (Store at_ name ∷ ds) earlier place h = page_at path n ds earlier place (none_here earlier place (Store at_ name) ds refl h)
  page_at path n (Table at_ name columns ∷ ds) earlier place h = page_at path n ds earlier place (none_here earlier place (Table at_ name columns) ds refl h)
  page_at path n (Function at_ name parameters body ∷ ds) earlier place h = page_at path n ds _ _ (next earlier place (Function at_ name parameters body) ds h)
  page_at path n (Page at_ name body ∷ ds) earlier place h =
      by (bytes_eq path name.text) (page_at path (n + 1) ds _ _ (next earlier place (Page at_ name body) ds h))
    where
      by : (c : Bool) → IsEntryOf (page_from (n + 1) path ds)
          (entry_from program (n + 1) (place + length (declaration_code program (Page at_ name body))) path ds)
          → IsEntryOf (cond c (Some (record { number = n; body = body })) (page_from (n + 1) path ds))
          (cond c (Some (record { number = n; place = place }))
          (entry_from program (n + 1) (place + length (declaration_code program (Page at_ name body))) path ds))
      by true more = (refl, stands_here earlier place (Page at_ name body) ds h)
      by false more = more

  same_number : (o : Option NumberedPage) (e : Option Entry) → IsEntryOf o e → option_map (λ entry. entry.number) e ≡ option_map (λ page. page.number) o
  same_number None None h = refl
  same_number None (Some entry) h = absurd h
  same_number (Some page) None h = absurd h
  same_number (Some page) (Some entry) h = ap Some h.0

  numbered : code ≡ declarations_code program program.declarations → (path : List ℕ)
      → option_map (λ entry. entry.number) (entry_from program 0 0 path program.declarations)
      ≡ option_map (λ page. page.number) (page_in program path)
  numbered is_code path = same_number _ _ (page_at path 0 program.declarations [] 0 (record { all = is_code; behind = refl }))

  module _ (valid : IsValid program) (is_code : code ≡ declarations_code program program.declarations)
      (are_places : functions ≡ places_from program 0 program.declarations) (request : Request)
      (answers : List Datum) where
    abbrev setting : Setting
    setting = record { program = program; request = request }

    whole : Stands [] 0 program.declarations
    whole = record { all = is_code; behind = refl }

    function_of : (f : List ℕ) (g : DeclaredFunction) → function_in program f ≡ Some g → IsFunctionAt (function_number program f) g
    function_of f g is = function_at f g program.declarations [] 0 [] whole are_places is

    placed : Placed setting functions code
    placed f g is = ((function_of f g is).place, (function_of f g is).found)

    linked : Linked setting functions code placed
    unfolding placed function_of
    linked f g is = (function_of f g is).has

    -- a page is over where its code ends, and where it gives a value back
    abbrev over : Ran Flow → Ran Flow
    over (goes flow q) = goes (on []) q
    over (stops e q) = stops e q

    over_ended : (number : ℕ) (o : Ran Flow) → ended number (over o) ≡ ended number o
    over_ended number (goes flow q) = refl
    over_ended number (stops e q) = refl

    page_ends : (ns : Names) (low pc : ℕ) (here : Goal) (o : Ran Flow) → HasAt code pc (Halt ∷ [])
        → Does here (FineFlow ns low) (to setting functions code [] pc []) o → Leads here (λ k. over o)
    page_ends ns low pc here (goes (on us) q) has h = leads_on _ _ _ h.1 (move request functions code [] pc [] (values us) q Halt has.0 _ (λ k. refl))
    page_ends ns low pc here (goes (back x) q) has h = leads_on _ _ _ h.1 (leads_same _ _ (λ k. refl))
    page_ends ns low pc here (stops e q) has h = h

    page_leads : (p : Progress) → p.steps ≡ 0 → (page : NumberedPage) (entry : Entry)
        → page_in program request.path ≡ Some page
        → HasAt code entry.place (block_code program [] (statements_of page.body) ++ Halt ∷ [])
        → Leads (λ k. exec request functions code k [] entry.place [] [] p) (λ k. over (page_run program request p page))
    page_leads p none page entry is has =
        let ss = statements_of page.body in
        let b = block_code program [] ss in
        let more : suc MOST_STEPS ≡ MOST_STEPS + 1 = omega arith in
        let runs = block_runs setting functions code placed linked (bodies_sound program valid) MOST_STEPS ss (page_sound program valid request.path page is) [] [] in
        let does = runs [] refl entry.place [] p (has_front code entry.place b (Halt ∷ []) has) (omega (arith, none)) (omega (arith, none)) in
        let ends = page_ends (block_names [] ss) p.steps (entry.place + length b) _ (block setting (run setting MOST_STEPS) 0 ss [] p) (has_back code entry.place b (Halt ∷ []) has) does in
        record { count = ends.count; by = λ k. ends.by k ∙ ap (λ n. over (run setting n 0 ss [] p)) more }

    over_costs : (o : Ran Flow) → costs_in (over o) ≡ costs_in o
    over_costs (goes flow q) = refl
    over_costs (stops e q) = refl

    conducts_page : (page : NumberedPage) (entry : Entry) → page_in program request.path ≡ Some page
        → entry.number ≡ page.number → HasAt code entry.place
        (block_code program [] (statements_of page.body) ++ Halt ∷ [])
        → (enough : ℕ) × ((k : ℕ) → code_conduct functions code (Some entry) request answers (enough + k) ≡ on_page program request answers (Some page))
    conducts_page page entry is number has =
        let ends = page_leads (start answers) refl page entry is has in
        let o = page_run program request (start answers) page in
        (ends.count, λ k. ap (ended entry.number) (ends.by k) ∙ over_ended entry.number o ∙ ap (λ n. ended n o) number)

    charges_page : (page : NumberedPage) (entry : Entry) → page_in program request.path ≡ Some page
        → HasAt code entry.place (block_code program [] (statements_of page.body) ++ Halt ∷ [])
        → (enough : ℕ) × ((k : ℕ) → code_costs functions code (Some entry) request answers (enough + k) ≡ costs_on program request answers (Some page))
    charges_page page entry is has =
        let p : Progress = keeping (Some []) (start answers) in
        let ends = page_leads p refl page entry is has in
        (ends.count, λ k. ap costs_in (ends.by k) ∙ over_costs (page_run program request p page))

    charges : (o : Option NumberedPage) (e : Option Entry) → page_in program request.path ≡ o → IsEntryOf o e
        → (enough : ℕ) × ((k : ℕ) → code_costs functions code e request answers (enough + k) ≡ costs_on program request answers o)
    charges None None is h = (0, λ k. refl)
    charges None (Some entry) is h = absurd h
    charges (Some page) None is h = absurd h
    charges (Some page) (Some entry) is h = charges_page page entry is h.1

    pub charged_so : (enough : ℕ) × ((k : ℕ)
        → code_costs functions code (entry_from program 0 0 request.path program.declarations) request answers
        (enough + k) ≡ costs_of program request answers)
    charged_so = charges (page_in program request.path)
        (entry_from program 0 0 request.path program.declarations) refl
        (page_at request.path 0 program.declarations [] 0 whole)

    conducts : (o : Option NumberedPage) (e : Option Entry) → page_in program request.path ≡ o → IsEntryOf o e
        → (enough : ℕ) × ((k : ℕ) → code_conduct functions code e request answers (enough + k) ≡ on_page program request answers o)
    conducts None None is h = (0, λ k. refl)
    conducts None (Some entry) is h = absurd h
    conducts (Some page) None is h = absurd h
    conducts (Some page) (Some entry) is h = conducts_page page entry is h.0 h.1

    pub conducted : (enough : ℕ) × ((k : ℕ) → code_conduct functions code
        (entry_from program 0 0 request.path program.declarations) request answers (enough + k)
        ≡ conduct program request answers)
    conducted = conducts (page_in program request.path)
        (entry_from program 0 0 request.path program.declarations) refl
        (page_at request.path 0 program.declarations [] 0 whole)

  -- the code, the places of its functions, and the entries of its pages mean the program
  pub means : IsValid program → code ≡ declarations_code program program.declarations → functions ≡ places_from program 0 program.declarations
      → (pages : List ℕ → Option Entry) → ((path : List ℕ) → pages path ≡ entry_from program 0 0 path program.declarations) → Means program functions code pages
  means valid is_code are_places pages are_pages = record {
    conducts = λ request answers.
        let done = conducted valid is_code are_places request answers in
        (done.0, λ k. ap (λ e. code_conduct functions code e request answers (done.0 + k)) (are_pages request.path) ∙ done.1 k);
    charges = λ request answers.
        let done = charged_so valid is_code are_places request answers in
        (done.0, λ k. ap (λ e. code_costs functions code e request answers (done.0 + k)) (are_pages request.path) ∙ done.1 k);
    numbers = λ path. ap (option_map (λ entry. entry.number)) (are_pages path) ∙ numbered is_code path;
  }
