-- The code of a block, and of whatever it calls, does what the block does.
use Rattle.std.proofs.Common.{◌≡◌, ◌≤◌, ◌<◌, ◌+◌, ℕ, zero, suc, Bool, true, false, if◌then◌else◌, List, [], ◌∷◌, ◌++◌, length, take, Some, refl, sym, ap, ◌∙◌, subst, arith, append-nil, append_assoc, length-append}
use Rattle.std.proofs.Math.Seq.{take-append_seam}
use Rattle.script_tree.specs.Datum.{Datum}
use Rattle.script_tree.specs.Declarations.{DeclaredFunction, function_in}
use Rattle.script_tree.specs.Syntax.{Expression, Statement, let_, set_, if_, while_, for_, echo, status, return, do_, Else, no_else, else_, Statements, no_statement, statement}
use Rattle.script_tree.specs.SyntaxLists.{statements_of}
use Rattle.script_tree.specs.declared.limits.TheConstants.{MOST_STEPS}
use Rattle.script_asks.proofs.Sound.{IsSound, IsSoundStatement, IsSoundElse, AreSoundStatements, AreSoundBodies}
use Rattle.script_meaning.specs.Evaluate.{Setting, Flow, on, back, Later, value_of, eval, exec as meant, otherwise, block, run, then_on, scoped}
use Rattle.script_meaning.specs.Run.{Run, Progress, Ran, goes, stops, give, decide}
use Rattle.script_meaning.specs.Variables.{Variables}
use Rattle.script_code.specs.Code.{Instructions, Names, texts, names_after, loop_code, scoped_code, expression_code, statement_code, else_code, block_code}
use Rattle.script_code.specs.CodeRun.{Frame, exec, back_to}
use Rattle.script_code.specs.declared.instruction.Instruction.TheVariants.{End}
use Rattle.script_code.proofs.Leads.{Goal, leads_same, leads_on, Does, does_from, does_then, HasAt, has_front, has_back, move}
use Rattle.script_code.proofs.Slots.{values, names}
use Rattle.script_code.proofs.Nodes.{Puts}
use Rattle.script_code.proofs.Calls.{Placed, Bodies, Within, expression_does}
use Rattle.script_code.proofs.Flows.{after_same, then_nothing, FineFlow, At, to, PutsFor, Runs, runs_same, flow_to, same, let_does, set_does, echo_does, status_does, do_does, return_does, scoped_does, jump_on, choice_does, loop_turn, each_does}

-- ---- the names after a block, and those that it declares

abbrev pub block_names : Names → Statements → Names
block_names ns no_statement = ns
block_names ns (statement s ss) = block_names (names_after ns s) ss

abbrev one_declared : Statement → Names
one_declared (let_ at x e) = x.text ∷ []
one_declared s = []

abbrev all_declared : Statements → Names
all_declared no_statement = []
all_declared (statement s ss) = one_declared s ++ all_declared ss

one_more : (ns : Names) (s : Statement) → names_after ns s ≡ ns ++ one_declared s
one_more ns (let_ at x e) = refl
one_more ns (set_ at x e) = sym (append-nil ns)
one_more ns (if_ at e body other) = sym (append-nil ns)
one_more ns (while_ at e body) = sym (append-nil ns)
one_more ns (for_ at x e body) = sym (append-nil ns)
one_more ns (echo at e) = sym (append-nil ns)
one_more ns (status at e) = sym (append-nil ns)
one_more ns (return at e) = sym (append-nil ns)
one_more ns (do_ at e) = sym (append-nil ns)

more_names : (ns : Names) (ss : Statements) → block_names ns ss ≡ ns ++ all_declared ss
more_names ns no_statement = sym (append-nil ns)
more_names ns (statement s ss) = more_names (names_after ns s) ss ∙ ap (λ l. l ++ all_declared ss) (one_more ns s)
    ∙ append_assoc ns (one_declared s) (all_declared ss)

outer_names : (ns : Names) (ss : Statements) → take (length ns) (block_names ns ss) ≡ ns
outer_names ns ss = ap (take (length ns)) (more_names ns ss) ∙ take-append_seam ns (all_declared ss)

each_names : (ns : Names) (x : List ℕ) (ss : Statements) → take (length ns) (block_names (ns ++ x ∷ []) ss) ≡ ns
each_names ns x ss = ap (take (length ns)) (more_names (ns ++ x ∷ []) ss ∙ append_assoc ns (x ∷ []) (all_declared ss))
    ∙ take-append_seam ns (x ∷ all_declared ss)

choice_scoped : (vs : Variables) (m m' : Run Flow) (b : Bool) (q : Progress) → (if b then scoped vs m else scoped vs m') q ≡ scoped vs (if b then m else m') q
choice_scoped vs m m' true q = refl
choice_scoped vs m m' false q = refl

module _ (w : Setting) (functions : List ℕ) (code : Instructions) (placed : Placed w functions code) where
  module _ (fs : List Frame) where
    -- the code of a loop's body, with its end
    abbrev pub body_code : Names → Statements → Instructions
    body_code ns body = scoped_code ns (block_code w.program ns body)

    abbrev pub while_code : Names → Expression → Statements → Instructions
    while_code ns e body = loop_code (expression_code w.program ns e) (body_code ns body)

    -- a loop's next turns, from its test
    abbrev pub Loops : ℕ → Later → Type 0
    Loops n later = (at_ : ℕ) (e : Expression) (body : Statements) (ns : Names) (start : ℕ) (st : List Datum)
        → IsSound w.program e → AreSoundStatements w.program body → HasAt code start (while_code ns e body)
        → (us : Variables) → names us ≡ ns → (q : Progress) → q.steps ≤ MOST_STEPS → MOST_STEPS < n + q.steps
        → Does (At w functions code fs (start + 1 + length (body_code ns body)) st us q) (FineFlow ns q.steps)
        (to w functions code fs (start + length (while_code ns e body)) st)
        (later (length fs) (statement (while_ at_ e body) no_statement) us q)

    module _ (n : ℕ) (later : Later) (loops : Loops n later) (bodies : Bodies w functions code n later placed) where
      abbrev depth : ℕ
      depth = length fs

      abbrev Runs' : Names → Names → Instructions → (Variables → Run Flow) → Type 0
      Runs' = Runs w functions code fs n

      value : (ns : Names) (e : Expression) → IsSound w.program e
          → PutsFor w functions code fs n ns (expression_code w.program ns e) (λ vs. eval w later depth vs e)
      value ns e s vs scope = subst (λ l. Puts w functions code fs n vs (expression_code w.program l e) (eval w later depth vs e)) scope (expression_does w functions code n later placed bodies fs vs depth refl e s)

      loop_does : (at_ : ℕ) (e : Expression) (body : Statements) (ns : Names) → IsSound w.program e
          → AreSoundStatements w.program body → Runs' ns (block_names ns body) (block_code w.program ns body)
          (block w later depth body)
          → (start : ℕ) (st : List Datum) → HasAt code start (while_code ns e body) → (vs : Variables) → names vs ≡ ns
          → (p : Progress) → p.steps ≤ MOST_STEPS → MOST_STEPS ≤ n + p.steps
          → Does (At w functions code fs (start + 1 + length (body_code ns body)) st vs p) (FineFlow ns p.steps)
          (to w functions code fs (start + length (while_code ns e body)) st)
          (meant w later depth (while_ at_ e body) vs p)
      loop_does at_ e body ns sound_e sound_b rb start st has vs scope p most left =
          loop_turn w functions code fs n ns (expression_code w.program ns e) (body_code ns body)
          (λ us. eval w later depth us e) (λ us. scoped us (block w later depth body us))
          (later depth (statement (while_ at_ e body) no_statement)) start st has
          (value ns e sound_e) (scoped_does w functions code fs n ns (block_names ns body)
          (block_code w.program ns body) (block w later depth body) (outer_names ns body) rb)
          (λ us sc q mo le. loops at_ e body ns start st sound_e sound_b has us sc q mo le)
          vs scope p most left

      then_ways : (ns ns' : Names) (low pc pc' : ℕ) (st : List Datum) (more : Variables → Run Flow)
          → ((us : Variables) → names us ≡ ns → (q : Progress) → q.steps ≤ MOST_STEPS → low ≤ q.steps
          → Does (At w functions code fs pc st us q) (FineFlow ns' q.steps) (to w functions code fs pc' st)
          (more us q))
          → (f : Flow) (q : Progress) → FineFlow ns low f q
          → Does (to w functions code fs pc st f q) (FineFlow ns' low) (to w functions code fs pc' st)
          (then_on f more q)
      then_ways ns ns' low pc pc' st more h (on us) q k =
          flow_to w functions code fs ns' q.steps low _ _ st _ (more us q) k.1.least
          (λ vs r. leads_same _ _ (λ j. refl)) (h us k.0 q k.1.most k.1.least)
      then_ways ns ns' low pc pc' st more h (back d) q k = (k, leads_same _ _ (λ j. refl))

      nothing_does : (ns : Names) → Runs' ns ns [] (λ vs. give (on vs))
      nothing_does ns vs scope pc st p has most left =
          ((scope, record { least = omega arith; most = most }), same w functions code fs _ _ st (omega arith) vs p)

      mutual
        statement_does : (s : Statement) → IsSoundStatement w.program s → (ns : Names)
            → Runs' ns (names_after ns s) (statement_code w.program ns s) (meant w later depth s)
        statement_does (let_ at x e) s ns = let_does w functions code fs n ns x.text (expression_code w.program ns e)
            (λ vs. eval w later depth vs e) (value ns e s)
        statement_does (set_ at x e) s ns = set_does w functions code fs n ns x.text (expression_code w.program ns e)
            (λ vs. eval w later depth vs e) (value ns e s)
        statement_does (if_ at e body other) s ns =
            runs_same w functions code fs n ns ns (statement_code w.program ns (if_ at e body other)) _ _
            (λ vs p. after_same (eval w later depth vs e p) _ _ (λ d q. after_same (decide d q) _ _ (λ b r. choice_scoped vs (block w later depth body vs) (otherwise w later depth other vs) b r)))
            (choice_does w functions code fs n ns (body_code ns body) (scoped_code ns (else_code w.program ns other))
            (λ vs. scoped vs (block w later depth body vs)) (λ vs. scoped vs (otherwise w later depth other vs))
            (scoped_does w functions code fs n ns (block_names ns body) (block_code w.program ns body)
            (block w later depth body) (outer_names ns body) (block_does body s.1 ns))
            (else_does other s.2 ns)
            (expression_code w.program ns e) (λ vs. eval w later depth vs e) (value ns e s.0))
        statement_does (while_ at_ e body) s ns = λ vs scope pc st p has most left.
            does_from _ _ _ _ (meant w later depth (while_ at_ e body) vs p) (jump_on w functions code fs pc (length (body_code ns body)) st has.0 vs p)
            (loop_does at_ e body ns s.0 s.1 (block_does body s.1 ns) pc st has vs scope p most left)
        statement_does (for_ at x e body) s ns =
            each_does w functions code fs n ns (block_names (ns ++ x.text ∷ []) body) x.text
            (expression_code w.program ns e) (block_code w.program (ns ++ x.text ∷ []) body)
            (λ vs. eval w later depth vs e) (block w later depth body)
            (value ns e s.0) (block_does body s.1 (ns ++ x.text ∷ [])) (each_names ns x.text body)
        statement_does (echo at e) s ns = echo_does w functions code fs n ns (expression_code w.program ns e) (λ vs. eval w later depth vs e) (value ns e s)
        statement_does (status at e) s ns = status_does w functions code fs n ns (expression_code w.program ns e) (λ vs. eval w later depth vs e) (value ns e s)
        statement_does (return at e) s ns = return_does w functions code fs n ns (expression_code w.program ns e) (λ vs. eval w later depth vs e) (value ns e s)
        statement_does (do_ at e) s ns = do_does w functions code fs n ns (expression_code w.program ns e) (λ vs. eval w later depth vs e) (value ns e s)

        else_does : (o : Else) → IsSoundElse w.program o → (ns : Names)
            → Runs' ns ns (scoped_code ns (else_code w.program ns o)) (λ vs. scoped vs (otherwise w later depth o vs))
        else_does no_else s ns = scoped_does w functions code fs n ns ns [] (otherwise w later depth no_else) (outer_names ns no_statement) (nothing_does ns)
        else_does (else_ ss) s ns = scoped_does w functions code fs n ns (block_names ns ss)
            (block_code w.program ns ss) (block w later depth ss) (outer_names ns ss) (block_does ss s ns)

        pub block_does : (ss : Statements) → AreSoundStatements w.program ss → (ns : Names)
            → Runs' ns (block_names ns ss) (block_code w.program ns ss) (block w later depth ss)
        block_does no_statement s ns = nothing_does ns
        block_does (statement x ss) s ns = λ vs scope pc st p has most left.
            let ca = statement_code w.program ns x in
            let cb = block_code w.program (names_after ns x) ss in
            let end : pc + length ca + length cb ≡ pc + length (ca ++ cb) = omega (arith, length-append ca cb) in
            flow_to w functions code fs (block_names ns (statement x ss)) p.steps p.steps
            (pc + length ca + length cb) _ st _ (block w later depth (statement x ss) vs p) (omega arith)
            (same w functions code fs _ _ st end)
            (does_then _ _ _ _ _ (meant w later depth x vs p) _ (statement_does x s.0 ns vs scope pc st p (has_front code pc ca cb has) most left) (λ f q k.
            then_ways (names_after ns x) (block_names ns (statement x ss)) p.steps (pc + length ca)
            (pc + length ca + length cb) st (block w later depth ss) (λ us sc r mo le.
            block_does ss s.1 (names_after ns x) us sc (pc + length ca) st r (has_back code pc ca cb has) mo (omega (arith, left, le))) f q k))

    -- a function's body, and its end
    body_ends : (ns : Names) (low pc : ℕ) (here : Goal) (o : Ran Flow) → HasAt code pc (End ∷ []) → Does here (FineFlow ns low) (to w functions code fs pc []) o
        → Does here (Within w functions code low) (λ flow q k. back_to (exec w.request functions code k) fs (value_of flow) q) o
    body_ends ns low pc here (goes (on us) q) has d = (d.0.1, leads_on _ _ _ d.1 (move w.request functions code fs pc [] (values us) q End has.0 _ (λ k. refl)))
    body_ends ns low pc here (goes (back x) q) has d = d
    body_ends ns low pc here (stops e q) has d = d

  -- each function's code stands at its place
  abbrev pub Linked : Type 0
  Linked = (f : List ℕ) (g : DeclaredFunction) (is : function_in w.program f ≡ Some g)
      → HasAt code (placed f g is).0 (block_code w.program (texts g.parameters) (statements_of g.body) ++ End ∷ [])

  -- each turn and each call takes a step, so the steps bound them
  module _ (linked : Linked) (sound : AreSoundBodies w.program) where
    mutual
      pub loops_do : (n : ℕ) (fs : List Frame) → Loops fs n (run w n)
      loops_do zero fs at_ e body ns start st sound_e sound_b has us scope q most left = absurd (omega (arith, most, left))
      loops_do (suc n) fs at_ e body ns start st sound_e sound_b has us scope q most left =
          subst (λ o. Does (At w functions code fs (start + 1 + length (body_code fs ns body)) st us q)
          (FineFlow ns q.steps) (to w functions code fs (start + length (while_code fs ns e body)) st) o)
          (sym (then_nothing (meant w (run w n) (length fs) (while_ at_ e body) us q)))
          (loop_does fs n (run w n) (loops_do n fs) (bodies_do n) at_ e body ns sound_e sound_b
          (block_does fs n (run w n) (loops_do n fs) (bodies_do n) body sound_b ns) start st has us scope q most
          (omega (arith, left)))

      pub bodies_do : (n : ℕ) → Bodies w functions code n (run w n) placed
      bodies_do zero f g is fs vs scope p most left = absurd (omega (arith, most, left))
      bodies_do (suc n) f g is fs vs scope p most left =
          let ns = texts g.parameters in
          let ss = statements_of g.body in
          let has = linked f g is in
          let place = (placed f g is).0 in
          body_ends fs (block_names ns ss) p.steps (place + length (block_code w.program ns ss)) _
          (block w (run w n) (length fs) ss vs p) (has_back code place (block_code w.program ns ss)
          (End ∷ []) has)
          (block_does fs n (run w n) (loops_do n fs) (bodies_do n) ss (sound f g is) ns vs scope place [] p
          (has_front code place (block_code w.program ns ss) (End ∷ []) has) most (omega (arith, left)))

    -- a block from the start of a run, whatever it calls
    pub block_runs : (n : ℕ) (ss : Statements) → AreSoundStatements w.program ss → (fs : List Frame) (ns : Names)
        → Runs w functions code fs n ns (block_names ns ss) (block_code w.program ns ss)
        (block w (run w n) (length fs) ss)
    block_runs n ss s fs ns = block_does fs n (run w n) (loops_do n fs) (bodies_do n) ss s ns
