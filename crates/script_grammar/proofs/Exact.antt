-- The machine reads exactly the trees of the grammar, and is stuck exactly at the first fault.
use Rattle.std.proofs.Common.{◌≡◌, ◌≤◌, pos, List, [], ◌∷◌, ◌++◌, Option, Some, None, refl, sym, ap, ◌∙◌, subst, arith, append_assoc, append-nil, codes}
use Rattle.script_tree.specs.Programs.{Program, program_of}
use Rattle.script_tree.specs.Syntax.{Expression, number, Expressions, no_expression, Query, delete, no_query, no_condition, no_assignment, Statement, do_, no_else, no_statement}
use Rattle.script_tree.specs.Syntax as tree
use Rattle.script_tree.specs.declared.comparison.Comparison.TheVariants as compared
use Rattle.script_tree.specs.declared.syntax.name.Name.{Name}
use Rattle.script_tree.specs.declared.syntax.declaration.Declaration.{Declaration}
use Rattle.script_tree.specs.declared.syntax.tree.Version.{Version}
use Rattle.script_tree.specs.declared.syntax.tree.Version.TheVariants.{First}
use Rattle.script_tokens.specs.Kinds as kind
use Rattle.script_tokens.specs.Kinds.{Kind, Token, token}
use Rattle.script_tokens.specs.declared.word.Word.TheVariants as w
use Rattle.script_grammar.specs.Grammar.{IsTreeOf, AreSpelled, Begins, IsFaultAt}
use Rattle.script_grammar.specs.Spelling.{declaration_spelling, declarations_spelling, AreTokens}
use Rattle.script_grammar.specs.Grouping.{level}
use Rattle.script_grammar.specs.Machine.{Val, of_name, of_expression, of_comparison, of_query, of_statement, of_else, of_declarations, apply, Symbol, act, word, a_name, a_path, a_comparison, operand, prefixes, atom, tail, name_tail, arguments, more_arguments, parameters, more_names, a_query, more_queries, filter, more_tests, more_sets, a_statement, statements, else_part, declarations, State, feed, Parsing, done, stuck, settle, fed, run, run_file}
use Rattle.script_grammar.proofs.Added.{all_declarations}
use Rattle.script_grammar.proofs.Back.{back}
use Rattle.script_grammar.proofs.Complete.{whole_read}
use Rattle.script_grammar.proofs.Real.{word_spelled, zero_spelled, name_spelled, text_spelled}
use Rattle.script_grammar.proofs.Yields.{Read, declarations_before, Yields}

never_done : {P : Type 0} (r : List Token) (out : List Val) → stuck r ≡ done out → P
never_done r out h = cc

never_stuck : {P : Type 0} (r : List Token) (out : List Val) → done out ≡ stuck r → P
never_stuck r out h = cc

the_values : (a b : List Val) → done a ≡ done b → b ≡ a
the_values a b h = cc

the_rest : (a b : List Token) → stuck a ≡ stuck b → b ≡ a
the_rest a b h = cc

settled : (k : List Symbol) (vs out : List Val) → settle k vs ≡ done out → Yields k vs [] out
settled [] vs out h = (refl, the_values vs out h)
settled (act a ∷ k) vs out h = settled k (apply a vs) out h
settled (tail l left ∷ k) vs out h = (0, [], vs, omega arith, (refl, refl), settled k vs out h)
settled (name_tail at x ∷ k) vs out h = (record { tree = tree.variable at x; next = []; grouped = tt; spelled = λ n g. ([], refl, g) }, omega arith, refl, settled k (of_expression (tree.variable at x) ∷ vs) out h)
settled (filter ∷ k) vs out h = (no_condition, [], tt, λ n g. g, settled k vs out h)
settled (more_tests ∷ k) vs out h = (no_condition, [], tt, λ n g. g, settled k vs out h)
settled (more_sets ∷ k) vs out h = (no_assignment, [], tt, λ n g. g, settled k vs out h)
settled (else_part ∷ k) vs out h = (no_else, [], tt, λ n g. g, settled k (of_else no_else ∷ vs) out h)
settled (declarations ∷ k) vs out h = ([], [], tt, λ n g. g, settled k vs out h)
settled (s ∷ k) vs out h = never_done [] out h

fed_back : (t : Token) (ts : List Token) (k : List Symbol) (vs out : List Val)
    → ((k : List Symbol) (vs : List Val) → run ts k vs ≡ done out → Yields k vs ts out)
    → (o : Option State) → feed t k vs ≡ o → fed t ts o (λ l us. run ts l us) ≡ done out → Yields k vs (t ∷ ts) out
fed_back t ts k vs out more None e h = never_done (t ∷ ts) out h
fed_back t ts k vs out more (Some s) e h = back t k vs s e ts out (more s.0 s.1 h)

pub done_back : (ts : List Token) (k : List Symbol) (vs out : List Val) → run ts k vs ≡ done out → Yields k vs ts out
done_back [] k vs out h = settled k vs out h
done_back (t ∷ ts) k vs out h = fed_back t ts k vs out (λ l us g. done_back ts l us out g) (feed t k vs) refl h

-- ---- each stack can be completed

pub record Completion (k : List Symbol) (vs : List Val) : Type 0 where
  pub tokens : List Token
  pub out : List Val
  pub real : AreSpelled tokens
  pub yields : Yields k vs tokens out

x_name : Name
x_name = record { at = 0; text = codes "x" }

by_zero : (ts : List Token) → Read (token 0 (kind.number (pos 0)) ∷ ts)
by_zero ts = record { tree = number 0 (pos 0); next = ts; grouped = tt; spelled = λ n g. (ts, refl, g) }

zero_level : (ts : List Token) → level (by_zero ts).tree ≤ 0
unfolding by_zero
zero_level ts = omega arith

pub completed : (k : List Symbol) (vs : List Val) → Completion k vs
unfolding x_name by_zero
completed [] vs = record { tokens = []; out = vs; real = tt; yields = (refl, refl) }
completed (act a ∷ k) vs = let c = completed k (apply a vs) in record { tokens = c.tokens; out = c.out; real = c.real; yields = c.yields }
completed (word v ∷ k) vs = let c = completed k vs in record { tokens = token 0 (kind.fixed v) ∷ c.tokens; out = c.out; real = (word_spelled v, c.real); yields = (0, c.tokens, refl, c.yields) }
completed (a_name ∷ k) vs = let c = completed k (of_name x_name ∷ vs) in record { tokens = token 0 (kind.name (codes "x")) ∷ c.tokens; out = c.out; real = (name_spelled, c.real); yields = (x_name, c.tokens, refl, c.yields) }
completed (a_path ∷ k) vs =
    let x : Name = record { at = 0; text = [] } in
    let c = completed k (of_name x ∷ vs) in record { tokens = token 0 (kind.text []) ∷ c.tokens; out = c.out; real = (text_spelled, c.real); yields = (x, c.tokens, refl, c.yields) }
completed (a_comparison ∷ k) vs = let c = completed k (of_comparison compared.Equal ∷ vs) in record { tokens = token 0 (kind.fixed w.Equal) ∷ c.tokens; out = c.out; real = (word_spelled w.Equal, c.real); yields = (compared.Equal, 0, c.tokens, refl, c.yields) }
completed (operand l ∷ k) vs = let c = completed k (of_expression (number 0 (pos 0)) ∷ vs) in record { tokens = token 0 (kind.number (pos 0)) ∷ c.tokens; out = c.out; real = (zero_spelled, c.real); yields = (by_zero c.tokens, omega arith, c.yields) }
completed (prefixes left ∷ k) vs = let c = completed k (of_expression (number 0 (pos 0)) ∷ vs) in record { tokens = token 0 (kind.number (pos 0)) ∷ c.tokens; out = c.out; real = (zero_spelled, c.real); yields = λ b. (by_zero c.tokens, omega arith, omega arith, c.yields) }
completed (atom ∷ k) vs = let c = completed k (of_expression (number 0 (pos 0)) ∷ vs) in record { tokens = token 0 (kind.number (pos 0)) ∷ c.tokens; out = c.out; real = (zero_spelled, c.real); yields = (by_zero c.tokens, omega arith, refl, c.yields) }
completed (tail l left ∷ k) vs = let c = completed k vs in record { tokens = c.tokens; out = c.out; real = c.real; yields = (0, c.tokens, vs, omega arith, (refl, refl), c.yields) }
completed (name_tail at x ∷ k) vs =
    let c = completed k (of_expression (tree.variable at x) ∷ vs) in
    record { tokens = c.tokens; out = c.out; real = c.real; yields = (record { tree = tree.variable at x; next = c.tokens; grouped = tt; spelled = λ n g. (c.tokens, refl, g) }, omega arith, refl, c.yields) }
completed (arguments close ∷ k) vs = let c = completed k vs in record { tokens = token 0 (kind.fixed close) ∷ c.tokens; out = c.out; real = (word_spelled close, c.real); yields = (no_expression, c.tokens, tt, λ n g. (0, c.tokens, refl, g), c.yields) }
completed (more_arguments close ∷ k) vs = let c = completed k vs in record { tokens = token 0 (kind.fixed close) ∷ c.tokens; out = c.out; real = (word_spelled close, c.real); yields = (no_expression, c.tokens, tt, λ n g. (0, c.tokens, refl, g), c.yields) }
completed (parameters ∷ k) vs = let c = completed k vs in record { tokens = token 0 (kind.fixed w.Close) ∷ c.tokens; out = c.out; real = (word_spelled w.Close, c.real); yields = ([], c.tokens, λ n g. (0, c.tokens, refl, g), c.yields) }
completed (more_names close ∷ k) vs = let c = completed k vs in record { tokens = token 0 (kind.fixed close) ∷ c.tokens; out = c.out; real = (word_spelled close, c.real); yields = ([], c.tokens, λ n g. (0, c.tokens, refl, g), c.yields) }
completed (a_query ∷ k) vs =
    let q : Query = delete 0 x_name no_condition in
    let c = completed k (of_query q ∷ vs) in
    record {
      tokens = token 0 (kind.fixed w.Delete) ∷ token 0 (kind.name (codes "x")) ∷ token 0 (kind.fixed w.Semicolon) ∷ c.tokens;
      out = c.out;
      real = (word_spelled w.Delete, (name_spelled, (word_spelled w.Semicolon, c.real)));
      yields = (q, c.tokens, tt, λ n g. (token 0 (kind.name (codes "x")) ∷ token 0 (kind.fixed w.Semicolon) ∷ c.tokens, refl, (token 0 (kind.fixed w.Semicolon) ∷ c.tokens, refl, (0, c.tokens, refl, g))), c.yields);
    }
completed (more_queries ∷ k) vs = let c = completed k vs in record { tokens = token 0 (kind.fixed w.BraceClose) ∷ c.tokens; out = c.out; real = (word_spelled w.BraceClose, c.real); yields = (no_query, c.tokens, tt, λ n g. (0, c.tokens, refl, g), c.yields) }
completed (filter ∷ k) vs = let c = completed k vs in record { tokens = c.tokens; out = c.out; real = c.real; yields = (no_condition, c.tokens, tt, λ n g. g, c.yields) }
completed (more_tests ∷ k) vs = let c = completed k vs in record { tokens = c.tokens; out = c.out; real = c.real; yields = (no_condition, c.tokens, tt, λ n g. g, c.yields) }
completed (more_sets ∷ k) vs = let c = completed k vs in record { tokens = c.tokens; out = c.out; real = c.real; yields = (no_assignment, c.tokens, tt, λ n g. g, c.yields) }
completed (a_statement ∷ k) vs =
    let s : Statement = do_ 0 (number 0 (pos 0)) in
    let c = completed k (of_statement s ∷ vs) in
    record {
      tokens = token 0 (kind.fixed w.Do) ∷ token 0 (kind.number (pos 0)) ∷ token 0 (kind.fixed w.Semicolon) ∷ c.tokens;
      out = c.out;
      real = (word_spelled w.Do, (zero_spelled, (word_spelled w.Semicolon, c.real)));
      yields = (s, c.tokens, tt, λ n g. (token 0 (kind.number (pos 0)) ∷ token 0 (kind.fixed w.Semicolon) ∷ c.tokens, refl, (token 0 (kind.fixed w.Semicolon) ∷ c.tokens, refl, (0, c.tokens, refl, g))), c.yields);
    }
completed (statements ∷ k) vs = let c = completed k vs in record { tokens = token 0 (kind.fixed w.BraceClose) ∷ c.tokens; out = c.out; real = (word_spelled w.BraceClose, c.real); yields = (no_statement, c.tokens, tt, λ n g. (0, c.tokens, refl, g), c.yields) }
completed (else_part ∷ k) vs = let c = completed k (of_else no_else ∷ vs) in record { tokens = c.tokens; out = c.out; real = c.real; yields = (no_else, c.tokens, tt, λ n g. g, c.yields) }
completed (declarations ∷ k) vs = let c = completed k vs in record { tokens = c.tokens; out = c.out; real = c.real; yields = ([], c.tokens, tt, λ n g. g, c.yields) }

-- ---- where the machine is stuck

-- what was read before can be completed, and no tokens that go on with the same one do better
pub record StuckAt (ts : List Token) (k : List Symbol) (vs : List Val) (rest : List Token) : Type 0 where
  pub read : List Token
  pub split : ts ≡ read ++ rest
  pub more : List Token
  pub out : List Val
  pub real : AreSpelled more
  pub yields : Yields k vs (read ++ more) out
  pub none : (t : Token) (r l : List Token) → rest ≡ t ∷ r → run (read ++ t ∷ l) k vs ≡ stuck (t ∷ l)

no_cons : {P : Type 0} (u : Token) (q : List Token) → [] ≡ u ∷ q → P
no_cons u q h = cc

none_left : (k : List Symbol) (vs : List Val) (rest : List Token) → settle k vs ≡ stuck rest → rest ≡ []
none_left [] vs rest h = never_stuck rest vs h
none_left (act a ∷ k) vs rest h = none_left k (apply a vs) rest h
none_left (tail l left ∷ k) vs rest h = none_left k vs rest h
none_left (name_tail at x ∷ k) vs rest h = none_left k (of_expression (tree.variable at x) ∷ vs) rest h
none_left (filter ∷ k) vs rest h = none_left k vs rest h
none_left (more_tests ∷ k) vs rest h = none_left k vs rest h
none_left (more_sets ∷ k) vs rest h = none_left k vs rest h
none_left (else_part ∷ k) vs rest h = none_left k (of_else no_else ∷ vs) rest h
none_left (declarations ∷ k) vs rest h = none_left k vs rest h
none_left (s ∷ k) vs rest h = the_rest [] rest h

refused : (t : Token) (ts : List Token) (k : List Symbol) (vs : List Val) (u : Token) (q l : List Token)
    → feed t k vs ≡ None → t ∷ ts ≡ u ∷ q → run (u ∷ l) k vs ≡ stuck (u ∷ l)
refused t ts k vs u q l e h =
    let v : u ≡ t = cc in
    rw v (ap (λ o. fed t l o (λ m us. run l m us)) e)

fed_stuck : (t : Token) (ts : List Token) (k : List Symbol) (vs : List Val) (rest : List Token)
    → ((k : List Symbol) (vs : List Val) → run ts k vs ≡ stuck rest → StuckAt ts k vs rest)
    → (o : Option State) → feed t k vs ≡ o → fed t ts o (λ l us. run ts l us) ≡ stuck rest → StuckAt (t ∷ ts) k vs rest
fed_stuck t ts k vs rest more None e h =
    let r : rest ≡ t ∷ ts = the_rest (t ∷ ts) rest h in
    let c = completed k vs in
    record { read = []; split = sym r; more = c.tokens; out = c.out; real = c.real; yields = c.yields; none = λ u q l g. refused t ts k vs u q l e (sym r ∙ g) }
fed_stuck t ts k vs rest more (Some s) e h =
    let m : StuckAt ts s.0 s.1 rest = more s.0 s.1 h in
    record {
      read = t ∷ m.read;
      split = ap (λ l. t ∷ l) m.split;
      more = m.more;
      out = m.out;
      real = m.real;
      yields = back t k vs s e (m.read ++ m.more) m.out m.yields;
      none = λ u q l g. ap (λ o. fed t (m.read ++ u ∷ l) o (λ z us. run (m.read ++ u ∷ l) z us)) e ∙ m.none u q l g;
    }

pub stuck_at : (ts : List Token) (k : List Symbol) (vs : List Val) (rest : List Token) → run ts k vs ≡ stuck rest → StuckAt ts k vs rest
stuck_at [] k vs rest h =
    let r : rest ≡ [] = none_left k vs rest h in
    let c = completed k vs in
    record { read = []; split = sym r; more = c.tokens; out = c.out; real = c.real; yields = c.yields; none = λ u q l g. no_cons u q (sym r ∙ g) }
stuck_at (t ∷ ts) k vs rest h = fed_stuck t ts k vs rest (λ l us g. stuck_at ts l us rest g) (feed t k vs) refl h

-- ---- whole files

abbrev start : List Symbol
start = declarations ∷ []

abbrev none_yet : List Val
none_yet = of_declarations [] ∷ []

before_nothing : (ds : List Declaration) → declarations_before ds [] ≡ declarations_spelling ds
before_nothing [] = refl
before_nothing (d ∷ ds) = ap (declaration_spelling d) (before_nothing ds)

pub whole_back : (ts : List Token) (out : List Val) → Yields start none_yet ts out
    → (ds : List Declaration) × (out ≡ of_declarations ds ∷ []) × IsTreeOf ts (program_of ds)
whole_back ts out y = (
  y.0,
  y.4.1 ∙ all_declarations y.0 [] [],
  record { spelled = subst (λ z. AreTokens z ts) (before_nothing y.0) (y.3 [] y.4.0); grouped = y.2 },
)

begins_before : (read more : List Token) (out : List Val) → AreSpelled more → Yields start none_yet (read ++ more) out → Begins read
begins_before read more out real y = let p = whole_back (read ++ more) out y in record { more = more; tree = program_of p.0; real = real; whole = p.2 }

pub begins_whole : (ts read : List Token) → ts ≡ read ++ [] → Begins read → Begins ts
begins_whole ts read e b = let q : read ≡ ts = sym (append-nil read) ∙ sym e in subst Begins q b

-- what the machine's outcome says of the tokens
abbrev pub Answers : List Token → Parsing → Type 0
Answers ts (done out) = (ds : List Declaration) × (out ≡ of_declarations ds ∷ []) × IsTreeOf ts (program_of ds)
Answers ts (stuck rest) = IsFaultAt ts rest

first_version : (v : Version) → First ≡ v
first_version First = refl

-- a program is of the first version, since there is no other
of_first : (tree : Program) → program_of tree.declarations ≡ tree
of_first tree = ap (λ v. record { version = v; declarations = tree.declarations }) (first_version tree.version)

first_read : (ts : List Token) (ds : List Declaration) → IsTreeOf ts (program_of ds) → run_file ts ≡ done (of_declarations ds ∷ [])
first_read ts ds h = whole_read ts ds h.spelled h.grouped

pub tree_read : (ts : List Token) (tree : Program) → IsTreeOf ts tree → run_file ts ≡ done (of_declarations tree.declarations ∷ [])
tree_read ts tree h = first_read ts tree.declarations (subst (IsTreeOf ts) (sym (of_first tree)) h)

exact_of : (ts : List Token) (o : Parsing) → run_file ts ≡ o → Answers ts o
exact_of ts (done out) h = whole_back ts out (done_back ts start none_yet out h)
exact_of ts (stuck []) h =
    let s : StuckAt ts start none_yet [] = stuck_at ts start none_yet [] h in (
      begins_whole ts s.read s.split (begins_before s.read s.more s.out s.real s.yields),
      λ tree g. never_stuck [] (of_declarations tree.declarations ∷ []) (sym (tree_read ts tree g) ∙ h),
    )
exact_of ts (stuck (t ∷ r)) h =
    let s : StuckAt ts start none_yet (t ∷ r) = stuck_at ts start none_yet (t ∷ r) h in (
      s.read,
      s.split,
      begins_before s.read s.more s.out s.real s.yields,
      λ b. never_done (t ∷ b.more) (of_declarations b.tree.declarations ∷ [])
          (sym (s.none t r b.more refl) ∙ tree_read (s.read ++ t ∷ b.more) b.tree
          (subst (λ z. IsTreeOf z b.tree) (append_assoc s.read (t ∷ []) b.more) b.whole)),
    )

pub exact : (ts : List Token) → Answers ts (run_file ts)
exact ts = exact_of ts (run_file ts) refl

same_declarations : (x y : List Declaration) → done (of_declarations x ∷ []) ≡ done (of_declarations y ∷ []) → x ≡ y
same_declarations x y h = cc

pub one_tree : (ts : List Token) (x y : Program) → IsTreeOf ts x → IsTreeOf ts y → x ≡ y
one_tree ts x y p q =
    let e : x.declarations ≡ y.declarations = same_declarations x.declarations y.declarations (sym (tree_read ts x p) ∙ tree_read ts y q) in
    sym (of_first x) ∙ ap program_of e ∙ of_first y
