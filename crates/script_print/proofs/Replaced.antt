-- Tokens of the kinds of a tree's own spell a tree that is the same but for its places.
use Rattle.std.proofs.Common.{◌≡◌, List, [], ◌∷◌, refl, sym, ap}
use Rattle.script_tree.specs.Syntax.{Statement, let_, set_, if_, while_, for_, echo, status, return, do_, Else, no_else, else_, Statements, no_statement, statement}
use Rattle.script_tree.specs.declared.syntax.declaration.Declaration.{Declaration}
use Rattle.script_tree.specs.declared.syntax.declaration.Declaration.TheVariants as declared
use Rattle.script_tree.specs.declared.syntax.tree.Version.{Version}
use Rattle.script_tree.specs.declared.syntax.tree.Version.TheVariants as version
use Rattle.script_tokens.specs.Kinds.{Token}
use Rattle.script_tokens.specs.declared.word.Word.TheVariants as w
use Rattle.script_grammar.specs.Spelling.{Mark, word, statement_spelling, else_spelling, statements_spelling, block_spelling, declaration_spelling, declarations_spelling, marks_in, AreTokens}
use Rattle.script_grammar.specs.Grouping.{IsGroupedStatement, IsGroupedElse, AreGroupedStatements, IsGroupedBlock, IsGroupedDeclaration, AreGroupedDeclarations}
use Rattle.script_print.specs.Placeless.{placeless_name, placeless_statement, placeless_else, placeless_statements, placeless_declaration, placeless_declarations}
use Rattle.script_print.specs.TreePrints.{kinds_of}
use Rattle.script_print.proofs.Scanned.{kinds}
use Rattle.script_print.proofs.ReplacedExpressions.{First, no_kind, first, Again, bare_block, moved, both, three, some_name, names_replaced, replaced}

-- ---- statements

mutual
  pub statement_replaced : (e : Statement) (n : List Mark) (ts : List Token) → IsGroupedStatement e
      → kinds ts ≡ kinds_of (statement_spelling e n)
      → Again statement_spelling placeless_statement IsGroupedStatement e n ts
  statement_replaced (let_ at x e) n ts g q =
      let key = first ts q in
      let name_token = first key.rest key.others in
      let becomes_token = first name_token.rest name_token.others in
      let e_again = replaced e (word w.Semicolon ∷ n) becomes_token.rest g becomes_token.others in
      let semicolon_token = first e_again.left e_again.others in
      record {
        tree = let_ key.at (moved name_token.at x) e_again.tree;
        left = semicolon_token.rest;
        others = semicolon_token.others;
        spelled = λ m h. (key.rest, key.is, (name_token.rest, name_token.is, (becomes_token.at, becomes_token.rest, becomes_token.is, e_again.spelled (word w.Semicolon ∷ m) (semicolon_token.at, semicolon_token.rest, semicolon_token.is, h))));
        fit = e_again.fit;
        same = ap (let_ 0 (placeless_name x)) e_again.same;
      }
  statement_replaced (set_ at x e) n ts g q =
      let key = first ts q in
      let name_token = first key.rest key.others in
      let becomes_token = first name_token.rest name_token.others in
      let e_again = replaced e (word w.Semicolon ∷ n) becomes_token.rest g becomes_token.others in
      let semicolon_token = first e_again.left e_again.others in
      record {
        tree = set_ key.at (moved name_token.at x) e_again.tree;
        left = semicolon_token.rest;
        others = semicolon_token.others;
        spelled = λ m h. (key.rest, key.is, (name_token.rest, name_token.is, (becomes_token.at, becomes_token.rest, becomes_token.is, e_again.spelled (word w.Semicolon ∷ m) (semicolon_token.at, semicolon_token.rest, semicolon_token.is, h))));
        fit = e_again.fit;
        same = ap (set_ 0 (placeless_name x)) e_again.same;
      }
  statement_replaced (if_ at e body other) n ts g q =
      let key = first ts q in
      let e_again = replaced e (word w.BraceOpen ∷ statements_spelling body (word w.BraceClose ∷ else_spelling other n)) key.rest g.0 key.others in
      let brace_open_token = first e_again.left e_again.others in
      let body_again = statements_replaced body (word w.BraceClose ∷ else_spelling other n) brace_open_token.rest g.1 brace_open_token.others in
      let brace_close_token = first body_again.left body_again.others in
      let other_again = else_replaced other n brace_close_token.rest g.2 brace_close_token.others in
      record {
        tree = if_ key.at e_again.tree body_again.tree other_again.tree;
        left = other_again.left;
        others = other_again.others;
        spelled = λ m h. (
          key.rest,
          key.is,
          e_again.spelled
              (word w.BraceOpen ∷ statements_spelling body_again.tree
              (word w.BraceClose ∷ else_spelling other_again.tree m)) (
                brace_open_token.at,
                brace_open_token.rest,
                brace_open_token.is,
                body_again.spelled (word w.BraceClose ∷ else_spelling other_again.tree m)
                    (brace_close_token.at, brace_close_token.rest, brace_close_token.is, other_again.spelled m h),
              ),
        );
        fit = (e_again.fit, body_again.fit, other_again.fit);
        same = three (if_ 0) e_again.same body_again.same other_again.same;
      }
  statement_replaced (while_ at e body) n ts g q =
      let key = first ts q in
      let e_again = replaced e (word w.BraceOpen ∷ statements_spelling body (word w.BraceClose ∷ n)) key.rest g.0 key.others in
      let brace_open_token = first e_again.left e_again.others in
      let body_again = statements_replaced body (word w.BraceClose ∷ n) brace_open_token.rest g.1 brace_open_token.others in
      let brace_close_token = first body_again.left body_again.others in
      record {
        tree = while_ key.at e_again.tree body_again.tree;
        left = brace_close_token.rest;
        others = brace_close_token.others;
        spelled = λ m h. (
          key.rest,
          key.is,
          e_again.spelled
              (word w.BraceOpen ∷ statements_spelling body_again.tree (word w.BraceClose ∷ m)) (
                brace_open_token.at,
                brace_open_token.rest,
                brace_open_token.is,
                body_again.spelled (word w.BraceClose ∷ m)
                    (brace_close_token.at, brace_close_token.rest, brace_close_token.is, h),
              ),
        );
        fit = (e_again.fit, body_again.fit);
        same = both (while_ 0) e_again.same body_again.same;
      }
  statement_replaced (for_ at x e body) n ts g q =
      let key = first ts q in
      let name_token = first key.rest key.others in
      let in_token = first name_token.rest name_token.others in
      let e_again = replaced e (word w.BraceOpen ∷ statements_spelling body (word w.BraceClose ∷ n)) in_token.rest g.0 in_token.others in
      let brace_open_token = first e_again.left e_again.others in
      let body_again = statements_replaced body (word w.BraceClose ∷ n) brace_open_token.rest g.1 brace_open_token.others in
      let brace_close_token = first body_again.left body_again.others in
      record {
        tree = for_ key.at (moved name_token.at x) e_again.tree body_again.tree;
        left = brace_close_token.rest;
        others = brace_close_token.others;
        spelled = λ m h. (key.rest, key.is, (name_token.rest, name_token.is, (in_token.at, in_token.rest, in_token.is, e_again.spelled (word w.BraceOpen ∷ statements_spelling body_again.tree (word w.BraceClose ∷ m)) (brace_open_token.at, brace_open_token.rest, brace_open_token.is, body_again.spelled (word w.BraceClose ∷ m) (brace_close_token.at, brace_close_token.rest, brace_close_token.is, h)))));
        fit = (e_again.fit, body_again.fit);
        same = both (for_ 0 (placeless_name x)) e_again.same body_again.same;
      }
  statement_replaced (echo at e) n ts g q =
      let key = first ts q in
      let e_again = replaced e (word w.Semicolon ∷ n) key.rest g key.others in
      let semicolon_token = first e_again.left e_again.others in
      record {
        tree = echo key.at e_again.tree;
        left = semicolon_token.rest;
        others = semicolon_token.others;
        spelled = λ m h. (key.rest, key.is, e_again.spelled (word w.Semicolon ∷ m) (semicolon_token.at, semicolon_token.rest, semicolon_token.is, h));
        fit = e_again.fit;
        same = ap (echo 0) e_again.same;
      }
  statement_replaced (status at e) n ts g q =
      let key = first ts q in
      let e_again = replaced e (word w.Semicolon ∷ n) key.rest g key.others in
      let semicolon_token = first e_again.left e_again.others in
      record {
        tree = status key.at e_again.tree;
        left = semicolon_token.rest;
        others = semicolon_token.others;
        spelled = λ m h. (key.rest, key.is, e_again.spelled (word w.Semicolon ∷ m) (semicolon_token.at, semicolon_token.rest, semicolon_token.is, h));
        fit = e_again.fit;
        same = ap (status 0) e_again.same;
      }
  statement_replaced (return at e) n ts g q =
      let key = first ts q in
      let e_again = replaced e (word w.Semicolon ∷ n) key.rest g key.others in
      let semicolon_token = first e_again.left e_again.others in
      record {
        tree = return key.at e_again.tree;
        left = semicolon_token.rest;
        others = semicolon_token.others;
        spelled = λ m h. (key.rest, key.is, e_again.spelled (word w.Semicolon ∷ m) (semicolon_token.at, semicolon_token.rest, semicolon_token.is, h));
        fit = e_again.fit;
        same = ap (return 0) e_again.same;
      }
  statement_replaced (do_ at e) n ts g q =
      let key = first ts q in
      let e_again = replaced e (word w.Semicolon ∷ n) key.rest g key.others in
      let semicolon_token = first e_again.left e_again.others in
      record {
        tree = do_ key.at e_again.tree;
        left = semicolon_token.rest;
        others = semicolon_token.others;
        spelled = λ m h. (key.rest, key.is, e_again.spelled (word w.Semicolon ∷ m) (semicolon_token.at, semicolon_token.rest, semicolon_token.is, h));
        fit = e_again.fit;
        same = ap (do_ 0) e_again.same;
      }

  pub else_replaced : (e : Else) (n : List Mark) (ts : List Token) → IsGroupedElse e
      → kinds ts ≡ kinds_of (else_spelling e n) → Again else_spelling placeless_else IsGroupedElse e n ts
  else_replaced no_else n ts g q =
      record { tree = no_else; left = ts; others = q; spelled = λ m h. h; fit = tt; same = refl }
  else_replaced (else_ body) n ts g q =
      let else_token = first ts q in
      let brace_open_token = first else_token.rest else_token.others in
      let body_again = statements_replaced body (word w.BraceClose ∷ n) brace_open_token.rest g brace_open_token.others in
      let brace_close_token = first body_again.left body_again.others in
      record {
        tree = else_ body_again.tree;
        left = brace_close_token.rest;
        others = brace_close_token.others;
        spelled = λ m h. (
          else_token.at,
          else_token.rest,
          else_token.is,
          (
            brace_open_token.at,
            brace_open_token.rest,
            brace_open_token.is,
            body_again.spelled (word w.BraceClose ∷ m)
                (brace_close_token.at, brace_close_token.rest, brace_close_token.is, h),
          ),
        );
        fit = body_again.fit;
        same = ap else_ body_again.same;
      }

  pub statements_replaced : (e : Statements) (n : List Mark) (ts : List Token) → AreGroupedStatements e
      → kinds ts ≡ kinds_of (statements_spelling e n)
      → Again statements_spelling placeless_statements AreGroupedStatements e n ts
  statements_replaced no_statement n ts g q =
      record { tree = no_statement; left = ts; others = q; spelled = λ m h. h; fit = tt; same = refl }
  statements_replaced (statement s ss) n ts g q =
      let s_again = statement_replaced s (statements_spelling ss n) ts g.0 q in
      let ss_again = statements_replaced ss n s_again.left g.1 s_again.others in
      record {
        tree = statement s_again.tree ss_again.tree;
        left = ss_again.left;
        others = ss_again.others;
        spelled = λ m h. s_again.spelled (statements_spelling ss_again.tree m) (ss_again.spelled m h);
        fit = (s_again.fit, ss_again.fit);
        same = both statement s_again.same ss_again.same;
      }

pub block_replaced : (e : List Statement) (n : List Mark) (ts : List Token) → IsGroupedBlock e
    → kinds ts ≡ kinds_of (block_spelling e n) → Again block_spelling bare_block IsGroupedBlock e n ts
block_replaced [] n ts g q =
    record { tree = []; left = ts; others = q; spelled = λ m h. h; fit = tt; same = refl }
block_replaced (s ∷ ss) n ts g q =
    let s_again = statement_replaced s (block_spelling ss n) ts g.0 q in
    let ss_again = block_replaced ss n s_again.left g.1 s_again.others in
    record {
      tree = s_again.tree ∷ ss_again.tree;
      left = ss_again.left;
      others = ss_again.others;
      spelled = λ m h. s_again.spelled (block_spelling ss_again.tree m) (ss_again.spelled m h);
      fit = (s_again.fit, ss_again.fit);
      same = both (λ x xs. x ∷ xs) s_again.same ss_again.same;
    }

-- ---- declarations

pub declaration_replaced : (e : Declaration) (n : List Mark) (ts : List Token) → IsGroupedDeclaration e
    → kinds ts ≡ kinds_of (declaration_spelling e n)
    → Again declaration_spelling placeless_declaration IsGroupedDeclaration e n ts
declaration_replaced (declared.Store at x) n ts g q =
    let key = first ts q in
    let name_token = first key.rest key.others in
    let semicolon_token = first name_token.rest name_token.others in
    record {
      tree = declared.Store key.at (moved name_token.at x);
      left = semicolon_token.rest;
      others = semicolon_token.others;
      spelled = λ m h. (key.rest, key.is, (name_token.rest, name_token.is, (semicolon_token.at, semicolon_token.rest, semicolon_token.is, h)));
      fit = tt;
      same = refl;
    }
declaration_replaced (declared.Table at x columns) n ts g q =
    let key = first ts q in
    let name_token = first key.rest key.others in
    let open_token = first name_token.rest name_token.others in
    let columns_again = names_replaced columns (word w.Close ∷ word w.Semicolon ∷ n) open_token.rest tt open_token.others in
    let close_token = first columns_again.left columns_again.others in
    let semicolon_token = first close_token.rest close_token.others in
    record {
      tree = declared.Table key.at (moved name_token.at x) columns_again.tree;
      left = semicolon_token.rest;
      others = semicolon_token.others;
      spelled = λ m h. (key.rest, key.is, (name_token.rest, name_token.is, (open_token.at, open_token.rest, open_token.is, columns_again.spelled (word w.Close ∷ word w.Semicolon ∷ m) (close_token.at, close_token.rest, close_token.is, (semicolon_token.at, semicolon_token.rest, semicolon_token.is, h)))));
      fit = some_name columns_again.tree columns columns_again.same g;
      same = ap (declared.Table 0 (placeless_name x)) columns_again.same;
    }
declaration_replaced (declared.Function at x parameters body) n ts g q =
    let key = first ts q in
    let name_token = first key.rest key.others in
    let open_token = first name_token.rest name_token.others in
    let parameters_again = names_replaced parameters (word w.Close ∷ word w.BraceOpen ∷ block_spelling body (word w.BraceClose ∷ n)) open_token.rest tt open_token.others in
    let close_token = first parameters_again.left parameters_again.others in
    let brace_open_token = first close_token.rest close_token.others in
    let body_again = block_replaced body (word w.BraceClose ∷ n) brace_open_token.rest g brace_open_token.others in
    let brace_close_token = first body_again.left body_again.others in
    record {
      tree = declared.Function key.at (moved name_token.at x) parameters_again.tree body_again.tree;
      left = brace_close_token.rest;
      others = brace_close_token.others;
      spelled = λ m h. (key.rest, key.is, (name_token.rest, name_token.is, (open_token.at, open_token.rest, open_token.is, parameters_again.spelled (word w.Close ∷ word w.BraceOpen ∷ block_spelling body_again.tree (word w.BraceClose ∷ m)) (close_token.at, close_token.rest, close_token.is, (brace_open_token.at, brace_open_token.rest, brace_open_token.is, body_again.spelled (word w.BraceClose ∷ m) (brace_close_token.at, brace_close_token.rest, brace_close_token.is, h))))));
      fit = body_again.fit;
      same = both (declared.Function 0 (placeless_name x)) parameters_again.same body_again.same;
    }
declaration_replaced (declared.Page at path body) n ts g q =
    let key = first ts q in
    let path_token = first key.rest key.others in
    let brace_open_token = first path_token.rest path_token.others in
    let body_again = block_replaced body (word w.BraceClose ∷ n) brace_open_token.rest g brace_open_token.others in
    let brace_close_token = first body_again.left body_again.others in
    record {
      tree = declared.Page key.at (moved path_token.at path) body_again.tree;
      left = brace_close_token.rest;
      others = brace_close_token.others;
      spelled = λ m h. (key.rest, key.is, (path_token.rest, path_token.is, (brace_open_token.at, brace_open_token.rest, brace_open_token.is, body_again.spelled (word w.BraceClose ∷ m) (brace_close_token.at, brace_close_token.rest, brace_close_token.is, h))));
      fit = body_again.fit;
      same = ap (declared.Page 0 (placeless_name path)) body_again.same;
    }

-- all declarations of a program of this version
pub record AgainWhole (v : Version) (part : List Declaration) (ts : List Token) : Type 0 where
  pub tree : List Declaration
  pub spelled : AreTokens (marks_in v tree) ts
  pub fit : AreGroupedDeclarations tree
  pub same : placeless_declarations tree ≡ placeless_declarations part

no_token : (ts : List Token) → kinds ts ≡ [] → ts ≡ []
no_token [] h = refl
no_token (t ∷ ts) h = absurd (no_kind t.kind (kinds ts) (sym h))

declarations_replaced : (ds : List Declaration) (ts : List Token) → AreGroupedDeclarations ds
    → kinds ts ≡ kinds_of (declarations_spelling ds) → AgainWhole version.First ds ts
declarations_replaced [] ts g q = record { tree = []; spelled = no_token ts q; fit = tt; same = refl }
declarations_replaced (d ∷ ds) ts g q =
    let d_again = declaration_replaced d (declarations_spelling ds) ts g.0 q in
    let ds_again = declarations_replaced ds d_again.left g.1 d_again.others in
    record {
      tree = d_again.tree ∷ ds_again.tree;
      spelled = d_again.spelled (declarations_spelling ds_again.tree) ds_again.spelled;
      fit = (d_again.fit, ds_again.fit);
      same = both (λ x xs. x ∷ xs) d_again.same ds_again.same;
    }

pub replaced_in : (v : Version) (ds : List Declaration) (ts : List Token) → AreGroupedDeclarations ds → kinds ts ≡ kinds_of (marks_in v ds) → AgainWhole v ds ts
replaced_in version.First ds ts g q = declarations_replaced ds ts g q
