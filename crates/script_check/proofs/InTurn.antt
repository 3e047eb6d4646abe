-- What a program declares, one declaration after another.
use Rattle.std.proofs.Common.{◌≡◌, ℕ, ◌+◌, List, [], ◌∷◌, ◌++◌, length, Bool, true, false, cond, ◌||◌, if◌then◌else◌, Option, Some, None, option_map, is_some, refl, sym, ap, ◌∙◌}
use Rattle.std.specs.BTreeMap as tree
use Rattle.std.specs.BTreeMap.{BTreeMap}
use Rattle.std.specs.Cmp.Lexicographic.{slice_cmp}
use Rattle.std.specs.Ordering.{nat_cmp, is_eq}
use Rattle.std.specs.BTreeSet as sorted
use Rattle.std.specs.BTreeSet.{BTreeSet}
use Rattle.std.specs.Str.{bytes_eq}
use denote.Ref.{Bor}
use Rattle.basis.specs.Lists.{or_else}
use Rattle.script_tree.specs.Declarations.{NumberedPage, page_from, table_from, function_from, DeclaredFunction, NumberedTable}
use Rattle.script_tree.specs.Fit.{declares_store}
use Rattle.script_tree.specs.Syntax.{Statement}
use Rattle.script_tree.specs.declared.syntax.declaration.Declaration.{Declaration}
use Rattle.script_tree.specs.declared.syntax.declaration.Declaration.TheVariants.{Store, Table, Function, Page}
use Rattle.script_tree.specs.declared.syntax.name.Name.{Name}
use Rattle.script_tree.specs.declared.syntax.tree.Version.{Version}
use Rattle.script_check.specs.Validity.{columns_in}
use Rattle.script_check.specs.Scopes.{holds}
use Rattle.script_check.specs.Indexes.{at_text, parameters_in, TellsStores, TellsTables, TellsFunctions, TellsPages, Puts}
use Rattle.script_check.specs.Passes.{store_twice, table_twice, function_twice, page_twice}
use Rattle.script_check.proofs.Names.{by_text, key, is_name, bytes_same, set_grows}

-- ---- stores

or_shift : (a b c d : Bool) → d ≡ (b || c) → (a || d) ≡ ((a || b) || c)
or_shift true b c d e = refl
or_shift false b c d e = e

store_snoc : (ds : List Declaration) (d : Declaration) (x : List ℕ) → declares_store (ds ++ d ∷ []) x ≡ (declares_store ds x || declares_store (d ∷ []) x)
store_snoc [] d x = refl
store_snoc (Store at name ∷ ds) d x = or_shift (bytes_eq x name.text) (declares_store ds x)
    (declares_store (d ∷ []) x) (declares_store (ds ++ d ∷ []) x) (store_snoc ds d x)
store_snoc (Table at name columns ∷ ds) d x = store_snoc ds d x
store_snoc (Function at name parameters body ∷ ds) d x = store_snoc ds d x
store_snoc (Page at path body ∷ ds) d x = store_snoc ds d x

or_comm : (a b : Bool) → (a || b) ≡ (b || (a || false))
or_comm true true = refl
or_comm true false = refl
or_comm false true = refl
or_comm false false = refl

or_none : (a : Bool) → a ≡ (a || false)
or_none true = refl
or_none false = refl

pub store_more : (ds : List Declaration) (d : Declaration) (at : ℕ) (name : Name) (text : Bor (List ℕ))
    (s n : BTreeSet (Bor (List ℕ))) → d ≡ Store at name → text.now ≡ name.text → TellsStores ds s
    → sorted.UpdatesBy by_text (by_text text) s n true → TellsStores (ds ++ d ∷ []) n
store_more ds d at name text s n is same told u x =
    set_grows s n text u x
    ∙ ap (λ t. bytes_eq x t || holds s x) same
    ∙ ap (λ b. bytes_eq x name.text || b) (told x)
    ∙ or_comm (bytes_eq x name.text) (declares_store ds x)
    ∙ sym (store_snoc ds (Store at name) x)
    ∙ ap (λ e. declares_store (ds ++ e ∷ []) x) (sym is)

pub store_same : (ds : List Declaration) (d : Declaration) (s : BTreeSet (Bor (List ℕ)))
    → ((at : ℕ) (name : Name) → d ≡ Store at name → ⊥) → TellsStores ds s → TellsStores (ds ++ d ∷ []) s
store_same ds (Store at name) s differs told x = absurd (differs at name refl)
store_same ds (Table at name columns) s differs told x = told x ∙ or_none (declares_store ds x) ∙ sym (store_snoc ds (Table at name columns) x)
store_same ds (Function at name parameters body) s differs told x = told x ∙ or_none (declares_store ds x)
    ∙ sym (store_snoc ds (Function at name parameters body) x)
store_same ds (Page at path body) s differs told x = told x ∙ or_none (declares_store ds x) ∙ sym (store_snoc ds (Page at path body) x)

pub no_store : (earlier : List Declaration) (d : Declaration) → ((at : ℕ) (name : Name) → d ≡ Store at name → ⊥) → store_twice earlier d ≡ []
no_store earlier (Store at name) differs = absurd (differs at name refl)
no_store earlier (Table at name columns) differs = refl
no_store earlier (Function at name parameters body) differs = refl
no_store earlier (Page at path body) differs = refl

-- ---- tables

abbrev columns_of : Option NumberedTable → Option (List Name)
columns_of o = option_map (λ table. table.columns) o

if_columns : (b : Bool) (n m : ℕ) (columns : List Name) (o p : Option NumberedTable) → columns_of o ≡ columns_of p
    → columns_of (if b then Some (record { number = n; columns = columns }) else o)
    ≡ columns_of (if b then Some (record { number = m; columns = columns }) else p)
if_columns true n m columns o p e = refl
if_columns false n m columns o p e = e

-- the number doesn't matter
renumbered : (ds : List Declaration) (n m : ℕ) (x : List ℕ) → columns_of (table_from n x ds) ≡ columns_of (table_from m x ds)
renumbered [] n m x = refl
renumbered (Store at name ∷ ds) n m x = renumbered ds n m x
renumbered (Table at name columns ∷ ds) n m x =
    if_columns (bytes_eq x name.text) n m columns (table_from (n + 1) x ds) (table_from (m + 1) x ds)
    (renumbered ds (n + 1) (m + 1) x)
renumbered (Function at name parameters body ∷ ds) n m x = renumbered ds n m x
renumbered (Page at path body ∷ ds) n m x = renumbered ds n m x

if_snoc : (b : Bool) (n : ℕ) (columns : List Name) (o p : Option NumberedTable) (last : Option (List Name)) → columns_of o ≡ or_else (columns_of p) last
    → columns_of (if b then Some (record { number = n; columns = columns }) else o)
    ≡ or_else (columns_of (if b then Some (record { number = n; columns = columns }) else p)) last
unfolding or_else
if_snoc true n columns o p last e = refl
if_snoc false n columns o p last e = e

table_snoc : (ds : List Declaration) (d : Declaration) (n : ℕ) (x : List ℕ)
    → columns_of (table_from n x (ds ++ d ∷ [])) ≡ or_else (columns_of (table_from n x ds)) (columns_in (d ∷ []) x)
unfolding or_else
table_snoc [] d n x = renumbered (d ∷ []) n 0 x
table_snoc (Store at name ∷ ds) d n x = table_snoc ds d n x
table_snoc (Table at name columns ∷ ds) d n x =
    if_snoc (bytes_eq x name.text) n columns (table_from (n + 1) x (ds ++ d ∷ [])) (table_from (n + 1) x ds)
    (columns_in (d ∷ []) x) (table_snoc ds d (n + 1) x)
table_snoc (Function at name parameters body ∷ ds) d n x = table_snoc ds d n x
table_snoc (Page at path body ∷ ds) d n x = table_snoc ds d n x

or_else_none : {A : Type 0} (o : Option A) → o ≡ or_else o None
unfolding or_else
or_else_none (Some x) = refl
or_else_none None = refl

if_some : (b : Bool) (columns : List Name)
    → ◌≡◌ {A = Option (List Name)} (if b then Some columns else None)
    (columns_of (if b then Some (record { number = 0; columns = columns }) else None))
if_some true columns = refl
if_some false columns = refl

pub table_more : (ds : List Declaration) (d : Declaration) (at : ℕ) (name : Name) (columns : List Name)
    (s n : BTreeMap (Bor (List ℕ)) (List Name)) → d ≡ Table at name columns → TellsTables ds s
    → Puts name.text columns s n → TellsTables (ds ++ d ∷ []) n
table_more ds d at name columns s n is told puts x =
    puts x
    ∙ ap (λ o. or_else o (if bytes_eq x name.text then Some columns else None)) (told x)
    ∙ ap (or_else (columns_in ds x)) (if_some (bytes_eq x name.text) columns)
    ∙ sym (table_snoc ds (Table at name columns) 0 x)
    ∙ ap (λ e. columns_in (ds ++ e ∷ []) x) (sym is)

pub table_same : (ds : List Declaration) (d : Declaration) (s : BTreeMap (Bor (List ℕ)) (List Name))
    → ((at : ℕ) (name : Name) (columns : List Name) → d ≡ Table at name columns → ⊥) → TellsTables ds s
    → TellsTables (ds ++ d ∷ []) s
table_same ds (Store at name) s differs told x = told x ∙ or_else_none (columns_in ds x) ∙ sym (table_snoc ds (Store at name) 0 x)
table_same ds (Table at name columns) s differs told x = absurd (differs at name columns refl)
table_same ds (Function at name parameters body) s differs told x = told x ∙ or_else_none (columns_in ds x)
    ∙ sym (table_snoc ds (Function at name parameters body) 0 x)
table_same ds (Page at path body) s differs told x = told x ∙ or_else_none (columns_in ds x) ∙ sym (table_snoc ds (Page at path body) 0 x)

pub no_table : (earlier : List Declaration) (d : Declaration)
    → ((at : ℕ) (name : Name) (columns : List Name) → d ≡ Table at name columns → ⊥) → table_twice earlier d ≡ []
no_table earlier (Store at name) differs = refl
no_table earlier (Table at name columns) differs = absurd (differs at name columns refl)
no_table earlier (Function at name parameters body) differs = refl
no_table earlier (Page at path body) differs = refl

-- ---- functions

abbrev count_of : Option DeclaredFunction → Option ℕ
count_of o = option_map (λ found. length found.parameters) o

if_function : (b : Bool) (parameters : List Name) (body : List Statement) (o p : Option DeclaredFunction)
    (last : Option ℕ) → count_of o ≡ or_else (count_of p) last
    → count_of (if b then Some (record { parameters = parameters; body = body }) else o)
    ≡ or_else (count_of (if b then Some (record { parameters = parameters; body = body }) else p)) last
unfolding or_else
if_function true parameters body o p last e = refl
if_function false parameters body o p last e = e

function_snoc : (ds : List Declaration) (d : Declaration) (x : List ℕ)
    → parameters_in (ds ++ d ∷ []) x ≡ or_else (parameters_in ds x) (parameters_in (d ∷ []) x)
unfolding or_else
function_snoc [] d x = refl
function_snoc (Store at name ∷ ds) d x = function_snoc ds d x
function_snoc (Table at name columns ∷ ds) d x = function_snoc ds d x
function_snoc (Function at name parameters body ∷ ds) d x =
    if_function (bytes_eq x name.text) parameters body (function_from x (ds ++ d ∷ [])) (function_from x ds)
    (parameters_in (d ∷ []) x) (function_snoc ds d x)
function_snoc (Page at path body ∷ ds) d x = function_snoc ds d x

if_count : (b : Bool) (parameters : List Name) (body : List Statement)
    → ◌≡◌ {A = Option ℕ} (if b then Some (length parameters) else None)
    (count_of (if b then Some (record { parameters = parameters; body = body }) else None))
if_count true parameters body = refl
if_count false parameters body = refl

pub function_more : (ds : List Declaration) (d : Declaration) (at : ℕ) (name : Name) (parameters : List Name)
    (body : List Statement) (count : ℕ) (s n : BTreeMap (Bor (List ℕ)) ℕ) → d ≡ Function at name parameters body
    → count ≡ length parameters → TellsFunctions ds s → Puts name.text count s n → TellsFunctions (ds ++ d ∷ []) n
function_more ds d at name parameters body count s n is many told puts x =
    puts x
    ∙ ap (λ o. or_else o (if bytes_eq x name.text then Some count else None)) (told x)
    ∙ ap (λ m. or_else (parameters_in ds x) (if bytes_eq x name.text then Some m else None)) many
    ∙ ap (or_else (parameters_in ds x)) (if_count (bytes_eq x name.text) parameters body)
    ∙ sym (function_snoc ds (Function at name parameters body) x)
    ∙ ap (λ e. parameters_in (ds ++ e ∷ []) x) (sym is)

pub function_same : (ds : List Declaration) (d : Declaration) (s : BTreeMap (Bor (List ℕ)) ℕ)
    → ((at : ℕ) (name : Name) (parameters : List Name) (body : List Statement) → d ≡ Function at name parameters body
    → ⊥) → TellsFunctions ds s → TellsFunctions (ds ++ d ∷ []) s
function_same ds (Store at name) s differs told x = told x ∙ or_else_none (parameters_in ds x) ∙ sym (function_snoc ds (Store at name) x)
function_same ds (Table at name columns) s differs told x = told x ∙ or_else_none (parameters_in ds x) ∙ sym (function_snoc ds (Table at name columns) x)
function_same ds (Function at name parameters body) s differs told x = absurd (differs at name parameters body refl)
function_same ds (Page at path body) s differs told x = told x ∙ or_else_none (parameters_in ds x) ∙ sym (function_snoc ds (Page at path body) x)

pub no_function : (version : Version) (earlier : List Declaration) (d : Declaration)
    → ((at : ℕ) (name : Name) (parameters : List Name) (body : List Statement) → d ≡ Function at name parameters body
    → ⊥) → function_twice version earlier d ≡ []
no_function version earlier (Store at name) differs = refl
no_function version earlier (Table at name columns) differs = refl
no_function version earlier (Function at name parameters body) differs = absurd (differs at name parameters body refl)
no_function version earlier (Page at path body) differs = refl

-- ---- the first declaration of a name counts

or_else_some : {A : Type 0} (o : Option A) (p : Option A) → is_some o ≡ true → o ≡ or_else o p
unfolding or_else
or_else_some (Some x) p e = refl
or_else_some None p e = cc

is_none : {A : Type 0} (o : Option A) (b : Bool) → b ≡ is_some o → b ≡ false → o ≡ None
is_none (Some x) b p q = cc
is_none None b p q = refl

put_at : {A : Type 0} (map : BTreeMap (Bor (List ℕ)) A) (x name : List ℕ) (v : A) (a b : Bool) → bytes_eq x name ≡ b
    → a ≡ b → at_text map name ≡ None → cond a (Some v) (at_text map x)
    ≡ or_else (at_text map x) (if b then Some v else None)
unfolding or_else
put_at map x name v true true e same none = rw (ap (at_text map) (bytes_same x name e) ∙ none) refl
put_at map x name v true false e same none = cc
put_at map x name v false true e same none = cc
put_at map x name v false false e same none = or_else_none (at_text map x)

pub puts_new : {A : Type 0} (map after : BTreeMap (Bor (List ℕ)) A) (text : Bor (List ℕ)) (name : List ℕ) (v : A)
    (known : Bool) → text.now ≡ name → known ≡ is_some (at_text map text.now) → known ≡ false
    → tree.UpdatesBy by_text (by_text text) map after (Some v)
    → Puts name v map after
puts_new map after text name v known same told new u x =
    u.0 (key x)
    ∙ put_at map x text.now v (is_eq (slice_cmp nat_cmp text.now x)) (bytes_eq x text.now) refl (is_name text.now x)
    (is_none (at_text map text.now) known told new)
    ∙ ap (λ t. or_else (at_text map x) (if bytes_eq x t then Some v else None)) same

kept_at : {A : Type 0} (map : BTreeMap (Bor (List ℕ)) A) (x name : List ℕ) (v : A) (b : Bool) → bytes_eq x name ≡ b
    → is_some (at_text map name) ≡ true → at_text map x ≡ or_else (at_text map x) (if b then Some v else None)
kept_at map x name v true e some = or_else_some (at_text map x) (Some v) (ap (λ t. is_some (at_text map t)) (bytes_same x name e) ∙ some)
kept_at map x name v false e some = or_else_none (at_text map x)

pub puts_none : {A : Type 0} (map : BTreeMap (Bor (List ℕ)) A) (text : Bor (List ℕ)) (name : List ℕ) (v : A)
    (known : Bool) → text.now ≡ name → known ≡ is_some (at_text map text.now) → known ≡ true → Puts name v map map
puts_none map text name v known same told old x =
    kept_at map x text.now v (bytes_eq x text.now) refl (sym told ∙ old)
    ∙ ap (λ t. or_else (at_text map x) (if bytes_eq x t then Some v else None)) same

mapped : {A B : Type 0} (f : A → B) (o : Option A) → is_some (option_map f o) ≡ is_some o
mapped f (Some x) = refl
mapped f None = refl

-- whether a table, or a function, was declared before
pub has_table : (ds : List Declaration) (tables : BTreeMap (Bor (List ℕ)) (List Name)) (x : List ℕ)
    → TellsTables ds tables → is_some (at_text tables x) ≡ is_some (table_from 0 x ds)
has_table ds tables x told = ap is_some (told x) ∙ mapped (λ (t : NumberedTable). t.columns) (table_from 0 x ds)

pub has_function : (ds : List Declaration) (functions : BTreeMap (Bor (List ℕ)) ℕ) (x : List ℕ)
    → TellsFunctions ds functions → is_some (at_text functions x) ≡ is_some (function_from x ds)
has_function ds functions x told = ap is_some (told x) ∙ mapped (λ (f : DeclaredFunction). length f.parameters) (function_from x ds)

-- ---- pages

if_page : (b : Bool) (o p : Option NumberedPage) (n : ℕ) (body : List Statement) (last : Bool) → is_some o ≡ (is_some p || last)
    → is_some (if b then Some (record { number = n; body = body }) else o) ≡ (is_some (if b then Some (record { number = n; body = body }) else p) || last)
if_page true o p n body last e = refl
if_page false o p n body last e = e

some_if : {A : Type 0} (b : Bool) (x y : A) → is_some (if b then Some x else None) ≡ is_some (if b then Some y else None)
some_if true x y = refl
some_if false x y = refl

page_number : (d : Declaration) (n : ℕ) (x : List ℕ) → is_some (page_from n x (d ∷ [])) ≡ is_some (page_from 0 x (d ∷ []))
page_number (Store at name) n x = refl
page_number (Table at name columns) n x = refl
page_number (Function at name parameters body) n x = refl
page_number (Page at path body) n x = some_if (bytes_eq x path.text) (record { number = n; body = body }) (record { number = 0; body = body })

page_snoc : (ds : List Declaration) (d : Declaration) (n : ℕ) (x : List ℕ)
    → is_some (page_from n x (ds ++ d ∷ [])) ≡ (is_some (page_from n x ds) || is_some (page_from 0 x (d ∷ [])))
page_snoc [] d n x = page_number d n x
page_snoc (Store at name ∷ ds) d n x = page_snoc ds d n x
page_snoc (Table at name columns ∷ ds) d n x = page_snoc ds d n x
page_snoc (Function at name parameters body ∷ ds) d n x = page_snoc ds d n x
page_snoc (Page at path body ∷ ds) d n x =
    if_page (bytes_eq x path.text) (page_from (n + 1) x (ds ++ d ∷ [])) (page_from (n + 1) x ds) n body
    (is_some (page_from 0 x (d ∷ []))) (page_snoc ds d (n + 1) x)

abbrev numbered : List Statement → NumberedPage
numbered body = record { number = 0; body = body }

some_page : (b a : Bool) (body : List Statement) → (b || a) ≡ (a || is_some (if b then Some (numbered body) else None))
some_page true true body = refl
some_page true false body = refl
some_page false true body = refl
some_page false false body = refl

pub page_more : (ds : List Declaration) (d : Declaration) (at : ℕ) (path : Name) (body : List Statement)
    (text : Bor (List ℕ)) (s n : BTreeSet (Bor (List ℕ))) → d ≡ Page at path body → text.now ≡ path.text
    → TellsPages ds s → sorted.UpdatesBy by_text (by_text text) s n true → TellsPages (ds ++ d ∷ []) n
page_more ds d at path body text s n is same told u x =
    set_grows s n text u x
    ∙ ap (λ t. bytes_eq x t || holds s x) same
    ∙ ap (λ b. bytes_eq x path.text || b) (told x)
    ∙ some_page (bytes_eq x path.text) (is_some (page_from 0 x ds)) body
    ∙ sym (page_snoc ds (Page at path body) 0 x)
    ∙ ap (λ e. is_some (page_from 0 x (ds ++ e ∷ []))) (sym is)

pub page_same : (ds : List Declaration) (d : Declaration) (s : BTreeSet (Bor (List ℕ)))
    → ((at : ℕ) (path : Name) (body : List Statement) → d ≡ Page at path body → ⊥) → TellsPages ds s
    → TellsPages (ds ++ d ∷ []) s
page_same ds (Store at name) s differs told x = told x ∙ or_none (is_some (page_from 0 x ds)) ∙ sym (page_snoc ds (Store at name) 0 x)
page_same ds (Table at name columns) s differs told x = told x ∙ or_none (is_some (page_from 0 x ds)) ∙ sym (page_snoc ds (Table at name columns) 0 x)
page_same ds (Function at name parameters body) s differs told x = told x ∙ or_none (is_some (page_from 0 x ds))
    ∙ sym (page_snoc ds (Function at name parameters body) 0 x)
page_same ds (Page at path body) s differs told x = absurd (differs at path body refl)

pub no_page : (earlier : List Declaration) (d : Declaration)
    → ((at : ℕ) (path : Name) (body : List Statement) → d ≡ Page at path body → ⊥) → page_twice earlier d ≡ []
no_page earlier (Store at name) differs = refl
no_page earlier (Table at name columns) differs = refl
no_page earlier (Function at name parameters body) differs = refl
no_page earlier (Page at path body) differs = absurd (differs at path body refl)
