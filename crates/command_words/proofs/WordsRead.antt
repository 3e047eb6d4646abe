-- What `clap` makes of the words behind `replay`.
use Rattle.std.proofs.Common.{◌≡◌, ◌∙◌, ℕ, suc, ◌==◌, List, [], ◌∷◌, ◌++◌, fold, drop, map, length, Option, Some, None, option_map, is_some, Bool, true, false, cond, codes, ◌⊎◌, inl, inr, append_assoc, refl, ap, ap₂, sym, subst, arith, slice_get, encode_utf8, append-nil, String, Global, string_bytes}
use Rattle.std.specs.Str.{bytes_eq, chars, IsUtf8, encode_utf8_all}
use Rattle.std.proofs.lemmas.Str.{chars-encodes, IsUtf8-drop, IsUtf8-had, IsCharBoundary-after_ascii}
use Rattle.basis.specs.Options.{◌>>=◌}
use Rattle.clap.specs.Lexer.{long_of, name_and_value, short_of}
use Rattle.clap.specs.Kinds.{HasKind, IsAmong, Kinds, or_else}
use Rattle.clap.specs.Matches.{found_of}
use Rattle.clap.specs.Values.{kind_of}
use Rattle.clap.specs.declared.error.Error.{Error}
use Rattle.clap.specs.declared.error.kind.ErrorKind.TheVariants.{OutOfMemory}
use Rattle.clap.specs.declared.parser.matches.ArgMatches.{ArgMatches}
use Rattle.clap.specs.Walk.{Held, Row, Rule, Text, Walk, Step, arg_by_long, arg_by_short, after_step, finished, first_of, has_long, has_short, idle, rows_of, settled, trailing, value, walked, word_met}
use Rattle.clap.specs.Simple.{App, HasMatchesOf, built, entered, filled, help_rule, is_simple, matches_of}
use Rattle.clap.specs.declared.error.kind.ErrorKind.{ErrorKind}
use Rattle.clap.specs.Faults.{bundle_step_fault, check_fault, defaults_fault, entered_fault, fault_of, flags_fault, is_simple_and_free, settle_fault, short_fault, long_fault, step_fault, turn_fault, walk_fault, word_fault}
use Rattle.clap.specs.declared.parser.matches.Found.{Found}
use Rattle.clap.proofs.WalkLemmas.{first_value-rows}
use Rattle.command_words.specs.Words.{ReplayNames, in_four, four_names, is_option, names_in}
use Rattle.command_words.specs.WordsApp.{found_names, replay_app}

abbrev dashes : Text
dashes = 45 ∷ 45 ∷ []

abbrev app : App
app = built replay_app

abbrev all_rules : List Rule
all_rules = app.top.rules

-- ---- a word

-- a word that is no option, nor `--`
abbrev IsPlain : Text → Type 0
IsPlain w = (bytes_eq w dashes ≡ false) × (long_of w ≡ None) × (short_of w ≡ None)

plain : (w : Text) → is_option w ≡ false → IsPlain w
plain [] e = (refl, refl, refl)
plain (b ∷ []) e = one (b == 45) refl where
  one : (t : Bool) → (b == 45) ≡ t → IsPlain (b ∷ [])
  one true is = (rw is refl, rw is refl, rw is refl)
  one false is = (rw is refl, rw is refl, rw is refl)
plain (b ∷ c ∷ w) e = (rw e refl, rw e refl, rw e refl)

-- where the walk stands
abbrev Place : Type 0
Place = List Row × (Option (Text × List Text) × ℕ)

abbrev held_at : Place → Held
held_at x = record { rows = x.0; pending = x.1.0; skip = 0 }

abbrev walk_at : Place → Bool → Walk
walk_at x b = record { held = held_at x; waiting = idle; position = x.1.1; is_trailing = b; stopped = None }

meets_value : (x : Place) (w : Text) → IsPlain w → word_met all_rules [] false idle x.1.1 w (held_at x) ≡ (held_at x, value)
meets_value x w p = rw (p.0, p.1, p.2) refl

no_word_fault : (x : Place) (w : Text) → IsPlain w → word_fault app.top [] false idle w (held_at x) ≡ []
no_word_fault x w p = rw (p.0, p.1, p.2) refl

meets_dashes : (x : Place) (w : Text) → bytes_eq w dashes ≡ true → word_met all_rules [] false idle x.1.1 w (held_at x) ≡ (held_at x, trailing x.1.1)
meets_dashes x w e = rw e refl

no_dashes_fault : (x : Place) (w : Text) → bytes_eq w dashes ≡ true → word_fault app.top [] false idle w (held_at x) ≡ []
no_dashes_fault x w e = rw e refl

-- ---- options

or_else_first : (a b : Kinds) → (a ≡ [] → ⊥) → or_else a b ≡ [] → ⊥
or_else_first [] b h e = h refl
or_else_first (k ∷ ks) b h e = cc

or_else_second : (a b : Kinds) → (b ≡ [] → ⊥) → or_else a b ≡ [] → ⊥
or_else_second [] b h e = h e
or_else_second (k ∷ ks) b h e = cc

is_45 : (b : ℕ) → (b == 45) ≡ true → b ≡ 45
is_45 b e = grind arith

some_char : (cs : List ℕ) (c : ℕ) (w : Text) → encode_utf8_all cs ≡ c ∷ w → (x : ℕ) × (xs : List ℕ) × (cs ≡ x ∷ xs)
some_char [] c w e = absurd (cc)
some_char (x ∷ xs) c w e = (x, xs, refl)

-- the flag for help, as it is built
abbrev help : Rule
help = filled help_rule

no_kinds : {k : ErrorKind} {ks : Kinds} → k ∷ ks ≡ [] → ⊥
no_kinds e = cc

either_rule : (t : Bool) (a : Rule) → (cond t (Some a) None ≡ None) ⊎ (cond t (Some a) None ≡ Some a)
either_rule true a = inr refl
either_rule false a = inl refl

long_is_refused : (o : Option Rule) (v : Option Text) (h : Held) → (o ≡ None) ⊎ (o ≡ Some help) → long_fault all_rules false o v h ≡ [] → ⊥
long_is_refused o v h (inl e) = rw e no_kinds
long_is_refused o (Some v) h (inr e) = rw e no_kinds
long_is_refused o None h (inr e) = rw e (or_else_second (settle_fault all_rules false h) _ no_kinds)

short_is_refused : (o : Option Rule) (rest : Text) (h : Held) (next : Held → Kinds) → (o ≡ None) ⊎ (o ≡ Some help)
    → short_fault all_rules false o rest h next ≡ [] → ⊥
short_is_refused o rest h next (inl e) = rw e no_kinds
short_is_refused o rest h next (inr e) = rw e (or_else_first _ _ (or_else_second (settle_fault all_rules false h) _ no_kinds))

long_found : (name : Text) → (arg_by_long all_rules name ≡ None) ⊎ (arg_by_long all_rules name ≡ Some help)
long_found name = either_rule (has_long help name) help

short_found : (x : ℕ) → (arg_by_short all_rules x ≡ None) ⊎ (arg_by_short all_rules x ≡ Some help)
short_found x = either_rule (has_short help x) help

as_long : (x : Place) (w : Text) (p : Text × Option Text) → bytes_eq w dashes ≡ false → long_of w ≡ Some p
    → word_fault app.top [] false idle w (held_at x)
    ≡ long_fault all_rules false (arg_by_long all_rules p.0) p.1 (held_at x)
as_long x w p d e = rw (d, e) refl

as_short : (x : Place) (w flags : Text) → bytes_eq w dashes ≡ false → long_of w ≡ None → short_of w ≡ Some flags
    → word_fault app.top [] false idle w (held_at x) ≡ flags_fault all_rules false (length flags) flags 0 (held_at x)
as_short x w flags d l e = rw (d, l, e) refl

-- the characters behind a dash: there is one
behind_dash : (c : ℕ) (w : Text) → IsUtf8 (45 ∷ c ∷ w) → (x : ℕ) × (xs : List ℕ) × (chars (c ∷ w) ≡ x ∷ xs)
behind_dash c w u =
    let rest : IsUtf8 (c ∷ w) = IsUtf8-drop (45 ∷ c ∷ w) 1 u (IsCharBoundary-after_ascii (45 ∷ c ∷ w) 0 u (omega arith) (omega arith)) in
    let some = some_char rest.0 c w rest.1.1 in
    (some.0, some.1, ap chars (sym rest.1.1) ∙ chars-encodes rest.0 rest.1.0 ∙ some.2)

flags_refused : (c : ℕ) (w : Text) (x : ℕ) (xs : List ℕ) (h : Held) → chars (c ∷ w) ≡ x ∷ xs → flags_fault all_rules false (suc (length w)) (c ∷ w) 0 h ≡ [] → ⊥
unfolding flags_fault
flags_refused c w x xs h is =
    let found : slice_get (chars (c ∷ w)) 0 ≡ Some x = ap (λ (cs : List ℕ). slice_get cs 0) is in
    let rest = drop (length (encode_utf8 x)) (c ∷ w) in
    let P : Option ℕ → Type 0 = λ o. bundle_step_fault all_rules false o (c ∷ w) 0 h (flags_fault all_rules false (length w)) ≡ [] → ⊥ in
    subst P (sym found) (short_is_refused (arg_by_short all_rules x) rest h (flags_fault all_rules false (length w) rest 0) (short_found x))

-- an option is refused
option_fault : (x : Place) (w : Text) → IsUtf8 w → is_option w ≡ true → bytes_eq w dashes ≡ false → word_fault app.top [] false idle w (held_at x) ≡ [] → ⊥
option_fault x [] u o d = cc
option_fault x (b ∷ []) u o d = cc
option_fault x (b ∷ c ∷ w) u o d = behind (is_45 b o) where
  dashed : (w : Text) → IsUtf8 (45 ∷ c ∷ w) → bytes_eq (45 ∷ c ∷ w) dashes ≡ false → (t : Bool) → (c == 45) ≡ t
      → word_fault app.top [] false idle (45 ∷ c ∷ w) (held_at x) ≡ [] → ⊥
  dashed [] u d true same e = let bad : true ≡ false = rw same at d in cc
  dashed (y ∷ ys) u d true same e =
      let named : long_of (45 ∷ c ∷ y ∷ ys) ≡ Some (name_and_value (y ∷ ys)) = rw same refl in
      long_is_refused (arg_by_long all_rules (name_and_value (y ∷ ys)).0) (name_and_value (y ∷ ys)).1 (held_at x)
      (long_found (name_and_value (y ∷ ys)).0)
      (sym (as_long x (45 ∷ c ∷ y ∷ ys) (name_and_value (y ∷ ys)) d named) ∙ e)
  dashed w u d false other e =
      let char = behind_dash c w u in
      let no_name : long_of (45 ∷ c ∷ w) ≡ None = rw other refl in
      let flags : short_of (45 ∷ c ∷ w) ≡ Some (c ∷ w) = rw other refl in
      flags_refused c w char.0 char.1 (held_at x) char.2 (sym (as_short x (45 ∷ c ∷ w) (c ∷ w) d no_name flags) ∙ e)

  behind : b ≡ 45 → word_fault app.top [] false idle (b ∷ c ∷ w) (held_at x) ≡ [] → ⊥
  behind is e =
      let first : b ∷ c ∷ w ≡ 45 ∷ c ∷ w = ap (λ y. y ∷ c ∷ w) is in
      dashed w (subst IsUtf8 first u) (ap (λ v. bytes_eq v dashes) (sym first) ∙ d) (c == 45) refl
      (ap (λ v. word_fault app.top [] false idle v (held_at x)) (sym first) ∙ e)

-- ---- the walk

-- the faults behind a walk
abbrev end_fault : Walk → Kinds
end_fault w =
    or_else (entered_fault app w.stopped)
    (or_else (settle_fault all_rules false w.held)
    (or_else (defaults_fault (settled all_rules w.held).rows all_rules)
    (check_fault app.top (finished all_rules w.held) (is_some (entered app w.stopped)))))

abbrev fault_from : Walk → List Text → Kinds
fault_from w ws = or_else (walk_fault app.top [] w ws) (end_fault (fold (walked all_rules []) w ws))

abbrev rows_from : Walk → List Text → List Row
rows_from w ws = finished all_rules (fold (walked all_rules []) w ws).held

next_fault : (w z : Walk) (word : Text) (ws : List Text) (f : Kinds) → turn_fault app.top [] w word ≡ f → walked all_rules [] w word ≡ z
    → fault_from w (word ∷ ws) ≡ or_else (or_else f (walk_fault app.top [] z ws)) (end_fault (fold (walked all_rules []) z ws))
unfolding walk_fault
next_fault w z word ws f e moved = ap₂ (λ (g : Kinds) (y : Walk). or_else (or_else g (walk_fault app.top [] y ws))
    (end_fault (fold (walked all_rules []) y ws))) e moved

next_rows : (w z : Walk) (word : Text) (ws : List Text) → walked all_rules [] w word ≡ z → rows_from w (word ∷ ws) ≡ rows_from z ws
next_rows w z word ws moved = ap (λ (y : Walk). rows_from y ws) moved

turn_is : (x : Place) (w : Text) (m : Held × Step) → word_fault app.top [] false idle w (held_at x) ≡ []
    → word_met all_rules [] false idle x.1.1 w (held_at x) ≡ m
    → turn_fault app.top [] (walk_at x false) w ≡ step_fault app.top x.1.1 m.0 m.1
turn_is x w m none met = ap₂ (λ (f : Kinds) (n : Held × Step). or_else f (step_fault app.top x.1.1 n.0 n.1)) none met

walked_is : (x : Place) (w : Text) (m : Held × Step) → word_met all_rules [] false idle x.1.1 w (held_at x) ≡ m
    → walked all_rules [] (walk_at x false) w ≡ after_step all_rules w (walk_at x false) m.0 m.1
unfolding walked
walked_is x w m met = ap (λ (n : Held × Step). after_step all_rules w (walk_at x false) n.0 n.1) met

-- where the walk stands behind one more name, and the fault of a name there
abbrev named : Place → Bool → Text → Walk
named x b w = after_step all_rules w (walk_at x b) (held_at x) value

abbrev name_fault : Place → Kinds
name_fault x = step_fault app.top x.1.1 (held_at x) value

-- ---- names

abbrev names_at : List Row → Option ReplayNames
names_at rows = do
  program ← first_of (codes "program") rows
  state ← first_of (codes "state") rows
  trace ← first_of (codes "trace") rows
  schedule ← first_of (codes "schedule") rows
  Some (record { program = program; state = state; trace = trace; schedule = schedule })

-- where names are expected they are found with no fault, and where none are there is a fault
abbrev Agrees : Option ReplayNames → Kinds → List Row → Type 0
Agrees (Some r) f rows = (f ≡ []) × (names_at rows ≡ Some r)
Agrees None f rows = f ≡ [] → ⊥

carry : (o p : Option ReplayNames) (f g : Kinds) (rs ts : List Row) → o ≡ p → f ≡ g → rs ≡ ts → Agrees p g ts → Agrees o f rs
carry o p f g rs ts same faults rows h =
    let A : Option ReplayNames → Type 0 = λ q. Agrees q f rs in
    let B : Kinds → Type 0 = λ k. Agrees p k rs in
    let C : List Row → Type 0 = λ xs. Agrees p g xs in
    subst A (sym same) (subst B (sym faults) (subst C (sym rows) h))

-- the names expected behind these, with or without `--` before
abbrev expected : List Text → Bool → List Text → Option ReplayNames
expected ns true ws = four_names (ns ++ ws)
expected ns false ws = in_four (option_map (λ more. ns ++ more) (names_in ws))

abbrev AreUtf8 : List Text → Type 0
AreUtf8 [] = Unit {0}
AreUtf8 (w ∷ ws) = IsUtf8 w × AreUtf8 ws

abbrev More : List Text → Place → Type 0
More ns x = (w : Text) (b : Bool) (ws : List Text) → AreUtf8 ws
    → Agrees (expected (ns ++ w ∷ []) b ws) (or_else (or_else (name_fault x) (walk_fault app.top [] (named x b w) ws))
    (end_fault (fold (walked all_rules []) (named x b w) ws))) (rows_from (named x b w) ws)

put_first : (ns : List Text) (w : Text) (o : Option (List Text))
    → in_four (option_map (λ more. ns ++ more) (option_map (λ names. w ∷ names) o))
    ≡ in_four (option_map (λ more. (ns ++ w ∷ []) ++ more) o)
put_first ns w None = refl
put_first ns w (Some more) = ap four_names (sym (append_assoc ns (w ∷ []) more))

-- from a place on, by what is known of its end and of one more name
over : (ns : List Text) (x : Place) → ((b : Bool) → Agrees (four_names ns) (end_fault (walk_at x b)) (finished all_rules (held_at x))) → More ns x
    → (b : Bool) (ws : List Text) → AreUtf8 ws → Agrees (expected ns b ws) (fault_from (walk_at x b) ws) (rows_from (walk_at x b) ws)
unfolding walk_fault walked defaults_fault
over ns x ends more true [] u = carry _ _ _ _ _ _ (ap four_names (append-nil ns)) refl refl (ends true)
over ns x ends more false [] u = carry _ _ _ _ _ _ (ap four_names (append-nil ns)) refl refl (ends false)
over ns x ends more true (w ∷ ws) u = carry _ _ _ _ _ _ (ap four_names (sym (append_assoc ns (w ∷ []) ws))) refl refl (more w true ws u.1)
over ns x ends more false (w ∷ ws) u = by_word (over ns x ends more true ws u.1) (bytes_eq w dashes) refl (is_option w) refl where
  by_word : Agrees (expected ns true ws) (fault_from (walk_at x true) ws) (rows_from (walk_at x true) ws) → (d : Bool)
      → bytes_eq w dashes ≡ d → (o : Bool) → is_option w ≡ o
      → Agrees (expected ns false (w ∷ ws)) (fault_from (walk_at x false) (w ∷ ws))
      (rows_from (walk_at x false) (w ∷ ws))
  by_word behind true d o is =
      let met = meets_dashes x w d in
      let moved = walked_is x w (held_at x, trailing x.1.1) met in
      carry _ (expected ns true ws) _ (fault_from (walk_at x true) ws) _ (rows_from (walk_at x true) ws) (rw d refl)
      (next_fault (walk_at x false) (walk_at x true) w ws []
      (turn_is x w (held_at x, trailing x.1.1) (no_dashes_fault x w d) met) moved)
      (next_rows (walk_at x false) (walk_at x true) w ws moved) behind
  by_word behind false d true is =
      let none : expected ns false (w ∷ ws) ≡ None = rw (d, is) refl in
      let bad : fault_from (walk_at x false) (w ∷ ws) ≡ [] → ⊥ = or_else_first _ _ (or_else_first _ _ (or_else_first _ _ (option_fault x w u.0 is d))) in
      carry _ None _ _ _ _ none refl refl bad
  by_word behind false d false is =
      let p = plain w is in
      let met = meets_value x w p in
      let moved = walked_is x w (held_at x, value) met in
      carry _ (expected (ns ++ w ∷ []) false ws) _ _ _ _ (rw (d, is) (put_first ns w (names_in ws)))
      (next_fault (walk_at x false) (named x false w) w ws (name_fault x)
      (turn_is x w (held_at x, value) (no_word_fault x w p) met) moved)
      (next_rows (walk_at x false) (named x false w) w ws moved) (more w false ws u.1)

-- ---- four places

abbrev place_of : Walk → Place
place_of w = (w.held.rows, (w.held.pending, w.position))

abbrev start : Place
start = ([], (None, 1))

abbrev behind_one : Text → Place
behind_one p = place_of (named start false p)

abbrev behind_two : Text → Text → Place
behind_two p s = place_of (named (behind_one p) false s)

abbrev behind_three : Text → Text → Text → Place
behind_three p s t = place_of (named (behind_two p s) false t)

abbrev behind_four : Text → Text → Text → Text → Place
behind_four p s t c = place_of (named (behind_three p s t) false c)

five : (p s t c w : Text) (b : Bool) (ws : List Text) → expected (p ∷ s ∷ t ∷ c ∷ w ∷ []) b ws ≡ None
five p s t c w true ws = refl
five p s t c w false ws = none (names_in ws) where
  none : (o : Option (List Text)) → in_four (option_map (λ more. (p ∷ s ∷ t ∷ c ∷ w ∷ []) ++ more) o) ≡ None
  none None = refl
  none (Some more) = refl

from_four : (p s t c : Text) (b : Bool) (ws : List Text) → AreUtf8 ws
    → Agrees (expected (p ∷ s ∷ t ∷ c ∷ []) b ws) (fault_from (walk_at (behind_four p s t c) b) ws)
    (rows_from (walk_at (behind_four p s t c) b) ws)
unfolding walk_fault walked defaults_fault
from_four p s t c = over (p ∷ s ∷ t ∷ c ∷ []) (behind_four p s t c) ends more where
  ends : (b : Bool) → Agrees (four_names (p ∷ s ∷ t ∷ c ∷ [])) (end_fault (walk_at (behind_four p s t c) b))
      (finished all_rules (held_at (behind_four p s t c)))
  ends b = (refl, refl)

  more : More (p ∷ s ∷ t ∷ c ∷ []) (behind_four p s t c)
  more w b ws u = carry _ None _ _ _ _ (five p s t c w b ws) refl refl no_kinds

from_three : (p s t : Text) (b : Bool) (ws : List Text) → AreUtf8 ws
    → Agrees (expected (p ∷ s ∷ t ∷ []) b ws) (fault_from (walk_at (behind_three p s t) b) ws)
    (rows_from (walk_at (behind_three p s t) b) ws)
unfolding walk_fault walked defaults_fault
from_three p s t = over (p ∷ s ∷ t ∷ []) (behind_three p s t) (λ b. no_kinds) more where
  more : More (p ∷ s ∷ t ∷ []) (behind_three p s t)
  more w true ws u = from_four p s t w true ws u
  more w false ws u = from_four p s t w false ws u

from_two : (p s : Text) (b : Bool) (ws : List Text) → AreUtf8 ws
    → Agrees (expected (p ∷ s ∷ []) b ws) (fault_from (walk_at (behind_two p s) b) ws)
    (rows_from (walk_at (behind_two p s) b) ws)
unfolding walk_fault walked defaults_fault
from_two p s = over (p ∷ s ∷ []) (behind_two p s) (λ b. no_kinds) more where
  more : More (p ∷ s ∷ []) (behind_two p s)
  more w true ws u = from_three p s w true ws u
  more w false ws u = from_three p s w false ws u

from_one : (p : Text) (b : Bool) (ws : List Text) → AreUtf8 ws
    → Agrees (expected (p ∷ []) b ws) (fault_from (walk_at (behind_one p) b) ws)
    (rows_from (walk_at (behind_one p) b) ws)
unfolding walk_fault walked defaults_fault
from_one p = over (p ∷ []) (behind_one p) (λ b. no_kinds) more where
  more : More (p ∷ []) (behind_one p)
  more w true ws u = from_two p w true ws u
  more w false ws u = from_two p w false ws u

from_none : (b : Bool) (ws : List Text) → AreUtf8 ws → Agrees (expected ([]) b ws) (fault_from (walk_at start b) ws) (rows_from (walk_at start b) ws)
unfolding walk_fault walked defaults_fault
from_none = over ([]) start (λ b. no_kinds) more where
  more : More ([]) start
  more w true ws u = from_one w true ws u
  more w false ws u = from_one w false ws u

-- ---- the whole

none_before : (o : Option (List Text)) → in_four o ≡ in_four (option_map (λ more. [] ++ more) o)
none_before None = refl
none_before (Some more) = refl

reads : (ws : List Text) → AreUtf8 ws → Agrees (in_four (names_in ws)) (fault_of replay_app ws) (matches_of replay_app ws)
reads ws u = carry _ _ _ _ _ _ (none_before (names_in ws)) refl refl (from_none false ws u)

agreed : (o : Option ReplayNames) (f : Kinds) (rows : List Row) → Agrees o f rows → f ≡ [] → names_at rows ≡ o
agreed None f rows h e = absurd (h e)
agreed (Some r) f rows h e = h.1

refused : (o : Option ReplayNames) (f : Kinds) (rows : List Row) → Agrees o f rows → (f ≡ [] → ⊥) → None ≡ o
refused None f rows h e = refl
refused (Some r) f rows h e = absurd (e h.0)

found : (f : Found) → found_names f ≡ names_at (rows_of f)
found f = rw (
  first_value-rows f (codes "program"),
  first_value-rows f (codes "state"),
  first_value-rows f (codes "trace"),
  first_value-rows f (codes "schedule"),
) refl

texts_utf8 : (words : List (String Global)) → AreUtf8 (map string_bytes words)
texts_utf8 [] = tt
texts_utf8 (w ∷ words) = (IsUtf8-had (string_bytes w) w.ok, texts_utf8 words)

-- where the words are taken, the names are found
pub takes_names : (a : App) (words : List (String Global)) (m : ArgMatches) → a ≡ replay_app
    → fault_of a (map string_bytes words) ≡ [] → HasMatchesOf a (map string_bytes words) m
    → found_names (found_of m) ≡ in_four (names_in (map string_bytes words))
takes_names a words m is e h =
    let ws = map string_bytes words in
    let simple : is_simple a ≡ true = ap is_simple is ∙ refl in
    found (found_of m) ∙ ap names_at ((h simple).0 ∙ ap (λ (b : App). matches_of b ws) is)
    ∙ agreed _ _ _ (reads ws (texts_utf8 words)) (ap (λ (b : App). fault_of b ws) (sym is) ∙ e)

is_among_some : (k : ErrorKind) (ks : Kinds) → IsAmong k ks → ks ≡ [] → ⊥
is_among_some k [] h e = h
is_among_some k (x ∷ ks) h e = no_kinds e

-- where they are refused, and memory isn't wanting, there are none
pub refuses_others : (a : App) (words : List (String Global)) (e : Error) → a ≡ replay_app
    → HasKind (fault_of a (map string_bytes words)) e → (kind_of e ≡ OutOfMemory → ⊥)
    → None ≡ in_four (names_in (map string_bytes words))
refuses_others a words e is (inl out) here = absurd (here out)
refuses_others a words e is (inr among) here =
    let ws = map string_bytes words in
    refused _ _ _ (reads ws (texts_utf8 words)) (λ none. is_among_some (kind_of e) (fault_of a ws) among (ap (λ (b : App). fault_of b ws) is ∙ none))

pub is_simple_app : (a : App) → a ≡ replay_app → is_simple_and_free a ≡ true
is_simple_app a is = ap is_simple_and_free is ∙ refl
