-- Texts that members print.
use Rattle.std.proofs.Common.{◌≡◌, ◌≤◌, ◌<◌, ◌+◌, ◌-◌, ℕ, nat_lt, true, false, cond, List, [], ◌∷◌, ◌++◌, length, get_or, min, Ok, sym, ap, subst, ◌∙◌, arith, append_assoc, append-nil, below_more}
use Rattle.std.proofs.lemmas.Bool.Decides.{nat_tests}
use Rattle.std.proofs.lemmas.List.{length-append, get_or_append_left, get_or_push}
use Rattle.script_tree.specs.Datum.{Datum}
use Rattle.script_tree.specs.declared.fault.ScriptFault.TheVariants.{TooLarge}
use Rattle.script_tree.specs.declared.limits.TheConstants.{MOST_BODY_BYTES}
use Rattle.script_meaning.specs.Evaluate.{print}
use Rattle.script_meaning.specs.Run.{Progress, goes, stops, after, unless_fault}
use Rattle.script_meaning.specs.declared.run.Stop.TheVariants.{Fault as fault}
use Rattle.script_nodes.specs.NodeLaws.{print_text}
use Rattle.multivalue.specs.Many.{Many, member_value}
use Rattle.multi_bodies.specs.BodiesOf.{bytes_of, body_at, HaveLengths, IsTextOf, AreGrown, AreReached, AreWithin}
use Rattle.multi_bodies.specs.Printing.{PrintsAll, SomeLackRoom}

-- ---- a body with one piece more

pub one_more_piece : (i : ℕ) (ms : List Many) (m : Many) → body_at i (ms ++ m ∷ []) ≡ body_at i ms ++ bytes_of (member_value m i)
one_more_piece i [] m = append-nil (bytes_of (member_value m i))
one_more_piece i (k ∷ ms) m = ap (λ b. bytes_of (member_value k i) ++ b) (one_more_piece i ms m)
    ∙ sym (append_assoc (bytes_of (member_value k i)) (body_at i ms) (bytes_of (member_value m i)))

pub longer : (i : ℕ) (ms : List Many) (m : Many) (len : ℕ) → IsTextOf len (member_value m i) → length (body_at i (ms ++ m ∷ [])) ≡ length (body_at i ms) + len
longer i ms m len t = ap length (one_more_piece i ms m) ∙ length-append (body_at i ms) (bytes_of (member_value m i))
    ∙ ap (λ n. length (body_at i ms) + n) t.length'

-- ---- a text that is printed

not_over : (a b : ℕ) → a ≤ b → nat_lt b a ≡ false
not_over a b h = grind (arith, nat_tests, h)

is_over : (a b : ℕ) → b < a → nat_lt b a ≡ true
is_over a b h = grind (arith, nat_tests, h)

print_so : (d : Datum) (len : ℕ) (p : Progress) → IsTextOf len d → print_text d p ≡ print (bytes_of d) p
print_so d len p t = ap (λ r. after (unless_fault r p) print) t.bytes

-- one that has room
pub fits : (i : ℕ) (ms : List Many) (m : Many) (len : ℕ) (p : Progress) → IsTextOf len (member_value m i)
    → p.body ≡ body_at i ms → length (body_at i ms) + len ≤ MOST_BODY_BYTES
    → print_text (member_value m i) p ≡ goes tt (record p { body = body_at i (ms ++ m ∷ []) })
fits i ms m len p t is room =
    let d = member_value m i in
    let whole : p.body ++ bytes_of d ≡ body_at i (ms ++ m ∷ []) = ap (λ b. b ++ bytes_of d) is ∙ sym (one_more_piece i ms m) in
    let within : length (p.body ++ bytes_of d) ≤ MOST_BODY_BYTES = subst (λ k. k ≤ MOST_BODY_BYTES) (sym (ap length whole ∙ longer i ms m len t)) room in
    print_so d len p t
    ∙ ap (λ b. cond b (stops (fault TooLarge) p) (goes tt (record p { body = p.body ++ bytes_of d })))
    (not_over (length (p.body ++ bytes_of d)) MOST_BODY_BYTES within)
    ∙ ap (λ b. goes tt (record p { body = b })) whole

-- one that has none
pub too_large : (i : ℕ) (ms : List Many) (m : Many) (len : ℕ) (p : Progress) → IsTextOf len (member_value m i)
    → p.body ≡ body_at i ms → MOST_BODY_BYTES < length (body_at i ms) + len
    → print_text (member_value m i) p ≡ stops (fault TooLarge) p
too_large i ms m len p t is over =
    let d = member_value m i in
    let whole : p.body ++ bytes_of d ≡ body_at i (ms ++ m ∷ []) = ap (λ b. b ++ bytes_of d) is ∙ sym (one_more_piece i ms m) in
    let beyond : MOST_BODY_BYTES < length (p.body ++ bytes_of d) = subst (λ k. MOST_BODY_BYTES < k) (sym (ap length whole ∙ longer i ms m len t)) over in
    print_so d len p t
    ∙ ap (λ b. cond b (stops (fault TooLarge) p) (goes tt (record p { body = p.body ++ bytes_of d })))
    (is_over (length (p.body ++ bytes_of d)) MOST_BODY_BYTES beyond)

-- ---- the lengths of bodies

abbrev pub largest : ℕ
largest = 18446744073709551615

pub grown_more : (k : ℕ) (m : Many) (own old new : List ℕ) (x len : ℕ) → AreGrown k largest m own old
    → new ≡ old ++ x ∷ [] → IsTextOf len (member_value m k) → x ≡ min (get_or own k 0 + len) largest
    → AreGrown (k + 1) largest m own new
grown_more k m own old new x len h is t e = (
  ap length is ∙ length-append old (x ∷ []) ∙ ap (λ n. n + 1) h.0,
  below_more (λ i. (l : ℕ) × IsTextOf l (member_value m i) × (get_or new i 0 ≡ min (get_or own i 0 + l) largest)) k
      (λ i lt. let r = h.1 i lt in (r.0, r.1, ap (λ zs. get_or zs i 0) is ∙ get_or_append_left old (x ∷ []) 0 i (omega (arith, lt, h.0)) ∙ r.2))
      (len, t, ap (λ zs. get_or zs k 0) is ∙ get_or_push old x 0 k h.0 ∙ e),
)

-- a number that is not capped
uncapped : (a b c : ℕ) → a ≡ min b largest → a ≤ c → c < largest → a ≡ b
uncapped a b c e h l = grind (arith, nat_tests, e, h, l)

-- one that is too large, capped or not
beyond : (a b c : ℕ) → a ≡ min b largest → c < a → c < b
beyond a b c e h = grind (arith, nat_tests, e, h)

module _ (old new : List Many) (m : Many) (common most : ℕ) (own : List ℕ) (have : HaveLengths old common own most) where
  -- where all have one text
  pub one_text : (more : ℕ) → new ≡ old ++ m ∷ [] → ((i : ℕ) → IsTextOf more (member_value m i))
      → common + more + most ≤ MOST_BODY_BYTES → HaveLengths new (common + more) own most
  one_text more is t room = record {
    lengths = λ i lt.
        let len : length (body_at i new) ≡ length (body_at i old) + more = ap (λ ps. length (body_at i ps)) is ∙ longer i old m more (t i) in
        let was = have.lengths i lt in
        omega (arith, len, was);
    at_most = have.at_most;
    within = room;
  }

  pub one_prints : (n more : ℕ) → length own ≡ n → new ≡ old ++ m ∷ [] → ((i : ℕ) → IsTextOf more (member_value m i))
      → common + more + most ≤ MOST_BODY_BYTES → PrintsAll n m old (Ok tt) new
  one_prints n more len is t room i lt p body =
      let within : i < length own = omega (arith, lt, len) in
      let was = have.lengths i within in
      let least = have.at_most i within in
      let left : length (body_at i old) + more ≤ MOST_BODY_BYTES = omega (arith, was, least, room) in
      fits i old m more p (t i) body left ∙ ap (λ ps. goes tt (record p { body = body_at i ps })) (sym is)

  -- where each has its own
  pub each_text : (own' : List ℕ) (least most' : ℕ) → new ≡ old ++ m ∷ [] → AreGrown (length own) largest m own own'
      → AreWithin least most' own' → common + most' ≤ MOST_BODY_BYTES → HaveLengths new common own' most'
  each_text own' least most' is g w room = record {
    lengths = λ i lt.
        let r = g.1 i (omega (arith, lt, g.0)) in
        let len : length (body_at i new) ≡ length (body_at i old) + r.0 = ap (λ ps. length (body_at i ps)) is ∙ longer i old m r.0 r.1 in
        let was = have.lengths i (omega (arith, lt, g.0)) in
        let small : most' < largest = omega (arith, room) in
        let exact : get_or own' i 0 ≡ get_or own i 0 + r.0 = uncapped (get_or own' i 0) (get_or own i 0 + r.0) most' r.2 (w i lt).1 small in
        omega (arith, len, was, exact);
    at_most = λ i lt. (w i lt).1;
    within = room;
  }

  pub each_prints : (n : ℕ) (own' : List ℕ) (least most' : ℕ) → length own ≡ n → new ≡ old ++ m ∷ []
      → AreGrown (length own) largest m own own' → AreWithin least most' own' → common + most' ≤ MOST_BODY_BYTES
      → PrintsAll n m old (Ok tt) new
  each_prints n own' least most' len is g w room i lt p body =
      let r = g.1 i (omega (arith, lt, len)) in
      let was = have.lengths i (omega (arith, lt, len)) in
      let inside = (w i (omega (arith, lt, len, g.0))).1 in
      let small : most' < largest = omega (arith, room) in
      let exact : get_or own' i 0 ≡ get_or own i 0 + r.0 = uncapped (get_or own' i 0) (get_or own i 0 + r.0) most' r.2 inside small in
      let left : length (body_at i old) + r.0 ≤ MOST_BODY_BYTES = omega (arith, was, inside, exact, room) in
      fits i old m r.0 p r.1 body left ∙ ap (λ ps. goes tt (record p { body = body_at i ps })) (sym is)

  -- where none has room
  pub none_prints : (n : ℕ) (own' : List ℕ) (least most' : ℕ) → length own ≡ n
      → AreGrown (length own) largest m own own' → AreWithin least most' own' → MOST_BODY_BYTES < common + least
      → (i : ℕ) → i < n → (p : Progress) → p.body ≡ body_at i old → print_text (member_value m i) p ≡ stops (fault TooLarge) p
  none_prints n own' least most' len g w over i lt p body =
      let r = g.1 i (omega (arith, lt, len)) in
      let was = have.lengths i (omega (arith, lt, len)) in
      let inside = (w i (omega (arith, lt, len, g.0))).0 in
      let room : MOST_BODY_BYTES - common < get_or own' i 0 = omega (arith, inside, over) in
      let more : MOST_BODY_BYTES - common < get_or own i 0 + r.0 = beyond (get_or own' i 0) (get_or own i 0 + r.0) (MOST_BODY_BYTES - common) r.2 room in
      too_large i old m r.0 p r.1 body (omega (arith, was, more, have.within))

  -- where one has room, and another none
  pub some_print : (n : ℕ) (own' : List ℕ) (least most' : ℕ) → length own ≡ n
      → AreGrown (length own) largest m own own' → AreReached least most' own' → common + least ≤ MOST_BODY_BYTES
      → MOST_BODY_BYTES < common + most' → SomeLackRoom n m old
  some_print n own' least most' len g reached room over =
      let high = reached.1 (omega (arith, over, have.within)) in
      let low = reached.0 (omega (arith, high.1)) in
      let one = low.0 in
      let other = high.0 in
      let within : one < length own = omega (arith, low.1, g.0) in
      let within' : other < length own = omega (arith, high.1, g.0) in
      let r = g.1 one within in
      let s = g.1 other within' in
      let was = have.lengths one within in
      let was' = have.lengths other within' in
      let small : least < largest = omega (arith, room) in
      let exact : get_or own' one 0 ≡ get_or own one 0 + r.0 = uncapped (get_or own' one 0) (get_or own one 0 + r.0) least r.2 (omega (arith, low.2)) small in
      let more : MOST_BODY_BYTES - common < get_or own other 0 + s.0 =
      beyond (get_or own' other 0) (get_or own other 0 + s.0) (MOST_BODY_BYTES - common) s.2 (omega (arith, high.2, over)) in
      record {
        one = one;
        other = other;
        one' = omega (arith, within, len);
        other' = omega (arith, within', len);
        prints' = λ p body. fits one old m r.0 p r.1 body (omega (arith, was, exact, low.2, room));
        fails' = λ p body. too_large other old m s.0 p s.1 body (omega (arith, was', more, have.within));
      }
