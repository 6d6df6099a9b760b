-- Why the calls refuse, and what they then leave: of `read`, `list` and `outline`, for every source. Assumes nothing.
use Rattle.std.specs.Prelude.{Err, Ok}
use Rattle.token.specs.declared.reason.Reason.TheVariants.{NoPlace, NoRoom}
use Prim.Native.Nat.{ℕ, zero, suc, ◌+◌, ◌-◌, ◌≤◌, ◌<◌}
use mathlib.Core.Path.{◌≡◌, refl, sym, ap, ◌∙◌, subst, subst₂}
use mathlib.Core.List.{List, []}
use mathlib.Core.Bool.{false}
use mathlib.Core.Logic.{inl, inr, ◌⊎◌, ⊎_elim}
use native.Mathlib.Omega.{arith}
use lib.Dec.{ltb, eqb}
use lib.ListN.{length, take}
use borrow.Author.Tests.{eqb-false, le-ltb, lt-ltb, ltb-false, ltb-true, ne_eqb}
use Rattle.demands.specs.Refused.{AllRefuse, FoundNoPlace, InReading, IsToken, Unread}
use Rattle.families.proofs.Refusals.{next_refusal, tokens_refusal}
use Rattle.families.specs.Refusals.{Numbered, NumberedEnd}
use Rattle.families.specs.Tokens.{Tokens, fin, halt, more, tokens_at}
use Rattle.findings.proofs.Turns.{found_by_test}
use Rattle.laws.proofs.Cases.{never, split, split_le}
use Rattle.laws.specs.Bools.{pick}
use Rattle.lexer.proofs.Sources.{read_case}
use Rattle.lexer.specs.Next.{read_at}
use Rattle.listing.proofs.Counted.{count_in, three_words}
use Rattle.listing.specs.Listing.{Listed, list_answer, list_of, listed_up_to, listed_words, no_room, stored_of}
use Rattle.numbers.specs.Kinds.{number_of}
use Rattle.outline.specs.Outline.{outline_answer, outline_of, outline_written}
use Rattle.readers.specs.Rules.{rules_of}
use Rattle.readers.specs.declared.reading.Reading.{Reading}
use Rattle.rows.specs.Rows.{row_place, row_words}
use Rattle.source_test.proofs.Places.{by_tested, position_other}
use Rattle.source_test.specs.Source.{ill_formed, is_place, no_place, position_test, sound_to, source_test, too_long}
use Rattle.text.specs.Utf8.{rest}
use Rattle.token.specs.Reads.{point_refusal, number_in}
use Rattle.token.specs.declared.read.Refusal.{Refusal}
use Rattle.token.specs.declared.read.Token.{Token}
use Rattle.unescape.proofs.Bodies.{source_refused}
use Rattle.listing.proofs.Stores.{by_test as list_by}
use Rattle.outline.proofs.Shading.{by_test as outline_by}

module _ (s : List ℕ) where
  -- the tests, from both sides
  pub test_long : 65536 < length s → source_test s ≡ too_long
  unfolding source_test
  test_long h = rw (lt-ltb 65536 (length s) h)

  pub test_ill : length s ≤ 65536 → (sound_to s ≡ length s → ⊥) → source_test s ≡ ill_formed (sound_to s)
  unfolding source_test
  test_ill h n = rw (le-ltb 65536 (length s) h, ne_eqb (sound_to s) (length s) n)

  pub test_refuses : (r : Refusal) → source_test s ≡ Err r → Unread s r
  unfolding source_test
  test_refuses r e =
      split (ltb 65536 (length s)) (λ t. inl (ltb-true _ _ t, let z = (rw t at e) in cc))
      (λ t. split (eqb (sound_to s) (length s)) (λ u. never (let z = (rw (t, u) at e) in cc))
      (λ u. inr (ltb-false _ _ t, eqb-false _ _ u, let z = (rw (t, u) at e) in cc)))

  unsound : (r : Refusal) → source_test s ≡ Err r → (at : ℕ) → Err r ≡ position_test s at
  unsound r e at = position_other s at (Err r) (sym e) (λ z. never (cc))

  pub all_refuse : (r : Refusal) → source_test s ≡ Err r → AllRefuse s r
  all_refuse r e = record {
    reads = λ g at. read_case g s at (Err r) (unsound r e at);
    lists = λ g room. list_by g s room (Err r) (sym e);
    outlines = λ g room. outline_by g s room (Err r) (sym e);
    finds = λ g room. found_by_test g s room (Err r) (sym e);
    unescapes = λ form room. source_refused form s room (Err r) (sym e) r refl;
  }

  -- 4 is read's alone, and comes after 1 and 2
  module _ (g : Reading) (at : ℕ) where
    position : source_test s ≡ Ok tt → position_test s at ≡ pick (is_place (rest s 0) 0 at) (Ok tt) (no_place at)
    unfolding position_test
    position e = rw e

    pub read_misplaced : source_test s ≡ Ok tt → is_place (rest s 0) 0 at ≡ false → read_at g s at ≡ Err (point_refusal NoPlace at)
    read_misplaced e h = read_case g s at (no_place at) (sym (position e ∙ rw h))

    -- read refuses for no other reason
    pub read_refusal : (r : Refusal) → read_at g s at ≡ Err r → Unread s r ⊎ (((is_place (rest s 0) 0 at ≡ false) × (r ≡ point_refusal NoPlace at)) ⊎ Numbered (rules_of g) at (rest s at) at r)
    read_refusal r e =
        by_tested (source_test s)
        (λ h. split (is_place (rest s 0) 0 at)
        (λ i. inr (inr (next_refusal g s at r (sym (read_case g s at (Ok tt) (sym (position h ∙ rw i))) ∙ e))))
        (λ i. inr (inl (i, let z = sym (read_misplaced h i) ∙ e in cc))))
        (λ q h. let z = sym ((all_refuse q h).reads g at) ∙ e in let k : q ≡ r = cc in inl (subst (Unread s) k (test_refuses q h)))

abbrev stop_of : Refusal → Listed → Refusal
stop_of d (Ok n) = d
stop_of d (Err s) = s.refusal

-- where a listing stops, that has stored m tokens before
stops : (ts : Tokens) (room m n : ℕ) (r : Refusal) → NumberedEnd ts → list_answer ts room m ≡ listed_up_to n r → (m ≤ n) × (FoundNoPlace ts room (n - m) r ⊎ InReading r)
unfolding list_answer IsToken NumberedEnd
stops fin room m n r t e = never (cc)
stops (halt q) room m n r t e = let i : q ≡ r = ap (stop_of q) e in let j : m ≡ n = ap count_in e in (omega arith, inr (subst InReading i t))
stops (more k ts) room m n r t e =
    split (ltb room 3)
    (λ h. let z = (rw (h, list_answer) at e) in let i : m ≡ n = ap count_in z in let j : no_room k ≡ r = ap (stop_of r) z in
    let l : room < 3 = ltb-true room 3 h in
    let o : n - m ≡ 0 = omega arith in
    (omega arith, inl (subst (λ (x : ℕ). FoundNoPlace (more k ts) room x r) (sym o) (record { token = k; next = refl; stored = omega arith; full = omega arith; refusal = sym j }))))
    (λ h. let f = stops ts (room - 3) (m + 1) n r t (rw (h, list_answer) at e) in
    let l : 3 ≤ room = ltb-false room 3 h in
    let b = f.0 in
    let o : n - m ≡ suc (n - (m + 1)) = omega arith in (
      omega arith,
      ⊎_elim
          (λ w. let st = w.stored in let fu = w.full in
          inl (subst (λ (x : ℕ). FoundNoPlace (more k ts) room x r) (sym o) (record { token = w.token; next = w.next; stored = omega arith; full = omega arith; refusal = w.refusal })))
          (λ w. inr w) f.1,
    ))

-- and where it has to
short : (ts : Tokens) (room m j : ℕ) (k : Token) → IsToken ts j k → row_place j ≤ room → room < row_place (j + 1) → list_answer ts room m ≡ listed_up_to (m + j) (no_room k)
unfolding list_answer IsToken
short fin room m j k i a b = absurd i
short (halt r) room m j k i a b = absurd i
short (more t ts) room m zero k i a b = rw (lt-ltb room 3 (omega arith), list_answer) (let z : m + 0 ≡ m = omega arith in λ x. listed_up_to (sym z x) (no_room (i x)))
short (more t ts) room m (suc j) k i a b =
    rw (le-ltb room 3 (omega arith), list_answer) (short ts (room - 3) (m + 1) j k i (omega arith) (omega arith) ∙ ap (λ (x : ℕ). listed_up_to x (no_room k)) (omega arith))

-- with more room the same words come first
words_front : (ts : Tokens) (room large : ℕ) → room ≤ large → listed_words ts room ≡ take (length (listed_words ts room)) (listed_words ts large)
unfolding listed_words
words_front fin room large h = refl
words_front (halt r) room large h = refl
words_front (more k ts) room large h =
    split (ltb room 3) (λ e. rw (e, listed_words) refl)
    (λ e. let l : 3 ≤ room = ltb-false room 3 e in rw (e, le-ltb large 3 (omega arith), listed_words)
    (ap (row_words (number_of k.kind) k.span.start k.span.end) (words_front ts (room - 3) (large - 3) (omega arith))))

pub list_front : (g : Reading) (s : List ℕ) (room large : ℕ) → room ≤ large → stored_of g s room ≡ take (length (stored_of g s room)) (stored_of g s large)
list_front g s room large h =
    let Front : List ℕ → List ℕ → Type 0 = λ v w. v ≡ take (length v) w in
    by_tested (source_test s)
    (λ e. subst₂ Front (sym (list_by g s room (Ok tt) (sym e)).1) (sym (list_by g s large (Ok tt) (sym e)).1) (words_front (tokens_at (rules_of g) s 0) room large h))
    (λ r e. subst₂ Front (sym (list_by g s room (Err r) (sym e)).1) (sym (list_by g s large (Err r) (sym e)).1) refl)

module _ (g : Reading) (s : List ℕ) (room : ℕ) where
  -- list refuses for no other reason
  pub list_refusal : (n : ℕ) (r : Refusal) → list_of g s room ≡ listed_up_to n r → Unread s r ⊎ (FoundNoPlace (tokens_at (rules_of g) s 0) room n r ⊎ InReading r)
  list_refusal n r e =
      by_tested (source_test s)
      (λ h. let w = (stops (tokens_at (rules_of g) s 0) room 0 n r (tokens_refusal g s 0) (sym (list_by g s room (Ok tt) (sym h)).0 ∙ e)).1 in
      let z : n - 0 ≡ n = omega arith in inr (subst (λ (x : ℕ). FoundNoPlace (tokens_at (rules_of g) s 0) room x r ⊎ InReading r) z w))
      (λ q h. let z = sym ((all_refuse s q h).lists g room).0 ∙ e in let k : q ≡ r = ap (stop_of q) z in inl (subst (Unread s) k (test_refuses s q h)))

  -- 3, with the token that found no place, and those before it stored
  pub list_no_place : source_test s ≡ Ok tt → (n : ℕ) (k : Token) → IsToken (tokens_at (rules_of g) s 0) n k → row_place n ≤ room → room < row_place (n + 1) → list_of g s room ≡ listed_up_to n (no_room k)
  list_no_place h n k i a b =
      let z : 0 + n ≡ n = omega arith in
      (list_by g s room (Ok tt) (sym h)).0 ∙ short (tokens_at (rules_of g) s 0) room 0 n k i a b ∙ ap (λ (x : ℕ). listed_up_to x (no_room k)) z

  pub list_stored : source_test s ≡ Ok tt → (n : ℕ) (k : Token) → IsToken (tokens_at (rules_of g) s 0) n k → row_place n ≤ room → room < row_place (n + 1) → length (stored_of g s room) ≡ row_place n
  list_stored h n k i a b = let z = three_words g s room in let y = ap count_in (list_no_place h n k i a b) in omega arith

  -- a listing that is refused with another number than 3 and 10 to 19 has written nothing
  pub list_nothing : (n : ℕ) (r : Refusal) → list_of g s room ≡ listed_up_to n r → (number_in r ≡ 3 → ⊥) → (InReading r → ⊥) → stored_of g s room ≡ []
  list_nothing n r e three reading =
      by_tested (source_test s)
      (λ h. ⊎_elim (λ w. absurd (three (ap (λ (x : Refusal). number_in x) w.refusal))) (λ w. absurd (reading w))
      (stops (tokens_at (rules_of g) s 0) room 0 n r (tokens_refusal g s 0) (sym (list_by g s room (Ok tt) (sym h)).0 ∙ e)).1)
      (λ q h. ((all_refuse s q h).lists g room).1)

-- how an outline ends
ends : (ts : Tokens) (r : Refusal) → NumberedEnd ts → outline_answer ts ≡ Err r → InReading r
unfolding outline_answer NumberedEnd
ends fin r t e = never (cc)
ends (halt q) r t e = let i : q ≡ r = cc in subst InReading i t
ends (more k ts) r t e = ends ts r t e

module _ (g : Reading) (s : List ℕ) (room : ℕ) where
  -- 3 at 0 for a buffer that is shorter than the source; nothing is written
  pub outline_no_place : source_test s ≡ Ok tt → room < length s → (outline_of g s room ≡ Err (point_refusal NoRoom 0)) × (outline_written g s room ≡ [])
  outline_no_place h l = let b = outline_by g s room (Ok tt) (sym h) in (b.0 ∙ rw (lt-ltb room (length s) l), b.1 ∙ rw (lt-ltb room (length s) l))

  fitting : source_test s ≡ Ok tt → length s ≤ room → outline_of g s room ≡ outline_answer (tokens_at (rules_of g) s 0)
  fitting h l = (outline_by g s room (Ok tt) (sym h)).0 ∙ rw (le-ltb room (length s) l)

  -- outline refuses for no other reason
  pub outline_refusal : (r : Refusal) → outline_of g s room ≡ Err r → Unread s r ⊎ (((room < length s) × (r ≡ point_refusal NoRoom 0)) ⊎ InReading r)
  outline_refusal r e =
      by_tested (source_test s)
      (λ h. split_le (length s) room (λ l. inr (inr (ends (tokens_at (rules_of g) s 0) r (tokens_refusal g s 0) (sym (fitting h l) ∙ e))))
      (λ l. inr (inl (l, let z = sym (outline_no_place h l).0 ∙ e in cc))))
      (λ q h. let z = sym ((all_refuse s q h).outlines g room).0 ∙ e in let k : q ≡ r = cc in inl (subst (Unread s) k (test_refuses s q h)))

  -- and writes nothing, unless 10 to 19 ended the tokens
  pub outline_nothing : (r : Refusal) → outline_of g s room ≡ Err r → (InReading r → ⊥) → outline_written g s room ≡ []
  outline_nothing r e reading =
      by_tested (source_test s)
      (λ h. split_le (length s) room (λ l. absurd (reading (ends (tokens_at (rules_of g) s 0) r (tokens_refusal g s 0) (sym (fitting h l) ∙ e))))
      (λ l. (outline_no_place h l).1))
      (λ q h. ((all_refuse s q h).outlines g room).1)
