-- A refused call of the lookahead leaves the state as it was and writes nothing, and its number is one of 30 to 34; what 34 tests where the list was tested before. Assumes nothing.
use Prim.Native.Nat.{ℕ, ◌+◌, ◌-◌, ◌<◌}
use mathlib.Core.Path.{◌≡◌, refl, ◌∙◌, subst}
use mathlib.Core.List.{List, []}
use mathlib.Core.Bool.{Bool, true, false}
use native.Mathlib.Omega.{arith}
use lib.Dec.{leb, eqb}
use lib.ListN.{get_or, length}
use borrow.Author.Tests.{le-leb, lt-ltb}
use Rattle.std.specs.Prelude.{Result, Ok, Err}
use Rattle.ahead.specs.View.{fresh_by}
use Rattle.emitted.specs.Sequence.{Call, advances, arrays, bumps, bumps_if, bumps_while, ends, fills, flushes, glues, nths, tokens, turn_of}
use Rattle.laws.proofs.Cases.{both_true}
use Rattle.laws.specs.Bools.{both, pick, within}
use Rattle.looks.specs.Answer.{done, number_of}
use Rattle.looks.specs.Buffer.{State, fill, gathers}
use Rattle.looks.specs.Calls.{Turn, advance_by, advance_refusal, advance_turn, array_by, array_refusal, array_turn, bump_answer, bump_by, bump_if_by, fill_by, fill_refusal, flush_by, flush_turn, front_turn, glued_by, is_eof_by, nth_by, nth_token_by, refuses, shows, stored_by, unless}
use Rattle.looks.specs.Front.{nth_of, white_of}
use Rattle.looks.specs.Numbered.{token_count}
use Rattle.looks.specs.Sound.{bounded_by, count_sum, ordered_by, sound_by, whole_by}
use Rattle.looks.specs.While.{bump_while_by, while_refusal, while_run, while_turn}
use Rattle.looks.specs.declared.look.Done.{Done}
use Rattle.looks.specs.declared.look.Stop.{Stop}
use Rattle.looks.specs.declared.look.Stop.TheVariants.{Faulty, PastHeld, StoreShort, TooFar, WaitingFull}

-- what a call left, wrote and answered: no refusal, or one that kept both
abbrev Told : State → State → List ℕ → Result Done Stop → Type 0
Told st f ws (Ok done) = Unit {0}
Told st f ws (Err stop) = (f ≡ st) × (ws ≡ [])

abbrev Keeps : State → Turn → Type 0
Keeps st u = Told st u.state u.written u.answer

pick_keeps : (st : State) (b : Bool) (x y : Turn) → Keeps st x → Keeps st y → Keeps st (pick b x y)
pick_keeps st true x y h k = h
pick_keeps st false x y h k = k

unless_keeps : (A : Type 0) (no : Result A Stop) (st : State) (u : Turn) → Keeps st u → Keeps st (unless no st u)
unless_keeps A (Ok a) st u k = k
unless_keeps A (Err stop) st u k = (refl, refl)

stored_keeps : (room : ℕ) (st : State) (u : Turn) → Keeps st u → Keeps st (stored_by room st u)
stored_keeps room st u k = pick_keeps st (leb (length u.written) room) u (refuses StoreShort st) k (refl, refl)

-- a refusal's number is one of 30 to 34
pub refused_number : (stop : Stop) → within 30 34 (number_of stop) ≡ true
refused_number TooFar = refl
refused_number WaitingFull = refl
refused_number PastHeld = refl
refused_number StoreShort = refl
refused_number Faulty = refl

module _ (t : ℕ) (l : List ℕ) where
  filled_keeps : (n : ℕ) (st : State) (u : Turn) → Keeps st u → Keeps st (unless (fill_refusal t l n st) st u)
  filled_keeps n st u = unless_keeps Unit (fill_refusal t l n st) st u

  keeps : (call : Call) (st : State) → Keeps st (turn_of t l call st)
  unfolding fill_by nth_by nth_token_by glued_by is_eof_by flush_by bump_by bump_if_by bump_while_by advance_by array_by
  keeps (fills n) st = filled_keeps n st _ (tt {0})
  keeps (nths n) st = filled_keeps n st _ (tt {0})
  keeps (tokens n) st = filled_keeps n st _ (tt {0})
  keeps (glues n) st = filled_keeps n st _ (tt {0})
  keeps ends st = filled_keeps 0 st _ (tt {0})
  keeps (flushes room) st = filled_keeps 0 st _ (stored_keeps room st (flush_turn l (fill l 0 st)) tt)
  keeps (bumps room) st = let f = fill l 0 st in filled_keeps 0 st _ (stored_keeps room st (front_turn l (bump_answer (white_of f) (nth_of l 0 f)) f) tt)
  keeps (bumps_if kind room) st =
      let f = fill l 0 st in
      let is = eqb (get_or (nth_of l 0 f) 0 0) kind in
      let u = front_turn l (done (white_of f + 1) 1 0 0) f in
      filled_keeps 0 st _ (stored_keeps room st (pick is u (shows 0 f)) (pick_keeps st is u (shows 0 f) tt tt))
  keeps (bumps_while kind room) st = unless_keeps ℕ (while_refusal t l kind st) st _ (stored_keeps room st (while_turn (while_run l kind st)) tt)
  keeps (advances n room) st = unless_keeps Unit (advance_refusal t l n st) st _ (stored_keeps room st (advance_turn l n st) tt)
  keeps (arrays n room) st = unless_keeps Unit (array_refusal t l n st) st _ (stored_keeps room st (array_turn l n (gathers l (n - st.nums.held_len) st)) tt)

  -- a refused call leaves the state as it was and writes nothing
  pub refused_same : (call : Call) (st : State) (stop : Stop) → (turn_of t l call st).answer ≡ Err stop → ((turn_of t l call st).state ≡ st) × ((turn_of t l call st).written ≡ [])
  refused_same call st stop e = subst (Told st (turn_of t l call st).state (turn_of t l call st).written) e (keeps call st)

  -- with `tested` not 0, 34 refuses only what leads outside the rings and the list: of a faulty list the words are shown as they stand, and past its end as 0
  pub tested_sound : (st : State) → 0 < t → sound_by t l st ≡ both (bounded_by l st.nums) (leb (count_sum st.counts st.nums.held_len st.nums.held_at) st.nums.wait_len)
  unfolding sound_by
  tested_sound st h = rw (lt-ltb 0 t h, both_true)

  -- .. so that no fresh state is refused with 34 then, whatever the list
  pub tested_fresh : (keep : Bool) → 0 < t → sound_by t l (fresh_by keep) ≡ true
  unfolding bounded_by count_sum
  tested_fresh keep h = tested_sound (fresh_by keep) h ∙ rw (le-leb 0 (token_count l) (omega arith))

  -- .. and with 0 besides what document 01 says of the list, and of the numbers that are held or wait
  pub untested_sound : (st : State) → 0 < t → sound_by 0 l st ≡ both (sound_by t l st) (both (whole_by l) (ordered_by l st))
  unfolding sound_by
  untested_sound st h = rw (lt-ltb 0 t h, both_true)
