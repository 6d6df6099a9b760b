-- Document 01's sentences on the lookahead: what was emitted is a front part of the list, and a call leaves a sound state. Assumes nothing.
use Prim.Native.Nat.{ℕ, ◌≤◌}
use mathlib.Core.Path.{◌≡◌, refl, sym, ap, ap₂, ◌∙◌, subst}
use mathlib.Core.List.{List, [], ◌∷◌, ◌++◌, append_assoc, append-nil}
use mathlib.Core.Bool.{Bool, true, false}
use native.Mathlib.Omega.{arith}
use lib.Dec.{leb, ltb, eqb}
use lib.ListN.{length-replicate}
use Rattle.ahead.specs.View.{fresh_by}
use Rattle.emitted.proofs.Goes.{Kept, goes}
use Rattle.emitted.proofs.Parts.{kept_front, kept_words}
use Rattle.emitted.proofs.Rises.{rises, total}
use Rattle.emitted.proofs.Slots.{slots}
use Rattle.emitted.proofs.Stays.{Sound, sound_bumped, sound_flushed, sound_gather, sound_is, sound_of}
use Rattle.emitted.proofs.Steps.{Real, Steps, Tidy, kept_to, step_kept}
use Rattle.emitted.proofs.Views.{Sized}
use Rattle.emitted.proofs.Weave.{kept_from, pending, weave, words_append, words_all}
use Rattle.emitted.proofs.Whole.{whole_real}
use Rattle.emitted.specs.Sequence.{Call, IsFront, accepted, advances, arrays, bumps, bumps_if, bumps_while, emitted, emitted_by, ends, fills, flushes, front_part, glues, is_end, nths, tokens, turn_of, without}
use Rattle.laws.proofs.Cases.{both_false, never, split}
use Rattle.laws.specs.Bools.{both}
use Rattle.looks.proofs.Numbers.{count_bound}
use Rattle.looks.specs.Buffer.{State}
use Rattle.looks.specs.Calls.{Turn, advance_by, advance_refusal, array_by, array_refusal, bump_by, bump_if_by, fill_by, fill_refusal, flush_by, glued_by, is_eof_by, nth_by, nth_token_by, refuses}
use Rattle.looks.specs.Front.{yes}
use Rattle.looks.specs.Numbered.{token_count}
use Rattle.looks.specs.Sound.{bounded_by, count_sum, sound_by, whole_by}
use Rattle.looks.specs.declared.look.Stop.TheVariants.{Faulty}
use Rattle.looks.specs.While.{bump_while_by, while_refusal}

pub fresh_sized : (keep : Bool) → Sized (fresh_by keep)
fresh_sized keep = record { held = length-replicate {A = ℕ} 8 0; counts = length-replicate {A = ℕ} 8 0; waiting = length-replicate {A = ℕ} 256 0 }

module _ (l : List ℕ) where
  fresh_facts : (keep : Bool) → Sound l (fresh_by keep)
  unfolding slots rises total
  fresh_facts keep =
      record {
        sized = fresh_sized keep;
        bounded = record { held_few = omega arith; wait_few = omega arith; held_in = omega arith; wait_in = omega arith; reach = omega arith };
        held = refl;
        waits = refl;
        sum = omega arith;
      }

  -- a fresh state is sound over a whole list
  pub fresh_sound : whole_by l ≡ true → (keep : Bool) (t : ℕ) → sound_by t l (fresh_by keep) ≡ true
  fresh_sound w keep t = sound_is l (fresh_by keep) w (fresh_facts keep) t

  stays_sound : Kept l (λ st ws st'. Sound l st → Sound l st')
  stays_sound =
      record {
        stay = λ st s. s;
        after = λ st ws st' vs st'' f g s. g (f s);
        gathering = λ st s few room t. sound_gather l st s few room;
        bumping = λ st s t. sound_bumped l st s;
        flushing = λ st s t. sound_flushed l st s;
      }

  -- a state that is not sound is refused with 34, and nothing moves
  pub unsound_refused : (t : ℕ) (call : Call) (st : State) → sound_by t l st ≡ false → turn_of t l call st ≡ refuses Faulty st
  unfolding fill_by nth_by nth_token_by glued_by is_eof_by flush_by bump_by bump_if_by bump_while_by advance_by array_by fill_refusal while_refusal advance_refusal array_refusal
  unsound_refused t (fills n) st s = rw s
  unsound_refused t (nths n) st s = rw s
  unsound_refused t (tokens n) st s = rw s
  unsound_refused t (glues n) st s = rw s
  unsound_refused t ends st s = rw s
  unsound_refused t (flushes room) st s = rw s
  unsound_refused t (bumps room) st s = rw s
  unsound_refused t (bumps_if kind room) st s = rw s
  unsound_refused t (bumps_while kind room) st s = rw s
  unsound_refused t (advances n room) st s = rw s
  unsound_refused t (arrays n room) st s = split (eqb n 0) (λ b. rw (b, s)) (λ b. rw (b, s))

  same : (t : ℕ) (call : Call) (st : State) → sound_by t l st ≡ true → sound_by 0 l st ≡ true → turn_of t l call st ≡ turn_of 0 l call st
  unfolding fill_by nth_by nth_token_by glued_by is_eof_by flush_by bump_by bump_if_by bump_while_by advance_by array_by fill_refusal while_refusal advance_refusal array_refusal
  same t (fills n) st a b = rw (a, b)
  same t (nths n) st a b = rw (a, b)
  same t (tokens n) st a b = rw (a, b)
  same t (glues n) st a b = rw (a, b)
  same t ends st a b = rw (a, b)
  same t (flushes room) st a b = rw (a, b)
  same t (bumps room) st a b = rw (a, b)
  same t (bumps_if kind room) st a b = rw (a, b)
  same t (bumps_while kind room) st a b = rw (a, b)
  same t (advances n room) st a b = rw (a, b)
  same t (arrays n room) st a b = rw (a, b)

  -- over a whole list a call on a sound state is that of document 01, whether tested before or not
  pub tested_same : (t : ℕ) (call : Call) (st : State) → Sized st → sound_by 0 l st ≡ true → turn_of t l call st ≡ turn_of 0 l call st
  tested_same t call st z s =
      let known = sound_of l st z s in
      same t call st (sound_is l st known.0 known.1 t) s

  module _ (call : Call) (st : State) where
    -- a call leaves a sound state sound
    pub leaves_sound : (t : ℕ) → Sized st → sound_by 0 l st ≡ true → sound_by 0 l (turn_of t l call st).state ≡ true
    leaves_sound t z s =
        let known = sound_of l st z s in
        sound_is l (turn_of t l call st).state known.0 (goes l (λ st ws st'. Sound l st → Sound l st') stays_sound t call st known.1).0 0

    -- every accepted call of document 01 leaves a state that 34 does not refuse
    pub accepted_sound : Sized st → accepted (turn_of 0 l call st).answer ≡ true → sound_by 0 l (turn_of 0 l call st).state ≡ true
    accepted_sound z a = split (sound_by 0 l st) (leaves_sound 0 z) (λ s. never (let e : false ≡ true = sym (ap (λ (t : Turn). accepted t.answer) (unsound_refused 0 call st s)) ∙ a in cc))

-- what calls emit from a state on, by number
record Emits (l : List ℕ) (keep : Bool) (done ws : List ℕ) : Type 0 where
  numbers : List ℕ
  words : ws ≡ words_all l numbers
  count : ℕ
  few : count ≤ token_count l
  is : done ++ numbers ≡ kept_from keep l 0 count

yes_keeps : (keep : Bool) → ltb 0 (yes keep) ≡ keep
yes_keeps true = refl
yes_keeps false = refl

module _ (t : ℕ) (l : List ℕ) (real : Real l) (keep : Bool) where
  emits : (calls : List Call) (st : State) → Sound l st → Tidy l keep st → (done : List ℕ) → done ++ pending st ≡ kept_to keep l st
      → Emits l keep done (without is_end (emitted (turn_of t l) calls st))
  unfolding emitted without words_all
  emits [] st s d done e =
      let f = kept_front keep l st.nums.next 0 done (pending st) e in
      let few = f.few in
      let reach = s.bounded.reach in
      record { numbers = []; words = refl; count = f.count; few = omega arith; is = append-nil done ∙ f.is }
  emits (call ∷ calls) st s d done e =
      let g = goes l (Steps l keep) (step_kept l real keep) t call st s in
      let a = g.1 d in
      let b = emits calls (turn_of t l call st).state g.0 a.tidy (done ++ a.numbers) (a.order done e) in
      record {
        numbers = a.numbers ++ b.numbers;
        words = a.words (emitted (turn_of t l) calls (turn_of t l call st).state) ∙ ap (λ (ws : List ℕ). words_all l a.numbers ++ ws) b.words ∙ sym (words_append l a.numbers b.numbers);
        count = b.count;
        few = b.few;
        is = sym (append_assoc done a.numbers b.numbers) ∙ b.is;
      }

  fresh_tidy : Tidy l keep (fresh_by keep)
  unfolding slots total
  fresh_tidy = record { asked = yes_keeps keep; even = λ h. refl }

  front_from : (calls : List Call) → IsFront keep l (without is_end (emitted (turn_of t l) calls (fresh_by keep)))
  unfolding slots weave kept_from
  front_from calls =
      let e = emits calls (fresh_by keep) (fresh_facts l keep) fresh_tidy [] refl in
      let few = e.few in
      let b = (count_bound l).1 in
      record { count = e.count; few = omega arith; is = e.words ∙ ap (words_all l) e.is ∙ kept_words l keep e.count (omega arith) }

-- the calls of document 01 over a list that is not whole refuse all with 34, and emit nothing
module _ (l : List ℕ) where
  quiet : (call : Call) (st : State) → emitted_by call (refuses Faulty st) ≡ []
  quiet (fills n) st = refl
  quiet (nths n) st = refl
  quiet (tokens n) st = refl
  quiet (glues n) st = refl
  quiet ends st = refl
  quiet (flushes room) st = refl
  quiet (bumps room) st = refl
  quiet (bumps_if kind room) st = refl
  quiet (bumps_while kind room) st = refl
  quiet (advances n room) st = refl
  quiet (arrays n room) st = refl

  unwhole : whole_by l ≡ false → (st : State) → sound_by 0 l st ≡ false
  unfolding sound_by
  unwhole w st = rw w (both_false (both (bounded_by l st.nums) (leb (count_sum st.counts st.nums.held_len st.nums.held_at) st.nums.wait_len)))

  emits_none : whole_by l ≡ false → (calls : List Call) (st : State) → emitted (turn_of 0 l) calls st ≡ []
  unfolding emitted
  emits_none w [] st = refl
  emits_none w (call ∷ calls) st = rw (unsound_refused l 0 call st (unwhole w st)) (ap₂ (λ (a b : List ℕ). a ++ b) (quiet call st) (emits_none w calls st))

  part_none : (keep : Bool) → [] ≡ front_part keep l 0
  unfolding without
  part_none true = refl
  part_none false = refl

  -- from a fresh state over a whole list, after any calls: what was emitted, end-of-file aside, is a front part of the list, or with white space dropped that part without it
  pub front_tested : whole_by l ≡ true → (t : ℕ) (keep : Bool) (calls : List Call) → IsFront keep l (without is_end (emitted (turn_of t l) calls (fresh_by keep)))
  front_tested w t keep calls = front_from t l (whole_real l w) keep calls

  -- the same of the calls of document 01, over every list
  pub front : (keep : Bool) (calls : List Call) → IsFront keep l (without is_end (emitted (turn_of 0 l) calls (fresh_by keep)))
  unfolding without
  front keep calls =
      split (whole_by l) (λ w. front_tested w 0 keep calls)
      (λ w. subst (λ (ws : List ℕ). IsFront keep l (without is_end ws)) (sym (emits_none w calls (fresh_by keep))) (record { count = 0; few = omega arith; is = part_none keep }))
