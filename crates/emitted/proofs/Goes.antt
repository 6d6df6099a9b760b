-- Every call is made of gathering, bumping and flushing: what these three keep, a call keeps. Assumes nothing.
use Prim.Native.Nat.{ℕ, zero, suc, ◌+◌, ◌-◌, ◌≤◌, ◌<◌}
use mathlib.Core.Path.{◌≡◌, refl, sym, ◌∙◌, subst}
use mathlib.Core.List.{List, [], ◌++◌}
use mathlib.Core.Bool.{Bool, true, false}
use native.Mathlib.Omega.{arith}
use lib.Dec.{leb, eqb}
use lib.ListN.{get_or, length}
use borrow.Author.Tests.{leb-true, ne_eqb}
use Rattle.emitted.proofs.Stays.{Sound, sound_bumped, sound_flushed, sound_gather}
use Rattle.emitted.specs.Sequence.{Call, advances, arrays, bumps, bumps_if, bumps_while, emitted_by, ends, fills, flushes, glues, nths, tokens, turn_of}
use Rattle.laws.proofs.Cases.{both_inv, split, split_eq}
use Rattle.laws.specs.Bools.{pick}
use Rattle.std.specs.Prelude.{Result, Ok, Err}
use Rattle.looks.proofs.Answers.{refusal_none}
use Rattle.looks.proofs.Gathers.{gather_held}
use Rattle.looks.proofs.Running.{plan_inv, while_planned, while_sound}
use Rattle.looks.specs.Buffer.{State, fill, fits, fits_for, gather, gather_at, gather_nums, gathers}
use Rattle.looks.specs.Answer.{done}
use Rattle.looks.specs.Calls.{Turn, advance_by, advance_refusal, advance_turn, advance_words, advanced, array_by, array_refusal, array_turn, bump_answer, bump_by, bump_if_by, bumped, fill_by, fill_refusal, flush_by, flush_turn, flushed, front_turn, glued_by, glued_kind, is_eof_by, nth_by, nth_token_by, refuses, shows, stored_by, unless}
use Rattle.looks.specs.Front.{front_words, nth_of, white_of, white_words, yes}
use Rattle.looks.specs.Numbered.{dark, token_count}
use Rattle.looks.specs.While.{bump_while_by, goes_on, run_of, tokens_left, while_refusal, while_run, while_turn}
use Rattle.looks.specs.declared.look.Stop.{Stop}
use Rattle.looks.specs.declared.look.Stop.TheVariants.{StoreShort}

-- a relation of a state, what is emitted, and the state then
pub record Kept (l : List ℕ) (R : State → List ℕ → State → Type 0) : Type 0 where
  pub stay : (st : State) → R st [] st
  pub after : (st : State) (ws : List ℕ) (st' : State) (vs : List ℕ) (st'' : State) → R st ws st' → R st' vs st'' → R st (ws ++ vs) st''
  pub gathering : (st : State) → Sound l st → st.nums.held_len < 8 → (gather_nums l st.nums).wait_len ≤ 256 → R st [] (gather l st)
  pub bumping : (st : State) → Sound l st → R st (front_words l st) (bumped st)
  pub flushing : (st : State) → Sound l st → R st (white_words l st) (flushed st)

module _ (l : List ℕ) (R : State → List ℕ → State → Type 0) (r : Kept l R) where
  abbrev pub Goes : State → List ℕ → State → Type 0
  Goes st ws st' = Sound l st' × R st ws st'

  stays : (st : State) → Sound l st → Goes st [] st
  stays st s = (s, r.stay st)

  then : (st : State) (ws : List ℕ) (st' : State) (vs : List ℕ) (st'' : State) → Goes st ws st' → (Sound l st' → Goes st' vs st'') → Goes st (ws ++ vs) st''
  then st ws st' vs st'' g h = let k = h g.0 in (k.0, r.after st ws st' vs st'' g.1 k.1)

  goes_gathers : (n : ℕ) (st : State) → Sound l st → st.nums.held_len + n ≤ 8 → fits_for l n st.nums ≡ true → Goes st [] (gathers l n st)
  unfolding gathers fits_for gather_at
  goes_gathers zero st s h f = stays st s
  goes_gathers (suc n) st s h f =
      let b = both_inv (leb (gather_nums l st.nums).wait_len 256) (fits_for l n (gather_nums l st.nums)) f in
      let few : st.nums.held_len < 8 = omega arith in
      let room = leb-true (gather_nums l st.nums).wait_len 256 b.0 in
      let more = (gather_held (dark l st.nums.next) (token_count l) st.nums).0 in
      then st [] (gather l st) [] (gathers l n (gather l st)) (sound_gather l st s few room, r.gathering st s few room)
      (λ s₁. goes_gathers n (gather l st) s₁ (omega arith) b.1)

  goes_fill : (n : ℕ) (st : State) → Sound l st → n ≤ 7 → fits l n st.nums ≡ true → Goes st [] (fill l n st)
  goes_fill n st s h f = let few = s.bounded.held_few in goes_gathers (n + 1 - st.nums.held_len) st s (omega arith) f

  goes_bump : (st : State) → Sound l st → Goes st (front_words l st) (bumped st)
  goes_bump st s = (sound_bumped l st s, r.bumping st s)

  goes_advance : (n : ℕ) (st : State) → Sound l st → Goes st (advance_words l n st) (advanced n st)
  unfolding advance_words advanced
  goes_advance zero st s = stays st s
  goes_advance (suc n) st s = then st (front_words l st) (bumped st) (advance_words l n (bumped st)) (advanced n (bumped st)) (goes_bump st s) (goes_advance n (bumped st))

  goes_run : (kind n : ℕ) (f : State) → Sound l f → (run_of l kind n f).fitting ≡ true → Goes f (run_of l kind n f).written (run_of l kind n f).state
  unfolding run_of
  goes_run kind zero f s fit = stays f s
  goes_run kind (suc n) f s fit =
      split (goes_on l kind f.nums f.held)
      (λ g.
      let next = run_of l kind n (fill l 0 (bumped f)) in
      let b = both_inv (fits l 0 (bumped f).nums) next.fitting (rw g at fit) in
      rw g (then f (front_words l f) (bumped f) next.written next.state (goes_bump f s)
      (λ s₁. then (bumped f) [] (fill l 0 (bumped f)) next.written next.state (goes_fill 0 (bumped f) s₁ (omega arith) b.0)
      (λ s₂. goes_run kind n (fill l 0 (bumped f)) s₂ b.1))))
      (λ g. rw g (stays f s))

  -- what of a turn counts as emitted: nothing of a refusal
  module _ (out : Turn → List ℕ) (quiet : (stop : Stop) (st : State) → out (refuses stop st) ≡ []) where
    refused : (stop : Stop) (st : State) → Sound l st → Goes st (out (refuses stop st)) st
    refused stop st s = subst (λ (ws : List ℕ). Goes st ws st) (sym (quiet stop st)) (stays st s)

    may_refuse : (A : Type 0) (no : Result A Stop) (st : State) (t : Turn) → Sound l st → ((a : A) → no ≡ Ok a → Goes st (out t) t.state) → Goes st (out (unless no st t)) (unless no st t).state
    may_refuse A (Ok a) st t s g = g a refl
    may_refuse A (Err stop) st t s g = refused stop st s

    may_lack : (room : ℕ) (st : State) (t : Turn) → Sound l st → Goes st (out t) t.state → Goes st (out (stored_by room st t)) (stored_by room st t).state
    may_lack room st t s g = split (leb (length t.written) room) (λ b. rw b g) (λ b. rw b (refused StoreShort st s))

  abbrev GoesBy : State → Turn → Type 0
  GoesBy st t = Goes st t.written t.state

  by_unless : (A : Type 0) (no : Result A Stop) (st : State) (t : Turn) → Sound l st → ((a : A) → no ≡ Ok a → GoesBy st t) → GoesBy st (unless no st t)
  by_unless = may_refuse (λ t. t.written) (λ stop st. refl)

  by_stored : (room : ℕ) (st : State) (t : Turn) → Sound l st → GoesBy st t → GoesBy st (stored_by room st t)
  by_stored = may_lack (λ t. t.written) (λ stop st. refl)

  by_pick : (b : Bool) (st : State) (t u : Turn) → GoesBy st t → GoesBy st u → GoesBy st (pick b t u)
  by_pick true st t u g h = g
  by_pick false st t u g h = h

  -- what is asked of the filled state
  by_filled : (q n : ℕ) (st : State) (t : Turn) → Sound l st → (Goes st [] (fill l n st) → GoesBy st t) → GoesBy st (unless (fill_refusal q l n st) st t)
  by_filled q n st t s g = by_unless Unit (fill_refusal q l n st) st t s (λ u e. let h = refusal_none q l n st e in g (goes_fill n st s h.1 h.2))

  goes_flush : (st : State) → Goes st [] (fill l 0 st) → Goes st (white_words l (fill l 0 st)) (flushed (fill l 0 st))
  goes_flush st g = let f = fill l 0 st in then st [] f (white_words l f) (flushed f) g (λ s. (sound_flushed l f s, r.flushing f s))

  goes_front : (st : State) → Goes st [] (fill l 0 st) → Goes st (front_words l (fill l 0 st)) (bumped (fill l 0 st))
  goes_front st g = let f = fill l 0 st in then st [] f (front_words l f) (bumped f) g (goes_bump f)

  goes_array : (q n : ℕ) (st : State) → Sound l st → array_refusal q l n st ≡ Ok tt → Goes st [] (gathers l (n - st.nums.held_len) st)
  unfolding array_refusal gathers
  goes_array q n st s e =
      split_eq n 0
      (λ z. let none : n - st.nums.held_len ≡ 0 = omega arith in rw none (stays st s))
      (λ z.
      let h = refusal_none q l (n - 1) st (rw (ne_eqb n 0 z) at e) in
      let one : n - 1 + 1 ≡ n = omega (arith, z) in
      rw one at (goes_fill (n - 1) st s h.1 h.2))

  pub goes : (q : ℕ) (call : Call) (st : State) → Sound l st → Goes st (emitted_by call (turn_of q l call st)) (turn_of q l call st).state
  unfolding fill_by nth_by nth_token_by glued_by is_eof_by flush_by bump_by bump_if_by bump_while_by advance_by array_by
  goes q (fills n) st s = let f = fill l n st in by_filled q n st (shows 0 f) s (λ g. g)
  goes q (nths n) st s = let f = fill l n st in by_filled q n st (shows (get_or (nth_of l n f) 0 0) f) s (λ g. g)
  goes q (tokens n) st s = let f = fill l n st in by_filled q n st (record { state = f; answer = done 0 (get_or (nth_of l n f) 0 0) (get_or (nth_of l n f) 1 0) (get_or (nth_of l n f) 2 0); written = [] }) s (λ g. g)
  goes q (glues n) st s = let f = fill l n st in by_filled q n st (shows (glued_kind l n f.nums f.held f.counts) f) s (λ g. g)
  goes q ends st s = let f = fill l 0 st in by_filled q 0 st (shows (yes (eqb (get_or (nth_of l 0 f) 0 0) 67)) f) s (λ g. g)
  goes q (flushes room) st s =
      let t = flush_turn l (fill l 0 st) in
      by_filled q 0 st (stored_by room st t) s (λ g. by_stored room st t s (goes_flush st g))
  goes q (bumps room) st s =
      let f = fill l 0 st in
      let t = front_turn l (bump_answer (white_of f) (nth_of l 0 f)) f in
      by_filled q 0 st (stored_by room st t) s (λ g. by_stored room st t s (goes_front st g))
  goes q (bumps_if kind room) st s =
      let f = fill l 0 st in
      let t = front_turn l (done (white_of f + 1) 1 0 0) f in
      let is = eqb (get_or (nth_of l 0 f) 0 0) kind in
      by_filled q 0 st (stored_by room st (pick is t (shows 0 f))) s
      (λ g. by_stored room st (pick is t (shows 0 f)) s (by_pick is st t (shows 0 f) (goes_front st g) g))
  goes q (bumps_while kind room) st s =
      by_unless ℕ (while_refusal q l kind st) st (stored_by room st (while_turn (while_run l kind st))) s
      (λ count e.
      let p = plan_inv l kind 0 (tokens_left l st.nums) st count (sym (while_planned q l kind st (while_sound q l kind st count e)) ∙ e) in
      by_stored room st (while_turn (while_run l kind st)) s
      (then st [] (fill l 0 st) (while_run l kind st).written (while_run l kind st).state (goes_fill 0 st s (omega arith) p.0)
      (λ s₁. goes_run kind (tokens_left l st.nums) (fill l 0 st) s₁ p.1)))
  goes q (advances n room) st s = by_unless Unit (advance_refusal q l n st) st (stored_by room st (advance_turn l n st)) s (λ u e. by_stored room st (advance_turn l n st) s (goes_advance n st s))
  goes q (arrays n room) st s =
      may_refuse (λ t. []) (λ stop st. refl) Unit (array_refusal q l n st) st (stored_by room st (array_turn l n (gathers l (n - st.nums.held_len) st))) s
      (λ u e. may_lack (λ t. []) (λ stop st. refl) room st (array_turn l n (gathers l (n - st.nums.held_len) st)) s (goes_array q n st s e))
