-- What gathering, bumping and flushing emit: the next tokens that are kept, in the list's order. Assumes nothing.
use Prim.Native.Nat.{ℕ, ◌+◌, ◌-◌, ◌%◌, ◌≤◌, ◌<◌}
use mathlib.Core.Path.{◌≡◌, refl, sym, ap, ap₂, ◌∙◌}
use mathlib.Core.List.{List, [], ◌∷◌, ◌++◌, append_assoc, append-nil}
use mathlib.Core.Bool.{Bool, true, false}
use native.Mathlib.Omega.{arith}
use lib.Dec.{ltb}
use lib.ListN.{get_or, length}
use borrow.Author.Tests.{le-ltb, lt-ltb, ne_eqb}
use Rattle.emitted.proofs.Goes.{Kept}
use Rattle.emitted.proofs.Rises.{rises, rises_before, rises_cons, total, total_append, total_one}
use Rattle.emitted.proofs.Slots.{range, slots_length}
use Rattle.emitted.proofs.Stays.{Sound, dark_at, gather_room, white_fits, white_to_law}
use Rattle.emitted.proofs.Views.{bump_none, bump_nums, bump_rest, counts_of, front_of, held_of, views_bump, views_flush, views_last, views_more, views_none, wait_less, wait_of, white_all}
use Rattle.emitted.proofs.Weave.{kept_dark, kept_split, kept_white, kept_from, pending, range_length, wait_words_law, weave, weave_front, weave_none, weave_push, weave_wait, words_append, words_all}
use Rattle.emitted.specs.Sequence.{is_end, without}
use Rattle.laws.proofs.Cases.{split_eq, split_le, within_inv}
use Rattle.laws.specs.Bools.{pick}
use Rattle.looks.proofs.Gathers.{gather_waits}
use Rattle.looks.proofs.Numbers.{dark_bound}
use Rattle.looks.specs.Buffer.{State, gather, gather_at, gather_nums, gather_to, keeps, white_to}
use Rattle.looks.specs.Calls.{bumped, flushed}
use Rattle.looks.specs.Front.{front_words, less_waiting, nth_of, nth_words, white_of, white_words}
use Rattle.looks.specs.Numbered.{dark, eof_words, kind_at, token_at, token_count}
use Rattle.ahead.specs.declared.Nums.{Nums}

-- no token of the list is an end-of-file token
abbrev pub Real : List ℕ → Type 0
Real l = (i : ℕ) → i < token_count l → kind_at l i ≤ 66

-- where more is to be read, nothing waits after the last held token
pub record Tidy (l : List ℕ) (keep : Bool) (st : State) : Type 0 where
  pub asked : keeps st.nums ≡ keep
  pub even : st.nums.next < token_count l → total (counts_of st) ≡ st.nums.wait_len

abbrev pub kept_to : Bool → List ℕ → State → List ℕ
kept_to keep l st = kept_from keep l 0 st.nums.next

-- the tokens that are emitted, by number, and those still pending are the ones kept so far
pub record Step (l : List ℕ) (keep : Bool) (st : State) (ws : List ℕ) (st' : State) : Type 0 where
  pub numbers : List ℕ
  pub words : (rest : List ℕ) → without is_end (ws ++ rest) ≡ words_all l numbers ++ without is_end rest
  pub order : (done : List ℕ) → done ++ pending st ≡ kept_to keep l st → (done ++ numbers) ++ pending st' ≡ kept_to keep l st'
  pub tidy : Tidy l keep st'

abbrev pub Steps : List ℕ → Bool → State → List ℕ → State → Type 0
Steps l keep st ws st' = Tidy l keep st → Step l keep st ws st'

module _ (l : List ℕ) where
  real_token : (i : ℕ) (rest : List ℕ) → kind_at l i ≤ 66 → without is_end (token_at l i ++ rest) ≡ token_at l i ++ without is_end rest
  unfolding without
  real_token i rest h = rw (ne_eqb (kind_at l i) 67 (λ e. omega arith))

  white_real : (ns : List ℕ) (low top : ℕ) (rest : List ℕ) → rises true l ns low top ≡ true → without is_end (words_all l ns ++ rest) ≡ words_all l ns ++ without is_end rest
  unfolding words_all
  white_real [] low top rest r = refl
  white_real (n ∷ ns) low top rest r =
      let a = rises_cons true l n ns low top r in
      let w = within_inv 1 4 (kind_at l n) (sym a.0.kind) in
      real_token n (words_all l ns ++ rest) (omega (arith, w.1))
      ∙ ap (λ (s : List ℕ). token_at l n ++ s) (white_real ns (n + 1) top rest a.1)

module _ (l : List ℕ) (keep : Bool) where
  step_stay : (st : State) → Steps l keep st [] st
  unfolding words_all
  step_stay st t = record { numbers = []; words = λ rest. refl; order = λ done e. ap (λ (s : List ℕ). s ++ pending st) (append-nil done) ∙ e; tidy = t }

  step_after : (st : State) (ws : List ℕ) (st' : State) (vs : List ℕ) (st'' : State) → Steps l keep st ws st' → Steps l keep st' vs st'' → Steps l keep st (ws ++ vs) st''
  step_after st ws st' vs st'' f g t =
      let a = f t in
      let b = g a.tidy in
      record {
        numbers = a.numbers ++ b.numbers;
        words = λ rest.
            ap (without is_end) (append_assoc ws vs rest) ∙ a.words (vs ++ rest) ∙ ap (λ (s : List ℕ). words_all l a.numbers ++ s) (b.words rest)
            ∙ sym (append_assoc (words_all l a.numbers) (words_all l b.numbers) (without is_end rest))
            ∙ ap (λ (s : List ℕ). s ++ without is_end rest) (sym (words_append l a.numbers b.numbers));
        order = λ done e. ap (λ (s : List ℕ). s ++ pending st'') (sym (append_assoc done a.numbers b.numbers)) ∙ b.order (done ++ a.numbers) (a.order done e);
        tidy = b.tidy;
      }

-- nothing emitted, more pending
module _ (l : List ℕ) (keep : Bool) (st st' : State) (more : List ℕ) where
  quiet : pending st' ≡ pending st ++ more → kept_to keep l st' ≡ kept_to keep l st ++ more → Tidy l keep st' → Step l keep st [] st'
  unfolding words_all
  quiet p k t =
      record {
        numbers = [];
        words = λ rest. refl;
        order = λ done e.
            ap₂ (λ (a b : List ℕ). a ++ b) (append-nil done) p ∙ sym (append_assoc done (pending st) more)
            ∙ ap (λ (s : List ℕ). s ++ more) e ∙ sym k;
        tidy = t;
      }

module _ (l : List ℕ) (keep : Bool) (st : State) (s : Sound l st) (few : st.nums.held_len < 8) (room : (gather_nums l st.nums).wait_len ≤ 256) (t : Tidy l keep st) where
  abbrev m₁ : Nums
  m₁ = st.nums

  abbrev p₁ : ℕ
  p₁ = dark l m₁.next

  abbrev w₁ : ℕ
  w₁ = white_to p₁ m₁

  bound : (m₁.next ≤ p₁) × (p₁ ≤ token_count l)
  bound = dark_bound l m₁.next s.bounded.reach

  kept_run : kept_from keep l m₁.next (p₁ - m₁.next) ≡ range m₁.next w₁
  kept_run =
      let b = bound in
      kept_white keep l (p₁ - m₁.next) m₁.next (λ k a c. white_to_law l m₁.next k a (omega arith))
      ∙ ap (λ (b : Bool). range m₁.next (pick b (p₁ - m₁.next) 0)) (sym t.asked)

  kept_to_law : kept_from keep l 0 p₁ ≡ kept_to keep l st ++ range m₁.next w₁
  kept_to_law =
      let b = bound in
      let e : p₁ ≡ m₁.next + (p₁ - m₁.next) = omega arith in
      let z : 0 + m₁.next ≡ m₁.next = omega arith in
      ap (kept_from keep l 0) e ∙ kept_split keep l m₁.next (p₁ - m₁.next) 0
      ∙ ap (λ (s : List ℕ). kept_to keep l st ++ s) (ap (λ (i : ℕ). kept_from keep l i (p₁ - m₁.next)) z ∙ kept_run)

  gather_keeps : keeps (gather l st).nums ≡ keep
  unfolding gather_at gather_to
  gather_keeps = t.asked

  sum_fits : total (counts_of st) ≤ length (wait_of st)
  sum_fits = let a = s.sum in omega (arith, slots_length 256 st.waiting m₁.wait_at m₁.wait_len)

  gather_waiting : (gather l st).nums.wait_len ≡ m₁.wait_len + w₁
  unfolding gather_at
  gather_waiting = gather_waits p₁ (token_count l) m₁

  step_last : token_count l ≤ p₁ → Step l keep st [] (gather l st)
  step_last h =
      let b = bound in
      let v = views_last p₁ (token_count l) st s.sized (gather_room l st s room) h in
      quiet l keep st (gather l st) (range m₁.next w₁)
      (ap₂ (λ (cs hs : List ℕ). weave cs hs (wait_of (gather l st))) v.1 v.0 ∙ ap (weave (counts_of st) (held_of st)) v.2
      ∙ weave_wait (counts_of st) (held_of st) (wait_of st) (range m₁.next w₁) sum_fits)
      (ap (kept_from keep l 0) v.3 ∙ kept_to_law)
      (record { asked = gather_keeps; even = λ k. absurd (omega (arith, v.3)) })

  step_more : p₁ < token_count l → Step l keep st [] (gather l st)
  step_more h =
      let b = bound in
      let v = views_more p₁ (token_count l) st s.sized (gather_room l st s room) h few in
      let even = t.even (omega arith) in
      let ws = slots_length 256 st.waiting m₁.wait_at m₁.wait_len in
      let cs = slots_length 8 st.counts m₁.held_at m₁.held_len in
      let hs = slots_length 8 st.held m₁.held_at m₁.held_len in
      let z : 0 + p₁ ≡ p₁ = omega arith in
      quiet l keep st (gather l st) (range m₁.next w₁ ++ (p₁ ∷ []))
      (ap₂ (λ (cs hs : List ℕ). weave cs hs (wait_of (gather l st))) v.1 v.0 ∙ ap (weave (counts_of st ++ (w₁ ∷ [])) (held_of st ++ (p₁ ∷ []))) v.2
      ∙ weave_push (counts_of st) (held_of st) (wait_of st) (range m₁.next w₁) p₁ w₁ (omega arith) (omega arith) (range_length m₁.next w₁))
      (ap (kept_from keep l 0) v.3 ∙ kept_split keep l p₁ 1 0
      ∙ ap₂ (λ (a c : List ℕ). a ++ c) kept_to_law (ap (λ (i : ℕ). kept_from keep l i 1) z ∙ kept_dark keep l p₁ (dark_at l m₁.next s.bounded.reach h))
      ∙ append_assoc (kept_to keep l st) (range m₁.next w₁) (p₁ ∷ []))
      (record {
        asked = gather_keeps;
        even = λ k. omega (arith, ap total v.1, total_append (counts_of st) (w₁ ∷ []), total_one w₁, gather_waiting);
      })

  step_gather : Step l keep st [] (gather l st)
  step_gather = split_le (token_count l) p₁ step_last step_more

-- tokens emitted from the front of what is pending
module _ (l : List ℕ) (keep : Bool) (st : State) (ws : List ℕ) (st' : State) (numbers : List ℕ) where
  loud : ((rest : List ℕ) → without is_end (ws ++ rest) ≡ words_all l numbers ++ without is_end rest) → pending st ≡ numbers ++ pending st' → st'.nums.next ≡ st.nums.next → Tidy l keep st' → Step l keep st ws st'
  loud w p n t =
      record {
        numbers = numbers;
        words = w;
        order = λ done e. append_assoc done numbers (pending st') ∙ ap (λ (s : List ℕ). done ++ s) (sym p) ∙ e ∙ ap (kept_from keep l 0) (sym n);
        tidy = t;
      }

module _ (l : List ℕ) (real : Real l) (keep : Bool) (st : State) (s : Sound l st) (t : Tidy l keep st) where
  abbrev m₂ : Nums
  m₂ = st.nums

  abbrev front : List ℕ
  front = front_of (white_of st) st

  abbrev h₁ : ℕ
  h₁ = get_or st.held (m₂.held_at % 8) 0

  front_length : length front ≡ white_of st
  front_length = slots_length 256 st.waiting m₂.wait_at (white_of st)

  front_rises : rises true l front 0 m₂.next ≡ true
  front_rises = rises_before true l front (wait_of (bumped st)) 0 m₂.next (sym (ap (λ (xs : List ℕ). rises true l xs 0 m₂.next) (bump_rest st (white_fits l st s))) ∙ s.waits)

  front_real : (rest : List ℕ) → without is_end (white_words l st ++ rest) ≡ words_all l front ++ without is_end rest
  front_real rest = ap (λ (ws : List ℕ). without is_end (ws ++ rest)) (wait_words_law (white_of st) l st.waiting m₂.wait_at) ∙ white_real l front 0 m₂.next rest front_rises

  flush_rest : wait_of st ≡ front ++ wait_of (flushed st)
  flush_rest = wait_less st (white_of st) (white_fits l st s)

  flush_waits : (flushed st).nums.wait_len ≡ m₂.wait_len - white_of st
  unfolding less_waiting
  flush_waits = refl

  flush_nums : ((flushed st).nums.next ≡ m₂.next) × ((flushed st).nums.keep ≡ m₂.keep) × (held_of (flushed st) ≡ held_of st) × ((flushed st).nums.held_len ≡ m₂.held_len)
  unfolding less_waiting
  flush_nums = (refl, refl, refl, refl)

  module _ (none : m₂.held_len ≡ 0) where
    nth_end : nth_of l 0 st ≡ eof_words l
    unfolding nth_words
    nth_end = rw (le-ltb 0 m₂.held_len (omega arith))

    none_pending : pending st ≡ wait_of st
    none_pending = ap (λ (cs : List ℕ). weave cs (held_of st) (wait_of st)) (views_none st none st.counts) ∙ weave_none (held_of st) (wait_of st)

    bump_end : Step l keep st (front_words l st) (bumped st)
    unfolding without total
    bump_end =
        let e = bump_none st none in
        let b = bump_nums st in
        loud l keep st (front_words l st) (bumped st) front
        (λ rest. ap (without is_end) (append_assoc (white_words l st) (nth_of l 0 st) rest) ∙ front_real (nth_of l 0 st ++ rest) ∙ ap (λ (ws : List ℕ). words_all l front ++ without is_end (ws ++ rest)) nth_end)
        (none_pending ∙ bump_rest st (white_fits l st s)
        ∙ ap (λ (xs : List ℕ). front ++ xs) (sym (ap (λ (cs : List ℕ). weave cs (held_of (bumped st)) (wait_of (bumped st))) (views_none (bumped st) e st.counts) ∙ weave_none (held_of (bumped st)) (wait_of (bumped st)))))
        b.0
        (record { asked = ap (ltb 0) b.2 ∙ t.asked; even = λ k. omega (arith, ap total (views_none (bumped st) e st.counts), b.1, white_all st none) })

    flush_end : Step l keep st (white_words l st) (flushed st)
    unfolding total
    flush_end =
        let f = flush_nums in
        let e = f.3 ∙ none in
        loud l keep st (white_words l st) (flushed st) front front_real
        (none_pending ∙ flush_rest
        ∙ ap (λ (xs : List ℕ). front ++ xs) (sym (ap (λ (cs : List ℕ). weave cs (held_of (flushed st)) (wait_of (flushed st))) (views_none (flushed st) e (flushed st).counts) ∙ weave_none (held_of (flushed st)) (wait_of (flushed st)))))
        f.0
        (record { asked = ap (ltb 0) f.1 ∙ t.asked; even = λ k. omega (arith, ap total (views_none (flushed st) e (flushed st).counts), flush_waits, white_all st none) })

  module _ (some : m₂.held_len ≡ 0 → ⊥) where
    -- the first held token stands in the list
    first_real : kind_at l h₁ ≤ 66
    first_real =
        let a = (rises_cons false l h₁ (held_of (bumped st)) 0 m₂.next (sym (ap (λ (xs : List ℕ). rises false l xs 0 m₂.next) (views_bump st some).0) ∙ s.held)).0 in
        let to = a.to in
        let reach = s.bounded.reach in
        real h₁ (omega arith)

    nth_first : nth_of l 0 st ≡ token_at l h₁
    unfolding nth_words
    nth_first =
        let e : (m₂.held_at + 0) % 8 ≡ m₂.held_at % 8 = omega arith in
        rw (lt-ltb 0 m₂.held_len (omega (arith, some))) (ap (λ (k : ℕ). token_at l (get_or st.held k 0)) e)

    some_pending : (rest : List ℕ) → wait_of st ≡ front ++ rest → pending st ≡ front ++ h₁ ∷ weave (counts_of (bumped st)) (held_of (bumped st)) rest
    some_pending rest e =
        let v = views_bump st some in
        ap₂ (λ (cs hs : List ℕ). weave cs hs (wait_of st)) v.1 v.0 ∙ ap (weave (white_of st ∷ counts_of (bumped st)) (h₁ ∷ held_of (bumped st))) e
        ∙ weave_front (white_of st) (counts_of (bumped st)) h₁ (held_of (bumped st)) front rest front_length

    sum_left : total (counts_of st) ≡ white_of st + total (counts_of (bumped st))
    unfolding total
    sum_left = ap total (views_bump st some).1

    bump_some : Step l keep st (front_words l st) (bumped st)
    unfolding words_all
    bump_some =
        let b = bump_nums st in
        loud l keep st (front_words l st) (bumped st) (front ++ (h₁ ∷ []))
        (λ rest.
        ap (without is_end) (append_assoc (white_words l st) (nth_of l 0 st) rest) ∙ front_real (nth_of l 0 st ++ rest)
        ∙ ap (λ (ws : List ℕ). words_all l front ++ ws) (ap (λ (ws : List ℕ). without is_end (ws ++ rest)) nth_first ∙ real_token l h₁ rest first_real)
        ∙ sym (append_assoc (words_all l front) (token_at l h₁) (without is_end rest))
        ∙ ap (λ (ws : List ℕ). ws ++ without is_end rest) (sym (words_append l front (h₁ ∷ []))))
        (some_pending (wait_of (bumped st)) (bump_rest st (white_fits l st s)) ∙ sym (append_assoc front (h₁ ∷ []) (pending (bumped st))))
        b.0
        (record { asked = ap (ltb 0) b.2 ∙ t.asked; even = λ k. let e = t.even (omega (arith, b.0)) in omega (arith, sum_left, b.1) })

    flush_some : Step l keep st (white_words l st) (flushed st)
    unfolding total
    flush_some =
        let f = flush_nums in
        let v = views_flush st some s.sized s.bounded.held_few in
        loud l keep st (white_words l st) (flushed st) front front_real
        (some_pending (wait_of (flushed st)) flush_rest
        ∙ ap (λ (xs : List ℕ). front ++ xs) (sym
        (ap₂ (λ (cs hs : List ℕ). weave cs hs (wait_of (flushed st))) v (f.2 ∙ (views_bump st some).0)
        ∙ weave_front 0 (counts_of (bumped st)) h₁ (held_of (bumped st)) [] (wait_of (flushed st)) refl)))
        f.0
        (record { asked = ap (ltb 0) f.1 ∙ t.asked; even = λ k. let e = t.even (omega (arith, f.0)) in omega (arith, sum_left, ap total v, flush_waits) })

pub step_kept : (l : List ℕ) → Real l → (keep : Bool) → Kept l (Steps l keep)
step_kept l real keep =
    record {
      stay = step_stay l keep;
      after = step_after l keep;
      gathering = λ st s few room t. step_gather l keep st s few room t;
      bumping = λ st s t. split_eq st.nums.held_len 0 (bump_end l real keep st s t) (bump_some l real keep st s t);
      flushing = λ st s t. split_eq st.nums.held_len 0 (flush_end l real keep st s t) (flush_some l real keep st s t);
    }
