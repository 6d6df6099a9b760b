-- The run of `bump_while` itself. Assumes nothing.
use Prim.Native.Nat.{ℕ, zero, suc, ◌+◌, ◌-◌, ◌*◌, ◌%◌, ◌≤◌, ◌<◌}
use mathlib.Core.Path.{◌≡◌, refl, sym, ap, ap₂, ◌∙◌, subst}
use mathlib.Core.List.{List, ◌++◌}
use mathlib.Core.Bool.{Bool, true, false}
use native.Mathlib.Omega.{arith}
use lib.Dec.{ltb, eqb}
use lib.Seq.{get_or-set_same, length-sets, sets}
use lib.ListN.{get_or, length, length-append}
use borrow.Author.Tests.{eq-eqb, le-ltb, leb-true, lt-ltb, ltb-true, ne_eqb}
use Rattle.std.specs.Prelude.{Ok, Err}
use Rattle.laws.proofs.Cases.{both_false, both_inv, never, split, split_eq, split_le}
use Rattle.laws.proofs.Sets.{sets_append}
use Rattle.laws.specs.Bools.{both, pick}
use Rattle.looks.proofs.Answers.{gather_ready, sound_bounded}
use Rattle.looks.proofs.Fronts.{fill_held, fill_none}
use Rattle.looks.proofs.Gathers.{gather_held}
use Rattle.looks.proofs.Numbers.{dark_bound}
use Rattle.looks.proofs.Planning.{fewer, plannable_after, turn_few}
use Rattle.looks.proofs.Plans.{fill_nums_law, fill_sizes, fits_front, plan_stop, run_stop}
use Rattle.looks.proofs.Sounds.{Bounded}
use Rattle.looks.proofs.Turns.{front_length, front_words_law, sound_sum, stored_done, unless_yes}
use Rattle.looks.specs.Buffer.{Gatherable, State, fill, fits, fits_for, gather_at, gather_nums, gather_to, ring_at, state_of, white_to}
use Rattle.looks.specs.Calls.{bumped, shows, stored_by}
use Rattle.looks.specs.Front.{Fronted, front_white, front_words, nth_of, wait_words, white_of}
use Rattle.looks.specs.Numbered.{dark, token_count}
use Rattle.looks.specs.Sound.{count_sum, sound_by}
use Rattle.looks.specs.While.{Plannable, Run, bump_while_by, emits_then, fill_nums, goes_on, plan_of, run_of, stops, tokens_left, while_plan, while_refusal, while_run, while_turn}
use Rattle.looks.specs.declared.look.Stop.TheVariants.{Faulty, StoreShort}
use Rattle.ahead.specs.declared.Nums.{Nums}

abbrev pub Steady : List ℕ → State → Type 0
Steady l st = Plannable l st.nums st.held st.counts

pub good_sound : (t : ℕ) (l : List ℕ) (st : State) → sound_by t l st ≡ true → length st.held ≡ 8 → length st.counts ≡ 8 → Steady l st
good_sound t l st s h c =
    let b = sound_bounded t l st s in
    record {
      reach = b.reach;
      held_few = b.held_few;
      wait_few = b.wait_few;
      held_in = b.held_in;
      wait_in = b.wait_in;
      held_size = h;
      counts_size = c;
      sum = sound_sum t l st s;
    }

-- filling keeps a state good, and leaves no more tokens than there were
module _ (l : List ℕ) (st : State) (b : Steady l st) where
  abbrev m₁ : Nums
  m₁ = st.nums

  abbrev p₁ : ℕ
  p₁ = dark l m₁.next

  gathered : m₁.held_len ≡ 0 → (fill l 0 st).nums ≡ gather_nums l m₁
  gathered none = fill_nums_law l st ∙ rw (eq-eqb m₁.held_len 0 none)

  pub left_fill : tokens_left l (fill l 0 st).nums ≤ tokens_left l m₁
  unfolding gather_to
  left_fill =
      let d = dark_bound l m₁.next b.reach in
      split_eq m₁.held_len 0
      (λ none.
      let e = gathered none in
      let x = ap (λ (n : Nums). n.held_len) e in
      let y = ap (λ (n : Nums). n.next) e in
      split_le (token_count l) p₁
      (λ h. let z = le-ltb p₁ (token_count l) h in omega (arith, rw z at x, rw z at y))
      (λ h. let z = lt-ltb p₁ (token_count l) h in omega (arith, rw z at x, rw z at y)))
      (λ some. let e = ap (λ (s : State). tokens_left l s.nums) (fill_held l st some) in omega arith)

  pub good_fill : fits l 0 m₁ ≡ true → Steady l (fill l 0 st)
  unfolding gather_to gather_at count_sum
  good_fill fit =
      let wide = leb-true (fill_nums l m₁).wait_len 256 (sym (fits_front l m₁ b.wait_few) ∙ fit) in
      let wide₂ = ap (λ (n : Nums). n.wait_len) (fill_nums_law l st) in
      let d = dark_bound l m₁.next b.reach in
      let sizes = fill_sizes l st b.held_size b.counts_size in
      split_eq m₁.held_len 0
      (λ none.
      let e = gathered none in
      let s = fill_none l st none in
      let g = gather_held p₁ (token_count l) m₁ in
      let x = ap (λ (n : Nums). n.held_len) e in
      let y = ap (λ (n : Nums). n.next) e in
      let hi = b.held_in in
      let wi = b.wait_in in
      record {
        reach = omega (arith, g.1 d.1);
        held_few = omega (arith, g.0);
        wait_few = omega arith;
        held_in = omega (arith, ap (λ (n : Nums). n.held_at) e);
        wait_in = omega (arith, ap (λ (n : Nums). n.wait_at) e);
        held_size = sizes.0;
        counts_size = sizes.1;
        sum =
            split_le (token_count l) p₁
            (λ h.
            let z = le-ltb p₁ (token_count l) h in
            let k : (fill l 0 st).nums.held_len ≡ 0 = x ∙ rw z none in
            let c = ap (λ (n : ℕ). count_sum (fill l 0 st).counts n (fill l 0 st).nums.held_at) k in
            omega arith)
            (λ h.
            let z = lt-ltb p₁ (token_count l) h in
            let one : m₁.held_len + 1 ≡ 1 = omega arith in
            let k : (fill l 0 st).nums.held_len ≡ 1 = x ∙ rw z one in
            let a = ap (λ (n : Nums). n.held_at) e in
            let w = ap (λ (n : Nums). n.wait_len) e in
            let c = ap₂ (λ (n q : ℕ). count_sum (fill l 0 st).counts n q) k a in
            let slot : (m₁.held_at + m₁.held_len) % 8 ≡ m₁.held_at % 8 = ap (λ (n : ℕ). (m₁.held_at + n) % 8) none ∙ (let q : (m₁.held_at + 0) % 8 ≡ m₁.held_at % 8 = omega arith in q) in
            let in₁ : m₁.held_at % 8 < length st.counts = let q = b.counts_size in omega arith in
            let v : get_or (fill l 0 st).counts (m₁.held_at % 8) 0 ≡ white_to p₁ m₁ = ap (λ (q : State). get_or q.counts (m₁.held_at % 8) 0) s ∙ rw (z, slot) (get_or-set_same st.counts (m₁.held_at % 8) (white_to p₁ m₁) 0 in₁) in
            omega arith);
      })
      (λ some. subst (λ (s : State). Steady l s) (sym (fill_held l st some)) b)

pub run_length : (l : List ℕ) (kind n : ℕ) (f : State) → length (run_of l kind n f).written ≡ (run_of l kind n f).count * 3
unfolding run_of
run_length l kind zero f = refl
run_length l kind (suc n) f =
    split (goes_on l kind f.nums f.held)
    (λ g.
    let h = run_length l kind n (fill l 0 (bumped f)) in
    let e = length-append (front_words l f) (run_of l kind n (fill l 0 (bumped f))).written in
    let a = front_length l f in
    rw g (omega arith))
    (λ g. rw g)

-- the run from here on, after what is stored, is the whole run
pub record Running (l : List ℕ) (kind : ℕ) (run : Run) (out₀ out : List ℕ) (f : State) (at : ℕ) : Type 0 where
  pub left : ℕ
  pub enough : tokens_left l f.nums ≤ left
  pub good : Steady l f
  pub fitting : (run_of l kind left f).fitting ≡ true
  pub state : (run_of l kind left f).state ≡ run.state
  pub stores : sets out at (run_of l kind left f).written ≡ sets out₀ 0 run.written
  pub same : length out ≡ length out₀
  pub room : at + (run_of l kind left f).count * 3 ≤ length out

module _ (l : List ℕ) (kind : ℕ) (run : Run) (out₀ out : List ℕ) (f : State) (at : ℕ) (r : Running l kind run out₀ out f at) where
  pub running_end : goes_on l kind f.nums f.held ≡ false → (f ≡ run.state) × (out ≡ sets out₀ 0 run.written)
  unfolding run_of
  running_end g =
      let e = run_ends r.left in
      (sym (ap (λ (x : Run). x.state) e) ∙ r.state, sym (ap (λ (x : Run). sets out at x.written) e) ∙ r.stores)
    where
      run_ends : (n : ℕ) → run_of l kind n f ≡ stops f
      run_ends zero = refl
      run_ends (suc n) = rw g

pub good_bounded : (l : List ℕ) (m : Nums) (held counts : List ℕ) → Plannable l m held counts → Bounded l m
good_bounded l m held counts b = record { held_few = b.held_few; wait_few = b.wait_few; held_in = b.held_in; wait_in = b.wait_in; reach = b.reach }

pub goes_some : (l : List ℕ) (kind : ℕ) (m : Nums) (held : List ℕ) → goes_on l kind m held ≡ true → m.held_len ≡ 0 → ⊥
goes_some l kind m held g e = let h = ltb-true 0 m.held_len (both_inv (ltb 0 m.held_len) _ g).0 in omega arith

-- a held token stands in front already
module _ (l : List ℕ) (kind : ℕ) (f : State) (b : Steady l f) (some : f.nums.held_len ≡ 0 → ⊥) where
  front_now : Fronted l f.nums f.held f.counts (white_of f) (nth_of l 0 f)
  front_now w =
      let h = sym (fill_held l (state_of f.nums f.held f.counts w) some) in
      (ap white_of h, ap (nth_of l 0) h)

  nums_now : f.nums ≡ fill_nums l f.nums
  nums_now = sym (rw (ne_eqb f.nums.held_len 0 some))

  pub now_few : white_of f ≤ f.nums.wait_len
  now_few = turn_few l kind f.held f.counts f.nums b (white_of f) (nth_of l 0 f) front_now f.nums nums_now

  pub now_fewer : tokens_left l (bumped f).nums < tokens_left l f.nums
  now_fewer = (fewer l kind f.held f.counts f.nums b (white_of f) (nth_of l 0 f) front_now f.nums nums_now b.wait_few some).0

  pub good_bump : Steady l (bumped f)
  good_bump = plannable_after l kind f.held f.counts f.nums b (white_of f) (nth_of l 0 f) front_now f.nums nums_now b.wait_few some

  pub white_now : (white : ℕ) → white ≡ ring_at 8 f.counts f.nums.held_at 0 → white ≡ white_of f
  unfolding front_white
  white_now white e = e ∙ sym (rw (ne_eqb f.nums.held_len 0 some))

module _ (l : List ℕ) (kind : ℕ) (run : Run) (out₀ out : List ℕ) (f : State) (at : ℕ) (r : Running l kind run out₀ out f at)
    (g : goes_on l kind f.nums f.held ≡ true) where
  running_some : f.nums.held_len ≡ 0 → ⊥
  running_some = goes_some l kind f.nums f.held g

  running_left : 0 < r.left
  running_left = let e = r.enough in let s = running_some in split_eq f.nums.held_len 0 (λ z. absurd (s z)) (λ z. omega arith)

  abbrev then : Run
  then = run_of l kind (r.left - 1) (fill l 0 (bumped f))

  run_one : run_of l kind r.left f ≡ emits_then l f (fits l 0 (bumped f).nums) then
  unfolding run_of
  run_one =
      let h = running_left in
      let one : r.left ≡ suc (r.left - 1) = omega arith in
      ap (λ (k : ℕ). run_of l kind k f) one ∙ rw g

  pub running_room : (white : ℕ) → white ≡ white_of f → (white ≤ f.nums.wait_len) × (at + white * 3 + 3 ≤ length out)
  running_room white e =
      let few = now_few l kind f r.good running_some in
      let c = ap (λ (x : Run). x.count) run_one in
      let m = r.room in
      (omega arith, omega arith)

  pub running_fit : fits l 0 (bumped f).nums ≡ true
  running_fit = (both_inv (fits l 0 (bumped f).nums) then.fitting (sym (ap (λ (x : Run). x.fitting) run_one) ∙ r.fitting)).0

  -- so the next token can be gathered
  pub running_next : (s : State) → s ≡ bumped f → Gatherable l (1 - s.nums.held_len) s.nums
  running_next s e =
      subst (λ (x : State). Gatherable l (1 - x.nums.held_len) x.nums) (sym e)
      (gather_ready l (bumped f).nums 1 _ (good_bounded l (bumped f).nums f.held f.counts (good_bump l kind f r.good running_some)) (omega arith) refl running_fit)

  pub running_good : Steady l (bumped f)
  running_good = good_bump l kind f r.good running_some

  pub running_less : tokens_left l (fill l 0 (bumped f)).nums < tokens_left l f.nums
  running_less =
      let a = now_fewer l kind f r.good running_some in
      let b = left_fill l (bumped f) running_good in
      omega arith

  pub running_more : (white : ℕ) (ws out₁ : List ℕ) (f₁ : State) → white ≡ white_of f → ws ≡ nth_of l 0 f → f₁ ≡ fill l 0 (bumped f)
      → out₁ ≡ sets out at (wait_words white l f.waiting f.nums.wait_at ++ ws) → Running l kind run out₀ out₁ f₁ (at + (white * 3 + 3))
  running_more white ws out₁ f₁ ew es ef eo =
      let fit = both_inv (fits l 0 (bumped f).nums) then.fitting (sym (ap (λ (x : Run). x.fitting) run_one) ∙ r.fitting) in
      let stored : out₁ ≡ sets out at (front_words l f) = eo ∙ ap (sets out at) (front_words_law l f f refl white ew ws es) in
      let long = front_length l f in
      let c = ap (λ (x : Run). x.count) run_one in
      let m = r.room in
      let size = ap length stored ∙ length-sets out at (front_words l f) in
      let less = running_less in
      let enough = r.enough in
      subst (λ (s : State). Running l kind run out₀ out₁ s (at + (white * 3 + 3))) (sym ef)
      (record {
        left = r.left - 1;
        enough = omega arith;
        good = good_fill l (bumped f) running_good fit.0;
        fitting = fit.1;
        state = sym (ap (λ (x : Run). x.state) run_one) ∙ r.state;
        stores =
            ap (λ (o : List ℕ). sets o (at + (white * 3 + 3)) then.written) stored
            ∙ sets_append out (front_words l f) then.written at (at + (white * 3 + 3)) (omega arith)
            ∙ sym (ap (λ (x : Run). sets out at x.written) run_one) ∙ r.stores;
        same = size ∙ r.same;
        room = omega arith;
      })

-- a plan that refuses nothing says that the run fits, and counts it
pub plan_inv : (l : List ℕ) (kind before n : ℕ) (st : State) (count : ℕ) → plan_of l kind before n st ≡ Ok count
    → (fits l 0 st.nums ≡ true) × ((run_of l kind n (fill l 0 st)).fitting ≡ true) × (count ≡ before + (run_of l kind n (fill l 0 st)).count)
unfolding plan_of
plan_inv l kind before n st count e =
    split (both (fits l 0 st.nums) (run_of l kind n (fill l 0 st)).fitting)
    (λ t. split (both (eqb kind 67) (eqb (run_of l kind n (fill l 0 st)).state.nums.held_len 0))
    (λ s. let w = rw (t, s) at e in never (cc))
    (λ s. let w = rw (t, s) at e in let p = both_inv (fits l 0 st.nums) (run_of l kind n (fill l 0 st)).fitting t in (p.0, p.1, cc)))
    (λ t. let w = rw t at e in never (cc))

-- a filled state from which a run of at most n tokens fits, and has its room
pub record Runnable (l : List ℕ) (kind n : ℕ) (f : State) (room : ℕ) : Type 0 where
  pub enough : tokens_left l f.nums ≤ n
  pub good : Steady l f
  pub fitting : (run_of l kind n f).fitting ≡ true
  pub fits_in : (run_of l kind n f).count * 3 ≤ room

pub runnable_first : (l : List ℕ) (kind : ℕ) (st : State) (room : ℕ) → Steady l st → fits l 0 st.nums ≡ true → (while_run l kind st).fitting ≡ true
    → (while_run l kind st).count * 3 ≤ room → (f : State) → f ≡ fill l 0 st → Runnable l kind (tokens_left l st.nums) f room
runnable_first l kind st room b now fit h f ef =
    subst (λ (s : State). Runnable l kind (tokens_left l st.nums) s room) (sym ef)
    (record { enough = left_fill l st b; good = good_fill l st b now; fitting = fit; fits_in = h })

-- so far, for every run that may have been begun
abbrev pub Runs : List ℕ → ℕ → State → List ℕ → List ℕ → State → ℕ → Type 0
Runs l kind f₀ out₀ out f at = (n : ℕ) → Runnable l kind n f₀ (length out₀) → Running l kind (run_of l kind n f₀) out₀ out f at

module _ (t : ℕ) (l : List ℕ) (kind : ℕ) (st : State) where
  pub while_unsound : sound_by t l st ≡ false → while_refusal t l kind st ≡ Err Faulty
  unfolding while_refusal
  while_unsound s = rw s

  pub while_sound : (count : ℕ) → while_refusal t l kind st ≡ Ok count → sound_by t l st ≡ true
  while_sound count e = split (sound_by t l st) (λ s. s) (λ s. let w = sym (while_unsound s) ∙ e in never (cc))

  pub while_planned : sound_by t l st ≡ true → while_refusal t l kind st ≡ while_plan l kind st
  unfolding while_refusal
  while_planned s = rw s

-- a token is held and of another kind: nothing is done
module _ (t : ℕ) (l : List ℕ) (kind room : ℕ) (st : State) (s : sound_by t l st ≡ true) (some : st.nums.held_len ≡ 0 → ⊥) (other : goes_on l kind st.nums st.held ≡ false) where
  stays : goes_on l kind (fill l 0 st).nums (fill l 0 st).held ≡ false
  stays = ap (λ (x : State). goes_on l kind x.nums x.held) (fill_held l st some) ∙ other

  fits_now : fits l 0 st.nums ≡ true
  unfolding fits_for
  fits_now =
      let e : 0 + 1 - st.nums.held_len ≡ 0 = split_eq st.nums.held_len 0 (λ z. absurd (some z)) (λ z. omega arith) in
      ap (λ (k : ℕ). fits_for l k st.nums) e

  other_none : while_refusal t l kind st ≡ Ok 0
  other_none =
      let p = plan_stop l kind 0 (tokens_left l st.nums) st fits_now stays in
      let z : eqb (fill l 0 st).nums.held_len 0 ≡ false = ap (λ (x : State). eqb x.nums.held_len 0) (fill_held l st some) ∙ ne_eqb st.nums.held_len 0 some in
      while_planned t l kind st s ∙ p ∙ ap (λ (b : Bool). pick b (Err StoreShort) (Ok 0)) (ap (both (eqb kind 67)) z ∙ both_false (eqb kind 67))

  pub while_other : shows 0 st ≡ bump_while_by t l kind room st
  unfolding bump_while_by
  while_other =
      let run : while_run l kind st ≡ stops (fill l 0 st) = run_stop l kind 0 0 st stays (tokens_left l st.nums) in
      let long = ap (λ (r : Run). length r.written) run in
      ap (shows 0) (sym (fill_held l st some)) ∙ ap while_turn (sym run) ∙ stored_done room st (while_turn (while_run l kind st)) (omega arith)
      ∙ unless_yes ℕ (while_refusal t l kind st) st (stored_by room st (while_turn (while_run l kind st))) 0 other_none
