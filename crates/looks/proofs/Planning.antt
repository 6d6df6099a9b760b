-- The turns of the plan of `bump_while`: each stands for a real state, whose numbers it has. Assumes nothing.
use Prim.Native.Nat.{ℕ, suc, ◌+◌, ◌-◌, ◌*◌, ◌%◌, ◌≤◌, ◌<◌}
use mathlib.Core.Path.{◌≡◌, refl, sym, ap, ap₂, ◌∙◌}
use mathlib.Core.List.{List, []}
use mathlib.Core.Bool.{Bool, true, false}
use mathlib.Core.Logic.{inl, inr, ◌⊎◌, ⊎_elim}
use native.Mathlib.Omega.{arith}
use lib.Dec.{leb, ltb, eqb}
use lib.ListN.{get_or, length}
use borrow.Author.Tests.{eq-eqb, le-leb, le-ltb, lt-leb, lt-ltb, ne_eqb}
use Rattle.std.specs.Prelude.{Result, Ok, Err}
use Rattle.laws.proofs.Cases.{both_false, both_true, split_eq, split_le}
use Rattle.laws.specs.Bools.{both, pick}
use Rattle.looks.proofs.Advances.{less_facts, sum_mod}
use Rattle.looks.proofs.Fronts.{fill_held, front_held}
use Rattle.looks.proofs.Numbers.{count_bound, dark_bound}
use Rattle.looks.proofs.Plans.{fill_nums_law, fill_sizes, fits_front, front_same, plan_full, plan_go, plan_stop}
use Rattle.looks.proofs.Turns.{white_few}
use Rattle.looks.specs.Buffer.{State, fill, fits, gather_nums, gather_to, ring_at, state_of, white_to}
use Rattle.looks.specs.Calls.{bumped}
use Rattle.looks.specs.Front.{Fronted, less_held, less_waiting, nth_of, white_of}
use Rattle.looks.specs.Numbered.{dark, end_at, kind_at, start_at, token_count}
use Rattle.looks.specs.Sound.{count_sum}
use Rattle.looks.specs.While.{Plannable, fill_nums, goes_on, plan_of, tokens_left, while_plan}
use Rattle.looks.specs.declared.look.Stop.{Stop}
use Rattle.looks.specs.declared.look.Stop.TheVariants.{StoreShort, WaitingFull}
use Rattle.ahead.specs.declared.Nums.{Nums}

-- the state that a turn stands for: while some are held its arrays are the ones lent, and from then on they do not matter
pub record Turning (l : List ℕ) (kind : ℕ) (held counts : List ℕ) (st₀ : State) (m : Nums) (count : ℕ) : Type 0 where
  pub real : State
  pub is : real.nums ≡ m
  pub arrays : ((real.held ≡ held) × (real.counts ≡ counts)) ⊎ (m.held_len ≡ 0)
  pub held_size : length real.held ≡ 8
  pub counts_size : length real.counts ≡ 8
  pub left : ℕ
  pub enough : tokens_left l m ≤ left
  pub small : count + left * 257 ≤ 2199023255552
  pub same : plan_of l kind count left real ≡ while_plan l kind st₀

-- whatever waits
abbrev pub Turns : List ℕ → ℕ → List ℕ → List ℕ → Nums → Nums → ℕ → Type 0
Turns l kind held counts m₀ m count = (w : List ℕ) → Turning l kind held counts (state_of m₀ held counts w) m count

pub turning_first : (l : List ℕ) (kind : ℕ) (held counts : List ℕ) (m : Nums) → Plannable l m held counts → (w : List ℕ) → Turning l kind held counts (state_of m held counts w) m 0
turning_first l kind held counts m b w =
    let c = count_bound l in
    let f = b.held_few in
    record {
      real = state_of m held counts w;
      is = refl;
      arrays = inl (refl, refl);
      held_size = b.held_size;
      counts_size = b.counts_size;
      left = tokens_left l m;
      enough = omega arith;
      small = omega arith;
      same = refl;
    }

module _ (l : List ℕ) (kind : ℕ) (held counts : List ℕ) (m : Nums) (b : Plannable l m held counts)
    (white : ℕ) (words : List ℕ) (fr : Fronted l m held counts white words) (f : Nums) (fn : f ≡ fill_nums l m) where
  -- no more is emitted than waits
  pub turn_few : white ≤ f.wait_len
  turn_few =
      let e = fr [] in
      let w = white_few l (state_of m held counts []) b.sum b.held_size b.counts_size in
      let n = ap (λ (x : Nums). x.wait_len) (fill_nums_law l (state_of m held counts [])) in
      let g = ap (λ (x : Nums). x.wait_len) fn in
      omega (arith, e.0)

  -- how far one more token brings the numbers
  module _ (fit : f.wait_len ≤ 256) (some : f.held_len ≡ 0 → ⊥) where
    abbrev pub after : Nums
    after = less_held (less_waiting white f)

    facts : (after.held_len ≡ f.held_len - 1) × (after.held_at ≡ (f.held_at + 1) % 8) × (after.wait_len ≡ f.wait_len - white)
    facts = less_facts white f some

    rest : (after.next ≡ f.next) × (after.wait_at ≡ (f.wait_at + white) % 256)
    unfolding less_held less_waiting
    rest = let e = ne_eqb f.held_len 0 some in (rw e, rw e)

    -- none was held, and one was found
    module _ (none : m.held_len ≡ 0) where
      f_gather : f ≡ gather_nums l m
      f_gather = fn ∙ rw (eq-eqb m.held_len 0 none)

      found : dark l m.next < token_count l
      unfolding gather_to
      found =
          split_le (token_count l) (dark l m.next)
          (λ h. absurd (some (ap (λ (x : Nums). x.held_len) f_gather ∙ rw (le-ltb (dark l m.next) (token_count l) h) none)))
          (λ h. h)

      pub one_found : (f.held_len ≡ 1) × (f.next ≡ dark l m.next + 1) × (f.wait_len ≡ m.wait_len + white_to (dark l m.next) m)
      unfolding gather_to
      one_found =
          let e = lt-ltb (dark l m.next) (token_count l) found in
          let z : m.held_len + 1 ≡ 1 = omega arith in
          (ap (λ (x : Nums). x.held_len) f_gather ∙ rw e z, ap (λ (x : Nums). x.next) f_gather ∙ (rw e), ap (λ (x : Nums). x.wait_len) f_gather)

    module _ (held₁ : m.held_len ≡ 0 → ⊥) where
      pub kept : f ≡ m
      kept = fn ∙ rw (ne_eqb m.held_len 0 held₁)

    pub fewer : (tokens_left l after < tokens_left l m) × (after.next ≤ token_count l)
    fewer =
        let x = facts.0 in
        let y = rest.0 in
        let r = b.reach in
        let d = dark_bound l m.next r in
        split_eq m.held_len 0
        (λ none. let o = one_found none in let g = found none in (omega (arith, o.0, o.1), omega (arith, o.1)))
        (λ held₁.
        let e = kept held₁ in
        let h = ap (λ (x : Nums). x.held_len) e in
        let n = ap (λ (x : Nums). x.next) e in
        (omega arith, omega arith))

    sum_after : count_sum counts after.held_len after.held_at ≤ after.wait_len
    unfolding count_sum
    sum_after =
        let s = b.sum in
        let few = turn_few in
        let x = facts.0 in
        let w = facts.2 in
        split_eq m.held_len 0
        (λ none.
        let o = one_found none in
        let z : after.held_len ≡ 0 = omega (arith, o.0) in
        let c = ap (λ (k : ℕ). count_sum counts k after.held_at) z in
        omega arith)
        (λ held₁.
        let e = kept held₁ in
        let h = ap (λ (q : Nums). q.held_len) e in
        let a = ap (λ (q : Nums). q.held_at) e in
        let v = ap (λ (q : Nums). q.wait_len) e in
        let one : m.held_len ≡ suc (m.held_len - 1) = omega arith in
        let s₂ = ap (λ (k : ℕ). count_sum counts k m.held_at) one in
        let k₁ : after.held_len ≡ m.held_len - 1 = omega arith in
        let a₁ : after.held_at ≡ (m.held_at + 1) % 8 = facts.1 ∙ ap (λ (q : ℕ). (q + 1) % 8) a in
        let c = ap₂ (count_sum counts) k₁ a₁ ∙ sum_mod counts (m.held_len - 1) (m.held_at + 1) in
        let is = front_held l (state_of m held counts []) (ring_at 8 counts m.held_at 0) (record { kind = kind_at l (ring_at 8 held m.held_at 0); start = start_at l (ring_at 8 held m.held_at 0); end = end_at l (ring_at 8 held m.held_at 0) }) _ held₁ refl refl refl in
        let slot : (m.held_at + 0) % 8 ≡ m.held_at % 8 = omega arith in
        let wh : white ≡ get_or counts (m.held_at % 8) 0 = (fr []).0 ∙ sym is.0 ∙ ap (λ (q : ℕ). get_or counts q 0) slot in
        omega arith)

    pub plannable_after : Plannable l after held counts
    plannable_after =
        let x = facts.0 in
        let a = facts.1 in
        let w = facts.2 in
        let v = rest.1 in
        let hf = b.held_few in
        record {
          reach = fewer.1;
          held_few =
              split_eq m.held_len 0
              (λ none. let o = one_found none in omega (arith, o.0))
              (λ held₁. let h = ap (λ (q : Nums). q.held_len) (kept held₁) in omega arith);
          wait_few = omega arith;
          held_in = omega arith;
          wait_in = omega arith;
          held_size = b.held_size;
          counts_size = b.counts_size;
          sum = sum_after;
        }

  module _ (st₀ : State) (count : ℕ) (t : Turning l kind held counts st₀ m count) where
    abbrev filled : State
    filled = fill l 0 t.real

    front_real : (white ≡ white_of filled) × (words ≡ nth_of l 0 filled)
    front_real =
        ⊎_elim
        (λ a.
        let e : state_of m held counts t.real.waiting ≡ t.real = λ i. state_of (sym t.is i) (sym a.0 i) (sym a.1 i) t.real.waiting in
        ((fr t.real.waiting).0 ∙ ap (λ (s : State). white_of (fill l 0 s)) e, (fr t.real.waiting).1 ∙ ap (λ (s : State). nth_of l 0 (fill l 0 s)) e))
        (λ none.
        let e = front_same l (state_of m held counts []) t.real (sym t.is) none b.held_size b.counts_size t.held_size t.counts_size in
        ((fr []).0 ∙ e.0, (fr []).1 ∙ e.1))
        t.arrays

    nums_real : filled.nums ≡ f
    nums_real = fill_nums_law l t.real ∙ ap (fill_nums l) t.is ∙ sym fn

    fits_real : fits l 0 t.real.nums ≡ leb f.wait_len 256
    fits_real = ap (fits l 0) t.is ∙ fits_front l m b.wait_few ∙ ap (λ (x : Nums). leb x.wait_len 256) (sym fn)

    goes_real : goes_on l kind filled.nums filled.held ≡ both (ltb 0 f.held_len) (eqb (get_or words 0 0) kind)
    goes_real = ap₂ (λ (n : Nums) (ws : List ℕ). both (ltb 0 n.held_len) (eqb (get_or ws 0 0) kind)) nums_real (sym front_real.1)

    pub turn_full : 256 < f.wait_len → Err WaitingFull ≡ while_plan l kind st₀
    turn_full h = sym (plan_full l kind count t.left t.real (fits_real ∙ lt-leb f.wait_len 256 h)) ∙ t.same

    module _ (fit : f.wait_len ≤ 256) where
      fits_yes : fits l 0 t.real.nums ≡ true
      fits_yes = fits_real ∙ le-leb f.wait_len 256 fit

      abbrev stop_at : Bool → Result ℕ Stop
      stop_at b = pick b (Err StoreShort) (Ok count)

      stopped : both (ltb 0 f.held_len) (eqb (get_or words 0 0) kind) ≡ false → stop_at (both (eqb kind 67) (eqb f.held_len 0)) ≡ while_plan l kind st₀
      stopped e =
          let z : count + 0 ≡ count = omega arith in
          sym (plan_stop l kind count t.left t.real fits_yes (goes_real ∙ e) ∙ ap₂ (λ (n : Nums) (k : ℕ). pick (both (eqb kind 67) (eqb n.held_len 0)) (Err StoreShort) (Ok k)) nums_real z)
          ∙ t.same

      pub turn_none : f.held_len ≡ 0 → (r : Result ℕ Stop) → r ≡ stop_at (eqb kind 67) → r ≡ while_plan l kind st₀
      turn_none none r e =
          let z : ltb 0 f.held_len ≡ false = le-ltb 0 f.held_len (omega arith) in
          e ∙ sym (ap stop_at (ap (both (eqb kind 67)) (eq-eqb f.held_len 0 none) ∙ both_true (eqb kind 67))) ∙ stopped (rw z)

      module _ (some : f.held_len ≡ 0 → ⊥) where
        pub turn_other : (get_or words 0 0 ≡ kind → ⊥) → Ok count ≡ while_plan l kind st₀
        turn_other h =
            sym (ap stop_at (ap (both (eqb kind 67)) (ne_eqb f.held_len 0 some) ∙ both_false (eqb kind 67)))
            ∙ stopped (ap (both (ltb 0 f.held_len)) (ne_eqb (get_or words 0 0) kind h) ∙ both_false (ltb 0 f.held_len))

        pub turn_more : get_or words 0 0 ≡ kind → Turning l kind held counts st₀ (after fit some) (count + (white + 1))
        turn_more h =
            let sizes = fill_sizes l t.real t.held_size t.counts_size in
            let less = (fewer fit some).0 in
            let enough = t.enough in
            let small = t.small in
            let few = turn_few in
            let w = front_real.0 in
            let goes : goes_on l kind filled.nums filled.held ≡ true = goes_real ∙ rw (lt-ltb 0 f.held_len (omega arith), eq-eqb (get_or words 0 0) kind h) in
            let sum : count + (white + 1) ≡ count + (white_of filled + 1) = omega arith in
            record {
              real = bumped filled;
              is = ap₂ (λ (k : ℕ) (n : Nums). less_held (less_waiting k n)) (sym front_real.0) nums_real;
              arrays =
                  split_eq m.held_len 0
                  (λ none. let o = one_found fit some none in let x = less_facts white f some in inr (omega (arith, o.0, x.0)))
                  (λ held₁.
                  let e = fill_held l t.real (λ z. held₁ (sym (ap (λ (n : Nums). n.held_len) t.is) ∙ z)) in
                  ⊎_elim
                  (λ a. inl (ap (λ (s : State). s.held) e ∙ a.0, ap (λ (s : State). s.counts) e ∙ a.1))
                  (λ z. absurd (held₁ z))
                  t.arrays);
              held_size = sizes.0;
              counts_size = sizes.1;
              left = t.left - 1;
              enough = omega arith;
              small = omega arith;
              same = ap (λ (k : ℕ). plan_of l kind k (t.left - 1) (bumped filled)) sum ∙ sym (plan_go l kind count t.left t.real fits_yes goes (omega arith)) ∙ t.same;
            }
