-- The refusals 34, 30 and 31, and what a call that writes nothing answers. Assumes nothing.
use Prim.Native.Nat.{ℕ, ◌+◌, ◌-◌, ◌≤◌, ◌<◌}
use mathlib.Core.Path.{◌≡◌, refl, sym, ap, ◌∙◌}
use mathlib.Core.List.{List}
use mathlib.Core.Bool.{Bool, true, false}
use native.Mathlib.Omega.{arith}
use borrow.Author.Tests.{le-leb, lt-leb}
use Rattle.std.specs.Prelude.{Ok, Err}
use Rattle.laws.proofs.Cases.{both_inv, never, split, split_le}
use Rattle.laws.specs.Bools.{both, pick}
use Rattle.looks.proofs.Fronts.{fill_none}
use Rattle.looks.proofs.Sounds.{Bounded, bounded_inv}
use Rattle.looks.specs.Buffer.{Gatherable, Roomy, State, fill, fits, fits_for, gather}
use Rattle.looks.specs.Calls.{Turn, fill_refusal, filled_by, filled_to}
use Rattle.looks.specs.Numbered.{token_count}
use Rattle.looks.specs.Sound.{bounded_by, sound_by}
use Rattle.looks.specs.declared.look.Stop.{Stop}
use Rattle.looks.specs.declared.look.Stop.TheVariants.{Faulty, TooFar, WaitingFull}
use Rattle.ahead.specs.declared.Nums.{Nums}

pub sound_bounded : (t : ℕ) (l : List ℕ) (st : State) → sound_by t l st ≡ true → Bounded l st.nums
unfolding sound_by
sound_bounded t l st h = bounded_inv l st.nums (both_inv (bounded_by l st.nums) _ (both_inv (both (bounded_by l st.nums) _) _ h).0).0

-- what filling asks of the numbers
abbrev Ready : List ℕ → ℕ → Nums → Type 0
Ready l times m = (m.next ≤ token_count l) × Roomy m × (m.held_len + times ≤ 8) × (m.wait_len ≤ 256)

pub ready_for : (l : List ℕ) (m : Nums) (most times : ℕ) → Bounded l m → most ≤ 8 → times ≡ most - m.held_len → Ready l times m
ready_for l m most times b h e = (b.reach, record { held_in = b.held_in; wait_in = b.wait_in; held_few = b.held_few; wait_few = omega arith }, omega arith, b.wait_few)

pub gather_ready : (l : List ℕ) (m : Nums) (most times : ℕ) → Bounded l m → most ≤ 8 → times ≡ most - m.held_len → fits_for l (most - m.held_len) m ≡ true → Gatherable l times m
gather_ready l m most times b h e f =
    let r = ready_for l m most times b h e in
    record { reach = r.0; roomy = r.1; held = r.2; wait = r.3; fit = ap (λ (k : ℕ). fits_for l k m) e ∙ f }

module _ (t : ℕ) (l : List ℕ) (n : ℕ) (st : State) where
  pub refusal_34 : sound_by t l st ≡ false → fill_refusal t l n st ≡ Err Faulty
  unfolding fill_refusal
  refusal_34 s = rw s

  module _ (s : sound_by t l st ≡ true) where
    -- so many are held already
    pub refusal_held : n < st.nums.held_len → fill_refusal t l n st ≡ Ok tt
    unfolding fill_refusal fits_for
    refusal_held h =
        let few = (sound_bounded t l st s).held_few in
        let e : n + 1 - st.nums.held_len ≡ 0 = omega arith in
        rw (s, le-leb n 7 (omega arith), e)

    pub refusal_30 : 7 < n → fill_refusal t l n st ≡ Err TooFar
    unfolding fill_refusal
    refusal_30 h = rw (s, lt-leb n 7 h)

    pub refusal_31 : n ≤ 7 → fits l n st.nums ≡ false → fill_refusal t l n st ≡ Err WaitingFull
    unfolding fill_refusal
    refusal_31 h f = rw (s, le-leb n 7 h, f)

    pub refusal_0 : n ≤ 7 → fits l n st.nums ≡ true → fill_refusal t l n st ≡ Ok tt
    unfolding fill_refusal
    refusal_0 h f = rw (s, le-leb n 7 h, f)

  -- where nothing is refused the state is sound, n is small and 256 suffice
  pub refusal_none : fill_refusal t l n st ≡ Ok tt → (sound_by t l st ≡ true) × (n ≤ 7) × (fits l n st.nums ≡ true)
  refusal_none e =
      split (sound_by t l st)
      (λ s. split_le n 7
      (λ h. split (fits l n st.nums)
      (λ f. (s, h, f))
      (λ f. let w = sym e ∙ refusal_31 s h f in never (cc)))
      (λ h. let w = sym e ∙ refusal_30 s h in never (cc)))
      (λ s. let w = sym e ∙ refusal_34 s in never (cc))

  -- a refused call leaves the state, and one that is not leaves it filled
  pub filled_no : (stop : Stop) → fill_refusal t l n st ≡ Err stop → st ≡ filled_to t l n st
  filled_no stop h = rw h

  pub filled_yes : fill_refusal t l n st ≡ Ok tt → fill l n st ≡ filled_to t l n st
  filled_yes h = rw h

  module _ (asked : State → Turn) (f : State) (e : f ≡ filled_to t l n st) where
    pub asked_no : (stop : Stop) → fill_refusal t l n st ≡ Err stop → (f ≡ (filled_by t l n st asked).state) × (Err stop ≡ (filled_by t l n st asked).answer)
    asked_no stop h = rw h (e ∙ sym (filled_no stop h), refl)

    pub asked_yes : fill_refusal t l n st ≡ Ok tt → asked f ≡ filled_by t l n st asked
    asked_yes h = rw h (ap asked (e ∙ sym (filled_yes h)))

-- none is held, and one more was gathered unless a 257th token would wait
module _ (t : ℕ) (l : List ℕ) (st : State) (s : sound_by t l st ≡ true) (none : st.nums.held_len ≡ 0) (b : Bool) (f : State) (is : b ≡ fits_for l 1 st.nums) (e : f ≡ pick b (gather l st) st) where
  one_fits : fits l 0 st.nums ≡ b
  one_fits =
      let k : 0 + 1 - st.nums.held_len ≡ 1 = omega arith in
      ap (λ (n : ℕ). fits_for l n st.nums) k ∙ sym is

  pub first_yes : b ≡ true → (Ok tt ≡ fill_refusal t l 0 st) × (f ≡ filled_to t l 0 st)
  first_yes y =
      let r = refusal_0 t l 0 st s (omega arith) (one_fits ∙ y) in
      (sym r, e ∙ ap (λ (c : Bool). pick c (gather l st) st) y ∙ sym (fill_none l st none) ∙ filled_yes t l 0 st r)

  pub first_no : b ≡ false → (Err WaitingFull ≡ fill_refusal t l 0 st) × (f ≡ filled_to t l 0 st)
  first_no y =
      let r = refusal_31 t l 0 st s (omega arith) (one_fits ∙ y) in
      (sym r, e ∙ ap (λ (c : Bool). pick c (gather l st) st) y ∙ filled_no t l 0 st WaitingFull r)
