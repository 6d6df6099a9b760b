-- The refusals of a call that emits the front, and what it emits. Assumes nothing.
use Prim.Native.Nat.{ℕ, suc, ◌+◌, ◌-◌, ◌*◌, ◌%◌, ◌≤◌, ◌<◌}
use mathlib.Core.Path.{◌≡◌, refl, sym, ap, ◌∙◌}
use mathlib.Core.List.{List}
use mathlib.Core.Bool.{Bool, true, false}
use native.Mathlib.Omega.{arith}
use lib.ListN.{get_or, length}
use borrow.Author.Tests.{le-leb, lt-leb, ne_eqb}
use Rattle.std.specs.Prelude.{Result, Ok, Err}
use Rattle.laws.proofs.Cases.{never, split_eq, split_le}
use Rattle.laws.specs.Bools.{pick}
use Rattle.looks.proofs.Fronts.{fill_held, fill_none}
use Rattle.looks.proofs.Turns.{front_length, perhaps, stored_done, stored_short, unless_no, unless_yes, white_few}
use Rattle.looks.specs.Buffer.{State, fill, gather_at, gather_to, ring_at}
use Rattle.looks.specs.Calls.{Emittable, Turn, fill_refusal, need_of, refuses, room_refusal, room_to, stored_by, unless}
use Rattle.looks.specs.Front.{front_white, nth_of, white_of}
use Rattle.looks.specs.Sound.{count_sum}
use Rattle.looks.specs.declared.look.Done.{Done}
use Rattle.looks.specs.declared.look.Stop.{Stop}
use Rattle.looks.specs.declared.look.Stop.TheVariants.{StoreShort}
use Rattle.looks.specs.declared.rooms.Want.{Want}

module _ (t : ℕ) (l : List ℕ) (want : Want) (room : ℕ) (st : State) where
  abbrev no : Result Unit Stop
  no = fill_refusal t l 0 st

  abbrev need : ℕ
  need = need_of l want (fill l 0 st)

  pub room_refused : (stop : Stop) → no ≡ Err stop → room_refusal t l want room st ≡ Err stop
  unfolding room_refusal
  room_refused stop e = rw e

  module _ (e : no ≡ Ok tt) where
    pub room_short : room < need → room_refusal t l want room st ≡ Err StoreShort
    unfolding room_refusal
    room_short h = rw (e, lt-leb need room h)

    pub room_done : need ≤ room → room_refusal t l want room st ≡ Ok tt
    unfolding room_refusal
    room_done h = rw (e, le-leb need room h)

  none_by_cases : (r : Result Unit Stop) → no ≡ r → room_refusal t l want room st ≡ Ok tt → (no ≡ Ok tt) × (need ≤ room)
  none_by_cases (Ok u) z e =
      split_le need room
      (λ h. (z, h))
      (λ h. let w = sym (room_short z h) ∙ e in never (cc))
  none_by_cases (Err stop) z e = let w = sym (room_refused stop z) ∙ e in never (cc)

  pub room_none : room_refusal t l want room st ≡ Ok tt → (no ≡ Ok tt) × (need ≤ room)
  room_none e = none_by_cases no refl e

  pub room_kept : (stop : Stop) → room_refusal t l want room st ≡ Err stop → st ≡ room_to t l want room st
  room_kept stop h = rw h

  pub room_filled : room_refusal t l want room st ≡ Ok tt → fill l 0 st ≡ room_to t l want room st
  room_filled h = rw h

  module _ (turn : Turn) (long : length turn.written ≡ need) where
    no_by_cases : (r : Result Unit Stop) → no ≡ r → (stop : Stop) → room_refusal t l want room st ≡ Err stop → refuses stop st ≡ unless no st (stored_by room st turn)
    no_by_cases (Ok u) z stop h =
        split_le need room
        (λ a. let w = sym (room_done z a) ∙ h in never (cc))
        (λ a.
        let w = sym h ∙ room_short z a in
        let e : stop ≡ StoreShort = cc in
        ap (λ (k : Stop). refuses k st) e ∙ stored_short room st turn (omega arith) ∙ unless_yes Unit no st (stored_by room st turn) u z)
    no_by_cases (Err s) z stop h =
        let w = sym h ∙ room_refused s z in
        let e : stop ≡ s = cc in
        ap (λ (k : Stop). refuses k st) e ∙ unless_no Unit no st (stored_by room st turn) s z

    pub room_no : (stop : Stop) → room_refusal t l want room st ≡ Err stop → refuses stop st ≡ unless no st (stored_by room st turn)
    room_no stop h = no_by_cases no refl stop h

    pub room_yes : room_refusal t l want room st ≡ Ok tt → turn ≡ unless no st (stored_by room st turn)
    room_yes h =
        let r = room_none h in
        stored_done room st turn (omega (arith, r.1)) ∙ unless_yes Unit no st (stored_by room st turn) tt r.0

-- with one held or more the front stands there already
module _ (l : List ℕ) (st : State) (some : st.nums.held_len ≡ 0 → ⊥) where
  pub held_white : ring_at 8 st.counts st.nums.held_at 0 ≡ white_of (fill l 0 st)
  unfolding front_white
  held_white = sym (rw (ne_eqb st.nums.held_len 0 some)) ∙ ap white_of (sym (fill_held l st some))

  pub held_words : (ws : List ℕ) → ws ≡ nth_of l 0 st → ws ≡ nth_of l 0 (fill l 0 st)
  held_words ws e = e ∙ ap (nth_of l 0) (sym (fill_held l st some))

  pub held_emits : count_sum st.counts st.nums.held_len st.nums.held_at ≤ st.nums.wait_len → st.nums.wait_at < 256 → Emittable (fill l 0 st)
  unfolding count_sum
  held_emits sum in₁ =
      let m = st.nums in
      let k : m.held_len ≡ suc (m.held_len - 1) = split_eq m.held_len 0 (λ z. absurd (some z)) (λ z. omega arith) in
      let slot : m.held_at % 8 ≡ (m.held_at + 0) % 8 = omega arith in
      let sum₂ = rw k at sum in
      let c = ap (λ (q : ℕ). get_or st.counts q 0) slot in
      let w = held_white in
      let f = fill_held l st some in
      let a = ap (λ (x : State). x.nums.wait_len) f in
      let b = ap (λ (x : State). x.nums.wait_at) f in
      (omega arith, omega arith)

pub fill_emits : (l : List ℕ) (st : State) → count_sum st.counts st.nums.held_len st.nums.held_at ≤ st.nums.wait_len → length st.held ≡ 8 → length st.counts ≡ 8
    → st.nums.wait_at < 256 → Emittable (fill l 0 st)
unfolding gather_to gather_at
fill_emits l st sum lh lc in₁ =
    split_eq st.nums.held_len 0
    (λ none. let b = ap (λ (x : State). x.nums.wait_at) (fill_none l st none) in (white_few l st sum lh lc, omega arith))
    (λ some. held_emits l st some sum in₁)

-- a front that is emitted only where it is wanted
pub perhaps_need : (l : List ℕ) (a : Result Done Stop) (f : State) (b : Bool) → length (perhaps l a f b).written ≡ pick b (white_of f * 3 + 3) 0
perhaps_need l a f true = front_length l f
perhaps_need l a f false = refl
