-- What a call that writes gives: refused, short of room, or done. Assumes nothing.
use Prim.Native.Nat.{ℕ, suc, ◌+◌, ◌-◌, ◌*◌, ◌%◌, ◌≤◌, ◌<◌}
use mathlib.Core.Path.{◌≡◌, refl, ap, ap₂, ◌∙◌}
use mathlib.Core.List.{List, ◌++◌}
use mathlib.Core.Bool.{Bool, true}
use native.Mathlib.Omega.{arith}
use lib.Dec.{ltb}
use lib.Seq.{sets}
use lib.ListN.{get_or, length, length-append, set}
use borrow.Author.Tests.{le-leb, leb-true, lt-leb}
use Rattle.std.specs.Prelude.{Result, Ok, Err}
use Rattle.laws.proofs.Cases.{both_inv, split, split_eq, split_le}
use Rattle.laws.specs.Bools.{both, pick}
use Rattle.looks.proofs.Fronts.{fill_held, fill_none, front_held, front_last, front_more}
use Rattle.looks.proofs.Stores.{wait_length}
use Rattle.looks.specs.Buffer.{State, fill, gather_at, gather_to, ring_at, state_of}
use Rattle.looks.specs.Calls.{Turn, bumped, flushed, front_turn, refuses, shows, stored_by, unless, with_nums}
use Rattle.looks.specs.Front.{front_words, less_held, less_waiting, nth_of, nth_words, wait_words, white_of, white_words}
use Rattle.looks.specs.Numbered.{dark, end_at, kind_at, list_end, start_at, token_count}
use Rattle.looks.specs.Sound.{bounded_by, count_sum, sound_by}
use Rattle.looks.specs.declared.look.Done.{Done}
use Rattle.looks.specs.declared.look.Stop.{Stop}
use Rattle.looks.specs.declared.look.Stop.TheVariants.{StoreShort}
use Rattle.ahead.specs.declared.Nums.{Nums}

-- the state, the answer and the store by a turn
abbrev Parts : List ℕ → State → Result Done Stop → List ℕ → Turn → Type 0
Parts o st answer o' t = (st ≡ t.state) × (answer ≡ t.answer) × (o' ≡ sets o 0 t.written)

pub parts : (o : List ℕ) (t u : Turn) → t ≡ u → Parts o t.state t.answer (sets o 0 t.written) u
parts o t u e = (ap (λ (x : Turn). x.state) e, ap (λ (x : Turn). x.answer) e, ap (λ (x : Turn). sets o 0 x.written) e)

pub parts_of : (o : List ℕ) (t u : Turn) → t ≡ u → (st : State) (answer : Result Done Stop) (o' : List ℕ) → Parts o st answer o' t → Parts o st answer o' u
parts_of o t u e st answer o' p =
    let q = parts o t u e in
    (p.0 ∙ q.0, p.1 ∙ q.1, p.2 ∙ q.2)

-- what is not given is 0
pub zeros : (d : Done) → d.count ≡ 0 → d.value ≡ 0 → d.start ≡ 0 → d.end ≡ 0 → d ≡ record { count = 0; value = 0; start = 0; end = 0 }
zeros d a b c e i = record { count = a i; value = b i; start = c i; end = e i }

module _ (A : Type 0) (no : Result A Stop) (st : State) (t : Turn) where
  pub unless_no : (stop : Stop) → no ≡ Err stop → refuses stop st ≡ unless no st t
  unless_no stop h = rw h

  pub unless_yes : (a : A) → no ≡ Ok a → t ≡ unless no st t
  unless_yes a h = rw h

module _ (room : ℕ) (st : State) (t : Turn) where
  pub stored_short : room < length t.written → refuses StoreShort st ≡ stored_by room st t
  stored_short h = rw (lt-leb (length t.written) room h)

  pub stored_done : length t.written ≤ room → t ≡ stored_by room st t
  stored_done h = rw (le-leb (length t.written) room h)

pub nth_length : (l : List ℕ) (n : ℕ) (m : Nums) (held : List ℕ) → length (nth_words l n m held) ≡ 3
unfolding nth_words
nth_length l n m held = split (ltb n m.held_len) (λ h. rw h) (λ h. rw h)

pub white_length : (l : List ℕ) (f : State) → length (white_words l f) ≡ white_of f * 3
white_length l f = wait_length (white_of f) l f.waiting f.nums.wait_at

pub front_length : (l : List ℕ) (f : State) → length (front_words l f) ≡ white_of f * 3 + 3
front_length l f =
    let e = length-append (white_words l f) (nth_of l 0 f) in
    let a = white_length l f in
    let b = nth_length l 0 f.nums f.held in
    omega arith

pub sound_sum : (t : ℕ) (l : List ℕ) (st : State) → sound_by t l st ≡ true → count_sum st.counts st.nums.held_len st.nums.held_at ≤ st.nums.wait_len
unfolding sound_by
sound_sum t l st s = leb-true _ _ (both_inv (bounded_by l st.nums) _ (both_inv (both (bounded_by l st.nums) _) _ s).0).1

-- no more is emitted than waits
pub white_few : (l : List ℕ) (st : State) → count_sum st.counts st.nums.held_len st.nums.held_at ≤ st.nums.wait_len → length st.held ≡ 8 → length st.counts ≡ 8
    → white_of (fill l 0 st) ≤ (fill l 0 st).nums.wait_len
unfolding count_sum gather_to gather_at
white_few l st sum lh lc =
    let m = st.nums in
    let p = dark l m.next in
    split_eq m.held_len 0
    (λ none.
    split_le (token_count l) p
    (λ h. let e = front_last l st none p refl h _ (record { kind = 67; start = list_end l; end = list_end l }) refl refl in
    let g = ap (λ (x : State). x.nums.wait_len) (fill_none l st none) in omega (arith, e.0))
    (λ h. let e = front_more l st none p refl lh lc h _ (record { kind = kind_at l p; start = start_at l p; end = end_at l p }) refl refl in
    let g = ap (λ (x : State). x.nums.wait_len) (fill_none l st none) in omega (arith, e.0)))
    (λ some.
    let k : m.held_len ≡ suc (m.held_len - 1) = omega arith in
    let e = front_held l st _ (record { kind = kind_at l (ring_at 8 st.held m.held_at 0); start = start_at l (ring_at 8 st.held m.held_at 0); end = end_at l (ring_at 8 st.held m.held_at 0) }) _ some refl refl refl in
    let g = ap (λ (x : State). x.nums.wait_len) (fill_held l st some) in
    let slot : m.held_at % 8 ≡ (m.held_at + 0) % 8 = omega arith in
    let sum₂ = rw k at sum in
    let c = ap (λ (q : ℕ). get_or st.counts q 0) slot in
    omega (arith, e.0))

-- what `emit_front` does to a filled state is the definition's
module _ (l : List ℕ) (f f' : State) (e : f ≡ f') (white : ℕ) (ew : white ≡ white_of f') where
  pub front_state : (n : Nums) → n ≡ less_held (less_waiting white f.nums) → with_nums n f ≡ bumped f'
  front_state n en =
      ap (λ (k : Nums). with_nums k f) en ∙ ap (λ (g : State). with_nums (less_held (less_waiting white g.nums)) g) e
      ∙ ap (λ (k : ℕ). with_nums (less_held (less_waiting k f'.nums)) f') ew

  pub white_words_law : wait_words white l f.waiting f.nums.wait_at ≡ white_words l f'
  white_words_law =
      ap (λ (g : State). wait_words white l g.waiting g.nums.wait_at) e
      ∙ ap (λ (k : ℕ). wait_words k l f'.waiting f'.nums.wait_at) ew

  pub front_words_law : (ws : List ℕ) → ws ≡ nth_of l 0 f' → wait_words white l f.waiting f.nums.wait_at ++ ws ≡ front_words l f'
  front_words_law ws es = ap₂ (λ (a b : List ℕ). a ++ b) white_words_law es

  pub flush_state : (n : Nums) (c : List ℕ) → n ≡ less_waiting white f.nums → c ≡ set f.counts (f.nums.held_at % 8) 0 → state_of n f.held c f.waiting ≡ flushed f'
  flush_state n c en ec =
      ap₂ (λ (k : Nums) (d : List ℕ). state_of k f.held d f.waiting) en ec
      ∙ ap (λ (g : State). state_of (less_waiting white g.nums) g.held (set g.counts (g.nums.held_at % 8) 0) g.waiting) e
      ∙ ap (λ (k : ℕ). state_of (less_waiting k f'.nums) f'.held (set f'.counts (f'.nums.held_at % 8) 0) f'.waiting) ew

-- a front that is emitted only where it is wanted
module _ (l : List ℕ) (a : Result Done Stop) (f : State) where
  abbrev pub perhaps : Bool → Turn
  perhaps b = pick b (front_turn l a f) (shows 0 f)
