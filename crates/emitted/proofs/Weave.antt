-- The tokens of a state in the list's order, and those of a list that are kept. Assumes nothing.
use Prim.Native.Nat.{ℕ, zero, suc, ◌+◌, ◌%◌, ◌≤◌, ◌<◌}
use mathlib.Core.Path.{◌≡◌, refl, sym, ap, ap₂, ◌∙◌}
use mathlib.Core.List.{List, [], ◌∷◌, ◌++◌, append_assoc}
use mathlib.Core.Bool.{Bool, true, false, not}
use native.Mathlib.Omega.{arith}
use lib.Seq.{drop-append-le, drop_at, drop-length, take-append-le, take_at, take-length}
use lib.ListN.{drop, get_or, length, length-drop, take}
use Rattle.emitted.proofs.Rises.{total}
use Rattle.emitted.proofs.Slots.{range, slots}
use Rattle.emitted.proofs.Views.{counts_of, held_of, wait_of}
use Rattle.laws.proofs.Cases.{never, split}
use Rattle.laws.specs.Bools.{either, pick}
use Rattle.looks.specs.Buffer.{State}
use Rattle.looks.specs.Front.{wait_words}
use Rattle.looks.specs.Numbered.{is_white, kind_at, token_at}

-- before each held token as many that wait as it counts, and the rest after the last
unfoldable pub weave : List ℕ → List ℕ → List ℕ → List ℕ
weave [] hs ws = ws
weave (c ∷ cs) [] ws = ws
weave (c ∷ cs) (h ∷ hs) ws = take c ws ++ h ∷ weave cs hs (drop c ws)

abbrev pub pending : State → List ℕ
pending st = weave (counts_of st) (held_of st) (wait_of st)

-- the numbers from i on, n of them, that are kept: all, or those that are no white space
unfoldable pub kept_from : Bool → List ℕ → ℕ → ℕ → List ℕ
kept_from keep l i zero = []
kept_from keep l i (suc n) = pick (either keep (not (is_white (kind_at l i)))) (i ∷ kept_from keep l (i + 1) n) (kept_from keep l (i + 1) n)

-- the words of tokens by their numbers
unfoldable pub words_all : List ℕ → List ℕ → List ℕ
words_all l [] = []
words_all l (n ∷ ns) = token_at l n ++ words_all l ns

pub words_append : (l ns ms : List ℕ) → words_all l (ns ++ ms) ≡ words_all l ns ++ words_all l ms
unfolding words_all
words_append l [] ms = refl
words_append l (n ∷ ns) ms = ap (λ (ws : List ℕ). token_at l n ++ ws) (words_append l ns ms)

pub wait_words_law : (n : ℕ) (l ring : List ℕ) (at : ℕ) → wait_words n l ring at ≡ words_all l (slots 256 ring at n)
unfolding wait_words words_all slots
wait_words_law zero l ring at = refl
wait_words_law (suc n) l ring at = ap (λ (ws : List ℕ). token_at l (get_or ring (at % 256) 0) ++ ws) (wait_words_law n l ring (at + 1))

pub range_length : (i n : ℕ) → length (range i n) ≡ n
unfolding range
range_length i zero = refl
range_length i (suc n) = ap suc (range_length (i + 1) n)

-- more waits after the last
pub weave_wait : (cs hs ws vs : List ℕ) → total cs ≤ length ws → weave cs hs (ws ++ vs) ≡ weave cs hs ws ++ vs
unfolding weave total
weave_wait [] hs ws vs h = refl
weave_wait (c ∷ cs) [] ws vs h = refl
weave_wait (c ∷ cs) (x ∷ hs) ws vs h =
    let less = length-drop c ws in
    ap₂ (λ (a b : List ℕ). a ++ x ∷ weave cs hs b) (take-append-le c ws vs (omega arith)) (drop-append-le c ws vs (omega arith))
    ∙ ap (λ (a : List ℕ). take c ws ++ x ∷ a) (weave_wait cs hs (drop c ws) vs (omega arith))
    ∙ sym (append_assoc (take c ws) (x ∷ weave cs hs (drop c ws)) vs)

-- one more is held, with all that waits new before it
pub weave_push : (cs hs ws vs : List ℕ) (p w : ℕ) → total cs ≡ length ws → length cs ≡ length hs → length vs ≡ w
    → weave (cs ++ (w ∷ [])) (hs ++ (p ∷ [])) (ws ++ vs) ≡ weave cs hs ws ++ (vs ++ (p ∷ []))
unfolding weave total
weave_push [] [] [] vs p w t n e = ap₂ (λ (a b : List ℕ). a ++ p ∷ b) (ap (λ (k : ℕ). take k vs) (sym e) ∙ take-length vs) (ap (λ (k : ℕ). drop k vs) (sym e) ∙ drop-length vs)
weave_push [] [] (x ∷ ws) vs p w t n e = never (let k = t in omega arith)
weave_push [] (h ∷ hs) ws vs p w t n e = never (let k = n in omega arith)
weave_push (c ∷ cs) [] ws vs p w t n e = never (let k = n in omega arith)
weave_push (c ∷ cs) (h ∷ hs) ws vs p w t n e =
    let less = length-drop c ws in
    ap₂ (λ (a b : List ℕ). a ++ h ∷ weave (cs ++ (w ∷ [])) (hs ++ (p ∷ [])) b) (take-append-le c ws vs (omega arith)) (drop-append-le c ws vs (omega arith))
    ∙ ap (λ (a : List ℕ). take c ws ++ h ∷ a) (weave_push cs hs (drop c ws) vs p w (omega arith) (omega arith) e)
    ∙ sym (append_assoc (take c ws) (h ∷ weave cs hs (drop c ws)) (vs ++ (p ∷ [])))

-- the first held token, after what waits before it
pub weave_front : (c : ℕ) (cs : List ℕ) (h : ℕ) (hs before rest : List ℕ) → length before ≡ c → weave (c ∷ cs) (h ∷ hs) (before ++ rest) ≡ before ++ h ∷ weave cs hs rest
unfolding weave
weave_front c cs h hs before rest e = ap₂ (λ (a b : List ℕ). a ++ h ∷ weave cs hs b) (take_at before rest c e) (drop_at before rest c e)

pub weave_none : (hs ws : List ℕ) → weave [] hs ws ≡ ws
unfolding weave
weave_none hs ws = refl

pub kept_all : (l : List ℕ) (n i : ℕ) → kept_from true l i n ≡ range i n
unfolding kept_from range
kept_all l zero i = refl
kept_all l (suc n) i = ap (λ (s : List ℕ). i ∷ s) (kept_all l n (i + 1))

kept_none : (l : List ℕ) (n i : ℕ) → ((k : ℕ) → i ≤ k → k < i + n → true ≡ is_white (kind_at l k)) → kept_from false l i n ≡ []
unfolding kept_from
kept_none l zero i all = refl
kept_none l (suc n) i all = rw (sym (all i (omega arith) (omega arith))) (kept_none l n (i + 1) (λ k a b. all k (omega arith) (omega arith)))

pub kept_white : (keep : Bool) (l : List ℕ) (n i : ℕ) → ((k : ℕ) → i ≤ k → k < i + n → true ≡ is_white (kind_at l k)) → kept_from keep l i n ≡ range i (pick keep n 0)
unfolding range
kept_white true l n i all = kept_all l n i
kept_white false l n i all = kept_none l n i all

module _ (keep : Bool) (l : List ℕ) where
  pub kept_split : (a b i : ℕ) → kept_from keep l i (a + b) ≡ kept_from keep l i a ++ kept_from keep l (i + a) b
  unfolding kept_from
  kept_split zero b i =
      let e : 0 + b ≡ b = omega arith in
      let f : i ≡ i + 0 = omega arith in
      ap₂ (λ (n j : ℕ). kept_from keep l j n) e f
  kept_split (suc a) b i =
      let e : suc a + b ≡ suc (a + b) = omega arith in
      let f : i + 1 + a ≡ i + suc a = omega arith in
      let h = kept_split a b (i + 1) ∙ ap (λ (j : ℕ). kept_from keep l (i + 1) a ++ kept_from keep l j b) f in
      ap (kept_from keep l i) e
      ∙ split (either keep (not (is_white (kind_at l i)))) (λ t. rw t (ap (λ (s : List ℕ). i ∷ s) h)) (λ t. rw t h)

  pub kept_dark : (p : ℕ) → false ≡ is_white (kind_at l p) → kept_from keep l p 1 ≡ p ∷ []
  unfolding kept_from
  kept_dark p d = rw (sym d) (split keep (λ t. rw t) (λ t. rw t))
