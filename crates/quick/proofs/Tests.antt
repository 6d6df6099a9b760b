-- What the code's tests tell. Assumes nothing.
use Prim.Native.Nat.{ℕ, ◌+◌, ◌/◌, ◌%◌, ◌≤◌, ◌<◌}
use mathlib.Core.Path.{◌≡◌, sym, ap, ◌∙◌}
use mathlib.Core.List.{List}
use mathlib.Core.Bool.{Bool, true, false}
use native.Mathlib.Omega.{arith}
use lib.Dec.{eqb}
use lib.ListN.{get_or-eq_default, get_or, length}
use borrow.Author.Tests.{eq-eqb, le-ltb, lt-ltb, ne_eqb}
use Rattle.laws.proofs.Cases.{both_false, either_true, split_le}
use Rattle.laws.specs.Bools.{both, either, pick}
use Rattle.operators.specs.Operators.{look_one, look_three, look_two, ones, threes, twos}
use Rattle.quick.specs.Operators.{operator_by, quick_at, quick_of}
use Rattle.quick.specs.Tokens.{ask, begins_word, blank_at, blank_by, is_blank, other_at, other_by, quick_token_at, word_at, word_by}

module _ (c e : ℕ) where
  pub blank_high : 127 < c → ask ≡ blank_by c e
  blank_high h = rw (lt-ltb 127 c h)

  module _ (h : c ≤ 127) where
    pub blank_tab : c ≡ 11 → ask ≡ blank_by c e
    blank_tab k = rw (le-ltb 127 c h, eq-eqb c 11 k)

    pub blank_feed : c ≡ 12 → ask ≡ blank_by c e
    blank_feed k = rw (le-ltb 127 c h, eq-eqb c 12 k, either_true)

    pub blank_some : (c ≡ 11 → ⊥) → (c ≡ 12 → ⊥) → record { number = 1; end = e } ≡ blank_by c e
    blank_some k l = rw (le-ltb 127 c h, ne_eqb c 11 k, ne_eqb c 12 l)

-- a quote after `b`
abbrev pub quotes : ℕ → ℕ → Bool
quotes a c = both (eqb a 98) (either (eqb c 34) (eqb c 39))

module _ (a c : ℕ) where
  pub quotes_not : (a ≡ 98 → ⊥) → quotes a c ≡ false
  quotes_not h = rw (ne_eqb a 98 h)

  pub quotes_other : (c ≡ 34 → ⊥) → (c ≡ 39 → ⊥) → quotes a c ≡ false
  quotes_other h k = rw (ne_eqb c 34 h, ne_eqb c 39 k, both_false)

module _ (a p c e : ℕ) where
  pub word_high : 127 < c → ask ≡ word_by a p c e
  word_high h = rw (lt-ltb 127 c h)

  module _ (h : c ≤ 127) where
    pub word_two : a ≡ 98 → c ≡ 34 → ask ≡ word_by a p c e
    word_two k l = rw (le-ltb 127 c h, eq-eqb a 98 k, eq-eqb c 34 l)

    pub word_one : a ≡ 98 → c ≡ 39 → ask ≡ word_by a p c e
    word_one k l = rw (le-ltb 127 c h, eq-eqb a 98 k, eq-eqb c 39 l, either_true)

    pub word_lone : a ≡ 95 → e ≡ p → record { number = 7; end = e } ≡ word_by a p c e
    word_lone k l = rw (le-ltb 127 c h, quotes_not a c (λ z. omega arith), eq-eqb a 95 k, eq-eqb e p l)

    pub word_some : quotes a c ≡ false → both (eqb a 95) (eqb e p) ≡ false → record { number = 6; end = e } ≡ word_by a p c e
    word_some k l = rw (le-ltb 127 c h, k, l)

module _ (a : ℕ) (s : List ℕ) (p : ℕ) where
  pub other_blank : is_blank a ≡ true → blank_at s p ≡ other_by a s p
  other_blank h = rw h

  pub other_word : is_blank a ≡ false → begins_word a ≡ true → word_at a s p ≡ other_by a s p
  other_word h k = rw (h, k)

  pub other_ask : is_blank a ≡ false → begins_word a ≡ false → ask ≡ other_by a s p
  other_ask h k = rw (h, k)

module _ (s : List ℕ) (at : ℕ) where
  pub other_end : length s ≤ at → ask ≡ other_at s at
  unfolding other_at
  other_end h = ap (λ (x : ℕ). other_by x s (at + 1)) (sym (get_or-eq_default s 0 h))

  module _ (q : ℕ) (e : q ≡ quick_at s at) where
    pub token_operator : (q ≡ 0 → ⊥) → record { number = q / 4; end = at + q % 4 } ≡ quick_token_at s at
    unfolding quick_token_at
    token_operator h = sym (ap (λ (b : Bool). pick b (other_at s at) (record { number = q / 4; end = at + q % 4 })) (ne_eqb q 0 h)) ∙ ap (λ (x : ℕ). pick (eqb x 0) (other_at s at) (record { number = x / 4; end = at + x % 4 })) e

    pub token_other : q ≡ 0 → other_at s at ≡ quick_token_at s at
    unfolding quick_token_at
    token_other h = rw (eq-eqb (quick_at s at) 0 (sym e ∙ h))

    -- an operator stands within the source
    pub operator_in : (q ≡ 0 → ⊥) → at < length s
    unfolding quick_at quick_of operator_by look_one look_two look_three ones twos threes
    operator_in h =
        split_le (length s) at (λ l. absurd (h (e ∙ ap (λ (x : ℕ). quick_of x (get_or s (at + 1) 0) (get_or s (at + 2) 0)) (get_or-eq_default s 0 l)))) (λ l. l)
