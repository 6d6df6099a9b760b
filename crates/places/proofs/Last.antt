-- The last LF before a place, as a search from the place back finds it. Assumes nothing.
use Prim.Native.Nat.{ℕ, zero, suc, ◌+◌, ◌-◌, ◌<◌}
use mathlib.Core.Path.{◌≡◌, refl, sym, ap, ◌∙◌}
use mathlib.Core.List.{List, [], ◌∷◌}
use mathlib.Core.Bool.{Bool, cond, true, false}
use native.Mathlib.Omega.{arith}
use native.Mathlib.Numerals.{add-one}
use lib.ListN.{get_or, length}
use Rattle.std.specs.Prelude.{Option, Some}
use Rattle.std.specs.List.{find}
use Rattle.std.specs.Option.{MatchOption, option_map, option_map_or}
use Rattle.std.specs.declared.iter.Rev.{Rev}
use Rattle.std.specs.declared.ops.Range.{Range}
use Rattle.std.proofs.lemmas.Iterator.{YieldsList}
use Rattle.std.proofs.lemmas.Iterator.Adapters.{option_map_id}
use Rattle.std.proofs.lemmas.Iterator.Splits.{YieldsList-from_shown_while}
use Rattle.laws.specs.Bools.{pick}
use Rattle.places.specs.Lines.{is_feed, start_of}

-- the numbers below one, from the last on
pub down : ℕ → List ℕ
down zero = []
down (suc n) = n ∷ down n

abbrev pub back : Rev (Range ℕ) → Option ℕ → Rev (Range ℕ) → Type 0
back s r t =
    (t.iter.start ≡ s.iter.start)
    × MatchOption r ((s.iter.end - s.iter.start ≡ 0) × (t.iter.end ≡ s.iter.end))
    (λ x. (0 < s.iter.end - s.iter.start) × (x ≡ t.iter.end) × (s.iter.end ≡ t.iter.end + 1))

nothing : (n m : ℕ) → m ≡ 0 → n - m ≡ 0 → length (down n) ≡ 0
unfolding down
nothing zero m e h = refl
nothing (suc n) m e h = absurd (omega arith)

next : (n m x : ℕ) → n ≡ m + 1 → x ≡ m → down n ≡ x ∷ down m
unfolding down
next n m x e h = ap down (e ∙ add-one m) ∙ ap (λ k. k ∷ down m) (sym h)

pub yields_down : (s : Rev (Range ℕ)) (n : ℕ) → s.iter ≡ record { start = 0; end = n } → YieldsList back (λ x. x) s (down n)
yields_down s n e =
    let ends : s.iter.end ≡ n = ap (λ k. k.end) e in
    rw (← ends)
    (YieldsList-from_shown_while back (λ x. x) (λ r. down r.iter.end) (λ r. r.iter.start ≡ 0)
    (λ r t z p. nothing r.iter.end r.iter.start z p.1.0)
    (λ r x t z p. (p.0 ∙ z, next r.iter.end t.iter.end x p.1.2 p.1.1))
    s (ap (λ k. k.start) e))

chosen : (b : Bool) (n m : ℕ) (o : Option ℕ) → option_map_or (λ i. i + 1) o 0 ≡ m → option_map_or (λ i. i + 1) (cond b (Some n) o) 0 ≡ pick b (suc n) m
chosen true n m o e = add-one n
chosen false n m o e = e

start_down : (s : List ℕ) (n : ℕ) → option_map_or (λ i. i + 1) (find (λ i. is_feed (get_or s i 0)) (down n)) 0 ≡ start_of s n
unfolding down start_of
start_down s zero = refl
start_down s (suc n) = chosen (is_feed (get_or s n 0)) n (start_of s n) (find (λ i. is_feed (get_or s i 0)) (down n)) (start_down s n)

pub start_found : (s : List ℕ) (n : ℕ) (r : Option ℕ) → option_map (λ i. i) r ≡ find (λ i. is_feed (get_or s i 0)) (down n) → option_map_or (λ i. i + 1) r 0 ≡ start_of s n
start_found s n r e = ap (λ o. option_map_or (λ i. i + 1) o 0) (sym (option_map_id r) ∙ e) ∙ start_down s n
