-- Bytes stored one after the other. Assumes nothing.
use Prim.Native.Nat.{ℕ, suc, ◌+◌, ◌≤◌, ◌<◌}
use mathlib.Core.Path.{◌≡◌, refl, sym, ap, ap₂, ◌∙◌, subst}
use mathlib.Core.List.{List, ◌∷◌, ◌++◌}
use native.Mathlib.Omega.{arith}
use native.Mathlib.Numerals.{add-one}
use lib.Seq.{drop-cons, get_or-take, length-take-le, sets, take-append_seam, take-take}
use lib.ListN.{drop, drop_of_length-le, get_or, length, length-append, length-set, replicate, set, take}
use Rattle.encoding.specs.Encode.{padded}
use Rattle.encoding.specs.declared.Encoded.{Encoded}

-- four bytes, of which the first are those of a list, and 0 after
module _ (l : List ℕ) (h : length l ≤ 4) (r : Encoded) (e : r ≡ padded l) where
  pub padded_len : r.len ≡ length l
  padded_len = ap (λ (x : Encoded). x.len) e

  pub padded_size : r.len ≤ length r.bytes
  padded_size =
      let n : length (padded l).bytes ≡ 4 = length-take-le 4 (l ++ replicate 4 0) (omega (arith, length-append l (replicate 4 0))) in
      omega (arith, padded_len, ap (λ (x : Encoded). length x.bytes) e)

  pub padded_front : take r.len r.bytes ≡ l
  padded_front =
      ap (λ (x : Encoded). take x.len x.bytes) e ∙ take-take (length l) 4 (l ++ replicate 4 0) h ∙ take-append_seam l (replicate 4 0)

-- the first len of some bytes are stored from n on: those from i on give the whole
pub record Putting (out₀ out bytes : List ℕ) (n len i : ℕ) : Type 0 where
  pub same : sets out (n + i) (drop i (take len bytes)) ≡ sets out₀ n (take len bytes)
  pub size : length out ≡ length out₀
  pub few : i ≤ len

pub putting_first : (out bytes : List ℕ) (n len : ℕ) → Putting out out bytes n len 0
putting_first out bytes n len = record { same = ap (λ (k : ℕ). sets out k (take len bytes)) (omega arith); size = refl; few = omega arith }

module _ (out₀ out bytes : List ℕ) (n len i : ℕ) (h : Putting out₀ out bytes n len i) where
  pub putting_last : len ≤ i → len ≤ length bytes → out ≡ sets out₀ n (take len bytes)
  putting_last l w =
      let e : length (take len bytes) ≤ i = omega (arith, length-take-le len bytes w) in
      sym (ap (sets out (n + i)) (drop_of_length-le (take len bytes) e)) ∙ h.same

  pub putting_next : i < len → len ≤ length bytes → Putting out₀ (set out (n + i) (get_or bytes i 0)) bytes n len (i + 1)
  putting_next l w =
      let e : i < length (take len bytes) = omega (arith, length-take-le len bytes w) in
      let f : drop i (take len bytes) ≡ get_or bytes i 0 ∷ drop (i + 1) (take len bytes) =
      drop-cons (take len bytes) i 0 e ∙ ap₂ (λ (x k : ℕ). x ∷ drop k (take len bytes)) (get_or-take len bytes i 0 l) (sym (add-one i)) in
      let g : n + (i + 1) ≡ suc (n + i) = omega arith in
      record {
        same = ap (λ (k : ℕ). sets (set out (n + i) (get_or bytes i 0)) k (drop (i + 1) (take len bytes))) g ∙ ap (sets out (n + i)) (sym f) ∙ h.same;
        size = length-set out (n + i) (get_or bytes i 0) ∙ h.size;
        few = omega arith;
      }

-- the first byte is written at n itself
pub putting_one : (out bytes : List ℕ) (n len : ℕ) → 0 < len → len ≤ length bytes → Putting out (set out n (get_or bytes 0 0)) bytes n len 1
putting_one out bytes n len l w =
    subst (λ (k : ℕ). Putting out (set out k (get_or bytes 0 0)) bytes n len 1) (omega arith) (putting_next out out bytes n len 0 (putting_first out bytes n len) l w)
