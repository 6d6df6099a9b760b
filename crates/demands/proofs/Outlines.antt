-- Demand 3: the outline byte by byte, its tokens, equal outlines, and the outline of an outline. Assumes nothing.
use Prim.Native.Nat.{ℕ, zero, suc, ◌+◌, ◌<◌}
use mathlib.Core.Path.{◌≡◌, refl, sym, ap, ◌∙◌, subst}
use mathlib.Core.List.{List, [], ◌∷◌}
use mathlib.Core.Bool.{Bool, false}
use native.Mathlib.Omega.{arith}
use lib.ListN.{get_or, length}
use Rattle.demands.proofs.Bridge.{painted_scalars}
use Rattle.demands.proofs.Flat.{flat_after}
use Rattle.demands.proofs.Plains.{inside_plain, plain_again}
use Rattle.demands.proofs.Same.{same_tokens}
use Rattle.demands.specs.Plain.{in_bytes, plain_tokens}
use Rattle.demands.specs.Scalars.{Even, flat}
use Rattle.families.proofs.Ends.{bytes_after}
use Rattle.families.specs.Moves.{with_stride}
use Rattle.families.specs.Sane.{Sane}
use Rattle.families.specs.Tokens.{Tokens, tokens_at, tokens_of}
use Rattle.laws.proofs.Cases.{split}
use Rattle.laws.specs.Bools.{pick}
use Rattle.outline.proofs.Shading.{paint_length}
use Rattle.outline.specs.Outline.{inside_at, outlined, paint}
use Rattle.readers.specs.Rules.{Rules}
use Rattle.source_test.specs.Source.{sound_to}
use Rattle.text.specs.Utf8.{after, rest, width}

paint_at : (m : ℕ → Bool) (s : List ℕ) (p i : ℕ) → i < length s → get_or (paint m s p) i 0 ≡ pick (m (p + i)) 0x78 (get_or s i 0)
unfolding paint
paint_at m [] p i h = absurd (omega arith)
paint_at m (b ∷ s) p zero h = let e : p ≡ p + 0 = omega arith in ap (λ (q : ℕ). pick (m q) 0x78 b) e
paint_at m (b ∷ s) p (suc i) h = let e : suc p + i ≡ p + suc i = omega arith in paint_at m s (suc p) i (omega arith) ∙ ap (λ (q : ℕ). pick (m q) 0x78 (get_or s i 0)) e

paint_twice : (m m' : ℕ → Bool) → ((i : ℕ) → m' i ≡ m i) → (s : List ℕ) (p : ℕ) → paint m' (paint m s p) p ≡ paint m s p
unfolding paint
paint_twice m m' e [] p = refl
paint_twice m m' e (b ∷ s) p =
    split (m p) (λ h. rw (e p, h) (ap (λ (l : List ℕ). 0x78 ∷ l) (paint_twice m m' e s (suc p))))
    (λ h. rw (e p, h) (ap (λ (l : List ℕ). b ∷ l) (paint_twice m m' e s (suc p))))

-- rules that count places in bytes
own_bytes : (R : Rules) → R.stride ≡ width → in_bytes R ≡ R
own_bytes R e = λ i. with_stride R (sym e i)

module _ (R : Rules) (tick : R.start 96 ≡ false) (s : List ℕ) where
  abbrev mask : ℕ → Bool
  mask = inside_at (tokens_at (in_bytes R) s 0)

  painted_tokens : Even mask (rest s 0) 0 × (tokens_of (in_bytes R) (length s) 0 (flat mask (rest s 0) 0) 0 ≡ plain_tokens (tokens_at (in_bytes R) s 0))
  unfolding tokens_at
  painted_tokens = same_tokens R (length s) tick (tokens_at (in_bytes R) s 0) (rest s 0) 0 refl mask (λ i l. refl)

  bytes_scalars : sound_to s ≡ length s → rest (outlined (in_bytes R) s) 0 ≡ flat mask (rest s 0) 0
  unfolding outlined
  bytes_scalars h = painted_scalars mask s h painted_tokens.0

  bytes_tokens : sound_to s ≡ length s → tokens_at (in_bytes R) (outlined (in_bytes R) s) 0 ≡ plain_tokens (tokens_at (in_bytes R) s 0)
  unfolding tokens_at outlined
  bytes_tokens h =
      (λ i. tokens_of (in_bytes R) (paint_length mask s 0 i) 0 (bytes_scalars h i) 0) ∙ painted_tokens.1

module _ (R : Rules) (s : List ℕ) where
  pub outline_length : length (outlined R s) ≡ length s
  unfolding outlined
  outline_length = paint_length (inside_at (tokens_at R s 0)) s 0

  -- x over each byte inside, the source elsewhere
  pub outline_bytes : (i : ℕ) → i < length s → get_or (outlined R s) i 0 ≡ pick (inside_at (tokens_at R s 0) i) 0x78 (get_or s i 0)
  unfolding outlined
  outline_bytes i h = let e : 0 + i ≡ i = omega arith in paint_at (inside_at (tokens_at R s 0)) s 0 i h ∙ ap (λ (q : ℕ). pick (inside_at (tokens_at R s 0) q) 0x78 (get_or s i 0)) e

module _ (R : Rules) (bytes : R.stride ≡ width) (sane : Sane R) where
  module _ (s : List ℕ) (h : sound_to s ≡ length s) where
    pub outline_scalars : rest (outlined R s) 0 ≡ flat (inside_at (tokens_at R s 0)) (rest s 0) 0
    outline_scalars = subst (λ (X : Rules). rest (outlined X s) 0 ≡ flat (inside_at (tokens_at X s 0)) (rest s 0) 0) (own_bytes R bytes) (bytes_scalars R sane.tick s h)

    -- the outline's tokens are the source's, with no escape mark
    pub outline_tokens : tokens_at R (outlined R s) 0 ≡ plain_tokens (tokens_at R s 0)
    outline_tokens = subst (λ (X : Rules). tokens_at X (outlined X s) 0 ≡ plain_tokens (tokens_at X s 0)) (own_bytes R bytes) (bytes_tokens R sane.tick s h)

    pub outline_same : plain_tokens (tokens_at R (outlined R s) 0) ≡ plain_tokens (tokens_at R s 0)
    outline_same = ap plain_tokens outline_tokens ∙ plain_again (tokens_at R s 0)

    -- the outline passes the UTF-8 test
    pub outline_sound : sound_to (outlined R s) ≡ length (outlined R s)
    unfolding sound_to
    outline_sound =
        let m = inside_at (tokens_at R s 0) in
        ap (λ (l : List ℕ). after l 0) outline_scalars ∙ sym (bytes_after (flat m (rest s 0) 0) 0) ∙ flat_after m (rest s 0) 0 0 ∙ bytes_after (rest s 0) 0 ∙ h ∙ sym (outline_length R s)

    pub outline_twice : outlined R (outlined R s) ≡ outlined R s
    unfolding outlined
    outline_twice =
        let m = inside_at (tokens_at R s 0) in
        let e : tokens_at R (paint m s 0) 0 ≡ plain_tokens (tokens_at R s 0) = outline_tokens in
        paint_twice m (inside_at (tokens_at R (paint m s 0) 0)) (λ i. ap (λ (ts : Tokens). inside_at ts i) e ∙ inside_plain (tokens_at R s 0) i) s 0

  pub outline_equal : (s t : List ℕ) → sound_to s ≡ length s → sound_to t ≡ length t → outlined R s ≡ outlined R t → plain_tokens (tokens_at R s 0) ≡ plain_tokens (tokens_at R t 0)
  outline_equal s t h k e = sym (outline_tokens s h) ∙ ap (λ (l : List ℕ). tokens_at R l 0) e ∙ outline_tokens t k
