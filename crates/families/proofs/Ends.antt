-- A token ends at a scalar's place, past the scalar that it starts with, whether it is accepted or refused. Assumes nothing.
use Rattle.std.specs.Prelude.{Err, Ok}
use Prim.Native.Nat.{ℕ, ◌+◌, ◌≤◌, ◌<◌}
use mathlib.Core.Path.{◌≡◌, refl, sym, ap}
use mathlib.Core.List.{List, [], ◌∷◌, ◌++◌}
use mathlib.Core.Logic.{inl, inr}
use native.Mathlib.Omega.{arith}
use lib.Dec.{eqb}
use Rattle.families.specs.Places.{Cut, place_after}
use Rattle.families.specs.Sane.{Sane}
use Rattle.laws.proofs.Cases.{both_false, split}
use Rattle.laws.specs.Bools.{both}
use Rattle.lexer.specs.Next.{close_span, is_shebang, next_of, shebang_of}
use Rattle.readers.proofs.Lands.{Lands, lands_le, line_lands}
use Rattle.readers.specs.Rules.{Rules}
use Rattle.readers.specs.Scan.{Stride}
use Rattle.templates.proofs.Landing.{NextLands, token_consumes, token_lands}
use Rattle.templates.specs.Body.{token_of}
use Rattle.text.specs.Utf8.{after, width}
use Rattle.token.specs.Reads.{reached_of, Read, number_in}
use Rattle.token.specs.declared.kind.Kind.TheVariants.{Shebang}

module _ (w : Stride) where
  pub after_append : (f g : List ℕ) (p : ℕ) → place_after w (f ++ g) p ≡ place_after w g (place_after w f p)
  unfolding place_after
  after_append [] g p = refl
  after_append (v ∷ f) g p = after_append f g (p + w v)

  pub after_le : (f : List ℕ) (p : ℕ) → p ≤ place_after w f p
  unfolding place_after
  after_le [] p = omega arith
  after_le (v ∷ f) p = let h = after_le f (p + w v) in omega arith

module _ (R : Rules) where
  pub lands_cut : (cs : List ℕ) (p r : ℕ) → Lands R cs p r → Cut R cs p r
  unfolding place_after
  lands_cut [] p r h = record { front = []; back = []; whole = refl; ends = sym h }
  lands_cut (v ∷ cs) p r (inl h) = record { front = []; back = v ∷ cs; whole = refl; ends = sym h }
  lands_cut (v ∷ cs) p r (inr h) =
      let c = lands_cut cs (p + R.stride v) r h in
      record { front = v ∷ c.front; back = c.back; whole = ap (λ (x : List ℕ). v ∷ x) c.whole; ends = c.ends }

  -- the shebang and refusal 12's span change nothing here
  pub close_reached : (n : ℕ) (r : Read) → reached_of (close_span n r) ≡ reached_of r
  close_reached n (Ok k) = refl
  close_reached n (Err r) = split (eqb (number_in r) 12) (λ e. rw (e, reached_of) refl) (λ e. rw (e, reached_of) refl)

  bang_consumes : (v : ℕ) (cs : List ℕ) (p : ℕ) → Lands R cs (p + R.stride v) (reached_of (shebang_of R (v ∷ cs) p))
  bang_consumes v [] p = line_lands R p [] (p + R.stride v) Shebang
  bang_consumes v (w ∷ cs) p = inr (line_lands R p cs (p + R.stride v + R.stride w) Shebang)

  pub next_consumes : (n v : ℕ) (cs : List ℕ) (p : ℕ) → Lands R cs (p + R.stride v) (reached_of (next_of R n (v ∷ cs) p))
  unfolding next_of
  next_consumes n v cs p =
      split (both (eqb p 0) (is_shebang (v ∷ cs))) (λ e. rw e (bang_consumes v cs p))
      (λ e. rw (e, close_reached n (token_of R 64 (v ∷ cs) p)) (token_consumes R 64 v cs p))

  pub next_lands : (n : ℕ) → NextLands R (next_of R n)
  unfolding next_of
  next_lands n [] p = rw (both_false (eqb p 0), close_reached n (token_of R 64 [] p)) (token_lands R 64 [] p)
  next_lands n (v ∷ cs) p = inr (next_consumes n v cs p)

  -- so what was read is a front of the scalars
  pub next_cut : (n : ℕ) (cs : List ℕ) (p : ℕ) → Cut R cs p (reached_of (next_of R n cs p))
  next_cut n cs p = lands_cut cs p (reached_of (next_of R n cs p)) (next_lands n cs p)

  -- at least one scalar, unless the scalars have ended
  module _ (sane : Sane R) where
    past : (v : ℕ) (cs : List ℕ) (p r : ℕ) → Lands R cs (p + R.stride v) r → p < r
    past v cs p r h = let k = lands_le R cs (p + R.stride v) r h in let w = sane.steps v in omega arith

    pub token_past : (d v : ℕ) (cs : List ℕ) (p : ℕ) → p < reached_of (token_of R d (v ∷ cs) p)
    token_past d v cs p = past v cs p (reached_of (token_of R d (v ∷ cs) p)) (token_consumes R d v cs p)

    pub next_past : (n v : ℕ) (cs : List ℕ) (p : ℕ) → p < reached_of (next_of R n (v ∷ cs) p)
    next_past n v cs p = past v cs p (reached_of (next_of R n (v ∷ cs) p)) (next_consumes n v cs p)

-- bytes: the place after scalars as it stands in the crate `text`
pub bytes_after : (f : List ℕ) (p : ℕ) → place_after width f p ≡ after f p
unfolding place_after after
bytes_after [] p = refl
bytes_after (v ∷ f) p = bytes_after f (p + width v)
