-- What the code's tests say of where a comment ends: what it passes over untested, and then one scalar after the other. Assumes nothing.
use Prim.Native.Nat.{ℕ, suc, ◌+◌}
use mathlib.Core.Path.{◌≡◌, refl, sym, ap, ◌∙◌}
use mathlib.Core.List.{List, []}
use mathlib.Core.Bool.{true, false}
use native.Mathlib.Omega.{arith}
use lib.ListN.{get_or}
use borrow.Author.Tests.{eq-eqb, ne_eqb}
use Rattle.readers.proofs.Scans.{scan_behind, scan_end, scan_last, scan_on}
use Rattle.readers.specs.Passing.{pass_one, untested}
use Rattle.readers.specs.Readers.{Closing, after_star, comment_end, comment_step, ended_of, skips}
use Rattle.readers.specs.Rules.{skip_of}
use Rattle.readers.specs.Scan.{How, scan, stop_at}
use Rattle.readers.specs.declared.comments.Ended.{Ended}
use Rattle.readers.specs.declared.reading.Comments.{Comments}
use Rattle.readers.specs.declared.reading.Comments.TheVariants.{Crate, First}
use Rattle.text.proofs.Decode.{Step, by_step, byte_step, step_byte}
use Rattle.text.specs.Utf8.{rest, width}

-- where a comment ends that is open at a place, and in which nothing is passed over untested any more
abbrev pub ends_from : List ℕ → ℕ → Ended
ends_from s p = comment_end width 0 (rest s p) p

-- a scalar passed over, at the end of the text too
pub pass_none : (s : List ℕ) (at : ℕ) → rest s at ≡ [] → at ≡ pass_one width (rest s at) at
pass_none s at e = rw e

pub pass_step : (s : List ℕ) (at v n : ℕ) → Step s at v n → n ≡ pass_one width (rest s at) at
pass_step s at v n t = rw t.here t.next

-- the last place is of no account to where a comment ends
ends_last : (st : Closing) (l l' : ℕ) (cs : List ℕ) (p : ℕ) → ended_of (scan comment_step width st l cs p) ≡ ended_of (scan comment_step width st l' cs p)
ends_last st l l' cs p = scan_last comment_step width (λ (st : Closing) (p : ℕ) (w : How). ended_of (stop_at st p p w)) st l l' cs p

pub comment_none : (k : ℕ) (s : List ℕ) (at : ℕ) → rest s at ≡ [] → record { end = at; closed = false } ≡ comment_end width k (rest s at) at
unfolding comment_end
comment_none k s at e = ap ended_of (scan_end comment_step (skips k) at s at e)

module _ (k : ℕ) (s : List ℕ) (at : ℕ) where
  comment_skip : (q : ℕ) → q ≡ pass_one width (rest s at) at → comment_end width k (rest s q) q ≡ comment_end width (suc k) (rest s at) at
  unfolding comment_end comment_step
  comment_skip q h =
      by_step s at
      (λ e. rw (h ∙ sym (pass_none s at e)) (sym (comment_none k s at e) ∙ comment_none (suc k) s at e))
      (λ v n t.
      rw (h ∙ sym (pass_step s at v n t))
      (ends_last (skips k) n at (rest s n) n ∙ ap ended_of (scan_on comment_step (skips (suc k)) at s at v n t (skips k) refl)))

-- after a star, all but a slash goes as it goes elsewhere
bare_step : (v : ℕ) (cs : List ℕ) → (v ≡ 47 → ⊥) → comment_step (skips 0) v cs ≡ comment_step after_star v cs
unfolding comment_step
bare_step v cs h = rw (ne_eqb v 47 h, comment_step)

-- what the byte at a place, and the one after a star, say of where a comment ends
module _ (s : List ℕ) (p : ℕ) where
  pub comment_more : (v n : ℕ) → Step s p v n → (get_or s p 0 ≡ 42 → ⊥) → ends_from s n ≡ ends_from s p
  unfolding comment_end comment_step
  comment_more v n t h =
      let other : v ≡ 42 → ⊥ = λ e. h (sym (step_byte s p v n t (omega arith)).0 ∙ e) in
      ends_last (skips 0) n p (rest s n) n ∙ ap ended_of (scan_on comment_step (skips 0) p s p v n t (skips 0) (rw (ne_eqb v 42 other, comment_step)))

  module _ (h : get_or s p 0 ≡ 42) where
    comment_star : ended_of (scan comment_step width after_star p (rest s (p + 1)) (p + 1)) ≡ ends_from s p
    unfolding comment_end comment_step
    comment_star = ap ended_of (scan_on comment_step (skips 0) p s p _ _ (byte_step s p (omega arith) (omega arith)) after_star (rw (eq-eqb _ 42 h, comment_step)))

    pub comment_close : get_or s (p + 1) 0 ≡ 47 → record { end = p + 1 + 1; closed = true } ≡ ends_from s p
    unfolding comment_step
    comment_close e =
        ap ended_of (scan_behind comment_step after_star p s (p + 1) _ _ (byte_step s (p + 1) (omega arith) (omega arith)) after_star (rw (eq-eqb _ 47 e, comment_step))) ∙ comment_star

    -- a star that no slash follows is as good as none
    pub comment_bare : (get_or s (p + 1) 0 ≡ 47 → ⊥) → ends_from s (p + 1) ≡ ends_from s p
    unfolding comment_end scan
    comment_bare e =
        by_step s (p + 1) (λ z. sym (comment_none 0 s (p + 1) z) ∙ ap ended_of (scan_end comment_step after_star p s (p + 1) z) ∙ comment_star)
        (λ w m u.
        let other : w ≡ 47 → ⊥ = λ f. e (sym (step_byte s (p + 1) w m u (omega arith)).0 ∙ f) in
        ends_last (skips 0) (p + 1) p (rest s (p + 1)) (p + 1) ∙ rw u.here (rw (bare_step w (rest s m) other, scan) refl) ∙ comment_star)

-- a comment is looked for from after what it passes over on
pub comment_untested : (c : Comments) (s : List ℕ) (at q : ℕ) → q ≡ untested c s at → ends_from s q ≡ comment_end width (skip_of c) (rest s at) at
comment_untested Crate s at q e = let one = pass_one width (rest s at) at in comment_skip 0 s one q e ∙ comment_skip 1 s at one refl
comment_untested First s at q e = rw e
