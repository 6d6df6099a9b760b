-- Runs byte by byte, as the loops find them, and scalar by scalar. Assumes nothing.
use Prim.Native.Nat.{ℕ, zero, suc, ◌+◌, ◌≤◌, ◌<◌}
use mathlib.Core.Path.{◌≡◌, refl, ap, ◌∙◌, subst}
use mathlib.Core.List.{List, [], ◌∷◌}
use mathlib.Core.Bool.{Bool, true, false}
use native.Mathlib.Omega.{arith}
use native.Mathlib.Numerals.{add-one}
use lib.Seq.{drop-cons}
use lib.ListN.{drop, drop_of_length-le, get_or, length}
use Rattle.laws.proofs.Cases.{split, split_le}
use Rattle.quick.specs.Tokens.{passing}
use Rattle.readers.proofs.Scans.{scan_before, scan_end, scan_on}
use Rattle.readers.proofs.Steps.{run_no, run_yes}
use Rattle.readers.specs.Readers.{run, run_step}
use Rattle.readers.specs.Scan.{Stop, scan}
use Rattle.text.proofs.Decode.{rest_end, step_ascii}
use Rattle.text.specs.Utf8.{rest, width}

module _ (f : ℕ → Bool) (s : List ℕ) (p : ℕ) where
  pub pass_end : length s ≤ p → passing f (drop p s) ≡ []
  unfolding passing
  pass_end h = rw (drop_of_length-le s h)

  pub pass_stop : p < length s → f (get_or s p 0) ≡ false → passing f (drop p s) ≡ []
  unfolding passing
  pass_stop h e = rw (drop-cons s p 0 h) (rw (e, passing))

  pub pass_next : p < length s → f (get_or s p 0) ≡ true → passing f (drop p s) ≡ get_or s p 0 ∷ passing f (drop (p + 1) s)
  unfolding passing
  pass_next h e = rw (add-one p, drop-cons s p 0 h) (rw (e, passing))

-- a test on bytes, which ASCII alone pass, and one on scalars, which they pass too: where the byte after a run is ASCII and passes neither, the runs are the same
module _ (f g : ℕ → Bool) (low : (v : ℕ) → g v ≡ true → v ≤ 127) (yes : (v : ℕ) → g v ≡ true → f v ≡ true) (s : List ℕ) where
  scan_bytes : (k p l : ℕ) → length (passing g (drop p s)) ≡ k → get_or s (p + k) 0 ≤ 127 → (g (get_or s (p + k) 0) ≡ false → f (get_or s (p + k) 0) ≡ false)
      → p + k ≡ (scan (run_step f) width tt l (rest s p) p).place
  scan_bytes zero p l e h n =
      let z : p + 0 ≡ p = omega arith in
      split_le (length s) p
      (λ o. z ∙ ap (λ (x : Stop (Unit {0})). x.place) (scan_end (run_step f) tt l s p (rest_end s p o)))
      (λ o. split (g (get_or s p 0))
      (λ y. absurd (omega (arith, ap length (pass_next g s p o y))))
      (λ y.
      let t = step_ascii s p o (subst (λ (x : ℕ). get_or s x 0 ≤ 127) z h) in
      let no = subst (λ (x : ℕ). g (get_or s x 0) ≡ false → f (get_or s x 0) ≡ false) z n y in
      z ∙ ap (λ (x : Stop (Unit {0})). x.place) (scan_before (run_step f) tt l s p (get_or s p 0) (p + 1) t tt (run_no f (get_or s p 0) (rest s (p + 1)) no))))
  scan_bytes (suc k) p l e h n =
      split_le (length s) p
      (λ o. absurd (omega (arith, ap length (pass_end g s p o))))
      (λ o. split (g (get_or s p 0))
      (λ y.
      let t = step_ascii s p o (low (get_or s p 0) y) in
      let z : p + suc k ≡ p + 1 + k = omega arith in
      let less : length (passing g (drop (p + 1) s)) ≡ k = omega (arith, ap length (pass_next g s p o y)) in
      z ∙ scan_bytes k (p + 1) p less (subst (λ (x : ℕ). get_or s x 0 ≤ 127) z h) (subst (λ (x : ℕ). g (get_or s x 0) ≡ false → f (get_or s x 0) ≡ false) z n)
      ∙ ap (λ (x : Stop (Unit {0})). x.place) (scan_on (run_step f) tt l s p (get_or s p 0) (p + 1) t tt (run_yes f (get_or s p 0) (rest s (p + 1)) (yes (get_or s p 0) y))))
      (λ y. absurd (omega (arith, ap length (pass_stop g s p o y)))))

  pub run_bytes : (p : ℕ) → let e = p + length (passing g (drop p s)) in get_or s e 0 ≤ 127 → (g (get_or s e 0) ≡ false → f (get_or s e 0) ≡ false) → e ≡ run width f (rest s p) p
  unfolding run
  run_bytes p h n = scan_bytes (length (passing g (drop p s))) p p refl h n
