-- The four turns of every loop over the scanner, at a place of a source. Assumes nothing.
use Prim.Native.Nat.{ℕ}
use mathlib.Core.Path.{◌≡◌, refl, sym, ap, ◌∙◌}
use mathlib.Core.List.{List, [], ◌∷◌}
use Rattle.readers.specs.Scan.{Act, How, Stop, Stride, before, behind, ended, full, on, scan, short, stop_at}
use Rattle.text.proofs.Decode.{Step}
use Rattle.text.specs.Utf8.{rest, width}

module _ {S : Type 0} where
  pub by_act {ℓ} : {X : Type ℓ} (a : Act S) → ((s : S) → a ≡ on s → X) → ((s : S) → a ≡ before s → X) → ((s : S) → a ≡ behind s → X) → X
  by_act (on s) f g h = f s refl
  by_act (before s) f g h = g s refl
  by_act (behind s) f g h = h s refl

  -- from the place p, where the state is st and the last scalar read stands at l
  module _ (step : S → ℕ → List ℕ → Act S) (st : S) (l : ℕ) (s : List ℕ) (p : ℕ) where
    pub scan_end : rest s p ≡ [] → stop_at st l p ended ≡ scan step width st l (rest s p) p
    unfolding scan
    scan_end e = rw e

    module _ (v n : ℕ) (t : Step s p v n) where
      pub scan_on : (st' : S) → step st v (rest s n) ≡ on st' → scan step width st' p (rest s n) n ≡ scan step width st l (rest s p) p
      unfolding scan
      scan_on st' e = sym (rw t.here (rw (e, scan) (ap (scan step width st' p (rest s n)) (sym t.next))))

      pub scan_before : (st' : S) → step st v (rest s n) ≡ before st' → stop_at st' l p short ≡ scan step width st l (rest s p) p
      unfolding scan
      scan_before st' e = rw t.here (rw (e, scan))

      pub scan_behind : (st' : S) → step st v (rest s n) ≡ behind st' → stop_at st' p n full ≡ scan step width st l (rest s p) p
      unfolding scan
      scan_behind st' e = sym (rw t.here (rw (e, scan) (ap (λ (q : ℕ). stop_at st' p q full) (sym t.next))))

-- what a loop's invariant says: the scan from here, with some last place, is the scan from the start
abbrev pub Goes : {S : Type 0} → (S → ℕ → List ℕ → Act S) → S → List ℕ → ℕ → Stop S → Type 0
Goes step st s p o = (l : ℕ) × (scan step width st l (rest s p) p ≡ o)

module _ {S : Type 0} (step : S → ℕ → List ℕ → Act S) (st : S) (s : List ℕ) (p : ℕ) (o : Stop S) (g : Goes step st s p o) where
  pub goes_end : rest s p ≡ [] → stop_at st g.0 p ended ≡ o
  goes_end e = scan_end step st g.0 s p e ∙ g.1

  module _ (v n : ℕ) (t : Step s p v n) where
    pub goes_on : (st' : S) → step st v (rest s n) ≡ on st' → Goes step st' s n o
    goes_on st' e = (p, scan_on step st g.0 s p v n t st' e ∙ g.1)

    pub goes_before : (st' : S) → step st v (rest s n) ≡ before st' → stop_at st' g.0 p short ≡ o
    goes_before st' e = scan_before step st g.0 s p v n t st' e ∙ g.1

    pub goes_behind : (st' : S) → step st v (rest s n) ≡ behind st' → stop_at st' p n full ≡ o
    goes_behind st' e = scan_behind step st g.0 s p v n t st' e ∙ g.1

    -- the end after a scalar that the step went on over: the last scalar read stands at p
    pub goes_cut : (st' : S) → step st v (rest s n) ≡ on st' → rest s n ≡ [] → stop_at st' p n ended ≡ o
    goes_cut st' e z = scan_end step st' p s n z ∙ scan_on step st g.0 s p v n t st' e ∙ g.1

-- the last place is of no account to where and why a scan stops
module _ {S : Type 0} {A : Type 0} (step : S → ℕ → List ℕ → Act S) (w : Stride) (f : S → ℕ → How → A) where
  pub scan_last : (st : S) (l l' : ℕ) (cs : List ℕ) (p : ℕ) → let o = scan step w st l cs p in let o' = scan step w st l' cs p in f o.state o.place o.how ≡ f o'.state o'.place o'.how
  unfolding scan
  scan_last st l l' [] p = refl
  scan_last st l l' (v ∷ cs) p = by_act (step st v cs) (λ s e. rw (e, scan) refl) (λ s e. rw (e, scan) refl) (λ s e. rw (e, scan) refl)

-- .. so the scan from here on stops where the scan from the start does
pub goes_place : {S : Type 0} (step : S → ℕ → List ℕ → Act S) (st : S) (s : List ℕ) (p : ℕ) (o : Stop S) → Goes step st s p o → (l : ℕ) → (scan step width st l (rest s p) p).place ≡ o.place
goes_place step st s p o g l = scan_last step width (λ x q h. q) st l g.0 (rest s p) p ∙ ap (λ (x : Stop _). x.place) g.1
