-- The tokens of painted scalars are the tokens of the scalars, up to the escape mark. Assumes nothing.
use Rattle.std.specs.Prelude.{Err, Ok}
use Prim.Native.Nat.{ℕ, ◌+◌, ◌≤◌, ◌<◌}
use mathlib.Core.Path.{◌≡◌, refl, sym, ap, ◌∙◌, subst}
use mathlib.Core.List.{List, [], ◌∷◌, ◌++◌}
use mathlib.Core.Bool.{Bool, true, false}
use native.Mathlib.Omega.{arith}
use lib.Dec.{ltb}
use borrow.Author.Tests.{le-ltb, lt-ltb, ltb-false, ltb-true}
use Rattle.demands.proofs.Flat.{Const, even_append, even_const, flat_after, flat_append, flat_none}
use Rattle.demands.proofs.Shown.{Shown, asks_plain, first_out, next_shown}
use Rattle.demands.specs.Plain.{in_bytes, plain_token, plain_tokens}
use Rattle.demands.specs.Scalars.{Even, flat}
use Rattle.families.proofs.Ends.{after_le, next_consumes}
use Rattle.families.specs.Near.{Near}
use Rattle.families.specs.Places.{place_after}
use Rattle.families.specs.Tokens.{Tokens, each_of, fin, halt, more, tokens_of}
use Rattle.laws.proofs.Cases.{never, split}
use Rattle.lexer.specs.Next.{next_of}
use Rattle.outline.specs.Outline.{inside_at, inside_token}
use Rattle.readers.proofs.Lands.{lands_le}
use Rattle.readers.specs.Numbers.{asks_digit}
use Rattle.readers.specs.Rules.{Rules}
use Rattle.text.proofs.Decode.{width_pos}
use Rattle.text.specs.Utf8.{width}
use Rattle.token.specs.Reads.{reached_of, Read}
use Rattle.token.specs.declared.read.Token.{Token}

-- one token more
module _ (k : Token) (ts : Tokens) (i : ℕ) where
  later_in : k.span.end ≤ i → inside_at (more k ts) i ≡ inside_at ts i
  unfolding inside_at
  later_in l = rw (le-ltb i k.span.end l, inside_at)

  first_in : i < k.span.end → inside_at (more k ts) i ≡ inside_token k i
  unfolding inside_at
  first_in l = rw (lt-ltb i k.span.end l, inside_at)

module _ (R : Rules) (n : ℕ) where
  abbrev listed : List ℕ → ℕ → Tokens
  listed cs p = tokens_of (in_bytes R) n 0 cs p

  -- passing over a front
  arrived : (cs : List ℕ) (t : ℕ) → tokens_of (in_bytes R) n t cs t ≡ listed cs t
  unfolding tokens_of
  arrived [] t = refl
  arrived (v ∷ cs) t = rw (le-ltb t t (omega arith), le-ltb t 0 (omega arith), tokens_of)

  pass : (a x : List ℕ) (p : ℕ) → tokens_of (in_bytes R) n (place_after width a p) (a ++ x) p ≡ listed x (place_after width a p)
  unfolding tokens_of place_after
  pass [] x p = arrived x p
  pass (v ∷ a) x p =
      let l = after_le width a (p + width v) in
      let w = width_pos v in
      rw (lt-ltb p (place_after width a (p + width v)) (omega arith), tokens_of) (pass a x (p + width v))

  -- a token read over a front, then the rest
  pub tokens_on : (a x : List ℕ) (p : ℕ) (k : Token) → next_of (in_bytes R) n (a ++ x) p ≡ Ok k → place_after width a p ≡ k.span.end → p < k.span.end → listed (a ++ x) p ≡ more k (listed x k.span.end)
  unfolding tokens_of place_after
  tokens_on [] x p k e h l = absurd (omega arith)
  tokens_on (v ∷ a) x p k e h l =
      rw (le-ltb p 0 (omega arith), tokens_of)
      (rw e (ap (more k) (ap (λ (t : ℕ). tokens_of (in_bytes R) n t (a ++ x) (p + width v)) (sym h) ∙ pass a x (p + width v) ∙ ap (λ (t : ℕ). listed x t) h)))

  -- .. and back
  pub record First (v : ℕ) (cs : List ℕ) (p : ℕ) (k : Token) : Type 0 where
    pub read : next_of (in_bytes R) n (v ∷ cs) p ≡ Ok k
    pub past : p < k.span.end
    pub passed : p + width v ≤ k.span.end

  pub tokens_first : (v : ℕ) (cs : List ℕ) (p : ℕ) (k : Token) (ts : Tokens) → listed (v ∷ cs) p ≡ more k ts → First v cs p k
  unfolding tokens_of
  tokens_first v cs p k ts e = go (next_of (in_bytes R) n (v ∷ cs) p) refl (sym (rw (le-ltb p 0 (omega arith), tokens_of)) ∙ e)
    where
      go : (r : Read) → next_of (in_bytes R) n (v ∷ cs) p ≡ r → each_of r (λ t. tokens_of (in_bytes R) n t cs (p + width v)) ≡ more k ts → First v cs p k
      go (Err r) er h = never (cc)
      go (Ok j) er h =
          let ej : j ≡ k = cc in
          let read : next_of (in_bytes R) n (v ∷ cs) p ≡ Ok k = er ∙ ap Ok ej in
          let ends : reached_of (next_of (in_bytes R) n (v ∷ cs) p) ≡ k.span.end = ap reached_of read in
          let l = lands_le (in_bytes R) cs (p + width v) (reached_of (next_of (in_bytes R) n (v ∷ cs) p)) (next_consumes (in_bytes R) n v cs p) in
          let w = width_pos v in
          record { read = read; past = omega arith; passed = omega arith }

  nothing_more : (k : Token) (ts : Tokens) (p : ℕ) → listed [] p ≡ more k ts → ◌≡◌ {A = ℕ} 0 1
  unfolding tokens_of
  nothing_more k ts p e = cc

  -- m is as the tokens say, from p on
  abbrev pub Mask : Tokens → (ℕ → Bool) → ℕ → Type 0
  Mask ts m p = (i : ℕ) → p ≤ i → m i ≡ inside_at ts i

  module _ (tick : R.start 96 ≡ false) where
    -- the first scalar of each token stays
    out : (ts : Tokens) (v : ℕ) (x : List ℕ) (p : ℕ) → listed (v ∷ x) p ≡ ts → inside_at ts p ≡ false
    unfolding inside_at
    out fin v x p e = refl
    out (halt r) v x p e = refl
    out (more k ts) v x p e = let f = tokens_first v x p k ts e in first_in k ts p f.past ∙ first_out R n tick (v ∷ x) p k f.read

    -- .. and so does the one after a `.` or a sign
    second : (ts : Tokens) (v u : ℕ) (x : List ℕ) (p : ℕ) → asks_digit v ≡ true → listed (v ∷ (u ∷ x)) p ≡ ts → inside_at ts (p + width v) ≡ false
    unfolding inside_at place_after
    second fin v u x p d e = refl
    second (halt r) v u x p d e = refl
    second (more k ts) v u x p d e =
        let f = tokens_first v (u ∷ x) p k ts e in
        let q = p + width v in
        split (ltb q k.span.end)
        (λ h. first_in k ts q (ltb-true q k.span.end h) ∙ asks_plain R n tick (v ∷ (u ∷ x)) p k f.read d q)
        (λ h.
        let le = ltb-false q k.span.end h in
        let far = f.passed in
        let end : p + width v ≡ k.span.end = omega arith in
        let t = tokens_on (v ∷ []) (u ∷ x) p k f.read end f.past in
        let eq : more k (listed (u ∷ x) k.span.end) ≡ more k ts = sym t ∙ e in
        let left : listed (u ∷ x) (p + width v) ≡ ts = ap (λ (z : ℕ). listed (u ∷ x) z) end ∙ (cc) in
        later_in k ts q le ∙ out ts u x (p + width v) left)

    near : (ts : Tokens) (x : List ℕ) (p : ℕ) → listed x p ≡ ts → (m : ℕ → Bool) → Mask ts m p → Near x (flat m x p)
    unfolding flat
    near ts [] p e m a = tt
    near ts (v ∷ []) p e m a = rw (a p (omega arith) ∙ out ts v [] p e) (refl, λ d. tt)
    near ts (v ∷ (u ∷ x)) p e m a =
        rw (a p (omega arith) ∙ out ts v (u ∷ x) p e)
        (refl, λ d. rw (a (p + width v) (omega arith) ∙ second ts v u x p d e) refl)

    -- painted as its tokens say, a list of scalars has the same tokens, and no scalar is painted in part
    abbrev pub Goal : Tokens → Type 0
    Goal ts = (cs : List ℕ) (p : ℕ) → listed cs p ≡ ts → (m : ℕ → Bool) → Mask ts m p → Even m cs p × (listed (flat m cs p) p ≡ plain_tokens ts)

    same_none : (ts : Tokens) → ((i : ℕ) → inside_at ts i ≡ false) → plain_tokens ts ≡ ts → Goal ts
    same_none ts o l cs p e m a =
        let c : Const m cs p false = λ i l u. a i l ∙ o i in
        (even_const m cs p false c, ap (λ (x : List ℕ). listed x p) (flat_none m cs p c) ∙ e ∙ sym l)

    step : (k : Token) (ts : Tokens) → Goal ts → (v : ℕ) (cs : List ℕ) (p : ℕ) → listed (v ∷ cs) p ≡ more k ts → (m : ℕ → Bool) → Mask (more k ts) m p
        → First v cs p k → Shown R n (v ∷ cs) p k → Even m (v ∷ cs) p × (listed (flat m (v ∷ cs) p) p ≡ plain_tokens (more k ts))
    unfolding plain_tokens
    step k ts ih v cs p e m a f s =
        let front = s.front in
        let back = s.back in
        let end = k.span.end in
        let past = f.past in
        let reading = tokens_on front back p k (ap (λ (l : List ℕ). next_of (in_bytes R) n l p) (sym s.whole) ∙ f.read) s.ends past in
        let eq : more k (listed back end) ≡ more k ts = sym reading ∙ ap (λ (l : List ℕ). listed l p) (sym s.whole) ∙ e in
        let left : listed back end ≡ ts = cc in
        let mask : Mask ts m end = λ i l. a i (omega arith) ∙ later_in k ts i l in
        let h = ih back end left m mask in
        let x = flat m back end in
        let t = s.paints m (λ i l u. a i l ∙ first_in k ts i u) in
        let places : place_after width s.shown p ≡ end = ap (λ (l : List ℕ). place_after width l p) (sym t.0) ∙ flat_after m front p p ∙ s.ends in
        let again = tokens_on s.shown x p (plain_token k) (s.reads x (near ts back end left m mask)) places past in
        let cut : flat m (front ++ back) p ≡ s.shown ++ x = flat_append m front back p ∙ (λ j. t.0 j ++ flat m back (s.ends j)) in (
          subst (λ (l : List ℕ). Even m l p) (sym s.whole) (even_append m front back p t.1 (subst (λ (z : ℕ). Even m back z) (sym s.ends) h.0)),
          ap (λ (l : List ℕ). listed l p) (ap (λ (l : List ℕ). flat m l p) s.whole ∙ cut) ∙ again ∙ ap (more (plain_token k)) h.1,
        )

    same_more : (k : Token) (ts : Tokens) → Goal ts → Goal (more k ts)
    same_more k ts ih [] p e m a = never (nothing_more k ts p e)
    same_more k ts ih (v ∷ cs) p e m a = let f = tokens_first v cs p k ts e in step k ts ih v cs p e m a f (next_shown R n tick (v ∷ cs) p k f.read)

    pub same_tokens : (ts : Tokens) → Goal ts
    unfolding inside_at plain_tokens
    same_tokens fin = same_none fin (λ i. refl) refl
    same_tokens (halt r) = same_none (halt r) (λ i. refl) refl
    same_tokens (more k ts) = same_more k ts (same_tokens ts)
