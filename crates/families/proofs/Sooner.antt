-- The fewer scalars are passed over after `/*`, the sooner a comment ends, and what is a comment stays one. Assumes nothing.
use Rattle.std.specs.Prelude.{Err, Ok}
use Prim.Native.Nat.{ℕ, zero, suc, ◌+◌, ◌≤◌, ◌<◌}
use mathlib.Core.Path.{◌≡◌, refl, sym, ap, ◌∙◌}
use mathlib.Core.List.{List, [], ◌∷◌}
use mathlib.Core.Bool.{Bool, true, false}
use mathlib.Core.Logic.{inl, inr, ◌⊎◌}
use native.Mathlib.Omega.{arith}
use lib.Dec.{ltb, eqb}
use lib.ListN.{length}
use Rattle.choice.specs.Rule.{Deep, behind_one, first_of, other_of, token_with}
use Rattle.families.proofs.Pairs.{bang_same, behind_same, first-both, turn-both}
use Rattle.families.specs.Sane.{with_skip}
use Rattle.laws.proofs.Cases.{never, split}
use Rattle.laws.specs.Bools.{both}
use Rattle.lexer.specs.Next.{close_span, is_shebang, next_at, next_of}
use Rattle.readers.proofs.Lands.{lands_le, scan_lands}
use Rattle.readers.proofs.Scans.{by_act}
use Rattle.readers.specs.Readers.{Closing, after_star, byte_of, comment_end, comment_of, comment_step, ended_of, line_of, skips, str_of}
use Rattle.readers.specs.Rules.{Rules, first_close, rules_of, rune}
use Rattle.readers.specs.Scan.{Stride, before, behind, on, scan}
use Rattle.templates.proofs.Landing.{deep_of, with_deep}
use Rattle.templates.specs.Body.{go_on, template_body, template_of, token_of}
use Rattle.text.specs.Utf8.{rest}
use Rattle.token.specs.Reads.{got_of, span_of, Read, number_in}
use Rattle.token.specs.declared.kind.Kind.TheVariants.{Comment, MultilineComment}
use Rattle.token.specs.declared.read.Token.{Token}

-- the state a has gone at least as far towards a close as the state b
abbrev Ahead : Closing → Closing → Type 0
Ahead (skips i) (skips j) = i ≤ j
Ahead (skips i) after_star = ⊥
Ahead after_star (skips j) = Unit
Ahead after_star after_star = Unit

-- at a scalar the one ahead closes the comment, or both go on and it stays ahead
by_ahead {ℓ} : {X : Type ℓ} (a b : Closing) → Ahead a b → (v : ℕ) (cs : List ℕ) → (comment_step a v cs ≡ behind after_star → X)
    → ((a' b' : Closing) → Ahead a' b' → comment_step a v cs ≡ on a' → comment_step b v cs ≡ on b' → X) → X
unfolding comment_step
by_ahead (skips zero) (skips zero) h v cs f g = split (eqb v 42) (λ i. g after_star after_star tt (rw i) (rw i)) (λ i. g (skips 0) (skips 0) (omega arith) (rw i) (rw i))
by_ahead (skips zero) (skips (suc j)) h v cs f g = split (eqb v 42) (λ i. g after_star (skips j) tt (rw i) refl) (λ i. g (skips 0) (skips j) (omega arith) (rw i) refl)
by_ahead (skips (suc i)) (skips zero) h v cs f g = absurd (omega arith)
by_ahead (skips (suc i)) (skips (suc j)) h v cs f g = g (skips i) (skips j) (omega arith) refl refl
by_ahead (skips i) after_star h v cs f g = absurd h
by_ahead after_star (skips zero) h v cs f g =
    split (eqb v 47) (λ i. f (rw i))
    (λ i. split (eqb v 42) (λ j. g after_star after_star tt (rw (i, j)) (rw j)) (λ j. g (skips 0) (skips 0) (omega arith) (rw (i, j)) (rw j)))
by_ahead after_star (skips (suc k)) h v cs f g =
    split (eqb v 47) (λ i. f (rw i))
    (λ i. split (eqb v 42) (λ j. g after_star (skips k) tt (rw (i, j)) refl) (λ j. g (skips 0) (skips k) (omega arith) (rw (i, j)) refl))
by_ahead after_star after_star h v cs f g =
    split (eqb v 47) (λ i. f (rw i))
    (λ i. split (eqb v 42) (λ j. g after_star after_star tt (rw (i, j)) (rw (i, j))) (λ j. g (skips 0) (skips 0) (omega arith) (rw (i, j)) (rw (i, j))))

-- no scalar is left unread by the scan of a comment
never_before : (a b : Closing) (v : ℕ) (cs : List ℕ) → comment_step a v cs ≡ before b → ⊥
unfolding comment_step
never_before (skips zero) b v cs = split (eqb v 42) (λ i. rw i (λ e. never (cc))) (λ i. rw i (λ e. never (cc)))
never_before (skips (suc k)) b v cs = λ e. never (cc)
never_before after_star b v cs = split (eqb v 47) (λ i. rw i (λ e. never (cc))) (λ i. split (eqb v 42) (λ j. rw (i, j) (λ e. never (cc))) (λ j. rw (i, j) (λ e. never (cc))))

module _ (w : Stride) where
  goes_past : (a : Closing) (l v : ℕ) (cs : List ℕ) (p : ℕ) → p + w v ≤ (scan comment_step w a l (v ∷ cs) p).place
  unfolding scan
  goes_past a l v cs p =
      let R : Rules = record { stride = w; skip = 0; start = λ u. false; continue = λ u. false; exponents = false } in
      by_act (comment_step a v cs)
      (λ a' e. rw (e, scan) (lands_le R cs (p + w v) (scan comment_step w a' p cs (p + w v)).place (scan_lands R comment_step a' p cs (p + w v))))
      (λ a' e. absurd (never_before a a' v cs e)) (λ a' e. rw (e, scan) (omega arith))

  ahead_ends : (a b : Closing) → Ahead a b → (l l' : ℕ) (cs : List ℕ) (p : ℕ) → (scan comment_step w a l cs p).place ≤ (scan comment_step w b l' cs p).place
  unfolding scan
  ahead_ends a b h l l' [] p = omega arith
  ahead_ends a b h l l' (v ∷ cs) p =
      by_ahead a b h v cs (λ e. let z = goes_past b l' v cs p in rw (e, scan) z)
      (λ a' b' h' e e'. rw (e, e', scan) (ahead_ends a' b' h' p p cs (p + w v)))

  -- where nothing closes it for the one ahead, nothing does for the other
  ahead_open : (a b : Closing) → Ahead a b → (l l' : ℕ) (cs : List ℕ) (p : ℕ) → (ended_of (scan comment_step w a l cs p)).closed ≡ false → ended_of (scan comment_step w b l' cs p) ≡ ended_of (scan comment_step w a l cs p)
  unfolding scan
  ahead_open a b h l l' [] p = λ c. refl
  ahead_open a b h l l' (v ∷ cs) p =
      by_ahead a b h v cs (λ e. rw (e, scan) (λ c. never (cc)))
      (λ a' b' h' e e'. rw (e, e', scan) (ahead_open a' b' h' p p cs (p + w v)))

  pub sooner : (j k : ℕ) → j ≤ k → (cs : List ℕ) (p : ℕ) → (comment_end w j cs p).end ≤ (comment_end w k cs p).end
  unfolding comment_end
  sooner j k h cs p = ahead_ends (skips j) (skips k) h p p cs p

  pub open_same : (j k : ℕ) → j ≤ k → (cs : List ℕ) (p : ℕ) → (comment_end w j cs p).closed ≡ false → comment_end w k cs p ≡ comment_end w j cs p
  unfolding comment_end
  open_same j k h cs p = ahead_open (skips j) (skips k) h p p cs p

  -- where the second scalar was tested and is a star, the third may close; it does not where the comment ends after it
  at_third : (l l' x : ℕ) (cs : List ℕ) (p : ℕ) → p + w x < (scan comment_step w after_star l (x ∷ cs) p).place
      → ended_of (scan comment_step w (skips 0) l' (x ∷ cs) p) ≡ ended_of (scan comment_step w after_star l (x ∷ cs) p)
  unfolding scan comment_step
  at_third l l' x cs p =
      split (eqb x 47) (λ i. rw (i, scan, comment_step) (λ h. absurd (omega arith)))
      (λ i. split (eqb x 42) (λ j. rw (i, j, scan, comment_step) (λ h. refl)) (λ j. rw (i, j, scan, comment_step) (λ h. refl)))

  -- a comment that the first close ends after its third scalar is the same where two are passed over
  pub late_same : (u v x : ℕ) (cs : List ℕ) (p : ℕ) → p + w u + w v + w x < (comment_end w 0 (u ∷ (v ∷ (x ∷ cs))) p).end → comment_end w 2 (u ∷ (v ∷ (x ∷ cs))) p ≡ comment_end w 0 (u ∷ (v ∷ (x ∷ cs))) p
  unfolding comment_end scan comment_step
  late_same u v x cs p =
      let q = p + w u + w v in
      split (eqb u 42)
      (λ i. split (eqb v 47) (λ j. rw (i, j, scan, comment_step) (λ h. absurd (omega arith)))
      (λ j. split (eqb v 42) (λ k. rw (i, j, k, scan, comment_step) (at_third (p + w u) (p + w u) x cs q)) (λ k. rw (i, j, k, scan, comment_step) (λ h. refl))))
      (λ i. split (eqb v 42) (λ k. rw (i, k, scan, comment_step) (at_third (p + w u) (p + w u) x cs q)) (λ k. rw (i, k, scan, comment_step) (λ h. refl)))

-- two answers, both a comment from one place on, of which the second ends no later
record Twin (r r' : Read) : Type 0 where
  start : ℕ
  closed : Bool
  closed' : Bool
  end : ℕ
  end' : ℕ
  is : r ≡ got_of (MultilineComment closed) start end
  is' : r' ≡ got_of (MultilineComment closed') start end'
  no_later : end' ≤ end

abbrev NoComment : Read → Type 0
NoComment (Ok k) = (c : Bool) → k.kind ≡ MultilineComment c → ⊥
NoComment (Err r) = Unit

-- how the two answers stand to each other: the same, or both a comment, or neither
abbrev Beside : Read → Read → Type 0
Beside r r' = (r' ≡ r) ⊎ (Twin r r' ⊎ (NoComment r × NoComment r'))

-- a template is no comment, whatever reads the tokens inside it
module _ (R : Rules) where
  on_plain : (a : ℕ) (r : Read) (go : ℕ → Read) → ((t : ℕ) → NoComment (go t)) → NoComment (go_on a r go)
  on_plain a (Ok k) go g = g k.span.end
  on_plain a (Err r) go g = split (eqb (number_in r) 19) (λ e. rw (e, NoComment) tt) (λ e. rw (e, NoComment) (g r.reached))

  body_plain : (next : List ℕ → ℕ → Read) (a t : ℕ) (cs : List ℕ) (p l : ℕ) → NoComment (template_body R next a t cs p l)
  unfolding template_body
  body_plain next a t [] p l = λ c e. never (cc)
  body_plain next a t (v ∷ cs) p l =
      let q = p + R.stride v in
      let go : ℕ → ℕ → Read = λ t' l'. template_body R next a t' cs q l' in
      split (ltb p t) (λ h. rw (h, template_body) (body_plain next a t cs q l))
      (λ h. rw (h, template_body) (turn-both next next a a v cs cs q q l go go (λ r r'. NoComment r) (λ i c e. never (cc)) (λ m. body_plain next a 0 cs q m) (on_plain a (next cs q) (λ t'. go t' l) (λ t'. body_plain next a t' cs q l))))

  deep_plain : (d a : ℕ) (cs : List ℕ) (p : ℕ) → NoComment (deep_of R d a cs p)
  unfolding deep_of template_of
  deep_plain zero a cs p = tt
  deep_plain (suc d) a cs p = body_plain (token_of R d) a 0 cs p 0

module _ (R : Rules) (n : ℕ) (few : n ≤ R.skip) where
  abbrev Few : Rules
  Few = with_skip R n

  comment_twin : (a : ℕ) (cs : List ℕ) (p : ℕ) → Twin (comment_of R.stride R.skip a cs p) (comment_of R.stride n a cs p)
  unfolding comment_of
  comment_twin a cs p =
      let o = comment_end R.stride R.skip cs p in
      let o' = comment_end R.stride n cs p in
      record { start = a; closed = o.closed; closed' = o'.closed; end = o.end; end' = o'.end; is = refl; is' = refl; no_later = sooner R.stride n R.skip few cs p }

  behind_twin : (a : ℕ) (cs : List ℕ) (p : ℕ) → Twin (behind_one R (comment_of R.stride R.skip a) cs p) (behind_one Few (comment_of R.stride n a) cs p)
  behind_twin a [] p = comment_twin a [] p
  behind_twin a (v ∷ cs) p = comment_twin a cs (p + R.stride v)

  first_beside : (t t' : Deep) → ((a : ℕ) (cs : List ℕ) (p : ℕ) → NoComment (t a cs p) × NoComment (t' a cs p)) → (v a : ℕ) (cs : List ℕ) (p : ℕ) → Beside (first_of R t v a cs p) (first_of Few t' v a cs p)
  unfolding other_of
  first_beside t t' d v a cs p =
      first-both R Few t t' v a a cs cs p p Beside (λ c. refl) refl (inl refl) (λ h. inl (behind_same R Few refl (line_of R.stride Comment a) cs p)) (λ h. inr (inl (behind_twin a cs p)))
      (λ h. inl (behind_same R Few refl (byte_of R.stride a) cs p)) (λ h. inl (behind_same R Few refl (str_of R.stride true a) cs p)) (λ h. inl refl) (λ k e q. rw q (inl refl)) (λ q. q)
      (inl refl) (inl refl) (inl refl) (λ h. inr (inr (d a cs p))) (inl refl)

  token_beside : (d : ℕ) (cs : List ℕ) (p : ℕ) → Beside (token_of R d cs p) (token_of Few d cs p)
  unfolding token_with
  token_beside d [] p = rw (with_deep R d [] p, with_deep Few d [] p) (inl refl)
  token_beside d (v ∷ cs) p =
      rw (with_deep R d (v ∷ cs) p, with_deep Few d (v ∷ cs) p)
      (first_beside (deep_of R d) (deep_of Few d) (λ a ds q. (deep_plain R d a ds q, deep_plain Few d a ds q)) v p cs (p + R.stride v))

  close_plain : (m : ℕ) (r : Read) → NoComment r → NoComment (close_span m r)
  close_plain m (Ok k) h = h
  close_plain m (Err r) h = split (eqb (number_in r) 12) (λ e. rw (e, NoComment) tt) (λ e. rw (e, NoComment) tt)

  close_beside : (m : ℕ) (r r' : Read) → Beside r r' → Beside (close_span m r) (close_span m r')
  close_beside m r r' (inl h) = inl (ap (close_span m) h)
  close_beside m r r' (inr (inl h)) =
      inr (inl (record { start = h.start; closed = h.closed; closed' = h.closed'; end = h.end; end' = h.end'; is = ap (close_span m) h.is; is' = ap (close_span m) h.is'; no_later = h.no_later }))
  close_beside m r r' (inr (inr h)) = inr (inr (close_plain m r h.0, close_plain m r' h.1))

  next_beside : (m : ℕ) (cs : List ℕ) (p : ℕ) → Beside (next_of R m cs p) (next_of Few m cs p)
  unfolding next_of
  next_beside m cs p =
      split (both (eqb p 0) (is_shebang cs)) (λ e. rw e (inl (bang_same R Few refl cs p)))
      (λ e. rw e (close_beside m (token_of R 64 cs p) (token_of Few 64 cs p) (token_beside 64 cs p)))

-- an answer that is a comment too and starts where the token k does, and how the two ends stand to each other
pub record AlsoComment (r : Read) (k : Token) (Order : ℕ → ℕ → Type 0) : Type 0 where
  pub token : Token
  pub closed : Bool
  pub got : r ≡ Ok token
  pub kind : token.kind ≡ MultilineComment closed
  pub start : token.span.start ≡ k.span.start
  pub end : Order token.span.end k.span.end

abbrev pub Sooner : Read → Token → Type 0
Sooner r k = AlsoComment r k (λ e e'. e ≤ e')

abbrev pub Later : Read → Token → Type 0
Later r k = AlsoComment r k (λ e e'. e' ≤ e)

beside_sooner : (r r' : Read) → Beside r r' → (k : Token) (c : Bool) → r ≡ Ok k → k.kind ≡ MultilineComment c → Sooner r' k
beside_sooner r r' (inl h) k c e i = record { token = k; closed = c; got = h ∙ e; kind = i; start = refl; end = omega arith }
beside_sooner r r' (inr (inl h)) k c e i =
    let z : k ≡ record { kind = MultilineComment h.closed; span = span_of h.start h.end } = let y = h.is in cc in
    record { token = record { kind = MultilineComment h.closed'; span = span_of h.start h.end' }; closed = h.closed'; got = h.is'; kind = refl; start = rw z; end = rw z h.no_later }
beside_sooner r r' (inr (inr h)) k c e i = absurd ((rw e at h.0) c i)

beside_later : (r r' : Read) → Beside r r' → (k : Token) (c : Bool) → r' ≡ Ok k → k.kind ≡ MultilineComment c → Later r k
beside_later r r' (inl h) k c e i = record { token = k; closed = c; got = sym h ∙ e; kind = i; start = refl; end = omega arith }
beside_later r r' (inr (inl h)) k c e i =
    let z : k ≡ record { kind = MultilineComment h.closed'; span = span_of h.start h.end' } = let y = h.is' in cc in
    record { token = record { kind = MultilineComment h.closed; span = span_of h.start h.end }; closed = h.closed; got = h.is; kind = refl; start = rw z; end = rw z h.no_later }
beside_later r r' (inr (inr h)) k c e i = absurd ((rw e at h.1) c i)

-- what rune reads as a comment is one where the first close ends it, from the same place on and ending no later
pub first_ends_sooner : (s : List ℕ) (at : ℕ) (k : Token) (c : Bool) → next_at rune s at ≡ Ok k → k.kind ≡ MultilineComment c → Sooner (next_at first_close s at) k
unfolding next_at
first_ends_sooner s at = beside_sooner (next_at rune s at) (next_at first_close s at) (next_beside (rules_of rune) 0 (omega arith) (length s) (rest s at) at)

-- and the other way round
pub rune_ends_later : (s : List ℕ) (at : ℕ) (k : Token) (c : Bool) → next_at first_close s at ≡ Ok k → k.kind ≡ MultilineComment c → Later (next_at rune s at) k
unfolding next_at
rune_ends_later s at = beside_later (next_at rune s at) (next_at first_close s at) (next_beside (rules_of rune) 0 (omega arith) (length s) (rest s at) at)
