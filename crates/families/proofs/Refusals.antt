-- Reading refuses with 10 to 18, or with 19 from the token's start to after a backtick; never with 1 to 4, which are of a source or a place. Each of these numbers names a reason, and so does that of a source. Assumes nothing.
use Rattle.std.specs.Prelude.{Err, Ok, ◌≤◌}
use Rattle.token.specs.Reads.{Read}
use Rattle.token.specs.Reads.{number_in}
use Prim.Native.Nat.{ℕ, zero, suc, ◌+◌}
use mathlib.Core.Path.{◌≡◌, refl, ap}
use mathlib.Core.List.{List, [], ◌∷◌}
use mathlib.Core.Bool.{Bool, true, false}
use mathlib.Core.Logic.{inl, inr, ⊎_elim}
use native.Mathlib.Omega.{arith}
use lib.Dec.{ltb, eqb}
use lib.ListN.{length}
use borrow.Author.Tests.{eq-eqb, ne_eqb}
use Rattle.choice.proofs.Choice.{first-cases, first_plain}
use Rattle.choice.specs.Rule.{Deep, behind_one, first_of, no_template, token_with}
use Rattle.families.proofs.Pairs.{turn-both}
use Rattle.families.specs.Places.{place_after}
use Rattle.families.specs.Refusals.{Numbered, NumberedEnd}
use Rattle.families.specs.Tokens.{Tokens, each_of, tokens_at, tokens_of}
use Rattle.laws.proofs.Cases.{split, split_eq, within_inv, within_yes}
use Rattle.laws.specs.Bools.{both}
use Rattle.lexer.specs.Next.{close_span, is_shebang, next_at, next_of}
use Rattle.readers.specs.Numbers.{number_lit_of}
use Rattle.readers.specs.Readers.{Bytes, Chars, Quoted, backslashed, body, broken, byte_answer, byte_of, byte_step, char_answer, char_of, char_step, comment_of, control, escape, fresh, letters, line_of, shut, slashed, str_answer, str_of, str_step, text, white_of, word_of}
use Rattle.readers.specs.Rules.{Rules, rules_of}
use Rattle.readers.specs.Scan.{How, ended, full, scan, short}
use Rattle.readers.specs.declared.reading.Reading.{Reading}
use Rattle.source_test.specs.Source.{sound_to, source_test}
use Rattle.templates.specs.Body.{go_on, template_body, template_of, token_of, too_deep}
use Rattle.text.specs.Utf8.{rest}
use Rattle.token.specs.Named.{is_named}
use Rattle.token.specs.declared.kind.Kind.TheVariants.{Comment, Shebang}
use Rattle.token.specs.declared.read.Refusal.{Refusal}

module _ (R : Rules) where
  -- an answer for the token at a, from the scalars cs at p on: accepted, or refused with such a number
  abbrev pub Refuses : ℕ → List ℕ → ℕ → Read → Type 0
  Refuses a cs p (Ok k) = Unit
  Refuses a cs p (Err r) = Numbered R a cs p r

  -- no reader but the template's refuses with 19, whatever stands there
  module _ (b : ℕ) (ds : List ℕ) (q : ℕ) where
    behind_numbered : (f : List ℕ → ℕ → Read) → ((cs : List ℕ) (p : ℕ) → Refuses b ds q (f cs p)) → (cs : List ℕ) (p : ℕ) → Refuses b ds q (behind_one R f cs p)
    behind_numbered f h [] p = h [] p
    behind_numbered f h (v ∷ cs) p = h cs (p + R.stride v)

    byte_numbered : (a : ℕ) (st : Bytes) (l p : ℕ) (h : How) → Refuses b ds q (byte_answer a st l p h)
    byte_numbered a fresh l p h = inl refl
    byte_numbered a backslashed l p h = inl refl
    byte_numbered a control l p h = inl refl
    byte_numbered a body l p full = tt
    byte_numbered a body l p ended = inl refl
    byte_numbered a body l p short = inl refl

    str_numbered : (c : Bool) (a : ℕ) (st : Quoted) (l p : ℕ) (h : How) → Refuses b ds q (str_answer c a st l p h)
    str_numbered c a (slashed e) l p h = inl refl
    str_numbered c a (text e) l p full = tt
    str_numbered true a (text e) l p ended = inl refl
    str_numbered true a (text e) l p short = inl refl
    str_numbered false a (text e) l p ended = inl refl
    str_numbered false a (text e) l p short = inl refl

    char_numbered : (a : ℕ) (st : Chars) (l p : ℕ) → Refuses b ds q (char_answer a st l p)
    char_numbered a escape l p = inl refl
    char_numbered a broken l p = inl refl
    char_numbered a (shut true) l p = tt
    char_numbered a (shut false) l p = inl refl
    char_numbered a (letters true true) l p = tt
    char_numbered a (letters true false) l p = inl refl
    char_numbered a (letters false true) l p = tt
    char_numbered a (letters false false) l p = inl refl

    first_numbered : (t : Deep) (v a : ℕ) (cs : List ℕ) (p : ℕ) → Refuses b ds q (t a cs p) → Refuses b ds q (first_of R t v a cs p)
    unfolding white_of line_of comment_of byte_of str_of word_of number_lit_of char_of
    first_numbered t v a cs p deep =
        let str : (c : Bool) (es : List ℕ) (o : ℕ) → Refuses b ds q (str_of R.stride c a es o) = λ c es o. let z = scan str_step R.stride (text false) o es o in str_numbered c a z.state z.last z.place z.how in
        first-cases R t v a cs p (Refuses b ds q) tt (λ h. behind_numbered (line_of R.stride Comment a) (λ es o. tt) cs p)
        (λ h. behind_numbered (comment_of R.stride R.skip a) (λ es o. tt) cs p)
        (λ h. behind_numbered (byte_of R.stride a) (λ es o. let z = scan byte_step R.stride fresh o es o in byte_numbered a z.state z.last z.place z.how) cs p)
        (λ h. behind_numbered (str_of R.stride true a) (str true) cs p) (str false cs p) (λ k e h. tt) tt tt
        (let z = scan char_step R.stride (letters true false) p cs p in char_numbered a z.state z.last z.place) deep (inl refl)

  -- with one scalar more before
  further : (a v : ℕ) (cs : List ℕ) (p : ℕ) (r : Read) → Refuses a cs (p + R.stride v) r → Refuses a (v ∷ cs) p r
  unfolding place_after
  further a v cs p (Ok k) h = tt
  further a v cs p (Err r) (inl h) = inl h
  further a v cs p (Err r) (inr h) =
      let t = h.ticked in
      inr (record { number = h.number; start = h.start; end = h.end; ticked = record { front = v ∷ t.front; back = t.back; whole = ap (λ (x : List ℕ). v ∷ x) t.whole; ends = t.ends } })

  module _ (a : ℕ) (cs : List ℕ) (p : ℕ) where
    -- of a token inside, 19 goes out with another start, and no other refusal goes out
    on_numbered : (r : Read) (go : ℕ → Read) → Refuses p cs p r → ((t : ℕ) → Refuses a cs p (go t)) → Refuses a cs p (go_on a r go)
    on_numbered (Ok k) go h g = g k.span.end
    on_numbered (Err r) go (inl h) g = let w = within_inv 10 18 (number_in r) h in rw (ne_eqb (number_in r) 19 (λ e. omega arith), go_on) (g r.reached)
    on_numbered (Err r) go (inr h) g = rw (eq-eqb (number_in r) 19 h.number, go_on) (inr (record { number = refl; start = refl; end = h.end; ticked = h.ticked }))

  module _ (next : List ℕ → ℕ → Read) (n : (cs : List ℕ) (p : ℕ) → Refuses p cs p (next cs p)) (a : ℕ) where
    body_numbered : (t : ℕ) (cs : List ℕ) (p l : ℕ) → Refuses a cs p (template_body R next a t cs p l)
    unfolding template_body
    body_numbered t [] p l = tt
    body_numbered t (v ∷ cs) p l =
        let q = p + R.stride v in
        further a v cs p (template_body R next a t (v ∷ cs) p l)
        (split (ltb p t) (λ h. rw (h, template_body) (body_numbered t cs q l))
        (λ h. rw (h, template_body) (let go : ℕ → ℕ → Read = λ t' l'. template_body R next a t' cs q l' in turn-both next next a a v cs cs q q l go go (λ r r'. Refuses a cs q r) (λ i. tt) (λ m. body_numbered 0 cs q m) (on_numbered a cs q (next cs q) (λ t'. go t' l) (n cs q) (λ t'. body_numbered t' cs q l)))))

  with_numbered : (t : Deep) → ((v : ℕ) (cs : List ℕ) (p : ℕ) → v ≡ 96 → Refuses p (v ∷ cs) p (t p cs (p + R.stride v))) → (cs : List ℕ) (p : ℕ) → Refuses p cs p (token_with R t cs p)
  unfolding token_with
  with_numbered t h [] p = tt
  with_numbered t h (v ∷ cs) p =
      split_eq v 96 (λ e. first_numbered p (v ∷ cs) p t v p cs (p + R.stride v) (h v cs p e))
      (λ e. rw (first_plain R t no_template v p cs (p + R.stride v) e) (first_numbered p (v ∷ cs) p no_template v p cs (p + R.stride v) (inl refl)))

  token_numbered : (d : ℕ) (cs : List ℕ) (p : ℕ) → Refuses p cs p (token_of R d cs p)
  unfolding token_of template_of place_after
  token_numbered zero = with_numbered too_deep (λ v cs p e. inr (record { number = refl; start = refl; end = refl; ticked = record { front = []; back = cs; whole = rw e; ends = rw e } }))
  token_numbered (suc d) = with_numbered (template_of R (token_of R d)) (λ v cs p e. further p v cs p (template_body R (token_of R d) p 0 cs (p + R.stride v) 0) (body_numbered (token_of R d) (token_numbered d) p 0 cs (p + R.stride v) 0))

  close_numbered : (n : ℕ) (cs : List ℕ) (p : ℕ) (r : Read) → Refuses p cs p r → Refuses p cs p (close_span n r)
  close_numbered n cs p (Ok k) h = tt
  close_numbered n cs p (Err r) h = split (eqb (number_in r) 12) (λ e. rw e (inl refl)) (λ e. rw e h)

  -- under any rules, in a source that ends at n
  pub next_refusals : (n : ℕ) (cs : List ℕ) (p : ℕ) → Refuses p cs p (next_of R n cs p)
  unfolding next_of line_of
  next_refusals n cs p =
      split (both (eqb p 0) (is_shebang cs))
      (λ e. rw e (behind_numbered p cs p (behind_one R (line_of R.stride Shebang p)) (behind_numbered p cs p (line_of R.stride Shebang p) (λ ds q. tt)) cs p))
      (λ e. rw e (close_numbered n cs p (token_of R 64 cs p) (token_numbered 64 cs p)))

-- a token is refused with one of 10 to 18, or with 19 from its start to after a backtick, where reading stopped
pub next_refusal : (g : Reading) (s : List ℕ) (at : ℕ) (r : Refusal) → next_at g s at ≡ Err r → Numbered (rules_of g) at (rest s at) at r
unfolding next_at
next_refusal g s at r e = rw e at (next_refusals (rules_of g) (length s) (rest s at) at)

-- the numbers that reading refuses with name a reason
reads_named : (n : ℕ) → 10 ≤ n → n ≤ 19 → is_named n ≡ true
reads_named n l h = grind arith

-- so a token's refusal names one
pub next_named : (g : Reading) (s : List ℕ) (at : ℕ) (r : Refusal) → next_at g s at ≡ Err r → is_named (number_in r) ≡ true
next_named g s at r e =
    ⊎_elim (λ h. let w = within_inv 10 18 (number_in r) h in reads_named (number_in r) (omega arith) (omega arith))
    (λ h. reads_named (number_in r) (omega (arith, h.number)) (omega (arith, h.number)))
    (next_refusal g s at r e)

-- and so does a source's
pub source_named : (s : List ℕ) (r : Refusal) → source_test s ≡ Err r → is_named (number_in r) ≡ true
unfolding source_test
source_named s r e =
    split (ltb 65536 (length s)) (λ t. let z = (rw t at e) in cc)
    (λ t. split (eqb (sound_to s) (length s)) (λ u. let z = (rw (t, u) at e) in cc) (λ u. let z = (rw (t, u) at e) in cc))

module _ (R : Rules) (n : ℕ) where
  each_numbered : (cs : List ℕ) (p : ℕ) (r : Read) (go : ℕ → Tokens) → Refuses R p cs p r → ((t : ℕ) → NumberedEnd (go t)) → NumberedEnd (each_of r go)
  unfolding NumberedEnd
  each_numbered cs p (Ok k) go h g = g k.span.end
  each_numbered cs p (Err r) go (inl h) g = let w = within_inv 10 18 (number_in r) h in within_yes 10 19 (number_in r) (omega arith) (omega arith)
  each_numbered cs p (Err r) go (inr h) g = rw h.number

  tokens_numbered : (t : ℕ) (cs : List ℕ) (p : ℕ) → NumberedEnd (tokens_of R n t cs p)
  unfolding tokens_of NumberedEnd
  tokens_numbered t [] p = tt
  tokens_numbered t (v ∷ cs) p =
      split (ltb p t) (λ h. rw (h, tokens_of) (tokens_numbered t cs (p + R.stride v)))
      (λ h. rw (h, tokens_of) (each_numbered (v ∷ cs) p (next_of R n (v ∷ cs) p) (λ t'. tokens_of R n t' cs (p + R.stride v)) (next_refusals R n (v ∷ cs) p) (λ t'. tokens_numbered t' cs (p + R.stride v))))

-- a token list ends with the source, or with a refusal from 10 to 19
pub tokens_refusal : (g : Reading) (s : List ℕ) (p : ℕ) → NumberedEnd (tokens_at (rules_of g) s p)
unfolding tokens_at
tokens_refusal g s p = tokens_numbered (rules_of g) (length s) 0 (rest s p) p
