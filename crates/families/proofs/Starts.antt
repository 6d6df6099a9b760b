-- An accepted token starts where reading began. Assumes nothing.
use Rattle.std.specs.Prelude.{Err, Ok}
use Rattle.token.specs.Reads.{Read}
use Rattle.token.specs.Reads.{number_in}
use Prim.Native.Nat.{ℕ, zero, suc, ◌+◌}
use mathlib.Core.Path.{◌≡◌, refl}
use mathlib.Core.List.{List, [], ◌∷◌}
use mathlib.Core.Bool.{Bool, true, false}
use lib.Dec.{ltb, eqb}
use Rattle.choice.proofs.Choice.{first-cases}
use Rattle.choice.specs.Rule.{Deep, behind_one, first_of, token_with}
use Rattle.families.proofs.Pairs.{turn-both}
use Rattle.laws.proofs.Cases.{split}
use Rattle.laws.specs.Bools.{both}
use Rattle.lexer.specs.Next.{close_span, is_shebang, next_of}
use Rattle.readers.specs.Numbers.{number_lit_of}
use Rattle.readers.specs.Readers.{Bytes, Chars, Quoted, backslashed, body, broken, byte_answer, byte_of, byte_step, char_answer, char_of, char_step, comment_of, control, escape, fresh, letters, line_of, shut, slashed, str_answer, str_of, str_step, text, white_of, word_of}
use Rattle.readers.specs.Rules.{Rules}
use Rattle.readers.specs.Scan.{How, ended, full, scan, short}
use Rattle.templates.proofs.Landing.{deep_of, with_deep}
use Rattle.templates.specs.Body.{go_on, template_body, template_of, token_of}
use Rattle.token.specs.declared.kind.Kind.TheVariants.{Comment, Shebang}
use Rattle.token.specs.declared.read.Token.{Token}

abbrev pub Starts : Read → ℕ → Type 0
Starts (Ok k) a = k.span.start ≡ a
Starts (Err r) a = Unit

module _ (R : Rules) where
  abbrev StartsAt : (List ℕ → ℕ → Read) → ℕ → Type 0
  StartsAt f a = (cs : List ℕ) (p : ℕ) → Starts (f cs p) a

  behind_starts : (f : List ℕ → ℕ → Read) (a : ℕ) → StartsAt f a → StartsAt (behind_one R f) a
  behind_starts f a h [] p = h [] p
  behind_starts f a h (v ∷ cs) p = h cs (p + R.stride v)

  byte_starts : (a : ℕ) (st : Bytes) (l p : ℕ) (h : How) → Starts (byte_answer a st l p h) a
  byte_starts a fresh l p h = tt
  byte_starts a backslashed l p h = tt
  byte_starts a control l p h = tt
  byte_starts a body l p full = refl
  byte_starts a body l p ended = tt
  byte_starts a body l p short = tt

  str_starts : (b : Bool) (a : ℕ) (st : Quoted) (l p : ℕ) (h : How) → Starts (str_answer b a st l p h) a
  str_starts b a (slashed e) l p h = tt
  str_starts b a (text e) l p full = refl
  str_starts b a (text e) l p ended = tt
  str_starts b a (text e) l p short = tt

  char_starts : (a : ℕ) (st : Chars) (l p : ℕ) → Starts (char_answer a st l p) a
  char_starts a escape l p = tt
  char_starts a broken l p = tt
  char_starts a (shut true) l p = refl
  char_starts a (shut false) l p = tt
  char_starts a (letters true true) l p = refl
  char_starts a (letters true false) l p = tt
  char_starts a (letters false true) l p = refl
  char_starts a (letters false false) l p = tt

  first_starts : (t : Deep) → ((a : ℕ) → StartsAt (t a) a) → (v a : ℕ) (cs : List ℕ) (p : ℕ) → Starts (first_of R t v a cs p) a
  unfolding white_of line_of comment_of byte_of str_of word_of number_lit_of char_of
  first_starts t d v a cs p =
      let str : (b : Bool) → StartsAt (str_of R.stride b a) a = λ b ds q. let o = scan str_step R.stride (text false) q ds q in str_starts b a o.state o.last o.place o.how in
      first-cases R t v a cs p (λ r. Starts r a) refl (λ h. behind_starts (line_of R.stride Comment a) a (λ ds q. refl) cs p)
      (λ h. behind_starts (comment_of R.stride R.skip a) a (λ ds q. refl) cs p)
      (λ h. behind_starts (byte_of R.stride a) a (λ ds q. let o = scan byte_step R.stride fresh q ds q in byte_starts a o.state o.last o.place o.how) cs p)
      (λ h. behind_starts (str_of R.stride true a) a (str true) cs p) (str false cs p) (λ k e h. refl) refl refl
      (let o = scan char_step R.stride (letters true false) p cs p in char_starts a o.state o.last o.place) (d a cs p) tt

  on_starts : (a : ℕ) (r : Read) (go : ℕ → Read) → ((t : ℕ) → Starts (go t) a) → Starts (go_on a r go) a
  on_starts a (Ok k) go g = g k.span.end
  on_starts a (Err r) go g = split (eqb (number_in r) 19) (λ e. rw (e, Starts) tt) (λ e. rw (e, Starts) (g r.reached))

  module _ (next : List ℕ → ℕ → Read) (a : ℕ) where
    body_starts : (t : ℕ) (cs : List ℕ) (p l : ℕ) → Starts (template_body R next a t cs p l) a
    unfolding template_body
    body_starts t [] p l = refl
    body_starts t (v ∷ cs) p l =
        let q = p + R.stride v in
        split (ltb p t) (λ h. rw (h, template_body) (body_starts t cs q l))
        (λ h. rw (h, template_body) (let go : ℕ → ℕ → Read = λ t' l'. template_body R next a t' cs q l' in turn-both next next a a v cs cs q q l go go (λ r r'. Starts r a) (λ i. refl) (λ m. body_starts 0 cs q m) (on_starts a (next cs q) (λ t'. go t' l) (λ t'. body_starts t' cs q l))))

  deep_starts : (d a : ℕ) → StartsAt (deep_of R d a) a
  unfolding deep_of template_of
  deep_starts zero a cs p = tt
  deep_starts (suc d) a cs p = body_starts (token_of R d) a 0 cs p 0

  pub token_starts : (d : ℕ) (cs : List ℕ) (p : ℕ) → Starts (token_of R d cs p) p
  unfolding token_with
  token_starts d [] p = rw (with_deep R d [] p) refl
  token_starts d (v ∷ cs) p = rw (with_deep R d (v ∷ cs) p) (first_starts (deep_of R d) (deep_starts d) v p cs (p + R.stride v))

  close_starts : (n a : ℕ) (r : Read) → Starts r a → Starts (close_span n r) a
  close_starts n a (Ok k) h = h
  close_starts n a (Err r) h = split (eqb (number_in r) 12) (λ e. rw e tt) (λ e. rw e tt)

  pub next_starts : (n : ℕ) (cs : List ℕ) (p : ℕ) → Starts (next_of R n cs p) p
  unfolding next_of line_of
  next_starts n cs p =
      split (both (eqb p 0) (is_shebang cs))
      (λ e. rw e (behind_starts (λ ds q. behind_one R (line_of R.stride Shebang p) ds q) p (behind_starts (line_of R.stride Shebang p) p (λ ds q. refl)) cs p))
      (λ e. rw e (close_starts n p (token_of R 64 cs p) (token_starts 64 cs p)))

  -- the same, of an answer
  pub got_start : (d : ℕ) (cs : List ℕ) (p : ℕ) (k : Token) → token_of R d cs p ≡ Ok k → k.span.start ≡ p
  got_start d cs p k e = rw e at (token_starts d cs p)

  pub next_start : (n : ℕ) (cs : List ℕ) (p : ℕ) (k : Token) → next_of R n cs p ≡ Ok k → k.span.start ≡ p
  next_start n cs p k e = rw e at (next_starts n cs p)
