-- Every reader stops at the place of one of the scalars that it was given, or after the last. Assumes nothing.
use Prim.Native.Nat.{ℕ, ◌+◌, ◌≤◌}
use mathlib.Core.Path.{◌≡◌, refl}
use mathlib.Core.List.{List, [], ◌∷◌}
use mathlib.Core.Bool.{Bool, true, false}
use mathlib.Core.Logic.{inl, inr, ◌⊎◌}
use native.Mathlib.Omega.{arith}
use lib.ListN.{length}
use Rattle.classes.specs.Classes.{is_white_space}
use Rattle.readers.proofs.Scans.{by_act}
use Rattle.readers.specs.Numbers.{first_part, number_end, number_lit_of, number_step, plain_step, unsigned}
use Rattle.readers.specs.Readers.{Bytes, Chars, Quoted, backslashed, body, broken, byte_answer, byte_of, byte_step, char_answer, char_of, char_step, comment_end, comment_of, comment_step, control, escape, fresh, in_line, letters, line_of, run, run_step, shut, skips, slashed, str_answer, str_of, str_step, text, white_of, word_of}
use Rattle.readers.specs.Rules.{Rules, rules_of}
use Rattle.readers.specs.Scan.{Act, How, ended, full, scan, short}
use Rattle.readers.specs.declared.reading.Reading.{Reading}
use Rattle.text.proofs.Decode.{rest_room, rest_tail}
use Rattle.text.specs.Utf8.{rest, width}
use Rattle.token.specs.Reads.{reached_of}
use Rattle.token.specs.declared.kind.Kind.{Kind}

-- r is the place of one of the scalars cs, the first of which stands at p, or the place after the last
abbrev pub Lands : Rules → List ℕ → ℕ → ℕ → Type 0
Lands R [] p r = p ≡ r
Lands R (v ∷ cs) p r = (p ≡ r) ⊎ Lands R cs (p + R.stride v) r

module _ (R : Rules) where
  pub lands_here : (cs : List ℕ) (p : ℕ) → Lands R cs p p
  lands_here [] p = refl
  lands_here (v ∷ cs) p = inl refl

  pub lands_le : (cs : List ℕ) (p r : ℕ) → Lands R cs p r → p ≤ r
  lands_le [] p r e = omega arith
  lands_le (v ∷ cs) p r (inl e) = omega arith
  lands_le (v ∷ cs) p r (inr h) = let k = lands_le cs (p + R.stride v) r h in omega arith

  pub scan_lands : {S : Type 0} (step : S → ℕ → List ℕ → Act S) (s : S) (l : ℕ) (cs : List ℕ) (p : ℕ) → Lands R cs p (scan step R.stride s l cs p).place
  unfolding scan
  scan_lands step s l [] p = refl
  scan_lands step s l (v ∷ cs) p =
      by_act (step s v cs) (λ s' e. rw (e, scan) (inr (scan_lands step s' p cs (p + R.stride v)))) (λ s' e. rw (e, scan) (inl refl))
      (λ s' e. rw (e, scan) (inr (lands_here cs (p + R.stride v))))

  pub run_lands : (f : ℕ → Bool) (cs : List ℕ) (p : ℕ) → Lands R cs p (run R.stride f cs p)
  unfolding run
  run_lands f cs p = scan_lands (run_step f) tt p cs p

  module _ (a : ℕ) (cs : List ℕ) (p : ℕ) where
    pub white_lands : Lands R cs p (reached_of (white_of R.stride a cs p))
    unfolding white_of
    white_lands = run_lands is_white_space cs p

    pub line_lands : (k : Kind) → Lands R cs p (reached_of (line_of R.stride k a cs p))
    unfolding line_of
    line_lands k = run_lands in_line cs p

    pub comment_lands : Lands R cs p (reached_of (comment_of R.stride R.skip a cs p))
    unfolding comment_of comment_end
    comment_lands = scan_lands comment_step (skips R.skip) p cs p

    pub word_lands : (v : ℕ) → Lands R cs p (reached_of (word_of R.stride R.continue v a cs p))
    unfolding word_of
    word_lands v = run_lands R.continue cs p

    pub number_lands : (v : ℕ) (e : Bool) → Lands R cs p (reached_of (number_lit_of R.stride e v a cs p))
    unfolding number_lit_of number_end
    number_lands v true = scan_lands number_step (unsigned true (first_part v)) p cs p
    number_lands v false = scan_lands plain_step true p cs p

    -- what these three answer reaches the place of the stop, whatever the answer is
    pub byte_reached : (st : Bytes) (l q : ℕ) (h : How) → reached_of (byte_answer a st l q h) ≡ q
    byte_reached fresh l q h = refl
    byte_reached backslashed l q h = refl
    byte_reached control l q h = refl
    byte_reached body l q full = refl
    byte_reached body l q ended = refl
    byte_reached body l q short = refl

    pub byte_lands : Lands R cs p (reached_of (byte_of R.stride a cs p))
    unfolding byte_of
    byte_lands = let o = scan byte_step R.stride fresh p cs p in rw (byte_reached o.state o.last o.place o.how) (scan_lands byte_step fresh p cs p)

    pub str_reached : (b : Bool) (st : Quoted) (l q : ℕ) (h : How) → reached_of (str_answer b a st l q h) ≡ q
    str_reached b (slashed e) l q h = refl
    str_reached b (text e) l q full = refl
    str_reached b (text e) l q ended = refl
    str_reached b (text e) l q short = refl

    pub str_lands : (b : Bool) → Lands R cs p (reached_of (str_of R.stride b a cs p))
    unfolding str_of
    str_lands b = let o = scan str_step R.stride (text false) p cs p in rw (str_reached b o.state o.last o.place o.how) (scan_lands str_step (text false) p cs p)

    pub char_reached : (st : Chars) (l q : ℕ) → reached_of (char_answer a st l q) ≡ q
    char_reached escape l q = refl
    char_reached broken l q = refl
    char_reached (shut true) l q = refl
    char_reached (shut false) l q = refl
    char_reached (letters true true) l q = refl
    char_reached (letters true false) l q = refl
    char_reached (letters false true) l q = refl
    char_reached (letters false false) l q = refl

    pub char_lands : Lands R cs p (reached_of (char_of R.stride a cs p))
    unfolding char_of
    char_lands = let o = scan char_step R.stride (letters true false) p cs p in rw (char_reached o.state o.last o.place) (scan_lands char_step (letters true false) p cs p)

-- at a place of a source
pub lands_room : (g : Reading) (s cs : List ℕ) (p r : ℕ) → cs ≡ rest s p → p ≤ length s → Lands (rules_of g) cs p r → r ≤ length s
lands_room g s [] p r e h k = omega arith
lands_room g s (v ∷ cs) p r e h (inl k) = omega arith
lands_room g s (v ∷ cs) p r e h (inr k) = lands_room g s cs (p + width v) r (rest_tail s p v cs e) (rest_room s p v cs e) k
