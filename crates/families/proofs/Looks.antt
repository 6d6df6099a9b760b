-- How far ahead each reader looks: the scanner once, then its readers, then operators. Assumes nothing.
use Rattle.std.specs.Prelude.{None, Option, Some}
use Prim.Native.Nat.{ℕ, zero, suc, ◌+◌, ◌<◌}
use mathlib.Core.Path.{◌≡◌, refl, sym, ap, ◌∙◌, subst}
use mathlib.Core.List.{List, [], ◌∷◌, ◌++◌}
use mathlib.Core.Bool.{Bool, true, false}
use native.Mathlib.Omega.{arith}
use lib.Dec.{eqb}
use Rattle.classes.specs.Classes.{is_white_space}
use Rattle.families.proofs.Nearby.{digit_head, head_append}
use Rattle.families.specs.Near.{Local, Near, SameFirst}
use Rattle.families.specs.Places.{place_after}
use Rattle.families.specs.Sane.{Sane}
use Rattle.laws.proofs.Cases.{split}
use Rattle.laws.specs.Bools.{both, either, pick}
use Rattle.operators.proofs.Longest.{no_three}
use Rattle.operators.specs.Operators.{find_one, find_three, find_two, look_three, look_two, operator, operator_of, threes, twos}
use Rattle.readers.proofs.Lands.{byte_reached, char_reached, lands_le, scan_lands, str_reached}
use Rattle.readers.proofs.Scans.{by_act}
use Rattle.readers.specs.Numbers.{asks_digit, first_part, is_sign, number_end, number_lit_of, number_step, plain_step, signed, unsigned}
use Rattle.readers.specs.Readers.{after_star, backslashed, body, broken, byte_answer, byte_of, byte_step, char_answer, char_of, char_step, closed_by, comment_end, comment_of, comment_step, control, escape, fresh, in_line, letters, line_of, run, run_step, shut, skips, slashed, str_answer, str_of, str_step, text, white_of, word_of}
use Rattle.readers.specs.Rules.{Rules}
use Rattle.readers.specs.Scan.{Act, Stop, before, scan}
use Rattle.token.specs.Reads.{got_of, reached_of, Read}
use Rattle.token.specs.declared.kind.Kind.{Kind}
use Rattle.token.specs.declared.kind.Kind.TheVariants.{Ident, MultilineComment, Number, Underscore, Whitespace}

-- a step looks at its scalar, and where that asks for a digit at one more
abbrev pub Looks : {S : Type 0} → (S → ℕ → List ℕ → Act S) → Type 0
Looks {S} step = (s : S) (v : ℕ) (x y : List ℕ) → (asks_digit v ≡ true → SameFirst x y) → step s v y ≡ step s v x

run_looks : (f : ℕ → Bool) → Looks (run_step f)
run_looks f s v x y h = refl

comment_looks : Looks comment_step
unfolding comment_step
comment_looks (skips zero) v x y h = refl
comment_looks (skips (suc k)) v x y h = refl
comment_looks after_star v x y h = refl

byte_looks : Looks byte_step
unfolding byte_step
byte_looks fresh v x y h = refl
byte_looks body v x y h = refl
byte_looks backslashed v x y h = refl
byte_looks control v x y h = refl

str_looks : Looks str_step
unfolding str_step
str_looks (text e) v x y h = refl
str_looks (slashed e) v x y h = refl

plain_looks : Looks plain_step
unfolding plain_step
plain_looks w v x y h = split (eqb v 46) (λ e. rw (digit_head x y (h (ap (λ (b : Bool). either b (is_sign v)) e)))) (λ e. rw e)

number_looks : Looks number_step
unfolding number_step
number_looks (unsigned w r) v x y h = split (asks_digit v) (λ e. rw (digit_head x y (h e))) (λ e. rw e)
number_looks signed v x y h = refl

char_looks : Looks char_step
unfolding char_step
char_looks (letters l n) v x y h = refl
char_looks escape v x y h = refl
char_looks (shut n) v x y h = refl
char_looks broken v x y h = refl

module _ (R : Rules) (sane : Sane R) where
  module _ {S : Type 0} (step : S → ℕ → List ℕ → Act S) where
    -- a scan that stops where it started stopped before a scalar
    scan_stays : (s : S) (l v : ℕ) (cs : List ℕ) (p : ℕ) → (scan step R.stride s l (v ∷ cs) p).place ≡ p → (t : S) × (step s v cs ≡ before t)
    unfolding scan
    scan_stays s l v cs p h =
        let w = sane.steps v in
        by_act (step s v cs)
        (λ t e. absurd (let z = (rw (e, scan) at h) in let k = lands_le R cs (p + R.stride v) (scan step R.stride t p cs (p + R.stride v)).place (scan_lands R step t p cs (p + R.stride v)) in omega arith))
        (λ t e. (t, e)) (λ t e. absurd (let z = (rw (e, scan) at h) in omega arith))

    pub scan_local : Looks step → (s : S) (l : ℕ) (f x y : List ℕ) (p : ℕ) → (scan step R.stride s l (f ++ x) p).place ≡ place_after R.stride f p → Near x y → scan step R.stride s l (f ++ y) p ≡ scan step R.stride s l (f ++ x) p
    unfolding scan place_after
    scan_local k s l [] [] [] p r h = refl
    scan_local k s l [] [] (w ∷ y) p r h = absurd h
    scan_local k s l [] (v ∷ x) [] p r h = absurd h
    scan_local k s l [] (v ∷ x) (w ∷ y) p r h =
        let z = scan_stays s l v x p r in
        let e = z.1 in
        let e' : step s v y ≡ before z.0 = k s v x y h.1 ∙ e in
        subst (λ (u : ℕ). scan step R.stride s l (u ∷ y) p ≡ scan step R.stride s l (v ∷ x) p) h.0 (rw (e, e', scan) refl)
    scan_local k s l (v ∷ f) x y p r h =
        let q = k s v (f ++ x) (f ++ y) (λ d. head_append f x y h) in
        by_act (step s v (f ++ x)) (λ t e. rw (q, e, scan) (scan_local k t p f x y (p + R.stride v) (rw (e, scan) at r) h))
        (λ t e. rw (q, e, scan) refl) (λ t e. rw (q, e, scan) refl)

    -- a reader whose answer reaches the place of its stop
    reader_local : Looks step → (s : S) (ans : ℕ → Stop S → Read) → ((p : ℕ) (o : Stop S) → reached_of (ans p o) ≡ o.place) → Local R (λ cs p. ans p (scan step R.stride s p cs p))
    reader_local k s ans g f x y p r h = ap (ans p) (scan_local k s p f x y p (sym (g p (scan step R.stride s p (f ++ x) p)) ∙ r) h)

  module _ (a : ℕ) where
    pub white_local : Local R (white_of R.stride a)
    unfolding white_of run
    white_local = reader_local (run_step is_white_space) (run_looks is_white_space) tt (λ p o. got_of Whitespace a o.place) (λ p o. refl)

    pub line_local : (k : Kind) → Local R (line_of R.stride k a)
    unfolding line_of run
    line_local k = reader_local (run_step in_line) (run_looks in_line) tt (λ p o. got_of k a o.place) (λ p o. refl)

    pub comment_local : Local R (comment_of R.stride R.skip a)
    unfolding comment_of comment_end
    comment_local = reader_local comment_step comment_looks (skips R.skip) (λ p o. got_of (MultilineComment (closed_by o.how)) a o.place) (λ p o. refl)

    pub byte_local : Local R (byte_of R.stride a)
    unfolding byte_of
    byte_local = reader_local byte_step byte_looks fresh (λ p o. byte_answer a o.state o.last o.place o.how) (λ p o. byte_reached R a [] 0 o.state o.last o.place o.how)

    pub str_local : (b : Bool) → Local R (str_of R.stride b a)
    unfolding str_of
    str_local b = reader_local str_step str_looks (text false) (λ p o. str_answer b a o.state o.last o.place o.how) (λ p o. str_reached R a [] 0 b o.state o.last o.place o.how)

    pub word_local : (v : ℕ) → Local R (word_of R.stride R.continue v a)
    unfolding word_of run
    word_local v = reader_local (run_step R.continue) (run_looks R.continue) tt (λ p o. got_of (pick (both (eqb v 95) (eqb o.place p)) Underscore Ident) a o.place) (λ p o. refl)

    pub number_local : (v : ℕ) (e : Bool) → Local R (number_lit_of R.stride e v a)
    unfolding number_lit_of number_end
    number_local v true = reader_local number_step number_looks (unsigned true (first_part v)) (λ p o. got_of Number a o.place) (λ p o. refl)
    number_local v false = reader_local plain_step plain_looks true (λ p o. got_of Number a o.place) (λ p o. refl)

    pub char_local : Local R (char_of R.stride a)
    unfolding char_of
    char_local = reader_local char_step char_looks (letters true false) (λ p o. char_answer a o.state o.last o.place) (λ p o. char_reached R a [] 0 o.state o.last o.place)

  -- operators: of two scalars after the first, both are asked for only where the first two are an operator
  module _ (v : ℕ) where
    -- two that are no operator leave one
    op_short : (w : ℕ) (cs : List ℕ) (p : ℕ) → look_two twos v w ≡ None → operator_of R.stride v (w ∷ cs) p ≡ find_one v p
    unfolding operator_of find_two find_three
    op_short w [] p h = rw h
    op_short w (u ∷ cs) p h = rw (no_three v w u h, h)

    -- two that are leave two or three
    op_long : (w : ℕ) (cs : List ℕ) (p : ℕ) (j : Kind) → look_two twos v w ≡ Some j → (k : Kind) × (e : ℕ) × (operator_of R.stride v (w ∷ cs) p ≡ Some (operator k e)) × (p < e)
    unfolding operator_of find_two find_three
    op_long w [] p j h = (j, p + R.stride w, rw h refl, (let s = sane.steps w in omega arith))
    op_long w (u ∷ cs) p j h = three (look_three threes v w u) refl
      where
        three : (m : Option Kind) → look_three threes v w u ≡ m → (k : Kind) × (e : ℕ) × (operator_of R.stride v (w ∷ (u ∷ cs)) p ≡ Some (operator k e)) × (p < e)
        three (Some i) q = (i, p + R.stride w + R.stride u, rw q refl, (let s = sane.steps w in omega arith))
        three None q = (j, p + R.stride w, rw (q, h) refl, (let s = sane.steps w in omega arith))

    op_far : (u : ℕ) (x y : List ℕ) (p : ℕ) → SameFirst x y → operator_of R.stride v (u ∷ y) p ≡ operator_of R.stride v (u ∷ x) p
    unfolding operator_of find_two find_three
    op_far u [] [] p h = refl
    op_far u [] (w ∷ y) p h = absurd h
    op_far u (w ∷ x) [] p h = absurd h
    op_far u (w ∷ x) (w' ∷ y) p h = ap (λ (z : ℕ). operator_of R.stride v (u ∷ (z ∷ y)) p) (sym h)

    pub op_local : (f x y : List ℕ) (p : ℕ) → ((k : Kind) (e : ℕ) → operator_of R.stride v (f ++ x) p ≡ Some (operator k e) → e ≡ place_after R.stride f p) → Near x y → operator_of R.stride v (f ++ y) p ≡ operator_of R.stride v (f ++ x) p
    unfolding place_after
    op_local [] [] [] p g h = refl
    op_local [] [] (w ∷ y) p g h = absurd h
    op_local [] (w ∷ x) [] p g h = absurd h
    op_local [] (w ∷ x) (w' ∷ y) p g h = subst (λ (z : ℕ). operator_of R.stride v (z ∷ y) p ≡ operator_of R.stride v (w ∷ x) p) h.0 (two (look_two twos v w) refl)
      where
        two : (m : Option Kind) → look_two twos v w ≡ m → operator_of R.stride v (w ∷ y) p ≡ operator_of R.stride v (w ∷ x) p
        two (Some j) q = let o = op_long w x p j q in absurd (let z = g o.0 o.1 o.2 in let l = o.3 in omega arith)
        two None q = op_short w y p q ∙ sym (op_short w x p q)
    op_local (u ∷ f) x y p g h = op_far u (f ++ x) (f ++ y) p (head_append f x y h)
