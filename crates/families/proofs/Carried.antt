-- Places carried over, reader by reader: the scanner once, then its readers, then operators. Assumes nothing.
use Rattle.std.specs.Prelude.{None, Option, Some}
use Prim.Native.Nat.{ℕ, ◌+◌, ◌≤◌}
use mathlib.Core.Path.{◌≡◌, refl, sym, ap, ◌∙◌}
use mathlib.Core.List.{List, [], ◌∷◌}
use mathlib.Core.Bool.{Bool, true, false}
use mathlib.Core.Logic.{inl, inr}
use native.Mathlib.Omega.{arith}
use lib.Dec.{eqb}
use borrow.Author.Tests.{eq-eqb, ne_eqb}
use Rattle.classes.specs.Classes.{is_white_space}
use Rattle.families.specs.Moves.{Moves, map_read, with_stride}
use Rattle.families.specs.Sane.{Sane}
use Rattle.operators.specs.Operators.{find_one, find_three, find_two, found_at, look_one, look_three, look_two, ones, operator, operator_of, or_else, threes, twos}
use Rattle.operators.specs.declared.Operator.{Operator}
use Rattle.readers.proofs.Lands.{Lands, lands_le, run_lands}
use Rattle.readers.proofs.Scans.{by_act}
use Rattle.readers.specs.Numbers.{first_part, number_end, number_lit_of, number_step, plain_step, unsigned}
use Rattle.readers.specs.Readers.{Bytes, Chars, Quoted, backslashed, body, broken, byte_answer, byte_of, byte_step, char_answer, char_of, char_step, closed_by, comment_end, comment_of, comment_step, control, escape, fresh, in_line, letters, line_of, run, run_step, shut, skips, slashed, str_answer, str_of, str_step, text, white_of, word_of}
use Rattle.readers.specs.Rules.{Rules}
use Rattle.readers.specs.Scan.{Act, How, Stop, ended, full, scan, short, stop_at}
use Rattle.token.specs.Reads.{got_of, Read}
use Rattle.token.specs.declared.kind.Kind.{Kind}
use Rattle.token.specs.declared.kind.Kind.TheVariants.{MultilineComment, Number, Whitespace}

module _ (R : Rules) (w g : ℕ → ℕ) where
  abbrev pub map_stop : {S : Type 0} → Stop S → Stop S
  map_stop o = stop_at o.state (g o.last) (g o.place) o.how

  -- next' reads by the width w what next reads by R
  abbrev pub NextMoves : (List ℕ → ℕ → Read) → (List ℕ → ℕ → Read) → Type 0
  NextMoves next next' = (cs : List ℕ) (p : ℕ) → Moves R w g cs p → next' cs (g p) ≡ map_read g (next cs p)

  module _ {S : Type 0} (step : S → ℕ → List ℕ → Act S) where
    pub scan_moves : (s : S) (l : ℕ) (cs : List ℕ) (p : ℕ) → Moves R w g cs p → scan step w s (g l) cs (g p) ≡ map_stop (scan step R.stride s l cs p)
    unfolding scan
    scan_moves s l [] p m = refl
    scan_moves s l (v ∷ cs) p m =
        by_act (step s v cs)
        (λ t e. rw (e, scan) (ap (scan step w t (g p) cs) (sym m.0) ∙ scan_moves t p cs (p + R.stride v) m.1))
        (λ t e. rw (e, scan) refl) (λ t e. rw (e, scan) (ap (λ (q : ℕ). stop_at t (g p) q full) (sym m.0)))

    reader_moves : (s : S) (ans ans' : Stop S → Read) → ((o : Stop S) → ans' (map_stop o) ≡ map_read g (ans o)) → NextMoves (λ cs p. ans (scan step R.stride s p cs p)) (λ cs p. ans' (scan step w s p cs p))
    reader_moves s ans ans' h cs p m = ap ans' (scan_moves s p cs p m) ∙ h (scan step R.stride s p cs p)

  pub run_moves : (f : ℕ → Bool) (cs : List ℕ) (p : ℕ) → Moves R w g cs p → run w f cs (g p) ≡ g (run R.stride f cs p)
  unfolding run
  run_moves f cs p m = ap (λ (o : Stop Unit). o.place) (scan_moves (run_step f) tt p cs p m)

  module _ (a : ℕ) where
    pub white_moves : NextMoves (white_of R.stride a) (white_of w (g a))
    unfolding white_of
    white_moves cs p m = ap (got_of Whitespace (g a)) (run_moves is_white_space cs p m)

    pub line_moves : (k : Kind) → NextMoves (line_of R.stride k a) (line_of w k (g a))
    unfolding line_of
    line_moves k cs p m = ap (got_of k (g a)) (run_moves in_line cs p m)

    pub comment_moves : NextMoves (comment_of R.stride R.skip a) (comment_of w R.skip (g a))
    unfolding comment_of comment_end
    comment_moves = reader_moves comment_step (skips R.skip) (λ o. got_of (MultilineComment (closed_by o.how)) a o.place) (λ o. got_of (MultilineComment (closed_by o.how)) (g a) o.place) (λ o. refl)

    byte_carried : (st : Bytes) (l p : ℕ) (h : How) → byte_answer (g a) st (g l) (g p) h ≡ map_read g (byte_answer a st l p h)
    byte_carried fresh l p h = refl
    byte_carried backslashed l p h = refl
    byte_carried control l p h = refl
    byte_carried body l p full = refl
    byte_carried body l p ended = refl
    byte_carried body l p short = refl

    pub byte_moves : NextMoves (byte_of R.stride a) (byte_of w (g a))
    unfolding byte_of
    byte_moves = reader_moves byte_step fresh (λ o. byte_answer a o.state o.last o.place o.how) (λ o. byte_answer (g a) o.state o.last o.place o.how) (λ o. byte_carried o.state o.last o.place o.how)

    str_carried : (b : Bool) (st : Quoted) (l p : ℕ) (h : How) → str_answer b (g a) st (g l) (g p) h ≡ map_read g (str_answer b a st l p h)
    str_carried b (slashed e) l p h = refl
    str_carried b (text e) l p full = refl
    str_carried b (text e) l p ended = refl
    str_carried b (text e) l p short = refl

    pub str_moves : (b : Bool) → NextMoves (str_of R.stride b a) (str_of w b (g a))
    unfolding str_of
    str_moves b = reader_moves str_step (text false) (λ o. str_answer b a o.state o.last o.place o.how) (λ o. str_answer b (g a) o.state o.last o.place o.how) (λ o. str_carried b o.state o.last o.place o.how)

    pub number_moves : (v : ℕ) (e : Bool) → NextMoves (number_lit_of R.stride e v a) (number_lit_of w e v (g a))
    unfolding number_lit_of number_end
    number_moves v true = reader_moves number_step (unsigned true (first_part v)) (λ o. got_of Number a o.place) (λ o. got_of Number (g a) o.place) (λ o. refl)
    number_moves v false = reader_moves plain_step true (λ o. got_of Number a o.place) (λ o. got_of Number (g a) o.place) (λ o. refl)

    char_carried : (st : Chars) (l p : ℕ) → char_answer (g a) st (g l) (g p) ≡ map_read g (char_answer a st l p)
    char_carried escape l p = refl
    char_carried broken l p = refl
    char_carried (shut true) l p = refl
    char_carried (shut false) l p = refl
    char_carried (letters true true) l p = refl
    char_carried (letters true false) l p = refl
    char_carried (letters false true) l p = refl
    char_carried (letters false false) l p = refl

    pub char_moves : NextMoves (char_of R.stride a) (char_of w (g a))
    unfolding char_of
    char_moves = reader_moves char_step (letters true false) (λ o. char_answer a o.state o.last o.place) (λ o. char_answer (g a) o.state o.last o.place) (λ o. char_carried o.state o.last o.place)

  -- g goes up along the scalars, so a place is where reading began by both measures or by none
  pub lands_moves : (cs : List ℕ) (p t : ℕ) → Moves R w g cs p → Lands R cs p t → g p ≤ g t
  lands_moves [] p t m h = let e = ap g h in omega arith
  lands_moves (v ∷ cs) p t m (inl h) = let e = ap g h in omega arith
  lands_moves (v ∷ cs) p t m (inr h) = let k = lands_moves cs (p + R.stride v) t m.1 h in let e = m.0 in omega arith

  module _ (sane : Sane R) (sane' : Sane (with_stride R w)) where
    pub same_place : (cs : List ℕ) (p t : ℕ) → Moves R w g cs p → Lands R cs p t → eqb (g t) (g p) ≡ eqb t p
    same_place [] p t m h = eq-eqb (g t) (g p) (ap g (sym h)) ∙ sym (eq-eqb t p (sym h))
    same_place (v ∷ cs) p t m (inl h) = eq-eqb (g t) (g p) (ap g (sym h)) ∙ sym (eq-eqb t p (sym h))
    same_place (v ∷ cs) p t m (inr h) =
        let k = lands_moves cs (p + R.stride v) t m.1 h in let l = lands_le R cs (p + R.stride v) t h in
        let e = m.0 in let s = sane.steps v in let s' = sane'.steps v in
        ne_eqb (g t) (g p) (omega arith) ∙ sym (ne_eqb t p (omega arith))

    pub word_moves : (v a : ℕ) → NextMoves (word_of R.stride R.continue v a) (word_of w R.continue v (g a))
    unfolding word_of
    word_moves v a cs p m =
        let e = run R.stride R.continue cs p in
        rw (run_moves R.continue cs p m, same_place cs p e m (run_lands R R.continue cs p)) refl

  abbrev pub map_found : Option Operator → Option Operator
  map_found (Some o) = Some (operator o.kind (g o.end))
  map_found None = None

  found_moves : (m : Option Kind) (p q : ℕ) → q ≡ g p → found_at m q ≡ map_found (found_at m p)
  found_moves (Some k) p q h = ap (λ (e : ℕ). Some (operator k e)) h
  found_moves None p q h = refl

  or_moves : (f h f' h' : Option Operator) → f' ≡ map_found f → h' ≡ map_found h → or_else f' h' ≡ map_found (or_else f h)
  or_moves (Some o) h f' h' i j = rw i refl
  or_moves None h f' h' i j = rw i j

  module _ (v : ℕ) where
    two_moves : (cs : List ℕ) (p : ℕ) → Moves R w g cs p → find_two w v cs (g p) ≡ map_found (find_two R.stride v cs p)
    unfolding find_two
    two_moves [] p m = refl
    two_moves (u ∷ cs) p m = found_moves (look_two twos v u) (p + R.stride u) (g p + w u) (sym m.0)

    three_moves : (cs : List ℕ) (p : ℕ) → Moves R w g cs p → find_three w v cs (g p) ≡ map_found (find_three R.stride v cs p)
    unfolding find_three
    three_moves [] p m = refl
    three_moves (u ∷ []) p m = refl
    three_moves (u ∷ (x ∷ cs)) p m = found_moves (look_three threes v u x) (p + R.stride u + R.stride x) (g p + w u + w x) (ap (λ (q : ℕ). q + w x) (sym m.0) ∙ sym m.1.0)

    pub op_moves : (cs : List ℕ) (p : ℕ) → Moves R w g cs p → operator_of w v cs (g p) ≡ map_found (operator_of R.stride v cs p)
    unfolding operator_of find_one
    op_moves cs p m =
        or_moves (find_three R.stride v cs p) (or_else (find_two R.stride v cs p) (find_one v p)) (find_three w v cs (g p)) (or_else (find_two w v cs (g p)) (find_one v (g p))) (three_moves cs p m)
        (or_moves (find_two R.stride v cs p) (find_one v p) (find_two w v cs (g p)) (find_one v (g p)) (two_moves cs p m) (found_moves (look_one ones v) p (g p) refl))
