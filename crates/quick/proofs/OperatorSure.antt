-- Where a number is told, the reader reads that operator. Assumes nothing.
use Rattle.std.specs.Prelude.{None, Option, Some}
use Prim.Native.Nat.{ℕ, ◌+◌, ◌*◌, ◌/◌, ◌%◌, ◌<◌}
use mathlib.Core.Path.{◌≡◌, refl, sym, ap, ◌∙◌}
use mathlib.Core.List.{List, [], ◌∷◌}
use mathlib.Core.Bool.{Bool, true, not}
use native.Mathlib.Omega.{arith}
use lib.Dec.{eqb}
use lib.ListN.{get_or, length}
use borrow.Author.Tests.{eq-eqb, eqb-false, eqb-true, ne_eqb, not-true}
use Rattle.choice.proofs.Choice.{first_other, other_found}
use Rattle.choice.specs.Rule.{first_of, no_template}
use Rattle.classes.specs.Classes.{is_white_space, white_space}
use Rattle.laws.proofs.Cases.{both_false, both_inv, either_true, never, split, split_eq, within_inv}
use Rattle.laws.specs.Bools.{both, within}
use Rattle.laws.specs.Tables.{in_ranges}
use Rattle.lexer.proofs.Sources.{later_token}
use Rattle.lexer.specs.Next.{close_span, next_at, past_start_at}
use Rattle.numbers.specs.Kinds.{number_of}
use Rattle.operators.proofs.Ends.{same_end, same_kind}
use Rattle.operators.specs.Operators.{find_one, find_three, find_two, found_at, look_one, look_three, look_two, ones, operator, operator_of, or_else, threes, twos}
use Rattle.operators.specs.declared.Operator.{Operator}
use Rattle.quick.specs.Operators.{operator_by, packed, quick_at, quick_of}
use Rattle.readers.specs.Rules.{rules_of}
use Rattle.readers.specs.declared.reading.Reading.{Reading}
use Rattle.templates.proofs.Turns.{token_plain}
use Rattle.templates.specs.Body.{token_of}
use Rattle.text.proofs.Decode.{Step, by_step, byte_step, step_byte}
use Rattle.text.specs.Utf8.{rest, width}
use Rattle.token.specs.Reads.{got_of}
use Rattle.token.specs.declared.kind.Kind.{Kind}

-- a byte of a row: ASCII, and not the 0 that stands after the end
abbrev pub in_row : ℕ → Bool
in_row b = within 1 127 b

-- the first of a row: no rule before the operators' reads it, `#` and `/` apart
abbrev opens : ℕ → Bool
opens a = both (in_row a) (both (not (is_white_space a)) (both (not (eqb a 34)) (both (not (eqb a 96)) (not (eqb a 98)))))

-- a test that every row passes, and so whatever is found
unfoldable pub every_one : (ℕ → Bool) → List (ℕ × Kind) → Bool
every_one f [] = true
every_one f (r ∷ t) = both (f r.0) (every_one f t)

unfoldable pub every_two : (ℕ → ℕ → Bool) → List (ℕ × ℕ × Kind) → Bool
every_two f [] = true
every_two f (r ∷ t) = both (f r.0 r.1) (every_two f t)

unfoldable pub every_three : (ℕ → ℕ → ℕ → Bool) → List (ℕ × ℕ × ℕ × Kind) → Bool
every_three f [] = true
every_three f (r ∷ t) = both (f r.0 r.1 r.2) (every_three f t)

pub found_one : (f : ℕ → Bool) (t : List (ℕ × Kind)) (a : ℕ) (k : Kind) → every_one f t ≡ true → look_one t a ≡ Some k → f a ≡ true
unfolding look_one every_one
found_one f [] a k h e = never (cc)
found_one f (r ∷ t) a k h e =
    let i = both_inv (f r.0) (every_one f t) h in
    split (eqb a r.0) (λ q. ap f (eqb-true a r.0 q) ∙ i.0) (λ q. found_one f t a k i.1 (rw q at e))

pub found_two : (f : ℕ → ℕ → Bool) (t : List (ℕ × ℕ × Kind)) (a b : ℕ) (k : Kind) → every_two f t ≡ true → look_two t a b ≡ Some k → f a b ≡ true
unfolding look_two every_two
found_two f [] a b k h e = never (cc)
found_two f (r ∷ t) a b k h e =
    let i = both_inv (f r.0 r.1) (every_two f t) h in
    split (both (eqb a r.0) (eqb b r.1))
    (λ q. let j = both_inv (eqb a r.0) (eqb b r.1) q in (λ x. f (eqb-true a r.0 j.0 x) (eqb-true b r.1 j.1 x)) ∙ i.0)
    (λ q. found_two f t a b k i.1 (rw q at e))

pub found_three : (f : ℕ → ℕ → ℕ → Bool) (t : List (ℕ × ℕ × ℕ × Kind)) (a b c : ℕ) (k : Kind) → every_three f t ≡ true → look_three t a b c ≡ Some k → f a b c ≡ true
unfolding look_three every_three
found_three f [] a b c k h e = never (cc)
found_three f (r ∷ t) a b c k h e =
    let i = both_inv (f r.0 r.1 r.2) (every_three f t) h in
    split (both (eqb a r.0) (both (eqb b r.1) (eqb c r.2)))
    (λ q.
    let j = both_inv (eqb a r.0) (both (eqb b r.1) (eqb c r.2)) q in
    let l = both_inv (eqb b r.1) (eqb c r.2) j.1 in
    (λ x. f (eqb-true a r.0 j.0 x) (eqb-true b r.1 l.0 x) (eqb-true c r.2 l.1 x)) ∙ i.0)
    (λ q. found_three f t a b c k i.1 (rw q at e))

one_row : (a : ℕ) (k : Kind) → look_one ones a ≡ Some k → opens a ≡ true
unfolding every_one ones in_ranges white_space
one_row a k e = found_one opens ones a k refl e

two_row : (a b : ℕ) (k : Kind) → look_two twos a b ≡ Some k → (opens a ≡ true) × (in_row b ≡ true)
unfolding every_two twos in_ranges white_space
two_row a b k e = both_inv (opens a) (in_row b) (found_two (λ x y. both (opens x) (in_row y)) twos a b k refl e)

three_row : (a b c : ℕ) (k : Kind) → look_three threes a b c ≡ Some k → (opens a ≡ true) × (in_row b ≡ true) × (in_row c ≡ true)
unfolding every_three threes in_ranges white_space
three_row a b c k e =
    let i = both_inv (opens a) (both (in_row b) (in_row c)) (found_three (λ x y z. both (opens x) (both (in_row y) (in_row z))) threes a b c k refl e) in
    let j = both_inv (in_row b) (in_row c) i.1 in
    (i.0, j.0, j.1)

pub by_known : {X : Type 0} (m : Option Kind) → (m ≡ None → X) → ((k : Kind) → m ≡ Some k → X) → X
by_known None f g = f refl
by_known (Some k) f g = g k refl

module _ (s : List ℕ) where
  -- a byte of a row is the scalar there, and a scalar of a row is the byte there
  row_step : (i : ℕ) → in_row (get_or s i 0) ≡ true → Step s i (get_or s i 0) (i + 1)
  row_step i h = let w = within_inv 1 127 (get_or s i 0) h in byte_step s i w.0 w.1

  row_byte : (i w n : ℕ) → Step s i w n → in_row w ≡ true → (w ≡ get_or s i 0) × (n ≡ i + 1)
  row_byte i w n t h = step_byte s i w n t (within_inv 1 127 w h).1

  module _ (a i : ℕ) where
    two_bytes : find_two width a (rest s i) i ≡ found_at (look_two twos a (get_or s i 0)) (i + 1)
    unfolding find_two
    two_bytes =
        by_known (look_two twos a (get_or s i 0))
        (λ e. by_step s i (λ z. rw (z, e))
        (λ w n t. rw (t.here, e) (by_known (look_two twos a w) (λ u. rw u) (λ k u. never (let p = (row_byte i w n t (two_row a w k u).1).0 in cc)))))
        (λ k e. let t = row_step i (two_row a (get_or s i 0) k e).1 in rw t.here (ap (found_at (look_two twos a (get_or s i 0))) (sym t.next)))

    three_bytes : find_three width a (rest s i) i ≡ found_at (look_three threes a (get_or s i 0) (get_or s (i + 1) 0)) (i + 2)
    unfolding find_three
    three_bytes =
        by_known (look_three threes a (get_or s i 0) (get_or s (i + 1) 0))
        (λ e. by_step s i (λ z. rw (z, e))
        (λ w n t. by_step s n (λ z. rw (t.here, z, e))
        (λ x m u. rw (t.here, u.here, e) (by_known (look_three threes a w x) (λ v. rw v)
        (λ k v.
        let r = three_row a w x k v in
        let p = row_byte i w n t r.1 in
        let q = row_byte n x m u r.2 in
        never (cc))))))
        (λ k e.
        let r = three_row a (get_or s i 0) (get_or s (i + 1) 0) k e in
        let t = row_step i r.1 in
        let u = row_step (i + 1) r.2 in
        rw (t.here, u.here) (ap (found_at (look_three threes a (get_or s i 0) (get_or s (i + 1) 0))) (omega (arith, t.next, u.next))))

-- what is found by three bytes: at a place of a source it ends as far on as it is long
record Begins (a b c : ℕ) (k : Kind) (n : ℕ) : Type 0 where
  front : opens a ≡ true
  some : 0 < n
  few : n < 4
  moved : (at : ℕ) → or_else (found_at (look_three threes a b c) (at + 1 + 2)) (or_else (found_at (look_two twos a b) (at + 1 + 1)) (found_at (look_one ones a) (at + 1))) ≡ Some (operator k (at + n))

told : (a b c : ℕ) (k : Kind) (n : ℕ) → operator_by a b c ≡ Some (operator k n) → Begins a b c k n
unfolding operator_by
told a b c k n h =
    by_known (look_three threes a b c)
    (λ e. by_known (look_two twos a b)
    (λ f. by_known (look_one ones a) (λ g. never (let z = rw (e, f, g) at h in cc))
    (λ j g. let z : Some (operator j 1) ≡ Some (operator k n) = rw (e, f, g) at h in by_end 1 j z (one_row a j g) (omega arith) (omega arith) (λ at. rw (e, f, g))))
    (λ j f. let z : Some (operator j 2) ≡ Some (operator k n) = rw (e, f) at h in by_end 2 j z (two_row a b j f).0 (omega arith) (omega arith) (λ at. rw (e, f) (ap (λ (e : ℕ). Some (operator j e)) (omega arith)))))
    (λ j e. let z : Some (operator j 3) ≡ Some (operator k n) = rw e at h in by_end 3 j z (three_row a b c j e).0 (omega arith) (omega arith) (λ at. rw e (ap (λ (e : ℕ). Some (operator j e)) (omega arith))))
  where
    by_end : (m : ℕ) (j : Kind) → Some (operator j m) ≡ Some (operator k n) → opens a ≡ true → 0 < m → m < 4
        → ((at : ℕ) → or_else (found_at (look_three threes a b c) (at + 1 + 2)) (or_else (found_at (look_two twos a b) (at + 1 + 1)) (found_at (look_one ones a) (at + 1))) ≡ Some (operator j (at + m))) → Begins a b c k n
    by_end m j z o l u f =
        let ej = same_kind j k m n z in
        let em = same_end j k m n z in
        record { front = o; some = omega arith; few = omega arith; moved = λ at. f at ∙ (λ i. Some (operator (ej i) (at + em i))) }

-- no number is told of `#` and `/`
plain : (a b c q : ℕ) → q ≡ quick_of a b c → (q ≡ 0 → ⊥) → (a ≡ 35 → ⊥) × (a ≡ 47 → ⊥) × (q ≡ packed (operator_by a b c))
unfolding quick_of
plain a b c q e h =
    split_eq a 35 (λ u. absurd (h (e ∙ rw (eq-eqb a 35 u))))
    (λ u. split_eq a 47 (λ v. absurd (h (e ∙ rw (eq-eqb a 47 v, either_true)))) (λ v. (u, v, e ∙ rw (ne_eqb a 35 u, ne_eqb a 47 v))))

-- the token that a number at a place tells, in every mode
pub record Operated (g : Reading) (s : List ℕ) (at q : ℕ) : Type 0 where
  pub kind : Kind
  pub number : number_of kind ≡ q / 4
  pub some : 0 < q % 4
  pub reads : got_of kind at (at + q % 4) ≡ next_at g s at

module _ (g : Reading) (s : List ℕ) (at : ℕ) where
  -- what the rules read from an ASCII byte on, which is not `#` or a backtick, is what the reader reads
  pub first_next : (k : Kind) (e : ℕ) → in_row (get_or s at 0) ≡ true → (get_or s at 0 ≡ 35 → ⊥) → (get_or s at 0 ≡ 96 → ⊥) → got_of k at e ≡ first_of (rules_of g) no_template (get_or s at 0) at (rest s (at + 1)) (at + 1)
      → got_of k at e ≡ next_at g s at
  unfolding past_start_at
  first_next k e i u v h =
      let here = row_step s at i in
      let whole : got_of k at e ≡ token_of (rules_of g) 64 (rest s at) at = h ∙ token_plain g 64 s at (get_or s at 0) (at + 1) here v in
      ap (close_span (length s)) whole ∙ later_token g s at (rw (here.here, ne_eqb (get_or s at 0) 35 u, both_false))

  -- an operator after a first byte that is not `#` or `/` is what the reader reads
  token_next : (k : Kind) (n : ℕ) → Begins (get_or s at 0) (get_or s (at + 1) 0) (get_or s (at + 2) 0) k n → (get_or s at 0 ≡ 35 → ⊥) → (get_or s at 0 ≡ 47 → ⊥) → got_of k at (at + n) ≡ next_at g s at
  unfolding operator_of find_one
  token_next k n t u v =
      let a = get_or s at 0 in
      let cs = rest s (at + 1) in
      let i = both_inv (in_row a) (both (not (is_white_space a)) (both (not (eqb a 34)) (both (not (eqb a 96)) (not (eqb a 98))))) t.front in
      let j = both_inv (not (is_white_space a)) (both (not (eqb a 34)) (both (not (eqb a 96)) (not (eqb a 98)))) i.1 in
      let l = both_inv (not (eqb a 34)) (both (not (eqb a 96)) (not (eqb a 98))) j.1 in
      let m = both_inv (not (eqb a 96)) (not (eqb a 98)) l.1 in
      let no : (x : ℕ) → not (eqb a x) ≡ true → a ≡ x → ⊥ = λ x h. eqb-false a x (not-true (eqb a x) h) in
      let two : at + 1 + 1 ≡ at + 2 = omega arith in
      let op : operator_of width a cs (at + 1) ≡ Some (operator k (at + n)) = rw (three_bytes s a (at + 1), two_bytes s a (at + 1), two) (rw two at (t.moved at)) in
      first_next k (at + n) i.0 u (no 96 m.0)
      (other_found g no_template at cs (at + 1) a k (at + n) op ∙ first_other g no_template at cs (at + 1) a (not-true (is_white_space a) j.0) (no 34 l.0) v (no 98 m.1))

  pub quick_next : (q : ℕ) → q ≡ quick_at s at → (q ≡ 0 → ⊥) → Operated g s at q
  unfolding quick_at
  quick_next q e h = by_operator (operator_by a b c) refl
    where
      a : ℕ
      a = get_or s at 0

      b : ℕ
      b = get_or s (at + 1) 0

      c : ℕ
      c = get_or s (at + 2) 0

      by_operator : (o : Option Operator) → operator_by a b c ≡ o → Operated g s at q
      by_operator None f = absurd (h ((plain a b c q e h).2 ∙ rw f))
      by_operator (Some o) f =
          let k = o.kind in
          let n = o.end in
          let p = plain a b c q e h in
          let t = told a b c k n f in
          let is : q ≡ number_of k * 4 + n = p.2 ∙ rw f in
          let end : q % 4 ≡ n = omega (arith, t.few) in
          record {
            kind = k;
            number = omega (arith, t.few);
            some = omega (arith, t.some);
            reads = ap (λ (x : ℕ). got_of k at (at + x)) end ∙ token_next k n t p.0 p.1;
          }
