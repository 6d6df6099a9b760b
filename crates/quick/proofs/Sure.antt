-- Where a token is told, the reader reads that token. Assumes nothing.
use Rattle.std.specs.Prelude.{None}
use Prim.Native.Nat.{ℕ, ◌+◌, ◌/◌, ◌%◌, ◌≤◌, ◌<◌}
use mathlib.Core.Path.{◌≡◌, refl, sym, ap, ◌∙◌, subst}
use mathlib.Core.List.{List, [], ◌∷◌}
use mathlib.Core.Bool.{Bool, true, false, not}
use native.Mathlib.Omega.{arith}
use lib.Dec.{ltb, eqb}
use lib.ListN.{drop, get_or, length}
use borrow.Author.Tests.{eq-eqb, eqb-false, eqb-true, ltb-false, ne_eqb, not-true}
use Rattle.choice.proofs.Choice.{b_end, b_other, by_mark, first_other, first_white, left_low, left_word, other_left}
use Rattle.choice.specs.Rule.{first_of, left_of, no_template, other_of}
use Rattle.classes.specs.Classes.{is_white_space, is_xid_continue, is_xid_start, white_space, xid_continue, xid_start}
use Rattle.classes.specs.Digits.{is_digit}
use Rattle.laws.proofs.Cases.{never, split, split_eq, split_le, within_high, within_inv, within_yes}
use Rattle.laws.proofs.Tables.{below_same}
use Rattle.laws.specs.Bools.{both, either, pick, within}
use Rattle.laws.specs.Tables.{every_below, in_ranges}
use Rattle.lexer.specs.Next.{next_at}
use Rattle.numbers.specs.Kinds.{number_of}
use Rattle.operators.specs.Operators.{find_one, find_three, find_two, look_one, look_three, look_two, ones, operator_of, threes, twos}
use Rattle.quick.proofs.OperatorSure.{by_known, every_one, every_three, every_two, first_next, found_one, found_three, found_two, quick_next}
use Rattle.quick.proofs.Passes.{pass_stop, run_bytes}
use Rattle.quick.specs.Operators.{quick_at}
use Rattle.quick.specs.Tokens.{ask, begins_word, blank_at, is_blank, other_at, passing, quick_token_at, word_at}
use Rattle.quick.specs.declared.tokens.Quick.{Quick}
use Rattle.readers.specs.Numbers.{in_number}
use Rattle.readers.specs.Readers.{white_of, word_of}
use Rattle.readers.specs.Rules.{rules_of}
use Rattle.readers.specs.declared.reading.Reading.{Reading}
use Rattle.text.proofs.Decode.{rest_end, step_ascii}
use Rattle.text.specs.Utf8.{rest, width}
use Rattle.token.specs.Reads.{got_of}
use Rattle.token.specs.declared.kind.Kind.{Kind}
use Rattle.token.specs.declared.kind.Kind.TheVariants.{Ident, Underscore, Whitespace}

-- the classes below 0x80
white_blank : (v : ℕ) → v < 0x80 → is_white_space v ≡ either (is_blank v) (either (eqb v 11) (eqb v 12))
unfolding in_ranges white_space every_below
white_blank = below_same is_white_space (λ v. either (is_blank v) (either (eqb v 11) (eqb v 12))) 0x80 refl

word_byte : (v : ℕ) → v < 0x80 → is_xid_continue v ≡ in_number v
unfolding in_ranges xid_continue every_below
word_byte = below_same is_xid_continue in_number 0x80 refl

first_byte : (v : ℕ) → v < 0x80 → is_xid_start v ≡ both (begins_word v) (not (eqb v 95))
unfolding in_ranges xid_start every_below
first_byte = below_same is_xid_start (λ v. both (begins_word v) (not (eqb v 95))) 0x80 refl

neither : (p q : Bool) → either p q ≡ false → (p ≡ false) × (q ≡ false)
neither true q h = never (cc)
neither false q h = (refl, h)

blank_low : (v : ℕ) → is_blank v ≡ true → (1 ≤ v) × (v ≤ 32)
blank_low v h =
    split (within 9 10 v) (λ e. let w = within_inv 9 10 v e in (omega (arith, w.0), omega (arith, w.1)))
    (λ a. split_eq v 13 (λ e. (omega arith, omega arith))
    (λ b. let z = eqb-true v 32 (rw (a, ne_eqb v 13 b) at h) in (omega arith, omega arith)))

begins_low : (v : ℕ) → begins_word v ≡ true → (65 ≤ v) × (v ≤ 122) × (v ≡ 96 → ⊥)
begins_low v h =
    split (within 65 90 v) (λ e. let w = within_inv 65 90 v e in (omega (arith, w.0), omega (arith, w.1), λ z. omega (arith, w.1)))
    (λ a. split (within 97 122 v) (λ e. let w = within_inv 97 122 v e in (omega (arith, w.0), omega (arith, w.1), λ z. omega (arith, w.0)))
    (λ b. let z = eqb-true v 95 (rw (a, b) at h) in (omega arith, omega arith, λ y. omega arith)))

word_low : (v : ℕ) → in_number v ≡ true → (48 ≤ v) × (v ≤ 122)
word_low v h =
    split (is_digit v) (λ e. let w = within_inv 48 57 v e in (omega (arith, w.0), omega (arith, w.1)))
    (λ a. split (within 65 90 v) (λ e. let w = within_inv 65 90 v e in (omega (arith, w.0), omega (arith, w.1)))
    (λ b. split (within 97 122 v) (λ e. let w = within_inv 97 122 v e in (omega (arith, w.0), omega (arith, w.1)))
    (λ c. let z = eqb-true v 95 (rw (a, b, c) at h) in (omega arith, omega arith))))

-- no operator begins with a byte that begins a word
module _ (a : ℕ) (h : begins_word a ≡ true) where
  one_none : look_one ones a ≡ None
  unfolding every_one ones
  one_none = by_known (look_one ones a) (λ e. e) (λ k e. never (let z = not-true (begins_word a) (found_one (λ x. not (begins_word x)) ones a k refl e) in cc))

  two_none : (b : ℕ) → look_two twos a b ≡ None
  unfolding every_two twos
  two_none b = by_known (look_two twos a b) (λ e. e) (λ k e. never (let z = not-true (begins_word a) (found_two (λ x y. not (begins_word x)) twos a b k refl e) in cc))

  three_none : (b c : ℕ) → look_three threes a b c ≡ None
  unfolding every_three threes
  three_none b c = by_known (look_three threes a b c) (λ e. e) (λ k e. never (let z = not-true (begins_word a) (found_three (λ x y z. not (begins_word x)) threes a b c k refl e) in cc))

  no_operator : (cs : List ℕ) (p : ℕ) → operator_of width a cs p ≡ None
  unfolding operator_of find_one find_two find_three
  no_operator [] p = rw one_none
  no_operator (w ∷ []) p = rw (two_none w, one_none)
  no_operator (w ∷ (x ∷ cs)) p = rw (three_none w x, two_none w, one_none)

-- the token that is told at a place, in every mode
pub record Told (g : Reading) (s : List ℕ) (at : ℕ) (q : Quick) : Type 0 where
  pub kind : Kind
  pub number : number_of kind ≡ q.number
  pub past : at < q.end
  pub reads : got_of kind at q.end ≡ next_at g s at

-- where something is told, the tests before it did not ask
sure : (b : Bool) (x q : Quick) → q ≡ pick b ask x → (q.number ≡ 0 → ⊥) → (b ≡ false) × (q ≡ x)
sure true x q e h = absurd (h (ap (λ (y : Quick). y.number) e))
sure false x q e h = (refl, e)

module _ (g : Reading) (s : List ℕ) (at : ℕ) where
  abbrev a : ℕ
  a = get_or s at 0

  abbrev cs : List ℕ
  cs = rest s (at + 1)

  blank_told : is_blank a ≡ true → (q : Quick) → q ≡ blank_at s (at + 1) → (q.number ≡ 0 → ⊥) → Told g s at q
  unfolding blank_at number_of white_of
  blank_told i q e h =
      let end = at + 1 + length (passing is_blank (drop (at + 1) s)) in
      let c = get_or s end 0 in
      let t = sure (either (ltb 127 c) (either (eqb c 11) (eqb c 12))) (record { number = 1; end = end }) q e h in
      let n = neither (ltb 127 c) (either (eqb c 11) (eqb c 12)) t.0 in
      let lo = blank_low a i in
      let is : is_white_space a ≡ true = white_blank a (omega (arith, lo.1)) ∙ rw i in
      let c-low : c ≤ 127 = ltb-false 127 c n.0 in
      let run_is = run_bytes is_white_space is_blank (λ v y. omega (arith, (blank_low v y).1)) (λ v y. white_blank v (omega (arith, (blank_low v y).1)) ∙ rw y) s (at + 1) c-low
      (λ y. white_blank c (omega (arith, c-low)) ∙ rw (y, n.1)) in
      let white : got_of Whitespace at end ≡ first_of (rules_of g) no_template a at cs (at + 1) = ap (got_of Whitespace at) run_is ∙ first_white g no_template at cs (at + 1) a is in
      let reads = first_next g s at Whitespace end (within_yes 1 127 a lo.0 (omega (arith, lo.1))) (λ z. omega (arith, lo.1)) (λ z. omega (arith, lo.1)) white in
      subst (Told g s at) (sym t.1) (record { kind = Whitespace; number = refl; past = omega arith; reads = reads })

  -- after `b` stands no quote
  behind_b : (e : ℕ) → e ≡ at + 1 + length (passing in_number (drop (at + 1) s)) → either (eqb (get_or s e 0) 34) (eqb (get_or s e 0) 39) ≡ false → get_or s e 0 ≤ 127
      → other_of (rules_of g) no_template 98 at cs (at + 1) ≡ first_of (rules_of g) no_template 98 at cs (at + 1)
  behind_b e ee nq lo =
      split_le (length s) (at + 1) (λ o. b_end g no_template at s (at + 1) (rest_end s (at + 1) o))
      (λ o.
      let w = get_or s (at + 1) 0 in
      let by : w ≤ 127 → (w ≡ 39 → ⊥) → (w ≡ 34 → ⊥) → other_of (rules_of g) no_template 98 at cs (at + 1) ≡ first_of (rules_of g) no_template 98 at cs (at + 1) =
      λ l x y. b_other g no_template at s (at + 1) w (at + 1 + 1) (step_ascii s (at + 1) o l) x y in
      split (in_number w)
      (λ y. let b = word_low w y in by (omega (arith, b.1)) (λ z. omega (arith, b.0)) (λ z. omega (arith, b.0)))
      (λ y.
      let here : e ≡ at + 1 = omega (arith, ee, ap length (pass_stop in_number s (at + 1) o y)) in
      let n = neither (eqb (get_or s e 0) 34) (eqb (get_or s e 0) 39) nq in
      let is : get_or s e 0 ≡ w = ap (λ (x : ℕ). get_or s x 0) here in
      by (omega (arith, is, lo)) (λ z. eqb-false (get_or s e 0) 39 n.1 (is ∙ z)) (λ z. eqb-false (get_or s e 0) 34 n.0 (is ∙ z))))

  word_told : begins_word a ≡ true → (q : Quick) → q ≡ word_at a s (at + 1) → (q.number ≡ 0 → ⊥) → Told g s at q
  unfolding word_at number_of word_of
  word_told i q e h =
      let end = at + 1 + length (passing in_number (drop (at + 1) s)) in
      let c = get_or s end 0 in
      let under = both (eqb a 95) (eqb end (at + 1)) in
      let t = sure (either (ltb 127 c) (both (eqb a 98) (either (eqb c 34) (eqb c 39)))) (record { number = pick under 7 6; end = end }) q e h in
      let n = neither (ltb 127 c) (both (eqb a 98) (either (eqb c 34) (eqb c 39))) t.0 in
      let lo = begins_low a i in
      let a-low : a < 0x80 = omega (arith, lo.1) in
      let c-low : c ≤ 127 = ltb-false 127 c n.0 in
      let run_is = run_bytes is_xid_continue in_number (λ v y. omega (arith, (word_low v y).1)) (λ v y. word_byte v (omega (arith, (word_low v y).1)) ∙ y) s (at + 1) c-low
      (λ y. word_byte c (omega (arith, c-low)) ∙ y) in
      let kind = pick under Underscore Ident in
      let word : got_of kind at end ≡ word_of width is_xid_continue a at cs (at + 1) = ap (λ (x : ℕ). got_of (pick (both (eqb a 95) (eqb x (at + 1))) Underscore Ident) at x) run_is in
      let left : word_of width is_xid_continue a at cs (at + 1) ≡ left_of (rules_of g) no_template a at cs (at + 1) =
      split_eq a 95 (λ z. left_low g no_template at cs (at + 1) a z) (λ z. left_word g no_template at cs (at + 1) a z (first_byte a a-low ∙ rw (i, ne_eqb a 95 z))) in
      let not_white : is_white_space a ≡ false =
      white_blank a a-low ∙ rw (within_high 9 10 a (omega (arith, lo.0)), ne_eqb a 13 (λ z. omega (arith, lo.0)), ne_eqb a 32 (λ z. omega (arith, lo.0)), ne_eqb a 11 (λ z. omega (arith, lo.0)), ne_eqb a 12 (λ z. omega (arith, lo.0))) in
      let other : other_of (rules_of g) no_template a at cs (at + 1) ≡ first_of (rules_of g) no_template a at cs (at + 1) =
      split_eq a 98 (λ z. by_mark g no_template at cs (at + 1) a 98 z (behind_b end refl (rw (eq-eqb a 98 z) at n.1) c-low))
      (λ z. first_other g no_template at cs (at + 1) a not_white (λ y. omega (arith, lo.0)) (λ y. omega (arith, lo.0)) z) in
      let reads = first_next g s at kind end (within_yes 1 127 a (omega (arith, lo.0)) (omega (arith, lo.1))) (λ z. omega (arith, lo.0)) lo.2
      (word ∙ left ∙ other_left g no_template at cs (at + 1) a (no_operator a i cs (at + 1)) ∙ other) in
      subst (Told g s at) (sym t.1) (record { kind = kind; number = split under (λ z. rw z) (λ z. rw z); past = omega arith; reads = reads })

  other_told : (q : Quick) → q ≡ other_at s at → (q.number ≡ 0 → ⊥) → Told g s at q
  unfolding other_at
  other_told q e h =
      split (is_blank a) (λ i. blank_told i q (e ∙ rw i) h)
      (λ i. split (begins_word a) (λ j. word_told j q (e ∙ rw (i, j)) h) (λ j. let is : q ≡ ask = e ∙ rw (i, j) in absurd (h (ap (λ (y : Quick). y.number) is))))

  pub quick_told : (q : Quick) → q ≡ quick_token_at s at → (q.number ≡ 0 → ⊥) → Told g s at q
  unfolding quick_token_at
  quick_told q e h =
      split_eq (quick_at s at) 0 (λ z. other_told q (e ∙ rw (eq-eqb (quick_at s at) 0 z)) h)
      (λ z.
      let o = quick_next g s at (quick_at s at) refl z in
      let is : q ≡ record { number = quick_at s at / 4; end = at + quick_at s at % 4 } = e ∙ rw (ne_eqb (quick_at s at) 0 z) in
      subst (Told g s at) (sym is) (record { kind = o.kind; number = o.number; past = omega (arith, o.some); reads = o.reads }))
