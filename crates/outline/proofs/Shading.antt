-- Painting piece by piece, as the code does: what is left to paint, written after what is painted, gives the buffer. Assumes nothing.
use Rattle.std.specs.Prelude.{Err, Ok, None, Option, Some}
use Rattle.token.specs.declared.reason.Reason.TheVariants.{NoRoom}
use Prim.Native.Nat.{ℕ, suc, ◌+◌, ◌-◌, ◌≤◌, ◌<◌}
use mathlib.Core.Path.{◌≡◌, refl, sym, ap, ◌∙◌}
use mathlib.Core.List.{List, [], ◌∷◌, ◌++◌}
use mathlib.Core.Bool.{Bool, true, false}
use native.Mathlib.Omega.{arith}
use native.Mathlib.Numerals.{add-one}
use lib.Dec.{leb, ltb}
use lib.Seq.{drop-append-le, length-slice, length-take-le, sets, slice, slice-cons, take-length}
use lib.ListN.{drop, drop_of_length-le, get_or, length, set, take, take-append-drop}
use borrow.Author.Tests.{le-leb, le-ltb, lt-leb, lt-ltb, ltb-false, ltb-true}
use Rattle.families.proofs.Steps.{tokens_fin, tokens_halt, tokens_more, tokens_past, tokens_room, tokens_start}
use Rattle.families.specs.Tokens.{tokens_at}
use Rattle.laws.proofs.Cases.{split}
use Rattle.laws.proofs.Sets.{sets_append}
use Rattle.laws.specs.Bools.{both, pick}
use Rattle.lexer.specs.Next.{next_at}
use Rattle.marks.specs.Marks.{close_mark, open_mark}
use Rattle.numbers.specs.Kinds.{has_inside}
use Rattle.outline.specs.Covered.{covered, covers}
use Rattle.outline.specs.declared.Inside.{Inside}
use Rattle.outline.specs.Outline.{between, inside_at, inside_token, outline_answer, outline_of, outline_written, outlined, paint}
use Rattle.readers.specs.Rules.{rules_of}
use Rattle.readers.specs.declared.reading.Reading.{Reading}
use Rattle.source_test.specs.Source.{after_test, source_test}
use Rattle.token.specs.Reads.{point_refusal, Read, Tested}
use Rattle.token.specs.declared.read.Refusal.{Refusal}
use Rattle.token.specs.declared.read.Token.{Token}

pub paint_length : (m : ℕ → Bool) (s : List ℕ) (p : ℕ) → length (paint m s p) ≡ length s
unfolding paint
paint_length m [] p = refl
paint_length m (b ∷ s) p = ap suc (paint_length m s (suc p))

pub paint_ext : (m m' : ℕ → Bool) (s : List ℕ) (p : ℕ) → ((i : ℕ) → p ≤ i → i < p + length s → m i ≡ m' i) → paint m s p ≡ paint m' s p
unfolding paint
paint_ext m m' [] p h = refl
paint_ext m m' (b ∷ s) p h = (λ j. pick (h p (omega arith) (omega arith) j) 0x78 b ∷ paint_ext m m' s (suc p) (λ i l u. h i (omega arith) (omega arith)) j)

paint_append : (m : ℕ → Bool) (a b : List ℕ) (p : ℕ) → paint m (a ++ b) p ≡ paint m a p ++ paint m b (p + length a)
unfolding paint
paint_append m [] b p = let e : p ≡ p + 0 = omega arith in ap (paint m b) e
paint_append m (x ∷ a) b p =
    let e : suc p + length a ≡ p + suc (length a) = omega arith in
    ap (λ (l : List ℕ). pick (m p) 0x78 x ∷ l) (paint_append m a b (suc p) ∙ ap (λ (z : ℕ). paint m a (suc p) ++ paint m b z) e)

pub fill_one : (m : ℕ → Bool) (b s : List ℕ) (i e : ℕ) (v : ℕ) → i < e → e ≤ length s → v ≡ pick (m i) 0x78 (get_or s i 0)
    → sets (set b i v) (i + 1) (paint m (slice (i + 1) e s) (i + 1)) ≡ sets b i (paint m (slice i e s) i)
unfolding paint
fill_one m b s i e v h k g = rw (slice-cons i e s 0 h k, ← g) (ap (λ (j : ℕ). sets (set b i v) j (paint m (slice j e s) j)) (add-one i))

pub fill_none : (m : ℕ → Bool) (b s : List ℕ) (i e : ℕ) → e ≤ i → e ≤ length s → b ≡ sets b i (paint m (slice i e s) i)
unfolding paint
fill_none m b s i e h k = let l = length-take-le e s k in let z : length (take e s) ≤ i = omega arith in rw (drop_of_length-le (take e s) z) refl

pub left_of : (i kept e : ℕ) → i < e → ltb kept (e - i) ≡ ltb (i + kept) e
left_of i kept e h =
    split (ltb (i + kept) e) (λ k. lt-ltb kept (e - i) (let z = ltb-true (i + kept) e k in omega arith) ∙ sym k) (λ k. le-ltb kept (e - i) (let z = ltb-false (i + kept) e k in omega arith) ∙ sym k)

pub covers_left : (x : Option Inside) (i e : ℕ) → i < e → covered x i (e - i) ≡ covers x e i
covers_left None i e h = refl
covers_left (Some x) i e h = ap (both (leb x.lo i)) (left_of i x.kept e h)

cut : (s : List ℕ) (a e : ℕ) → a ≤ e → e ≤ length s → drop a s ≡ slice a e s ++ drop e s
cut s a e h k = let l = length-take-le e s k in ap (drop a) (sym (take-append-drop e s)) ∙ drop-append-le a (take e s) (drop e s) (omega arith)

-- a piece up to e, and what is left
piece : (m m' m'' : ℕ → Bool) (s b : List ℕ) (a e : ℕ) → a ≤ e → e ≤ length s → ((i : ℕ) → a ≤ i → i < e → m i ≡ m' i) → ((i : ℕ) → e ≤ i → m i ≡ m'' i)
    → sets (sets b a (paint m' (slice a e s) a)) e (paint m'' (drop e s) e) ≡ sets b a (paint m (drop a s) a)
piece m m' m'' s b a e h k f g =
    let l = length-slice a e s k in
    let z : a + length (slice a e s) ≡ e = omega arith in
    let z' : a + length (paint m (slice a e s) a) ≡ e = omega (arith, paint_length m (slice a e s) a) in
    sym
    (ap (λ (x : List ℕ). sets b a (paint m x a)) (cut s a e h k)
    ∙ ap (sets b a) (paint_append m (slice a e s) (drop e s) a)
    ∙ sym (sets_append b (paint m (slice a e s) a) (paint m (drop e s) (a + length (slice a e s))) a (a + length (paint m (slice a e s) a)) refl)
    ∙ (λ j. sets (sets b a (paint_ext m m' (slice a e s) a (λ i u v. f i u (omega arith)) j)) (z' j) (paint m (drop e s) (z j)))
    ∙ ap (sets (sets b a (paint m' (slice a e s) a)) e) (paint_ext m m'' (drop e s) e (λ i u v. g i u)))

-- what is left to paint from a place on, in the buffer b
abbrev pub shade_from : Reading → List ℕ → ℕ → List ℕ → List ℕ
shade_from g s at b = sets b at (paint (inside_at (tokens_at (rules_of g) s at)) (drop at s) at)

pub record Shaded (g : Reading) (s b₀ b : List ℕ) (at : ℕ) : Type 0 where
  pub buffer : shade_from g s at b ≡ shade_from g s 0 b₀
  pub answers : outline_answer (tokens_at (rules_of g) s at) ≡ outline_answer (tokens_at (rules_of g) s 0)
  pub in_source : at ≤ length s
  pub same : length b ≡ length b₀
  pub fits : length s ≤ length b₀

pub shaded_first : (g : Reading) (s b : List ℕ) → length s ≤ length b → Shaded g s b b 0
shaded_first g s b h = record { buffer = refl; answers = refl; in_source = omega arith; same = refl; fits = h }

module _ (g : Reading) (s b₀ b : List ℕ) (at : ℕ) (h : Shaded g s b₀ b at) where
  abbrev Done : Tested → List ℕ → Type 0
  Done x b' = (x ≡ outline_answer (tokens_at (rules_of g) s 0)) × (b' ≡ sets b₀ 0 (outlined (rules_of g) s))

  -- what is left is copied
  finish : (x : Tested) (b' : List ℕ) → b' ≡ sets b at (paint (between false 0 0 (length s)) (slice at (length s) s) at) → outline_answer (tokens_at (rules_of g) s at) ≡ x
      → ((i : ℕ) → inside_at (tokens_at (rules_of g) s at) i ≡ false) → Done x b'
  unfolding outlined
  finish x b' e a n = (
    sym a ∙ h.answers,
    e ∙ ap (λ (l : List ℕ). sets b at (paint (between false 0 0 (length s)) l at)) (ap (drop at) (take-length s))
        ∙ ap (sets b at) (paint_ext (between false 0 0 (length s)) (inside_at (tokens_at (rules_of g) s at)) (drop at s) at (λ i l u. sym (n i))) ∙ h.buffer,
  )

  module _ (r : Read) (er : r ≡ next_at g s at) where
    pub shade_halt : (k : Refusal) → r ≡ Err k → (b' : List ℕ) → b' ≡ sets b at (paint (between false 0 0 (length s)) (slice at (length s) s) at) → Done (Err k) b'
    unfolding outline_answer inside_at
    shade_halt k e b' q = let t = tokens_halt g s at r er k e in finish (Err k) b' q (rw t) (λ i. rw t)

    module _ (k : Token) (e : r ≡ Ok k) where
      pub shade_fin : k.span.end ≡ at → (b' : List ℕ) → b' ≡ sets b at (paint (between false 0 0 (length s)) (slice at (length s) s) at) → Done (Ok tt) b'
      unfolding outline_answer inside_at
      shade_fin z b' q = let t = tokens_fin g s at r er k e z in finish (Ok tt) b' q (rw t) (λ i. rw t)

      module _ (z : k.span.end ≡ at → ⊥) where
        pub shade_past : at < k.span.end
        shade_past = tokens_past g s at r er k e z

        pub shade_room : k.span.end ≤ length s
        shade_room = tokens_room g s at r er k e z

        pub shade_more : (inside : Bool) (lo kept : ℕ) → inside ≡ has_inside k.kind → lo ≡ at + length (open_mark k.kind) → kept ≡ length (close_mark k.kind)
            → (b' : List ℕ) → length b' ≡ length b → b' ≡ sets b at (paint (between inside lo kept k.span.end) (slice at k.span.end s) at) → Shaded g s b₀ b' k.span.end
        unfolding outline_answer inside_at inside_token
        shade_more inside lo kept ei el es b' len q =
            let end = k.span.end in
            let t = tokens_more g s at r er k e z in
            let st = tokens_start g s at r er k e in
            let past = shade_past in
            record {
              buffer =
                  ap (λ (x : List ℕ). sets x end (paint (inside_at (tokens_at (rules_of g) s end)) (drop end s) end)) q
                  ∙ piece (inside_at (tokens_at (rules_of g) s at)) (between inside lo kept end) (inside_at (tokens_at (rules_of g) s end)) s b at end (omega arith) shade_room
                  (λ i u v. rw (t, lt-ltb i end v, inside_at) (λ j. both (sym ei j) (both (leb ((ap (λ (x : ℕ). x + length (open_mark k.kind)) st ∙ sym el) j) i) (ltb (i + sym es j) end))))
                  (λ i u. rw (t, le-ltb i end u, inside_at))
                  ∙ h.buffer;
              answers = sym (rw t) ∙ h.answers;
              in_source = shade_room;
              same = len ∙ h.same;
              fits = h.fits;
            }

-- one byte's test, as the code makes it
module _ (b : ℕ) (inside : Bool) (i lo kept left : ℕ) where
  pub shade_in : inside ≡ true → lo ≤ i → kept < left → 0x78 ≡ pick (both inside (both (leb lo i) (ltb kept left))) 0x78 b
  shade_in e h k = sym (simp (e, le-leb lo i h, lt-ltb kept left k))

  pub shade_behind : inside ≡ true → lo ≤ i → left ≤ kept → b ≡ pick (both inside (both (leb lo i) (ltb kept left))) 0x78 b
  shade_behind e h k = sym (simp (e, le-leb lo i h, le-ltb kept left k))

  pub shade_before : inside ≡ true → i < lo → b ≡ pick (both inside (both (leb lo i) (ltb kept left))) 0x78 b
  shade_before e h = sym (simp (e, lt-leb lo i h))

pub by_test : (g : Reading) (s : List ℕ) (room : ℕ) (t : Tested) → t ≡ source_test s
    → (outline_of g s room ≡ after_test t (pick (ltb room (length s)) (Err (point_refusal NoRoom 0)) (outline_answer (tokens_at (rules_of g) s 0))) Err)
    × (outline_written g s room ≡ after_test t (pick (ltb room (length s)) [] (outlined (rules_of g) s)) (λ r. []))
unfolding outline_of outline_written
by_test g s room t e = (rw (← e, outline_of), rw (← e, outline_written))
