-- What the list of tokens must know of one token and its painted scalars. Assumes nothing.
use Rattle.std.specs.Prelude.{Err, Ok}
use Prim.Native.Nat.{ℕ, ◌+◌, ◌≤◌, ◌<◌}
use mathlib.Core.Path.{◌≡◌, sym, ap, ◌∙◌, subst}
use mathlib.Core.List.{List, ◌++◌, append_assoc}
use mathlib.Core.Bool.{Bool, true, false}
use mathlib.Core.Logic.{⊎_elim}
use native.Mathlib.Omega.{arith}
use lib.Dec.{eqb}
use lib.ListN.{length}
use Rattle.demands.proofs.Flat.{Const, even_append, even_const, flat_all, flat_append, flat_none, wide_x}
use Rattle.demands.proofs.Marked.{closes_far, first_asks, form_closes, form_inside, form_opens, in_before, in_behind, in_middle, in_plain, opens_far, opens_no_asking, opens_no_bang, opens_some, plain_kind_law}
use Rattle.demands.specs.Plain.{in_bytes, plain_token}
use Rattle.demands.specs.Scalars.{Even, flat}
use Rattle.families.proofs.Ends.{after_append, after_le, next_cut}
use Rattle.families.proofs.Local.{next_local}
use Rattle.families.proofs.Shapes.{next_shaped}
use Rattle.families.proofs.Shown.{token_shown}
use Rattle.families.proofs.Starts.{next_start}
use Rattle.families.specs.Near.{Near}
use Rattle.families.specs.Places.{place_after}
use Rattle.families.specs.Sane.{Sane}
use Rattle.families.specs.Shape.{Framed, Shape, Shaped, mark_after, mark_before, xs}
use Rattle.laws.proofs.Cases.{both_false, never, split}
use Rattle.lexer.specs.Next.{close_span, next_of}
use Rattle.marks.specs.Marks.{close_mark, open_mark}
use Rattle.numbers.specs.Kinds.{has_inside}
use Rattle.outline.specs.Outline.{inside_token}
use Rattle.readers.specs.Rules.{Rules}
use Rattle.templates.specs.Body.{token_of}
use Rattle.text.proofs.Decode.{width_pos}
use Rattle.text.specs.Utf8.{width}
use Rattle.token.specs.Reads.{reached_of, Read, number_in}
use Rattle.token.specs.declared.kind.Kind.{Kind}
use Rattle.token.specs.declared.read.Token.{Token}
use Rattle.marks.specs.Marks as kept

-- rules in bytes are sane where no word starts with a backtick
pub bytes_sane : (R : Rules) → R.start 96 ≡ false → Sane (in_bytes R)
bytes_sane R t = record { steps = width_pos; tick = t }

closed_got : (n : ℕ) (r : Read) (k : Token) → close_span n r ≡ Ok k → r ≡ Ok k
closed_got n (Ok j) k = λ h. h
closed_got n (Err r) k = split (eqb (number_in r) 12) (λ e. rw e (λ h. never (cc))) (λ e. rw e (λ h. never (cc)))

module _ (R : Rules) (n : ℕ) where
  -- a mark before the token: no shebang
  next_marked : (f : Shape) (x : List ℕ) (p : ℕ) → next_of (in_bytes R) n (mark_before f ++ x) p ≡ close_span n (token_of (in_bytes R) 64 (mark_before f ++ x) p)
  unfolding next_of
  next_marked f x p = rw (opens_no_bang f x, both_false (eqb p 0))

  -- m is as the token k says, lo p on
  abbrev pub Agrees : (ℕ → Bool) → ℕ → Token → Type 0
  Agrees m p k = (i : ℕ) → p ≤ i → i < k.span.end → m i ≡ inside_token k i

  pub record Shown (cs : List ℕ) (p : ℕ) (k : Token) : Type 0 where
    pub front : List ℕ
    pub back : List ℕ
    pub shown : List ℕ
    pub whole : cs ≡ front ++ back
    pub ends : place_after width front p ≡ k.span.end
    pub paints : (m : ℕ → Bool) → Agrees m p k → (flat m front p ≡ shown) × Even m front p
    pub reads : (x : List ℕ) → Near back x → next_of (in_bytes R) n (shown ++ x) p ≡ Ok (plain_token k)

  module _ (tick : R.start 96 ≡ false) (cs : List ℕ) (p : ℕ) (k : Token) (e : next_of (in_bytes R) n cs p ≡ Ok k) where
    starts : k.span.start ≡ p
    starts = next_start (in_bytes R) n cs p k e

    -- without an inside: all stays
    plain_shown : has_inside k.kind ≡ false → Shown cs p k
    plain_shown h =
        let c = next_cut (in_bytes R) n cs p in
        let ends : place_after width c.front p ≡ k.span.end = sym c.ends ∙ ap reached_of e in
        let read : next_of (in_bytes R) n (c.front ++ c.back) p ≡ Ok k = ap (λ (l : List ℕ). next_of (in_bytes R) n l p) (sym c.whole) ∙ e in
        let none : (m : ℕ → Bool) → Agrees m p k → Const m c.front p false = λ m a i l u. a i l (omega arith) ∙ in_plain k i h in
        record {
          front = c.front;
          back = c.back;
          shown = c.front;
          whole = c.whole;
          ends = ends;
          paints = λ m a. (flat_none m c.front p (none m a), even_const m c.front p false (none m a));
          reads = λ x d.
              next_local (in_bytes R) (bytes_sane R tick) n c.front c.back x p (ap reached_of read ∙ sym ends) d
              ∙ read ∙ (λ i. Ok (record { kind = sym (plain_kind_law k.kind h) i; span = k.span }));
        }

    module _ (f : Framed (in_bytes R) cs p k) where
      o : List ℕ
      o = mark_before f.shape

      c : List ℕ
      c = mark_after f.shape

      -- the places at which the inside starts and ends
      lo : ℕ
      lo = p + length o

      hi : ℕ
      hi = place_after width f.mid lo

      opens : length (kept.open_mark k.kind) ≡ length o
      unfolding o
      opens = ap (λ (x : Kind). length (kept.open_mark x)) f.kind ∙ ap length (form_opens f.shape)

      closes : length (kept.close_mark k.kind) ≡ length c
      unfolding c
      closes = ap (λ (x : Kind). length (kept.close_mark x)) f.kind ∙ ap length (form_closes f.shape)

      marked : p < k.span.start + length (kept.open_mark k.kind)
      unfolding o
      marked = omega (arith, opens, starts, opens_some f.shape)

      at_lo : place_after width o p ≡ lo
      unfolding o lo
      at_lo = opens_far f.shape p

      ends_hi : hi + length c ≡ k.span.end
      unfolding hi lo o c
      ends_hi =
          sym (closes_far f.shape (place_after width f.mid (p + length (mark_before f.shape))))
          ∙ (λ i. place_after width (mark_after f.shape) (place_after width f.mid (sym (opens_far f.shape p) i)))
          ∙ sym f.ends

      insides : has_inside k.kind ≡ true
      insides = ap (λ (x : Kind). has_inside x) f.kind ∙ form_inside f.shape

      lo_hi : lo ≤ hi
      unfolding hi
      lo_hi = after_le width f.mid lo

      abbrev parts : List ℕ → List ℕ
      parts x = o ++ (x ++ c)

      joins : (x y : List ℕ) → parts x ++ y ≡ o ++ (x ++ (c ++ y))
      joins x y = append_assoc o (x ++ c) y ∙ ap (λ (l : List ℕ). o ++ l) (append_assoc x c y)

      ends_all : place_after width (parts f.mid) p ≡ k.span.end
      unfolding hi c
      ends_all =
          after_append width o (f.mid ++ c) p
          ∙ after_append width f.mid c (place_after width o p)
          ∙ ap (λ (z : ℕ). place_after width c (place_after width f.mid z)) at_lo
          ∙ closes_far f.shape hi
          ∙ ends_hi

      paints : (m : ℕ → Bool) → Agrees m p k → (flat m (parts f.mid) p ≡ parts (xs (place_after width f.mid 0))) × Even m (parts f.mid) p
      unfolding hi lo c
      paints m a =
          let s = starts in
          let l = opens in
          let r = closes in
          let t = ends_hi in
          let b = lo_hi in
          let d = at_lo in
          let g = closes_far f.shape hi in
          let mark : Const m o p false = λ i h u. a i h (omega arith) ∙ in_before k i (omega arith) in
          let middle : Const m f.mid lo true = λ i h u. a i (omega arith) (omega arith) ∙ in_middle k i insides (omega arith) (omega arith) in
          let shut : Const m c hi false = λ i h u. a i (omega arith) (omega arith) ∙ in_behind k i (omega arith) in
          let last : flat m (f.mid ++ c) lo ≡ xs (place_after width f.mid 0) ++ c =
          flat_append m f.mid c lo ∙ (λ i. flat_all m f.mid lo middle i ++ flat_none m c hi shut i) in
          let rests : Even m (f.mid ++ c) lo = even_append m f.mid c lo (even_const m f.mid lo true middle) (even_const m c hi false shut) in (
            flat_append m o (f.mid ++ c) p ∙ (λ i. flat_none m o p mark i ++ flat m (f.mid ++ c) (d i)) ∙ ap (λ (x : List ℕ). o ++ x) last,
            even_append m o (f.mid ++ c) p (even_const m o p false mark) (subst (λ (z : ℕ). Even m (f.mid ++ c) z) (sym d) rests),
          )

      frame_shown : Shown cs p k
      unfolding o c
      frame_shown =
          let B = in_bytes R in
          let j = place_after width f.mid 0 in
          let read : token_of B 64 cs p ≡ Ok k =
          closed_got n (token_of B 64 cs p) k
          (ap (λ (l : List ℕ). close_span n (token_of B 64 l p)) f.whole ∙ sym (next_marked f.shape (f.mid ++ (mark_after f.shape ++ f.back)) p) ∙ ap (λ (l : List ℕ). next_of B n l p) (sym f.whole) ∙ e) in
          record {
            front = parts f.mid;
            back = f.back;
            shown = parts (xs j);
            whole = f.whole ∙ sym (joins f.mid f.back);
            ends = ends_all;
            paints = paints;
            reads = λ x d.
                ap (λ (l : List ℕ). next_of B n l p) (joins (xs j) x)
                ∙ next_marked f.shape (xs j ++ (mark_after f.shape ++ x)) p
                ∙ ap (close_span n) (token_shown B (bytes_sane R tick) wide_x 63 cs p k read f x d);
          }

    pub next_shown : Shown cs p k
    next_shown = ⊎_elim plain_shown frame_shown (subst (λ (r : Read). Shaped (in_bytes R) cs p r) e (next_shaped (in_bytes R) n cs p))

    -- the first scalar is not inside, and neither is any of a token that starts with a `.` or a sign
    pub first_out : inside_token k p ≡ false
    first_out =
        ⊎_elim (in_plain k p)
        (λ f. in_before k p (marked f))
        (subst (λ (r : Read). Shaped (in_bytes R) cs p r) e (next_shaped (in_bytes R) n cs p))

    pub asks_plain : first_asks cs ≡ true → (i : ℕ) → inside_token k i ≡ false
    asks_plain d i =
        ⊎_elim (in_plain k i)
        (λ f. never (let z = sym d ∙ ap first_asks f.whole ∙ opens_no_asking f.shape (f.mid ++ (mark_after f.shape ++ f.back)) in cc))
        (subst (λ (r : Read). Shaped (in_bytes R) cs p r) e (next_shaped (in_bytes R) n cs p))
