-- Templates one inside the other are read up to 64 deep, and refused from the 65th on. Assumes nothing.
use Rattle.token.specs.declared.reason.Reason.TheVariants.{TooDeep}
use Prim.Native.Nat.{ℕ, zero, suc, ◌+◌, ◌*◌, ◌≤◌, ◌<◌}
use mathlib.Core.Path.{◌≡◌, refl, sym, ap, ◌∙◌}
use mathlib.Core.List.{List, [], ◌∷◌, ◌++◌, append_assoc, append-nil}
use mathlib.Core.Bool.{true}
use native.Mathlib.Omega.{arith}
use lib.Seq.{drop_at, drop-drop}
use lib.ListN.{drop, length, length-append}
use borrow.Author.Tests.{le-leb}
use Rattle.families.proofs.Starred.{all_read, answer_by, reads, refuses, shown_of}
use Rattle.families.proofs.Steps.{next_end, tokens_fin, tokens_halt, tokens_more}
use Rattle.lexer.specs.Next.{close_span, next_at, next_of}
use Rattle.numbers.specs.Kinds.{number_of}
use Rattle.readers.specs.Rules.{rules_of}
use Rattle.readers.specs.declared.reading.Reading.{Reading}
use Rattle.templates.proofs.Landing.{deep_of}
use Rattle.templates.proofs.Turns.{after_deep, after_got, body_close, token_deep}
use Rattle.templates.specs.Body.{template_of, token_of}
use Rattle.text.proofs.Decode.{Step, rest_end, step_first}
use Rattle.text.specs.Utf8.{first, lead_of, rest}
use Rattle.token.specs.Reads.{got_of, refused_of, Read}
use Rattle.token.specs.declared.kind.Kind.TheVariants.{Template}

-- a template with k more inside, each opened after a backslash in the one before and closed
unfoldable pub nested : ℕ → List ℕ
nested zero = 96 ∷ 96 ∷ []
nested (suc k) = 96 ∷ (92 ∷ (nested k ++ (96 ∷ [])))

nested_long : (n : ℕ) → length (nested n) ≡ 3 * n + 2
unfolding nested
nested_long zero = refl
nested_long (suc n) = rw (length-append, nested_long n) (omega arith)

module _ (g : Reading) (s : List ℕ) where
  -- a mark of the source, and the bytes behind a part of it
  mark_step : (v p : ℕ) (x : List ℕ) → v ≤ 0x7f → drop p s ≡ v ∷ x → Step s p v (p + 1)
  unfolding first lead_of
  mark_step v p x h e = step_first s p v 0 (rw (e, le-leb v 0x7f h))

  behind : (a x : List ℕ) (p n : ℕ) → length a ≡ n → drop p s ≡ a ++ x → drop (p + n) s ≡ x
  behind a x p n h e = sym (drop-drop n p s) ∙ ap (drop n) e ∙ drop_at a x n h

  module _ (p : ℕ) (x : List ℕ) where
    open_step : (n : ℕ) → drop p s ≡ nested n ++ x → Step s p 96 (p + 1)
    unfolding nested
    open_step zero e = mark_step 96 p (96 ∷ x) (omega arith) e
    open_step (suc n) e = mark_step 96 p (92 ∷ ((nested n ++ (96 ∷ [])) ++ x)) (omega arith) e

    module _ (n : ℕ) (e : drop p s ≡ nested (suc n) ++ x) where
      slash_there : drop (p + 1) s ≡ 92 ∷ ((nested n ++ (96 ∷ [])) ++ x)
      unfolding nested
      slash_there = behind (96 ∷ []) (92 ∷ ((nested n ++ (96 ∷ [])) ++ x)) p 1 refl e

      slash_step : Step s (p + 1) 92 (p + 1 + 1)
      slash_step = mark_step 92 (p + 1) ((nested n ++ (96 ∷ [])) ++ x) (omega arith) slash_there

      inside : drop (p + 1 + 1) s ≡ nested n ++ (96 ∷ x)
      inside = behind (92 ∷ []) ((nested n ++ (96 ∷ [])) ++ x) (p + 1) 1 refl slash_there ∙ append_assoc (nested n) (96 ∷ []) x

  -- where d templates may open, one with fewer than d more inside it is read whole
  read_nested : (d n p : ℕ) (x : List ℕ) → drop p s ≡ nested n ++ x → n < d → got_of (Template true) p (p + (3 * n + 2)) ≡ token_of (rules_of g) d (rest s p) p
  unfolding nested deep_of template_of
  read_nested zero n p x e h = absurd (omega arith)
  read_nested (suc d) zero p x e h =
      ap (got_of (Template true) p) (omega arith)
      ∙ body_close g (token_of (rules_of g) d) p s (p + 1) 0 96 (p + 1 + 1) (mark_step 96 (p + 1) x (omega arith) (behind (96 ∷ []) (96 ∷ x) p 1 refl e)) refl refl
      ∙ token_deep g (suc d) s p 96 (p + 1) (open_step p x zero e) refl
  read_nested (suc d) (suc n) p x e h =
      let q = p + 1 + 1 + (3 * n + 2) in
      let i = inside p x n e in
      let close = mark_step 96 q x (omega arith) (behind (nested n) (96 ∷ x) (p + 1 + 1) (3 * n + 2) (nested_long n) i) in
      ap (got_of (Template true) p) (omega arith)
      ∙ body_close g (token_of (rules_of g) d) p s q 0 96 (q + 1) close refl refl
      ∙ after_got g d p s (p + 1) 0 92 (p + 1 + 1) (slash_step p x n e) refl (got_of (Template true) (p + 1 + 1) q) (read_nested d n (p + 1 + 1) (96 ∷ x) i (omega arith)) _ refl
      ∙ token_deep g (suc d) s p 96 (p + 1) (open_step p x (suc n) e) refl

  -- .. and one with d or more is refused up to after the backtick of the one too many
  refuse_nested : (d n p : ℕ) (x : List ℕ) → drop p s ≡ nested n ++ x → d ≤ n → refused_of TooDeep p (p + (2 * d + 1)) (p + (2 * d + 1)) ≡ token_of (rules_of g) d (rest s p) p
  unfolding deep_of template_of
  refuse_nested zero n p x e h = token_deep g 0 s p 96 (p + 1) (open_step p x n e) refl
  refuse_nested (suc d) zero p x e h = absurd (omega arith)
  refuse_nested (suc d) (suc n) p x e h =
      let q = p + 1 + 1 + (2 * d + 1) in
      ap (λ (z : ℕ). refused_of TooDeep p z z) (omega arith)
      ∙ after_deep g d p s (p + 1) 0 92 (p + 1 + 1) (slash_step p x n e) refl (refused_of TooDeep (p + 1 + 1) q q) (refuse_nested d n (p + 1 + 1) (96 ∷ x) (inside p x n e) (omega arith)) _ refl refl
      ∙ token_deep g (suc d) s p 96 (p + 1) (open_step p x (suc n) e) refl

module _ (g : Reading) (n : ℕ) where
  whole : drop 0 (nested n) ≡ nested n ++ []
  whole = sym (append-nil (nested n))

  -- no shebang starts with a backtick
  next_nested : (r : Read) → r ≡ token_of (rules_of g) 64 (rest (nested n) 0) 0 → next_at g (nested n) 0 ≡ close_span (length (nested n)) r
  unfolding next_at next_of
  next_nested r e = rw (e, (open_step g (nested n) 0 [] n whole).here)

  -- with n more inside it, fewer than 64, a template is read whole
  pub depth_read : n < 64 → answer_by g (nested n) ≡ reads 16 0 (3 * n + 2) all_read
  unfolding shown_of number_of
  depth_read h =
      let s = nested n in
      let e = 3 * n + 2 in
      let first = next_nested (got_of (Template true) 0 e) (ap (got_of (Template true) 0) (omega arith) ∙ read_nested g s 64 n 0 [] whole h) in
      let l = nested_long n in
      rw (tokens_more g s 0 (next_at g s 0) refl _ first (λ z. omega arith), tokens_fin g s e (next_at g s e) refl _ (next_end g s e (rest_end s e (omega arith))) refl)

  -- with 64 or more, it is refused with 19 up to after the backtick of the 65th
  pub depth_refused : 64 ≤ n → answer_by g (nested n) ≡ refuses 19 0 129
  unfolding shown_of
  depth_refused h =
      let s = nested n in
      rw (tokens_halt g s 0 (next_at g s 0) refl _ (next_nested (refused_of TooDeep 0 129 129) (refuse_nested g s 64 n 0 [] whole h)))
