-- A token read with places counted otherwise is the same token with its places mapped. Assumes nothing.
use Rattle.std.specs.Prelude.{Err, Ok}
use Prim.Native.Nat.{ℕ, zero, suc, ◌+◌, ◌≤◌}
use mathlib.Core.Path.{◌≡◌, refl, sym, ap, ◌∙◌}
use mathlib.Core.List.{List, [], ◌∷◌}
use mathlib.Core.Bool.{true, false}
use mathlib.Core.Logic.{inl, inr, ◌⊎◌, ⊎_elim}
use native.Mathlib.Omega.{arith}
use lib.Dec.{ltb, eqb}
use borrow.Author.Tests.{le-ltb, lt-ltb}
use Rattle.choice.specs.Rule.{Deep, behind_one, first_of, other_of, token_with}
use Rattle.families.proofs.Carried.{NextMoves, byte_moves, char_moves, comment_moves, lands_moves, line_moves, map_found, number_moves, op_moves, str_moves, white_moves, word_moves}
use Rattle.families.proofs.Pairs.{first-both, turn-both}
use Rattle.families.specs.Moves.{Moves, map_read, with_stride}
use Rattle.families.specs.Sane.{Sane}
use Rattle.laws.proofs.Cases.{split}
use Rattle.laws.specs.Bools.{both}
use Rattle.lexer.specs.Next.{close_span, is_shebang, next_of}
use Rattle.readers.proofs.Lands.{Lands, lands_le}
use Rattle.readers.specs.Readers.{byte_of, comment_of, line_of, str_of}
use Rattle.readers.specs.Rules.{Rules}
use Rattle.templates.proofs.Landing.{NextLands, deep_of, token_lands, with_deep}
use Rattle.templates.specs.Body.{go_on, template_body, template_of, template_turn, token_of}
use Rattle.token.specs.Reads.{reached_of, Read, number_in}
use Rattle.token.specs.declared.kind.Kind.TheVariants.{Comment, Shebang}

module _ (R : Rules) (w g : ℕ → ℕ) (sane : Sane R) (sane' : Sane (with_stride R w)) where
  behind_moves : (f f' : List ℕ → ℕ → Read) → NextMoves R w g f f' → NextMoves R w g (behind_one R f) (behind_one (with_stride R w) f')
  behind_moves f f' h [] p m = h [] p m
  behind_moves f f' h (v ∷ cs) p m = ap (f' cs) (sym m.0) ∙ h cs (p + R.stride v) m.1

  abbrev DeepMoves : Deep → Deep → Type 0
  DeepMoves t t' = (a : ℕ) → NextMoves R w g (t a) (t' (g a))

  first_moves : (t t' : Deep) → DeepMoves t t' → (v a : ℕ) → NextMoves R w g (first_of R t v a) (first_of (with_stride R w) t' v (g a))
  unfolding other_of
  first_moves t t' d v a cs p m =
      let op = op_moves R w g v cs p m in
      first-both R (with_stride R w) t t' v a (g a) cs cs p (g p) (λ r r'. r' ≡ map_read g r) (λ c. refl) refl
      (white_moves R w g a cs p m) (λ i. behind_moves (line_of R.stride Comment a) (line_of w Comment (g a)) (line_moves R w g a Comment) cs p m)
      (λ i. behind_moves (comment_of R.stride R.skip a) (comment_of w R.skip (g a)) (comment_moves R w g a) cs p m)
      (λ i. behind_moves (byte_of R.stride a) (byte_of w (g a)) (byte_moves R w g a) cs p m)
      (λ i. behind_moves (str_of R.stride true a) (str_of w true (g a)) (str_moves R w g a true) cs p m)
      (λ i. str_moves R w g a false cs p m) (λ k e q. rw (op ∙ ap (map_found R w g) q) refl) (λ q. op ∙ ap (map_found R w g) q)
      (word_moves R w g sane sane' v a cs p m) (number_moves R w g a v R.exponents cs p m) (char_moves R w g a cs p m) (λ i. d a cs p m) refl

  -- where a template's body is sent: idle at both, or to a place and its image
  abbrev pub Aim : List ℕ → ℕ → ℕ → ℕ → Type 0
  Aim cs p t t' = ((t ≤ p) × (t' ≤ g p)) ⊎ (Lands R cs p t × (t' ≡ g t))

  pub idle : (cs : List ℕ) (p : ℕ) → Aim cs p 0 0
  idle cs p = inl (omega arith, omega arith)

  pub aim_step : (v : ℕ) (cs : List ℕ) (p t t' : ℕ) → Moves R w g (v ∷ cs) p → Aim (v ∷ cs) p t t'
      → ((ltb p t ≡ true) × (ltb (g p) t' ≡ true) × Aim cs (p + R.stride v) t t') ⊎ ((ltb p t ≡ false) × (ltb (g p) t' ≡ false))
  aim_step v cs p t t' m (inl h) = inr (le-ltb p t h.0, le-ltb (g p) t' h.1)
  aim_step v cs p t t' m (inr (inl h, e)) = let k = ap g h in inr (le-ltb p t (omega arith), le-ltb (g p) t' (omega arith))
  aim_step v cs p t t' m (inr (inr h, e)) =
      let k = lands_moves R w g cs (p + R.stride v) t m.1 h in let l = lands_le R cs (p + R.stride v) t h in
      let s = sane.steps v in let s' = sane'.steps v in let q = m.0 in
      inl (lt-ltb p t (omega arith), lt-ltb (g p) t' (omega arith), inr (h, e))

  module _ (next next' : List ℕ → ℕ → Read) (nm : NextMoves R w g next next') (nl : NextLands R next) (a : ℕ) where
    on_moves : (cs : List ℕ) (q : ℕ) (go go' : ℕ → Read) → ((t t' : ℕ) → Aim cs q t t' → go' t' ≡ map_read g (go t)) → (r : Read) → Lands R cs q (reached_of r) → go_on (g a) (map_read g r) go' ≡ map_read g (go_on a r go)
    on_moves cs q go go' u (Ok k) h = u k.span.end (g k.span.end) (inr (h, refl))
    on_moves cs q go go' u (Err r) h = split (eqb (number_in r) 19) (λ e. rw (e, go_on, map_read) refl) (λ e. rw (e, go_on, map_read) (u r.reached (g r.reached) (inr (h, refl))))

    body_moves : (cs : List ℕ) (t t' p l : ℕ) → Moves R w g cs p → Aim cs p t t' → template_body (with_stride R w) next' (g a) t' cs (g p) l ≡ map_read g (template_body R next a t cs p l)
    unfolding template_body
    body_moves [] t t' p l m h = refl
    body_moves (v ∷ cs) t t' p l m h =
        let q = p + R.stride v in
        let go : ℕ → ℕ → Read = λ x m. template_body R next a x cs q m in
        let go' : ℕ → ℕ → Read = λ x m. template_body (with_stride R w) next' (g a) x cs (g q) m in
        ⊎_elim (λ k. rw (k.0, k.1, template_body) (ap (λ (z : ℕ). template_body (with_stride R w) next' (g a) t' cs z l) (sym m.0) ∙ body_moves cs t t' q l m.1 k.2))
        (λ k. rw (k.0, k.1, template_body)
        (ap (λ (z : ℕ). template_turn next' (g a) v cs z l (λ x l'. template_body (with_stride R w) next' (g a) x cs z l')) (sym m.0)
        ∙ turn-both next next' a (g a) v cs cs q (g q) l go go' (λ r r'. r' ≡ map_read g r) (λ i. refl) (λ l'. body_moves cs 0 0 q l' m.1 (idle cs q))
        (ap (λ (r : Read). go_on (g a) r (λ x. go' x l)) (nm cs q m.1) ∙ on_moves cs q (λ x. go x l) (λ x. go' x l) (λ x x' z. body_moves cs x x' q l m.1 z) (next cs q) (nl cs q))))
        (aim_step v cs p t t' m h)

  with_moves : (d : ℕ) → DeepMoves (deep_of R d) (deep_of (with_stride R w) d) → NextMoves R w g (token_of R d) (token_of (with_stride R w) d)
  unfolding token_with
  with_moves d h [] p m = rw (with_deep R d [] p, with_deep (with_stride R w) d [] (g p)) refl
  with_moves d h (v ∷ cs) p m =
      rw (with_deep R d (v ∷ cs) p, with_deep (with_stride R w) d (v ∷ cs) (g p))
      (ap (first_of (with_stride R w) (deep_of (with_stride R w) d) v (g p) cs) (sym m.0) ∙ first_moves (deep_of R d) (deep_of (with_stride R w) d) h v p cs (p + R.stride v) m.1)

  pub token_moves : (d : ℕ) → NextMoves R w g (token_of R d) (token_of (with_stride R w) d)
  unfolding deep_of template_of
  token_moves zero = with_moves 0 (λ a cs p m. refl)
  token_moves (suc d) = with_moves (suc d) (λ a cs p m. body_moves (token_of R d) (token_of (with_stride R w) d) (token_moves d) (token_lands R d) a cs 0 0 p 0 m (idle cs p))

  close_moves : (n : ℕ) (r : Read) → close_span (g n) (map_read g r) ≡ map_read g (close_span n r)
  close_moves n (Ok k) = refl
  close_moves n (Err r) = split (eqb (number_in r) 12) (λ e. rw (e, map_read) refl) (λ e. rw (e, map_read) refl)

  -- a source's first place goes to the first, and no other does
  pub next_moves : (n : ℕ) (cs : List ℕ) (p : ℕ) → eqb (g p) 0 ≡ eqb p 0 → Moves R w g cs p → next_of (with_stride R w) (g n) cs (g p) ≡ map_read g (next_of R n cs p)
  unfolding next_of
  next_moves n cs p z m =
      split (both (eqb p 0) (is_shebang cs))
      (λ e. rw (z, e) (behind_moves (λ ds q. behind_one R (line_of R.stride Shebang p) ds q) (λ ds q. behind_one (with_stride R w) (line_of w Shebang (g p)) ds q)
      (behind_moves (line_of R.stride Shebang p) (line_of w Shebang (g p)) (line_moves R w g p Shebang)) cs p m))
      (λ e. rw (z, e) (ap (close_span (g n)) (token_moves 64 cs p m) ∙ close_moves n (token_of R 64 cs p)))

-- all places moved on by the same
pub moves_shift : (R : Rules) (o : ℕ) (cs : List ℕ) (p : ℕ) → Moves R R.stride (λ x. o + x) cs p
moves_shift R o [] p = tt
moves_shift R o (v ∷ cs) p = (omega arith, moves_shift R o cs (p + R.stride v))
