-- A list in the mode in which the first close ends a comment that is safe to switch is rune's list too. Assumes nothing.
use Rattle.std.specs.Prelude.{Err, Ok}
use Prim.Native.Nat.{ℕ, zero, suc, ◌+◌, ◌≤◌, ◌<◌}
use mathlib.Core.Path.{◌≡◌, refl, sym, ap, ◌∙◌}
use mathlib.Core.List.{List, [], ◌∷◌, map}
use mathlib.Core.Bool.{Bool, true, false, not}
use native.Mathlib.Omega.{arith}
use lib.Dec.{ltb, eqb}
use lib.ListN.{length}
use borrow.Author.Tests.{eqb-true, le-ltb, leb-true, lt-ltb, ltb-true}
use Rattle.choice.specs.Rule.{behind_one, first_of, left_of, next_is, other_of, token_with}
use Rattle.classes.specs.Classes.{white_space, xid_continue, xid_start}
use Rattle.families.proofs.Cover.{by_read}
use Rattle.families.proofs.Depth.{nested}
use Rattle.families.proofs.Pairs.{bang_same, behind_same, first-both, turn-both}
use Rattle.families.proofs.Sooner.{late_same, open_same}
use Rattle.families.proofs.Steps.{next_end, tokens_fin, tokens_halt, tokens_more, tokens_past_step, tokens_start}
use Rattle.families.specs.Switch.{steady, switch_safe, switchable, text_of, unslashed, up_to}
use Rattle.families.specs.Tokens.{Tokens, fin, halt, more, tokens_at, tokens_of}
use Rattle.laws.proofs.Cases.{both_inv, never, split, split_eq}
use Rattle.laws.specs.Bools.{both}
use Rattle.laws.specs.Tables.{in_ranges}
use Rattle.lexer.specs.Next.{close_span, is_shebang, next_at, next_of}
use Rattle.numbers.specs.Kinds.{number_of}
use Rattle.operators.specs.Operators.{find_one, find_three, find_two, look_one, look_three, look_two, ones, operator_of, threes, twos}
use Rattle.readers.proofs.Lands.{lands_le}
use Rattle.readers.specs.Readers.{byte_of, char_of, char_step, comment_end, comment_of, comment_step, line_of, run, str_of, white_of, word_of}
use Rattle.readers.specs.Rules.{Rules, first_close, rules_of, rune}
use Rattle.readers.specs.Scan.{scan}
use Rattle.templates.proofs.Landing.{NextLands, body_consumes, body_lands, deep_of, token_lands, with_deep}
use Rattle.templates.specs.Body.{down, go_on, template_body, template_of, template_turn, token_of, up}
use Rattle.text.proofs.Decode.{by_step, width_pos}
use Rattle.text.specs.Utf8.{decode, first, from, lead_of, rest, width}
use Rattle.token.specs.Reads.{point_of, reached_of, Read, number_in}
use Rattle.token.specs.declared.kind.Kind.TheVariants.{Comment, Eof}
use Rattle.token.specs.declared.read.Refusal.{Refusal}
use Rattle.token.specs.declared.read.Token.{Token}

-- of scalars some of which stand before e, the first does
up_some : (n v : ℕ) (cs : List ℕ) (p e : ℕ) → suc n ≤ length (up_to (v ∷ cs) p e) → (p < e) × (n ≤ length (up_to cs (p + width v) e))
unfolding up_to
up_some n v cs p e = split (ltb p e) (λ i. rw (i, up_to) (λ h. (ltb-true p e i, (omega arith)))) (λ i. rw (i, up_to) (λ h. absurd (omega arith)))

up_one : (v : ℕ) (cs : List ℕ) (p e : ℕ) → p < e → up_to (v ∷ cs) p e ≡ v ∷ up_to cs (p + width v) e
unfolding up_to
up_one v cs p e h = rw (lt-ltb p e h, up_to) refl

-- a comment's scalars after its opening: where the first close ends it, and four stand before that end, two passed over change nothing
inside_same : (cs : List ℕ) (p : ℕ) → 4 ≤ length (up_to cs p (comment_end width 0 cs p).end) → comment_end width 2 cs p ≡ comment_end width 0 cs p
unfolding up_to
inside_same [] p h = absurd (omega arith)
inside_same (u ∷ []) p h = absurd (let a = (up_some 3 u [] p (comment_end width 0 (u ∷ []) p).end h).1 in omega arith)
inside_same (u ∷ (v ∷ [])) p h =
    let e = (comment_end width 0 (u ∷ (v ∷ [])) p).end in
    absurd (let a = (up_some 2 v [] (p + width u) e (up_some 3 u (v ∷ []) p e h).1).1 in omega arith)
inside_same (u ∷ (v ∷ (x ∷ []))) p h =
    let e = (comment_end width 0 (u ∷ (v ∷ (x ∷ []))) p).end in
    absurd (let a = (up_some 1 x [] (p + width u + width v) e (up_some 2 v (x ∷ []) (p + width u) e (up_some 3 u (v ∷ (x ∷ [])) p e h).1).1).1 in omega arith)
inside_same (u ∷ (v ∷ (x ∷ (y ∷ cs)))) p h =
    let e = (comment_end width 0 (u ∷ (v ∷ (x ∷ (y ∷ cs)))) p).end in
    let a = (up_some 1 x (y ∷ cs) (p + width u + width v) e (up_some 2 v (x ∷ (y ∷ cs)) (p + width u) e (up_some 3 u (v ∷ (x ∷ (y ∷ cs))) p e h).1).1).1 in
    late_same width u v x (y ∷ cs) p (up_some 0 y cs (p + width u + width v + width x) e a).0

-- what a token or a refusal has to keep: cs are the scalars from its start p on
abbrev Steady : List ℕ → ℕ → Read → Type 0
Steady cs p (Ok k) = steady (number_of k.kind) (up_to cs p k.span.end) ≡ true
Steady cs p (Err r) = not (eqb (number_in r) 19) ≡ true

comment_same : (v w : ℕ) (cs : List ℕ) (p : ℕ) → let q = p + width v + width w in
    Steady (v ∷ (w ∷ cs)) p (comment_of width 0 p cs q) → comment_of width 2 p cs q ≡ comment_of width 0 p cs q
unfolding comment_of steady number_of
comment_same v w cs p = by_close (comment_end width 0 cs q).closed refl
  where
    q : ℕ
    q = p + width v + width w

    of_end : comment_end width 2 cs q ≡ comment_end width 0 cs q → comment_of width 2 p cs q ≡ comment_of width 0 p cs q
    of_end e = rw e

    by_close : (c : Bool) → (comment_end width 0 cs q).closed ≡ c → Steady (v ∷ (w ∷ cs)) p (comment_of width 0 p cs q) → comment_of width 2 p cs q ≡ comment_of width 0 p cs q
    by_close true e h =
        let z = (comment_end width 0 cs q).end in
        let a = leb-true 6 (length (up_to (v ∷ (w ∷ cs)) p z)) (rw e at h) in
        of_end (inside_same cs q (up_some 4 w cs (p + width v) z (up_some 5 v (w ∷ cs) p z a).1).1)
    by_close false e h = of_end (open_same width 0 2 (omega arith) cs q e)

-- what a template's reader answers: a template, or 19
abbrev pub Templated : Read → Type 0
Templated (Ok k) = number_of k.kind ≡ 16
Templated (Err r) = number_in r ≡ 19

module _ (R : Rules) (next : List ℕ → ℕ → Read) (a : ℕ) where
  on_templated : (r : Read) (go : ℕ → Read) → ((t : ℕ) → Templated (go t)) → Templated (go_on a r go)
  on_templated (Ok k) go g = g k.span.end
  on_templated (Err r) go g = split (eqb (number_in r) 19) (λ e. rw (e, Templated) refl) (λ e. rw (e, Templated) (g r.reached))

  pub body_templated : (t : ℕ) (cs : List ℕ) (p l : ℕ) → Templated (template_body R next a t cs p l)
  unfolding template_body number_of
  body_templated t [] p l = refl
  body_templated t (v ∷ cs) p l =
      let q = p + R.stride v in
      let go : ℕ → ℕ → Read = λ t' l'. template_body R next a t' cs q l' in
      split (ltb p t) (λ h. rw (h, template_body) (body_templated t cs q l))
      (λ h. rw (h, template_body) (turn-both next next a a v cs cs q q l go go (λ r r'. Templated r) (λ i. refl) (λ m. body_templated 0 cs q m) (on_templated (next cs q) (λ t'. go t' l) (λ t'. body_templated t' cs q l))))

-- a body without a backslash is read the same, whatever reads the tokens after one
module _ (next next' : List ℕ → ℕ → Read) (lands : NextLands (rules_of first_close) next) (a : ℕ) (k : Token) where
  turn_same : (v : ℕ) (cs : List ℕ) (p l : ℕ) (go go' : ℕ → ℕ → Read) → eqb v 92 ≡ false → ((m : ℕ) → go 0 m ≡ Ok k → go' 0 m ≡ Ok k)
      → template_turn next a v cs p l go ≡ Ok k → template_turn next' a v cs p l go' ≡ Ok k
  unfolding template_turn
  turn_same v cs p l go go' s g =
      split (eqb v 96) (λ h. split (eqb l 0) (λ i. rw (h, i, template_turn) (λ e. e)) (λ i. rw (h, i, template_turn) (g l)))
      (λ h. split (eqb v 123) (λ i. rw (h, i, template_turn) (g (up l)))
      (λ i. split (eqb v 125) (λ j. rw (h, i, j, template_turn) (g (down l))) (λ j. rw (h, i, j, s, template_turn) (g l))))

  body_same : (cs : List ℕ) (p l : ℕ) → unslashed (up_to cs p k.span.end) ≡ true → template_body (rules_of first_close) next a 0 cs p l ≡ Ok k → template_body (rules_of rune) next' a 0 cs p l ≡ Ok k
  unfolding template_body unslashed
  body_same [] p l u e = e
  body_same (v ∷ cs) p l u e =
      let q = p + width v in
      let w = width_pos v in
      let z = lands_le (rules_of first_close) cs q (reached_of (template_body (rules_of first_close) next a 0 (v ∷ cs) p l)) (body_consumes (rules_of first_close) next lands a 0 v cs p l) in
      let y : q ≤ k.span.end = (rw e at z) in
      let b = both_inv (not (eqb v 92)) (unslashed (up_to cs q k.span.end)) (rw (up_one v cs p k.span.end (omega arith)) at u) in
      split (eqb v 92) (λ i. never (let m = (rw i at b.0) in cc))
      (λ i. rw (le-ltb p 0 (omega arith), template_body)
      (turn_same v cs q l (λ t l'. template_body (rules_of first_close) next a t cs q l') (λ t l'. template_body (rules_of rune) next' a t cs q l') i (λ m. body_same cs q m b.1) (rw (le-ltb p 0 (omega arith), template_body) at e)))

deep_same : (d v : ℕ) (cs : List ℕ) (p : ℕ) → Steady (v ∷ cs) p (deep_of (rules_of first_close) d p cs (p + width v)) → deep_of (rules_of rune) d p cs (p + width v) ≡ deep_of (rules_of first_close) d p cs (p + width v)
unfolding deep_of template_of steady unslashed
deep_same zero v cs p h = refl
deep_same (suc d) v cs p h = answer (template_body F next p 0 cs q 0) refl
  where
    F : Rules
    F = rules_of first_close

    q : ℕ
    q = p + width v

    next : List ℕ → ℕ → Read
    next = token_of F d

    answer : (r : Read) → template_body F next p 0 cs q 0 ≡ r → template_body (rules_of rune) (token_of (rules_of rune) d) p 0 cs q 0 ≡ template_body F next p 0 cs q 0
    answer (Ok k) e =
        let w = width_pos v in
        let n : number_of k.kind ≡ 16 = (rw e at (body_templated F next p 0 cs q 0)) in
        let z : q ≤ k.span.end = (rw e at (lands_le F cs q (reached_of (template_body F next p 0 cs q 0)) (body_lands F next (token_lands F d) p 0 cs q 0))) in
        let g : Steady (v ∷ cs) p (Ok k) = (rw e at h) in
        let u : unslashed (v ∷ up_to cs q k.span.end) ≡ true = (rw (n, up_one v cs p k.span.end (omega arith)) at g) in
        body_same next (token_of (rules_of rune) d) (token_lands F d) p k cs q 0 (both_inv (not (eqb v 92)) (unslashed (up_to cs q k.span.end)) u).1 e ∙ sym e
    answer (Err r) e =
        let n : number_in r ≡ 19 = (rw e at (body_templated F next p 0 cs q 0)) in
        let g : Steady (v ∷ cs) p (Err r) = (rw e at h) in
        never (let y = (rw n at g) in cc)

-- a token that starts with the scalar v, at p
first_same : (d v : ℕ) (cs : List ℕ) (p : ℕ) → let F = rules_of first_close in let N = rules_of rune in
    Steady (v ∷ cs) p (first_of F (deep_of F d) v p cs (p + width v)) → first_of N (deep_of N d) v p cs (p + width v) ≡ first_of F (deep_of F d) v p cs (p + width v)
unfolding other_of
first_same d v cs p =
    first-both F N (deep_of F d) (deep_of N d) v p p cs cs q q (λ r r'. Steady (v ∷ cs) p r → r' ≡ r) (λ c. refl) refl (λ s. refl)
    (λ h s. behind_same F N refl (line_of width Comment p) cs q) (λ h. comment cs h)
    (λ h s. behind_same F N refl (byte_of width p) cs q) (λ h s. behind_same F N refl (str_of width true p) cs q) (λ h s. refl) (λ k e o s. rw o) (λ o. o)
    (λ s. refl) (λ s. refl) (λ s. refl) (λ h. deep_same d v cs p) (λ s. refl)
  where
    F : Rules
    F = rules_of first_close

    N : Rules
    N = rules_of rune

    q : ℕ
    q = p + width v

    comment : (ds : List ℕ) → both (eqb v 47) (next_is 42 ds) ≡ true → Steady (v ∷ ds) p (behind_one F (comment_of width 0 p) ds q) → behind_one N (comment_of width 2 p) ds q ≡ behind_one F (comment_of width 0 p) ds q
    comment [] h = never (let z = (both_inv (eqb v 47) false h).1 in cc)
    comment (w ∷ ds) h = comment_same v w ds p

token_same : (d : ℕ) (cs : List ℕ) (p : ℕ) → Steady cs p (token_of (rules_of first_close) d cs p) → token_of (rules_of rune) d cs p ≡ token_of (rules_of first_close) d cs p
unfolding token_with
token_same d [] p = rw (with_deep (rules_of first_close) d [] p, with_deep (rules_of rune) d [] p) (λ s. refl)
token_same d (v ∷ cs) p = rw (with_deep (rules_of first_close) d (v ∷ cs) p, with_deep (rules_of rune) d (v ∷ cs) p) (first_same d v cs p)

-- the span of 12 has no part in it
close_steady : (n : ℕ) (cs : List ℕ) (p : ℕ) (r : Read) → Steady cs p (close_span n r) → Steady cs p r
close_steady n cs p (Ok k) = λ h. h
close_steady n cs p (Err r) = split (eqb (number_in r) 12) (λ e. let z = eqb-true (number_in r) 12 e in rw (e, z) (λ h. refl)) (λ e. rw e (λ h. h))

next_same : (n : ℕ) (cs : List ℕ) (p : ℕ) → Steady cs p (next_of (rules_of first_close) n cs p) → next_of (rules_of rune) n cs p ≡ next_of (rules_of first_close) n cs p
unfolding next_of
next_same n cs p =
    split (both (eqb p 0) (is_shebang cs)) (λ e. rw e (λ h. bang_same (rules_of first_close) (rules_of rune) refl cs p))
    (λ e. rw e (λ h. ap (close_span n) (token_same 64 cs p (close_steady n cs p (token_of (rules_of first_close) 64 cs p) h))))

-- a token of the list, or the refusal that ends it
module _ (s : List ℕ) (p : ℕ) where
  got_same : (k : Token) → next_at first_close s p ≡ Ok k → switchable s k ≡ true → next_at rune s p ≡ Ok k
  unfolding next_at switchable text_of
  got_same k e h =
      let i = tokens_start first_close s p (next_at first_close s p) refl k e in
      let g : Steady (rest s p) p (Ok k) = (rw i at h) in
      next_same (length s) (rest s p) p (rw e g) ∙ e

  refused_same : (r : Refusal) → next_at first_close s p ≡ Err r → not (eqb (number_in r) 19) ≡ true → next_at rune s p ≡ Err r
  unfolding next_at
  refused_same r e h = next_same (length s) (rest s p) p (rw e h) ∙ e

switch_from : (s : List ℕ) (ts : Tokens) (p : ℕ) → ts ≡ tokens_at (rules_of first_close) s p → switch_safe s ts ≡ true → tokens_at (rules_of rune) s p ≡ ts
unfolding switch_safe
switch_from s fin p e h =
    by_read (next_at first_close s p)
    (λ k q. split_eq k.span.end p (λ i. ends k q i) (λ i. never (let z = tokens_more first_close s p (next_at first_close s p) refl k q i in cc)))
    (λ k q. never (let z = tokens_halt first_close s p (next_at first_close s p) refl k q in cc))
  where
    ends : (k : Token) → next_at first_close s p ≡ Ok k → k.span.end ≡ p → tokens_at (rules_of rune) s p ≡ fin
    ends k q i =
        by_step s p (λ z. tokens_fin rune s p (next_at rune s p) refl (record { kind = Eof; span = point_of p }) (next_end rune s p z) refl)
        (λ v n t. absurd (let z = tokens_past_step first_close s p k q v n t in omega arith))
switch_from s (halt r) p e h =
    by_read (next_at first_close s p)
    (λ k q. split_eq k.span.end p (λ i. never (let z = tokens_fin first_close s p (next_at first_close s p) refl k q i in cc))
    (λ i. never (let z = tokens_more first_close s p (next_at first_close s p) refl k q i in cc)))
    (λ k q.
    let z = tokens_halt first_close s p (next_at first_close s p) refl k q in
    let ek : k ≡ r = cc in
    tokens_halt rune s p (next_at rune s p) refl r (refused_same s p r (q ∙ ap Err ek) h))
switch_from s (more k ts) p e h =
    let b = both_inv (switchable s k) (switch_safe s ts) h in
    by_read (next_at first_close s p)
    (λ j q. split_eq j.span.end p (λ i. never (let z = tokens_fin first_close s p (next_at first_close s p) refl j q i in cc))
    (λ i.
    let z = tokens_more first_close s p (next_at first_close s p) refl j q i in
    let ej : j ≡ k = cc in
    let et : ts ≡ tokens_at (rules_of first_close) s k.span.end = cc in
    let ends : k.span.end ≡ p → ⊥ = λ y. i (ap (λ (x : Token). x.span.end) ej ∙ y) in
    tokens_more rune s p (next_at rune s p) refl k (got_same s p k (q ∙ ap Ok ej) b.0) ends
    ∙ ap (more k) (switch_from s ts k.span.end et b.1)))
    (λ j q. never (let z = tokens_halt first_close s p (next_at first_close s p) refl j q in cc))

-- document 02, A3: where the list is safe, rune's is the same
pub switch_safe_law : (s : List ℕ) → switch_safe s (tokens_at (rules_of first_close) s 0) ≡ true → tokens_at (rules_of rune) s 0 ≡ tokens_at (rules_of first_close) s 0
switch_safe_law s h = switch_from s (tokens_at (rules_of first_close) s 0) 0 refl h

abbrev safe_to_switch : List ℕ → Bool
safe_to_switch s = switch_safe s (tokens_at (rules_of first_close) s 0)

-- a source's bytes, and whether its list is safe
unfoldable pub switches : List (List ℕ × Bool)
switches =
    -- /**/x/**/
    (47 ∷ 42 ∷ 42 ∷ 47 ∷ 120 ∷ 47 ∷ 42 ∷ 42 ∷ 47 ∷ [], false)
    -- /*a*/
    ∷ (47 ∷ 42 ∷ 97 ∷ 42 ∷ 47 ∷ [], false)
    -- /*ab*/x
    ∷ (47 ∷ 42 ∷ 97 ∷ 98 ∷ 42 ∷ 47 ∷ 120 ∷ [], true)
    -- x/*: an unclosed comment goes to the end in both
    ∷ (120 ∷ 47 ∷ 42 ∷ [], true)
    -- `/**/`x: no comment stands in a template
    ∷ (96 ∷ 47 ∷ 42 ∷ 42 ∷ 47 ∷ 96 ∷ 120 ∷ [], true)
    -- `\/**/`x; and `\x`, which both modes read the same: the condition is enough, and is not needed
    ∷ (96 ∷ 92 ∷ 47 ∷ 42 ∷ 42 ∷ 47 ∷ 96 ∷ 120 ∷ [], false)
    ∷ (96 ∷ 92 ∷ 120 ∷ 96 ∷ [], false)
    -- 'x and LF, refused with 11; and 65 templates one inside the other, with 19
    ∷ (39 ∷ 120 ∷ 10 ∷ [], true)
    ∷ (nested 64, false)
    ∷ []

pub switched : map (λ (e : List ℕ × Bool). safe_to_switch e.0) switches ≡ map (λ (e : List ℕ × Bool). e.1) switches
unfolding switches switch_safe switchable steady unslashed text_of up_to nested number_of tokens_at tokens_of next_of token_of token_with first_of other_of left_of template_of template_body template_turn white_of run scan comment_of comment_end comment_step char_of char_step word_of operator_of find_one find_two find_three look_one look_two look_three ones twos threes in_ranges white_space xid_start xid_continue rest decode from first lead_of width
switched = refl
