-- No token of a source has the number of the end, 67. Assumes nothing.
use Rattle.std.specs.Prelude.{Err, None, Ok, Option, Some}
use Rattle.token.specs.Reads.{Read}
use Rattle.token.specs.Reads.{number_in}
use Prim.Native.Nat.{ℕ, zero, suc, ◌+◌}
use mathlib.Core.Path.{◌≡◌, refl, ap, subst}
use mathlib.Core.List.{List, [], ◌∷◌}
use mathlib.Core.Bool.{Bool, true, false}
use lib.Dec.{leb, ltb, eqb}
use lib.ListN.{length}
use Rattle.choice.proofs.Choice.{first-cases}
use Rattle.choice.specs.Rule.{Deep, behind_one, first_of, token_with}
use Rattle.families.proofs.Pairs.{turn-both}
use Rattle.families.specs.Tokens.{Tokens, each_of, fin, halt, more, tokens_at, tokens_of}
use Rattle.laws.proofs.Cases.{both_inv, never, split}
use Rattle.laws.specs.Bools.{both, pick}
use Rattle.lexer.specs.Next.{close_span, is_shebang, next_of}
use Rattle.numbers.specs.Kinds.{number_of}
use Rattle.operators.proofs.Ends.{by_length, found_kind}
use Rattle.operators.specs.Operators.{find_one, find_three, find_two, found_at, look_one, look_three, look_two, ones, operator, operator_of, threes, twos}
use Rattle.readers.specs.Numbers.{number_lit_of}
use Rattle.readers.specs.Readers.{Bytes, Chars, Quoted, backslashed, body, broken, byte_answer, byte_of, byte_step, char_answer, char_of, char_step, closed_by, comment_end, comment_of, comment_step, control, escape, fresh, letters, line_of, run, shut, skips, slashed, str_answer, str_of, str_step, text, white_of, word_of}
use Rattle.readers.specs.Rules.{Rules, rules_of}
use Rattle.readers.specs.Scan.{How, ended, full, scan, short}
use Rattle.readers.specs.declared.reading.Reading.{Reading}
use Rattle.templates.proofs.Landing.{deep_of, with_deep}
use Rattle.templates.specs.Body.{go_on, template_body, template_of, token_of}
use Rattle.text.specs.Utf8.{rest}
use Rattle.token.specs.declared.kind.Kind.{Kind}
use Rattle.token.specs.declared.kind.Kind.TheVariants.{Comment, Ident, MultilineComment, Shebang, Underscore}

abbrev pub is_inner : Kind → Bool
is_inner k = leb (number_of k) 66

abbrev pub Inner : Read → Type 0
Inner (Ok k) = is_inner k.kind ≡ true
Inner (Err r) = Unit

-- the operators, by their tables
pick_known : (b : Bool) (j k : Kind) (m : Option Kind) → pick b (Some j) m ≡ Some k → is_inner j ≡ true → (m ≡ Some k → is_inner k ≡ true) → is_inner k ≡ true
pick_known true j k m e h g = let z : j ≡ k = cc in subst (λ (x : Kind). is_inner x ≡ true) z h
pick_known false j k m e h g = g e

all_one : List (ℕ × Kind) → Bool
all_one [] = true
all_one (r ∷ t) = both (is_inner r.1) (all_one t)

all_two : List (ℕ × ℕ × Kind) → Bool
all_two [] = true
all_two (r ∷ t) = both (is_inner r.2) (all_two t)

all_three : List (ℕ × ℕ × ℕ × Kind) → Bool
all_three [] = true
all_three (r ∷ t) = both (is_inner r.3) (all_three t)

look_one_law : (t : List (ℕ × Kind)) (a : ℕ) (k : Kind) → all_one t ≡ true → look_one t a ≡ Some k → is_inner k ≡ true
unfolding look_one all_one
look_one_law [] a k h e = never (cc)
look_one_law (r ∷ t) a k h e =
    let b = both_inv (is_inner r.1) (all_one t) h in
    pick_known (eqb a r.0) r.1 k (look_one t a) e b.0 (look_one_law t a k b.1)

look_two_law : (t : List (ℕ × ℕ × Kind)) (a c : ℕ) (k : Kind) → all_two t ≡ true → look_two t a c ≡ Some k → is_inner k ≡ true
unfolding look_two all_two
look_two_law [] a c k h e = never (cc)
look_two_law (r ∷ t) a c k h e =
    let b = both_inv (is_inner r.2) (all_two t) h in
    pick_known (both (eqb a r.0) (eqb c r.1)) r.2 k (look_two t a c) e b.0 (look_two_law t a c k b.1)

look_three_law : (t : List (ℕ × ℕ × ℕ × Kind)) (a c d : ℕ) (k : Kind) → all_three t ≡ true → look_three t a c d ≡ Some k → is_inner k ≡ true
unfolding look_three all_three
look_three_law [] a c d k h e = never (cc)
look_three_law (r ∷ t) a c d k h e =
    let b = both_inv (is_inner r.3) (all_three t) h in
    pick_known (both (eqb a r.0) (both (eqb c r.1) (eqb d r.2))) r.3 k (look_three t a c d) e b.0 (look_three_law t a c d k b.1)

one_inner : (v p : ℕ) (k : Kind) (e : ℕ) → find_one v p ≡ Some (operator k e) → is_inner k ≡ true
unfolding find_one ones number_of all_one
one_inner v p k e h = look_one_law ones v k refl (found_kind (look_one ones v) p k e h)

module _ (R : Rules) where
  two_inner : (v : ℕ) (cs : List ℕ) (p : ℕ) (k : Kind) (e : ℕ) → find_two R.stride v cs p ≡ Some (operator k e) → is_inner k ≡ true
  unfolding find_two twos number_of all_two
  two_inner v [] p k e h = never (cc)
  two_inner v (w ∷ cs) p k e h = look_two_law twos v w k refl (found_kind (look_two twos v w) (p + R.stride w) k e h)

  three_inner : (v : ℕ) (cs : List ℕ) (p : ℕ) (k : Kind) (e : ℕ) → find_three R.stride v cs p ≡ Some (operator k e) → is_inner k ≡ true
  unfolding find_three threes number_of all_three
  three_inner v [] p k e h = never (cc)
  three_inner v (w ∷ []) p k e h = never (cc)
  three_inner v (w ∷ (x ∷ cs)) p k e h = look_three_law threes v w x k refl (found_kind (look_three threes v w x) (p + R.stride w + R.stride x) k e h)

  operator_inner : (v : ℕ) (cs : List ℕ) (p : ℕ) (k : Kind) (e : ℕ) → operator_of R.stride v cs p ≡ Some (operator k e) → is_inner k ≡ true
  unfolding operator_of
  operator_inner v cs p k e h = by_length R (find_three R.stride v cs p) (find_two R.stride v cs p) (find_one v p) k e h (three_inner v cs p k e) (two_inner v cs p k e) (one_inner v p k e)

  -- the readers
  abbrev InnerAt : (List ℕ → ℕ → Read) → Type 0
  InnerAt f = (cs : List ℕ) (p : ℕ) → Inner (f cs p)

  behind_inner : (f : List ℕ → ℕ → Read) → InnerAt f → InnerAt (behind_one R f)
  behind_inner f h [] p = h [] p
  behind_inner f h (v ∷ cs) p = h cs (p + R.stride v)

  comment_inner : (b : Bool) → is_inner (MultilineComment b) ≡ true
  unfolding number_of
  comment_inner true = refl
  comment_inner false = refl

  byte_inner : (a : ℕ) (st : Bytes) (l p : ℕ) (h : How) → Inner (byte_answer a st l p h)
  unfolding number_of
  byte_inner a fresh l p h = tt
  byte_inner a backslashed l p h = tt
  byte_inner a control l p h = tt
  byte_inner a body l p full = refl
  byte_inner a body l p ended = tt
  byte_inner a body l p short = tt

  str_inner : (b : Bool) (a : ℕ) (st : Quoted) (l p : ℕ) (h : How) → Inner (str_answer b a st l p h)
  unfolding number_of
  str_inner b a (slashed e) l p h = tt
  str_inner true a (text true) l p full = refl
  str_inner true a (text false) l p full = refl
  str_inner false a (text true) l p full = refl
  str_inner false a (text false) l p full = refl
  str_inner b a (text e) l p ended = tt
  str_inner b a (text e) l p short = tt

  char_inner : (a : ℕ) (st : Chars) (l p : ℕ) → Inner (char_answer a st l p)
  unfolding number_of
  char_inner a escape l p = tt
  char_inner a broken l p = tt
  char_inner a (shut true) l p = refl
  char_inner a (shut false) l p = tt
  char_inner a (letters true true) l p = refl
  char_inner a (letters true false) l p = tt
  char_inner a (letters false true) l p = refl
  char_inner a (letters false false) l p = tt

  word_inner : (b : Bool) → is_inner (pick b Underscore Ident) ≡ true
  unfolding number_of
  word_inner true = refl
  word_inner false = refl

  first_inner : (t : Deep) → ((a : ℕ) → InnerAt (t a)) → (v a : ℕ) (cs : List ℕ) (p : ℕ) → Inner (first_of R t v a cs p)
  unfolding white_of line_of comment_of comment_end byte_of str_of word_of number_lit_of char_of number_of
  first_inner t d v a cs p =
      let str : (b : Bool) → InnerAt (str_of R.stride b a) = λ b ds q. let o = scan str_step R.stride (text false) q ds q in str_inner b a o.state o.last o.place o.how in
      first-cases R t v a cs p (λ r. Inner r) refl (λ h. behind_inner (line_of R.stride Comment a) (λ ds q. refl) cs p)
      (λ h. behind_inner (comment_of R.stride R.skip a) (λ ds q. comment_inner (closed_by (scan comment_step R.stride (skips R.skip) q ds q).how)) cs p)
      (λ h. behind_inner (byte_of R.stride a) (λ ds q. let o = scan byte_step R.stride fresh q ds q in byte_inner a o.state o.last o.place o.how) cs p)
      (λ h. behind_inner (str_of R.stride true a) (str true) cs p) (str false cs p) (λ k e h. operator_inner v cs p k e h)
      (word_inner (both (eqb v 95) (eqb (run R.stride R.continue cs p) p))) refl
      (let o = scan char_step R.stride (letters true false) p cs p in char_inner a o.state o.last o.place) (d a cs p) tt

  on_inner : (a : ℕ) (r : Read) (go : ℕ → Read) → ((t : ℕ) → Inner (go t)) → Inner (go_on a r go)
  on_inner a (Ok k) go g = g k.span.end
  on_inner a (Err r) go g = split (eqb (number_in r) 19) (λ e. rw (e, Inner) tt) (λ e. rw (e, Inner) (g r.reached))

  module _ (next : List ℕ → ℕ → Read) (a : ℕ) where
    body_inner : (t : ℕ) (cs : List ℕ) (p l : ℕ) → Inner (template_body R next a t cs p l)
    unfolding template_body number_of
    body_inner t [] p l = refl
    body_inner t (v ∷ cs) p l =
        let q = p + R.stride v in
        split (ltb p t) (λ h. rw (h, template_body) (body_inner t cs q l))
        (λ h. rw (h, template_body) (let go : ℕ → ℕ → Read = λ t' l'. template_body R next a t' cs q l' in turn-both next next a a v cs cs q q l go go (λ r r'. Inner r) (λ i. refl) (λ m. body_inner 0 cs q m) (on_inner a (next cs q) (λ t'. go t' l) (λ t'. body_inner t' cs q l))))

  deep_inner : (d a : ℕ) → InnerAt (deep_of R d a)
  unfolding deep_of template_of
  deep_inner zero a cs p = tt
  deep_inner (suc d) a cs p = body_inner (token_of R d) a 0 cs p 0

  token_inner : (d v : ℕ) (cs : List ℕ) (p : ℕ) → Inner (token_of R d (v ∷ cs) p)
  unfolding token_with
  token_inner d v cs p = rw (with_deep R d (v ∷ cs) p) (first_inner (deep_of R d) (deep_inner d) v p cs (p + R.stride v))

  close_inner : (n : ℕ) (r : Read) → Inner r → Inner (close_span n r)
  close_inner n (Ok k) h = h
  close_inner n (Err r) h = split (eqb (number_in r) 12) (λ e. rw e tt) (λ e. rw e tt)

  next_inner : (n v : ℕ) (cs : List ℕ) (p : ℕ) → Inner (next_of R n (v ∷ cs) p)
  unfolding next_of line_of number_of
  next_inner n v cs p =
      split (both (eqb p 0) (is_shebang (v ∷ cs)))
      (λ e. rw e (behind_inner (line_of R.stride Shebang p) (λ ds q. refl) cs (p + R.stride v)))
      (λ e. rw e (close_inner n (token_of R 64 (v ∷ cs) p) (token_inner 64 v cs p)))

-- and so of all tokens
unfoldable pub AllInner : Tokens → Type 0
AllInner fin = Unit {0}
AllInner (halt r) = Unit {0}
AllInner (more k ts) = (is_inner k.kind ≡ true) × AllInner ts

each_inner : (r : Read) (go : ℕ → Tokens) → Inner r → ((t : ℕ) → AllInner (go t)) → AllInner (each_of r go)
unfolding AllInner
each_inner (Ok k) go h g = (h, g k.span.end)
each_inner (Err r) go h g = tt

tokens_inner : (R : Rules) (n t : ℕ) (cs : List ℕ) (p : ℕ) → AllInner (tokens_of R n t cs p)
unfolding tokens_of AllInner
tokens_inner R n t [] p = tt
tokens_inner R n t (v ∷ cs) p =
    split (ltb p t) (λ h. rw (h, tokens_of) (tokens_inner R n t cs (p + R.stride v)))
    (λ h. rw (h, tokens_of) (each_inner (next_of R n (v ∷ cs) p) (λ t'. tokens_of R n t' cs (p + R.stride v)) (next_inner R n v cs p) (λ t'. tokens_inner R n t' cs (p + R.stride v))))

pub all_inner : (g : Reading) (s : List ℕ) (p : ℕ) → AllInner (tokens_at (rules_of g) s p)
unfolding tokens_at
all_inner g s p = tokens_inner (rules_of g) (length s) 0 (rest s p) p
