-- What is read at a place, in terms of the list from there on, and the list under First up to the token that covers a place. Assumes nothing.
use Rattle.std.specs.Prelude.{Err, None, Ok, Option, Some}
use Prim.Native.Nat.{ℕ, ◌≤◌, ◌<◌}
use mathlib.Core.Path.{◌≡◌, refl, sym, ap, ◌∙◌}
use mathlib.Core.List.{List}
use mathlib.Core.Bool.{true, false}
use native.Mathlib.Omega.{arith}
use lib.Dec.{eqb}
use lib.ListN.{length}
use borrow.Author.Tests.{eq-eqb, le-leb, le-ltb, lt-leb, lt-ltb, ne_eqb}
use Rattle.families.proofs.Cover.{by_read}
use Rattle.families.proofs.Steps.{next_end, tokens_fin, tokens_halt, tokens_more, tokens_past_step}
use Rattle.families.specs.Tokens.{Tokens, fin, halt, more, tokens_at}
use Rattle.findings.specs.declared.code.Code.{Code}
use Rattle.findings.specs.declared.code.Code.TheVariants.{CommentUnclosed, ReadAsCode, TemplateUnclosed}
use Rattle.findings.specs.Findings.{across, alike, alone, as_code, finding_of, from_of, head_of, holds, holds_at, is_comment, is_white_or_comment, onward, plain_finding, runs_on, runs_on_code, under_first}
use Rattle.findings.specs.declared.store.Finding.{Finding}
use Rattle.laws.proofs.Cases.{split_eq}
use Rattle.lexer.specs.Next.{next_at}
use Rattle.marks.specs.Marks.{close_mark}
use Rattle.numbers.specs.Kinds.{number_of}
use Rattle.readers.specs.Rules.{rules_of}
use Rattle.readers.specs.declared.reading.Reading.{Reading}
use Rattle.text.proofs.Decode.{by_step}
use Rattle.token.specs.Reads.{reached_of, Read, number_in}
use Rattle.token.specs.declared.read.Refusal.{Refusal}
use Rattle.token.specs.declared.read.Token.{Token}

-- what is read at a place is the head of the list from there on
pub head_next : (g : Reading) (s : List ℕ) (p : ℕ) → head_of p (tokens_at (rules_of g) s p) ≡ next_at g s p
head_next g s p =
    by_read (next_at g s p)
    (λ k e. split_eq k.span.end p
    (λ i. ap (head_of p) (tokens_fin g s p (next_at g s p) refl k e i) ∙ by_step s p (λ z. sym (next_end g s p z)) (λ v n t. absurd (let z = tokens_past_step g s p k e v n t in omega arith)))
    (λ i. ap (head_of p) (tokens_more g s p (next_at g s p) refl k e i) ∙ sym e))
    (λ k e. ap (head_of p) (tokens_halt g s p (next_at g s p) refl k e) ∙ sym e)

-- nothing stands between a place and one that is not past it
holds_past : (p e : ℕ) (ts : Tokens) → e ≤ p → holds p e ts ≡ false
unfolding holds
holds_past p e fin h = refl
holds_past p e (halt r) h = le-ltb p e h
holds_past p e (more k ts) h = rw (le-ltb p e h)

module _ (g : Reading) (s : List ℕ) (p e : ℕ) where
  pub holds_stop : e ≤ p → false ≡ holds_at g s p e
  unfolding holds_at
  holds_stop h = sym (holds_past p e (tokens_at (rules_of g) s p) h)

  module _ (r : Read) (er : r ≡ next_at g s p) (l : p < e) where
    pub holds_refused : (k : Refusal) → r ≡ Err k → true ≡ holds_at g s p e
    unfolding holds_at holds
    holds_refused k i = rw (tokens_halt g s p r er k i, holds) (sym (lt-ltb p e l))

    module _ (k : Token) (i : r ≡ Ok k) where
      pub holds_end : k.span.end ≡ p → false ≡ holds_at g s p e
      unfolding holds_at holds
      holds_end z = rw (tokens_fin g s p r er k i z, holds) refl

      module _ (z : k.span.end ≡ p → ⊥) where
        pub holds_full : is_white_or_comment k ≡ false → true ≡ holds_at g s p e
        unfolding holds_at holds
        holds_full b = rw (tokens_more g s p r er k i z, holds) (rw (lt-ltb p e l, b) refl)

        pub holds_on : is_white_or_comment k ≡ true → holds_at g s k.span.end e ≡ holds_at g s p e
        unfolding holds_at holds
        holds_on b = rw (tokens_more g s p r er k i z, holds) (rw (lt-ltb p e l, b) refl)

-- under First: the part of the list from q on that starts at the token over p
module _ (g : Reading) (s : List ℕ) (p q : ℕ) (r : Read) (er : r ≡ next_at g s q) where
  abbrev Stays : Type 0
  Stays = onward p q (tokens_at (rules_of g) s q) ≡ from_of g s q

  pub stay_refused : (k : Refusal) → r ≡ Err k → Stays
  unfolding onward
  stay_refused k i = rw (tokens_halt g s q r er k i, onward) refl

  module _ (k : Token) (i : r ≡ Ok k) where
    pub stay_end : k.span.end ≡ q → Stays
    unfolding onward
    stay_end z = rw (tokens_fin g s q r er k i z, onward) refl

    pub stay_over : p < k.span.end → Stays
    unfolding onward
    stay_over l = split_eq k.span.end q stay_end (λ z. rw (tokens_more g s q r er k i z, onward) (rw (lt-ltb p k.span.end l) refl))

    pub go_onward : (k.span.end ≡ q → ⊥) → k.span.end ≤ p → onward p k.span.end (tokens_at (rules_of g) s k.span.end) ≡ onward p q (tokens_at (rules_of g) s q)
    unfolding onward
    go_onward z l = rw (tokens_more g s q r er k i z, onward) (rw (le-ltb p k.span.end l) refl)

-- runs-on, by which reading ended first
module _ (g : Reading) (s : List ℕ) (p x y : ℕ) (c : Code) where
  pub runs_sooner : y ≤ x → c ≡ runs_on_code (under_first g) s y x → finding_of c p x y x ≡ runs_on g s p x y
  unfolding runs_on
  runs_sooner l e = rw (le-leb y x l, e) refl

  pub runs_later : x < y → c ≡ runs_on_code g s x y → finding_of c p x x y ≡ runs_on g s p x y
  unfolding runs_on
  runs_later l e = rw (lt-leb y x l, e) refl

-- two refusals, number by number
module _ (a b : Refusal) where
  pub refused_number : (number_in a ≡ number_in b → ⊥) → false ≡ alike (Err a) (Err b)
  refused_number n = rw (ne_eqb (number_in a) (number_in b) n) refl

  module _ (n : number_in a ≡ number_in b) where
    pub refused_start : (a.span.start ≡ b.span.start → ⊥) → false ≡ alike (Err a) (Err b)
    refused_start s = rw (eq-eqb (number_in a) (number_in b) n, ne_eqb a.span.start b.span.start s) refl

    module _ (s : a.span.start ≡ b.span.start) where
      pub refused_end : (a.span.end ≡ b.span.end → ⊥) → false ≡ alike (Err a) (Err b)
      refused_end e = rw (eq-eqb (number_in a) (number_in b) n, eq-eqb a.span.start b.span.start s, ne_eqb a.span.end b.span.end e) refl

      pub refused_reached : a.span.end ≡ b.span.end → eqb a.reached b.reached ≡ alike (Err a) (Err b)
      refused_reached e = rw (eq-eqb (number_in a) (number_in b) n, eq-eqb a.span.start b.span.start s, eq-eqb a.span.end b.span.end e) refl

-- a token in force inside a comment under First
module _ (p q : ℕ) (a b : Read) where
  pub code_refused : (r : Refusal) → a ≡ Err r → None ≡ as_code p a q b
  unfolding as_code
  code_refused r e = rw (e, as_code) refl

  module _ (k : Token) (e : a ≡ Ok k) where
    pub code_halted : (r : Refusal) → b ≡ Err r → None ≡ as_code p a q b
    unfolding as_code
    code_halted r i = rw (e, i, as_code) refl

    module _ (j : Token) (i : b ≡ Ok j) where
      pub code_plain : is_comment j ≡ false → None ≡ as_code p a q b
      unfolding as_code
      code_plain c = rw (e, i, as_code) (rw c refl)

      pub code_blank : is_comment j ≡ true → is_white_or_comment k ≡ true → None ≡ as_code p a q b
      unfolding as_code
      code_blank c d = rw (e, i, as_code) (rw (c, d) refl)

      pub code_found : is_comment j ≡ true → is_white_or_comment k ≡ false → Some (finding_of ReadAsCode p k.span.end q j.span.end) ≡ as_code p a q b
      unfolding as_code
      code_found c d = rw (e, i, as_code) (rw (c, d) refl)

-- a token by its number and its closing mark
module _ (p : ℕ) (k : Token) (n : ℕ) (e : n ≡ number_of k.kind) where
  pub alone_comment : (x : Option Finding) → x ≡ Some (plain_finding CommentUnclosed p k.span.end) → n ≡ 4 → x ≡ alone p k
  unfolding alone
  alone_comment x i h = i ∙ rw (eq-eqb (number_of k.kind) 4 (sym e ∙ h)) refl

  module _ (h : n ≡ 4 → ⊥) where
    other : eqb (number_of k.kind) 4 ≡ false
    other = ne_eqb (number_of k.kind) 4 (λ z. h (e ∙ z))

    pub alone_other : (n ≡ 16 → ⊥) → None ≡ alone p k
    unfolding alone
    alone_other i = rw (other, ne_eqb (number_of k.kind) 16 (λ z. i (e ∙ z))) refl

    module _ (i : n ≡ 16) (m : ℕ) (f : m ≡ length (close_mark k.kind)) where
      pub alone_shut : (m ≡ 0 → ⊥) → None ≡ alone p k
      unfolding alone
      alone_shut j = rw (other, eq-eqb (number_of k.kind) 16 (sym e ∙ i), ne_eqb (length (close_mark k.kind)) 0 (λ z. j (f ∙ z))) refl

      pub alone_open : (x : Option Finding) → x ≡ Some (plain_finding TemplateUnclosed p k.span.end) → m ≡ 0 → x ≡ alone p k
      unfolding alone
      alone_open x o j = o ∙ rw (other, eq-eqb (number_of k.kind) 16 (sym e ∙ i), eq-eqb (length (close_mark k.kind)) 0 (sym f ∙ j)) refl

-- what stands beside what is read at p
module _ (g : Reading) (s : List ℕ) (p : ℕ) (a : Read) (q : ℕ) (b : Read) where
  pub across_apart : (x : Option Finding) → (q ≡ p → ⊥) → x ≡ as_code p a q b → x ≡ across g s p a q b
  unfolding across
  across_apart x h e = e ∙ rw (ne_eqb q p h) refl

  pub across_alike : q ≡ p → alike a b ≡ true → None ≡ across g s p a q b
  unfolding across
  across_alike h e = rw (eq-eqb q p h, e) refl

  pub across_runs : (f : Finding) → q ≡ p → alike a b ≡ false → f ≡ runs_on g s p (reached_of a) (reached_of b) → Some f ≡ across g s p a q b
  unfolding across
  across_runs f h e i = ap Some i ∙ rw (eq-eqb q p h, e) refl
