-- One turn of the listing: what is left to list gives the answer, and written after what is stored it gives the store. Assumes nothing.
use Rattle.std.specs.Prelude.{Err, Ok}
use Prim.Native.Nat.{ℕ, suc, ◌+◌, ◌-◌, ◌≤◌, ◌<◌}
use mathlib.Core.Path.{◌≡◌, refl, sym, ap, ◌∙◌, subst}
use mathlib.Core.List.{List, [], ◌∷◌}
use native.Mathlib.Omega.{arith}
use lib.Seq.{sets}
use lib.ListN.{length, length-set, set}
use borrow.Author.Tests.{le-ltb, lt-ltb}
use Rattle.families.proofs.Steps.{tokens_fin, tokens_halt, tokens_more, tokens_past, tokens_room, tokens_start}
use Rattle.families.specs.Tokens.{Tokens, fin, halt, more, tokens_at}
use Rattle.lexer.specs.Next.{next_at}
use Rattle.listing.specs.Listing.{list_answer, list_of, listed_words, no_room, no_room_at, stored_of, Listed, listed_up_to}
use Rattle.numbers.specs.Kinds.{number_of}
use Rattle.quick.proofs.Sure.{Told, quick_told}
use Rattle.quick.specs.Tokens.{quick_token_at}
use Rattle.quick.specs.declared.tokens.Quick.{Quick}
use Rattle.readers.specs.Rules.{rules_of}
use Rattle.readers.specs.declared.reading.Reading.{Reading}
use Rattle.source_test.specs.Source.{after_test, source_test}
use Rattle.token.specs.Reads.{span_of, Read, Tested}
use Rattle.token.specs.declared.read.Refusal.{Refusal}
use Rattle.token.specs.declared.read.Token.{Token}

store_three : (out w : List ℕ) (n a b c : ℕ) → sets (set (set (set out n a) (n + 1) b) (n + 2) c) (n + 3) w ≡ sets out n (a ∷ (b ∷ (c ∷ w)))
store_three out w n a b c =
    let e₁ : n + 1 ≡ suc n = omega arith in
    let e₂ : n + 2 ≡ suc (suc n) = omega arith in
    let e₃ : n + 3 ≡ suc (suc (suc n)) = omega arith in
    λ i. sets (set (set (set out n a) (e₁ i) b) (e₂ i) c) (e₃ i) w

length_three : (out : List ℕ) (n a b c : ℕ) → length (set (set (set out n a) (n + 1) b) (n + 2) c) ≡ length out
length_three out n a b c = simp length-set

pub record Head (g : Reading) (s out₀ out : List ℕ) (at n count : ℕ) : Type 0 where
  pub answers : list_answer (tokens_at (rules_of g) s at) (length out - n) count ≡ list_answer (tokens_at (rules_of g) s 0) (length out₀) 0
  pub stores : sets out n (listed_words (tokens_at (rules_of g) s at) (length out - n)) ≡ sets out₀ 0 (listed_words (tokens_at (rules_of g) s 0) (length out₀))
  pub in_source : at ≤ length s
  pub in_store : n ≤ length out
  pub same : length out ≡ length out₀
  pub few : count ≤ at

pub head_first : (g : Reading) (s out : List ℕ) → Head g s out out 0 0 0
head_first g s out =
    let z : length out - 0 ≡ length out = omega arith in
    record {
      answers = ap (λ (k : ℕ). list_answer (tokens_at (rules_of g) s 0) k 0) z;
      stores = ap (λ (k : ℕ). sets out 0 (listed_words (tokens_at (rules_of g) s 0) k)) z;
      in_source = omega arith;
      in_store = omega arith;
      same = refl;
      few = omega arith;
    }

module _ (g : Reading) (s out₀ out : List ℕ) (at n count : ℕ) (h : Head g s out₀ out at n count) where
  abbrev Done : Listed → Type 0
  Done x = (x ≡ list_answer (tokens_at (rules_of g) s 0) (length out₀) 0) × (out ≡ sets out₀ 0 (listed_words (tokens_at (rules_of g) s 0) (length out₀)))

  -- nothing more is written
  finish : (ts : Tokens) → tokens_at (rules_of g) s at ≡ ts → (x : Listed) → list_answer ts (length out - n) count ≡ x → listed_words ts (length out - n) ≡ [] → Done x
  finish ts e x ea ew = (
    sym ea ∙ ap (λ (t : Tokens). list_answer t (length out - n) count) (sym e) ∙ h.answers,
    sym (ap (sets out n) ew) ∙ ap (λ (t : Tokens). sets out n (listed_words t (length out - n))) (sym e) ∙ h.stores,
  )

  module _ (r : Read) (er : r ≡ next_at g s at) where
    pub list_halt : (k : Refusal) → r ≡ Err k → Done (listed_up_to count k)
    unfolding list_answer listed_words
    list_halt k e = finish (halt k) (tokens_halt g s at r er k e) (listed_up_to count k) refl refl

    module _ (k : Token) (e : r ≡ Ok k) where
      pub list_fin : k.span.end ≡ at → Done (Ok count)
      unfolding list_answer listed_words
      list_fin z = finish fin (tokens_fin g s at r er k e z) (Ok count) refl refl

      module _ (z : k.span.end ≡ at → ⊥) where
        pub list_short : length out - n < 3 → Done (listed_up_to count (no_room k))
        unfolding list_answer listed_words
        list_short l =
            finish (more k (tokens_at (rules_of g) s k.span.end)) (tokens_more g s at r er k e z) (listed_up_to count (no_room k)) (rw (lt-ltb (length out - n) 3 l, list_answer)) (rw (lt-ltb (length out - n) 3 l, listed_words))

        turn : 3 ≤ length out - n → Head g s out₀ (set (set (set out n (number_of k.kind)) (n + 1) at) (n + 2) k.span.end) k.span.end (n + 3) (count + 1)
        unfolding list_answer listed_words
        turn l =
            let end = k.span.end in
            let ts = tokens_at (rules_of g) s end in
            let next = set (set (set out n (number_of k.kind)) (n + 1) at) (n + 2) end in
            let len = length_three out n (number_of k.kind) at end in
            let left : length next - (n + 3) ≡ length out - n - 3 = omega arith in
            let whole = tokens_more g s at r er k e z in
            let start = tokens_start g s at r er k e in
            let i = h.in_store in
            let f = h.few in
            let past = tokens_past g s at r er k e z in
            record {
              answers =
                  ap (λ (m : ℕ). list_answer ts m (count + 1)) left ∙ sym (ap (λ (t : Tokens). list_answer t (length out - n) count) whole ∙ rw (le-ltb (length out - n) 3 l, list_answer)) ∙ h.answers;
              stores =
                  ap (λ (m : ℕ). sets next (n + 3) (listed_words ts m)) left ∙ store_three out (listed_words ts (length out - n - 3)) n (number_of k.kind) at end
                  ∙ ap (λ (x : ℕ). sets out n (number_of k.kind ∷ (x ∷ (end ∷ listed_words ts (length out - n - 3))))) (sym start)
                  ∙ sym (ap (λ (t : Tokens). sets out n (listed_words t (length out - n))) whole ∙ rw (le-ltb (length out - n) 3 l, listed_words)) ∙ h.stores;
              in_source = tokens_room g s at r er k e z;
              in_store = omega arith;
              same = len ∙ h.same;
              few = omega arith;
            }

        pub list_more : (x : ℕ) → x ≡ number_of k.kind → (next : List ℕ) → next ≡ set (set (set out n x) (n + 1) at) (n + 2) k.span.end → 3 ≤ length out - n
            → Head g s out₀ next k.span.end (n + 3) (count + 1)
        list_more x ex next en l =
            subst (λ (o : List ℕ). Head g s out₀ o k.span.end (n + 3) (count + 1))
            (sym (en ∙ ap (λ (y : ℕ). set (set (set out n y) (n + 1) at) (n + 2) k.span.end) ex)) (turn l)

        pub list_past : at < k.span.end
        list_past = tokens_past g s at r er k e z

        pub list_room : k.span.end ≤ length s
        list_room = tokens_room g s at r er k e z

  -- a token told by its bytes is the token that is read
  module _ (q : Quick) (eq : q ≡ quick_token_at s at) (nz : q.number ≡ 0 → ⊥) where
    told : Told g s at q
    told = quick_told g s at q eq nz

    abbrev token : Token
    token = record { kind = told.kind; span = span_of at q.end }

    pub quick_past : at < q.end
    quick_past = told.past

    moves_on : q.end ≡ at → ⊥
    moves_on e = omega (arith, quick_past)

    pub quick_short : length out - n < 3 → Done (listed_up_to count (no_room_at (span_of at q.end)))
    quick_short l = list_short (Ok token) told.reads token refl moves_on l

    pub quick_more : (next : List ℕ) → next ≡ set (set (set out n q.number) (n + 1) at) (n + 2) q.end → 3 ≤ length out - n
        → Head g s out₀ next q.end (n + 3) (count + 1)
    quick_more next en l = list_more (Ok token) told.reads token refl moves_on q.number (sym told.number) next en l

    pub quick_room : q.end ≤ length s
    quick_room = list_room (Ok token) told.reads token refl moves_on

-- the tests before, and the whole
pub by_test : (g : Reading) (s : List ℕ) (room : ℕ) (t : Tested) → t ≡ source_test s
    → (list_of g s room ≡ after_test t (list_answer (tokens_at (rules_of g) s 0) room 0) (listed_up_to 0))
    × (stored_of g s room ≡ after_test t (listed_words (tokens_at (rules_of g) s 0) room) (λ r. []))
unfolding list_of stored_of
by_test g s room t e = (rw (← e, list_of), rw (← e, stored_of))
