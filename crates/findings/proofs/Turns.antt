-- One turn of the walk: what it finds at a place, and what is left to find after it. Assumes nothing.
use Rattle.listing.specs.Listing.{Listed, listed_up_to}
use Rattle.listing.specs.declared.Stopped.{Stopped}
use Rattle.std.specs.Prelude.{Err, Ok, Option, Result}
use Prim.Native.Nat.{ℕ, ◌-◌, ◌≤◌, ◌<◌}
use mathlib.Core.Path.{◌≡◌, refl, sym, ap, ◌∙◌}
use mathlib.Core.List.{List, [], ◌∷◌, ◌++◌, append-nil}
use mathlib.Core.Bool.{not}
use native.Mathlib.Omega.{arith}
use lib.Dec.{leb, eqb}
use lib.Seq.{sets}
use lib.ListN.{length}
use Rattle.families.proofs.Cover.{by_read}
use Rattle.families.proofs.Steps.{reached_within, refused_past, tokens_fin, tokens_halt, tokens_more, tokens_past, tokens_room}
use Rattle.families.specs.Tokens.{tokens_at}
use Rattle.findings.proofs.Readings.{head_next}
use Rattle.findings.proofs.Stores.{Done, Left, Note, left_done, left_first, left_full, left_went}
use Rattle.findings.specs.Findings.{across, alike, alone, answer_found, as_code, ends_as, findings_of, found_of, from_of, head_of, is_comment, is_white_or_comment, listed, mark_of, onward, runs_on, stored_findings, under_first, walk, walk_at, words_found}
use Rattle.findings.specs.Notes.{AllSmall, Small, noted_at}
use Rattle.findings.specs.declared.store.Finding.{Finding}
use Rattle.findings.specs.declared.store.Noted.{Noted}
use Rattle.laws.proofs.Cases.{split}
use Rattle.laws.specs.Bools.{both}
use Rattle.lexer.specs.Next.{next_at}
use Rattle.marks.specs.Marks.{close_mark}
use Rattle.numbers.specs.Kinds.{number_of}
use Rattle.readers.specs.Rules.{rules_of}
use Rattle.readers.specs.declared.reading.Reading.{Reading}
use Rattle.source_test.specs.Source.{after_test, source_test}
use Rattle.text.specs.Utf8.{rest}
use Rattle.token.specs.Reads.{reached_of, Read, Tested}
use Rattle.token.specs.declared.read.Refusal.{Refusal}
use Rattle.token.specs.declared.read.Token.{Token}

-- places are small where the source is
module _ (p x q y : ℕ) (hp : p ≤ 65536) (hx : x ≤ 65536) (hq : q ≤ 65536) (hy : y ≤ 65536) where
  runs_small : (g : Reading) (s : List ℕ) → Small (runs_on g s p x y)
  unfolding runs_on
  runs_small g s = split (leb y x) (λ e. rw e (hp, hx, hy, hx)) (λ e. rw e (hp, hx, hx, hy))

  code_small : (a b : Read) → reached_of a ≡ x → reached_of b ≡ y → AllSmall (as_code p a q b)
  unfolding as_code
  code_small (Err r) b ex ey = tt
  code_small (Ok k) (Err r) ex ey = tt
  code_small (Ok k) (Ok j) ex ey =
      split (both (is_comment j) (not (is_white_or_comment k))) (λ e. rw e (hp, omega arith, hq, omega arith)) (λ e. rw e tt)

  pub across_small : (g : Reading) (s : List ℕ) (a b : Read) → reached_of a ≡ x → reached_of b ≡ y → AllSmall (across g s p a q b)
  unfolding across
  across_small g s a b ex ey =
      split (eqb q p)
      (λ e. rw e (split (alike a b) (λ i. rw i tt) (λ i. rw (i, ex, ey) (runs_small g s))))
      (λ e. rw e (code_small a b ex ey))

pub alone_small : (p : ℕ) (k : Token) → p ≤ 65536 → k.span.end ≤ 65536 → AllSmall (alone p k)
unfolding alone
alone_small p k hp he =
    split (eqb (number_of k.kind) 4) (λ e. rw e (hp, he, he, he))
    (λ e. split (both (eqb (number_of k.kind) 16) (eqb (length (close_mark k.kind)) 0)) (λ i. rw (e, i) (hp, he, he, he)) (λ i. rw (e, i) tt))

pub mark_small : (cs : List ℕ) → AllSmall (mark_of cs)
mark_small [] = tt
mark_small (v ∷ cs) = split (eqb v 0xFEFF) (λ e. rw e (omega arith, omega arith, omega arith, omega arith)) (λ e. rw e tt)

-- what comes after what is found by the side of First, which stands at q
abbrev pub after_of : Reading → List ℕ → ℕ → ℕ → Read → List Finding
after_of g s p q (Err r) = []
after_of g s p q (Ok k) = listed (alone p k) ++ walk_at g s k.span.end q

-- a is read at `at`, and under First, where the walk stands at q, the token over `at` stands at p, and is c
module _ (g : Reading) (s : List ℕ) (at q : ℕ) (a : Read) (ea : a ≡ next_at g s at) (z : reached_of a ≡ at → ⊥) (p : ℕ) (c : Read) (ec : c ≡ next_at (under_first g) s p)
    (eo : onward at q (tokens_at (rules_of (under_first g)) s q) ≡ from_of (under_first g) s p) where
  beside : head_of (onward at q (tokens_at (rules_of (under_first g)) s q)).place (onward at q (tokens_at (rules_of (under_first g)) s q)).list ≡ c
  beside = rw eo (head_next (under_first g) s p ∙ sym ec)

  pub walk_turn : walk_at g s at q ≡ listed (across g s at a p c) ++ after_of g s at p a
  unfolding walk_at walk
  walk_turn =
      by_read a
      (λ k e. rw (tokens_more g s at a ea k e (λ i. z (ap reached_of e ∙ i)), walk) (rw (beside, eo, e) refl))
      (λ k e. rw (tokens_halt g s at a ea k e, walk) (rw (beside, eo, e) (sym (append-nil (listed (across g s at (Err k) p c))))))

-- the walk so far: what is left to find from `at` on, where under First the last token that was read stands at q
pub record Walked (g : Reading) (s out₀ : List ℕ) (n₀ c₀ : ℕ) (out : List ℕ) (n count at q : ℕ) (b : Read) : Type 0 where
  pub left : Left (walk_at g s 0 0) (ends_as (tokens_at (rules_of g) s 0)) out₀ n₀ c₀ (walk_at g s at q) out n count
  pub ends : (m : ℕ) → ends_as (tokens_at (rules_of g) s at) m ≡ ends_as (tokens_at (rules_of g) s 0) m
  pub reads : b ≡ next_at (under_first g) s q
  pub inside : at ≤ length s
  pub under : q ≤ length s

pub walked_first : (g : Reading) (s out : List ℕ) (n count : ℕ) (b : Read) → n ≤ length out → count ≤ n → b ≡ next_at (under_first g) s 0 → Walked g s out n count out n count 0 0 b
walked_first g s out n count b h f e =
    record { left = left_first (walk_at g s 0 0) (ends_as (tokens_at (rules_of g) s 0)) out n count h f; ends = λ m. refl; reads = e; inside = omega arith; under = omega arith }

module _ (g : Reading) (s out₀ : List ℕ) (n₀ c₀ : ℕ) (out : List ℕ) (n count at q : ℕ) (b : Read) (h : Walked g s out₀ n₀ c₀ out n count at q b) (a : Read) (ea : a ≡ next_at g s at) where
  abbrev All : List Finding
  All = walk_at g s 0 0

  abbrev Close : ℕ → Listed
  Close = ends_as (tokens_at (rules_of g) s 0)

  -- nothing is left to read
  pub walk_whole : reached_of a ≡ at → Done All Close out₀ n₀ c₀ (Ok count) out
  unfolding walk_at walk ends_as
  walk_whole z =
      by_read a
      (λ k e.
      let t = tokens_fin g s at a ea k e (sym (ap reached_of e) ∙ z) in
      let w : walk_at g s at q ≡ [] = rw (t, walk) refl in
      let d = left_done All Close out₀ n₀ c₀ out n count (walk_at g s at q) h.left w in
      let c : Ok count ≡ Close count = rw (t, ends_as) at (h.ends count) in
      (c ∙ d.0, d.1))
      (λ k e. absurd (let l = refused_past g s at a ea k e in omega arith))

  -- under First the token over `at` stands at p, and is c
  module _ (z : reached_of a ≡ at → ⊥) (p : ℕ) (c : Read) (ec : c ≡ next_at (under_first g) s p) (hp : p ≤ length s) (eo : onward at q (tokens_at (rules_of (under_first g)) s q) ≡ from_of (under_first g) s p) where
    pub turn_small : length s ≤ 65536 → AllSmall (across g s at a p c)
    turn_small l =
        let i = h.inside in
        let x = reached_within g s at a ea i in
        let y = reached_within (under_first g) s p c ec hp in
        across_small at (reached_of a) p (reached_of c) (omega arith) (omega arith) (omega arith) (omega arith) g s a c refl refl

    -- what is spotted by the side of First was noted, and answered r; the store is then o
    module _ (x : Option Finding) (ex : x ≡ across g s at a p c) (o : List ℕ) (r : Result Noted Stopped) (w : Note out n count x r o) where
      spotted : Left All Close out₀ n₀ c₀ (listed x ++ after_of g s at p a) out n count
      spotted = rw ex (rw (← walk_turn g s at q a ea z p c ec eo) h.left)

      pub turn_full : (l : Stopped) → r ≡ Err l → Done All Close out₀ n₀ c₀ (Err l) o
      turn_full = left_full All Close out₀ n₀ c₀ out n count (after_of g s at p a) o r x spotted w

      pub turn_went : (m d : ℕ) → r ≡ Ok (noted_at m d) → Left All Close out₀ n₀ c₀ (after_of g s at p a) o m d
      turn_went = left_went All Close out₀ n₀ c₀ out n count (after_of g s at p a) o r x spotted w

    -- the list halts: what was noted last leaves nothing
    pub walk_halt : (o : List ℕ) (m d : ℕ) → Left All Close out₀ n₀ c₀ (after_of g s at p a) o m d → (k : Refusal) → a ≡ Err k → Done All Close out₀ n₀ c₀ (listed_up_to d k) o
    unfolding ends_as
    walk_halt o m d l k e =
        let w = left_done All Close out₀ n₀ c₀ o m d (after_of g s at p a) l (ap (after_of g s at p) e) in
        let c : listed_up_to d k ≡ Close d = rw (tokens_halt g s at a ea k e, ends_as) at (h.ends d) in
        (c ∙ w.0, w.1)

    module _ (k : Token) (e : a ≡ Ok k) where
      past : k.span.end ≡ at → ⊥
      past i = z (ap reached_of e ∙ i)

      pub turn_alone : length s ≤ 65536 → AllSmall (alone at k)
      turn_alone l = let i = h.inside in let x = tokens_room g s at a ea k e past in alone_small at k (omega arith) (omega arith)

      pub turn_less : (at < k.span.end) × (k.span.end ≤ length s)
      turn_less = (tokens_past g s at a ea k e past, tokens_room g s at a ea k e past)

      -- what the token tells by itself was noted too
      module _ (o : List ℕ) (m d : ℕ) (l : Left All Close out₀ n₀ c₀ (after_of g s at p a) o m d) (y : Option Finding) (ey : y ≡ alone at k) (o' : List ℕ) (r : Result Noted Stopped) (w : Note o m d y r o') where
        told : Left All Close out₀ n₀ c₀ (listed y ++ walk_at g s k.span.end p) o m d
        told = rw ey (rw (← ap (after_of g s at p) e) l)

        pub after_full : (f : Stopped) → r ≡ Err f → Done All Close out₀ n₀ c₀ (Err f) o'
        after_full = left_full All Close out₀ n₀ c₀ o m d (walk_at g s k.span.end p) o' r y told w

        pub after_went : (m' d' : ℕ) → r ≡ Ok (noted_at m' d') → Left All Close out₀ n₀ c₀ (walk_at g s k.span.end p) o' m' d'
        after_went = left_went All Close out₀ n₀ c₀ o m d (walk_at g s k.span.end p) o' r y told w

      pub walk_more : (o : List ℕ) (m d : ℕ) → Left All Close out₀ n₀ c₀ (walk_at g s k.span.end p) o m d → Walked g s out₀ n₀ c₀ o m d k.span.end p c
      unfolding ends_as
      walk_more o m d l =
          record {
            left = l;
            ends = λ i. sym (rw (tokens_more g s at a ea k e past, ends_as) refl) ∙ h.ends i;
            reads = ec;
            inside = tokens_room g s at a ea k e past;
            under = hp;
          }

-- the mark at the start comes before the walk
module _ (g : Reading) (s out : List ℕ) where
  abbrev Found : Listed → List ℕ → Type 0
  Found l o = (l ≡ answer_found (found_of g s) (ends_as (tokens_at (rules_of g) s 0)) (length out) 0) × (o ≡ sets out 0 (words_found (found_of g s) (length out)))

  found_all : (l : Listed) (o : List ℕ) → Done (found_of g s) (ends_as (tokens_at (rules_of g) s 0)) out 0 0 l o → Found l o
  found_all l o h =
      let z : length out - 0 ≡ length out = omega arith in
      (h.0 ∙ ap (λ (k : ℕ). answer_found (found_of g s) (ends_as (tokens_at (rules_of g) s 0)) k 0) z, h.1 ∙ ap (λ (k : ℕ). sets out 0 (words_found (found_of g s) k)) z)

  module _ (x : Option Finding) (ex : x ≡ mark_of (rest s 0)) (o : List ℕ) (r : Result Noted Stopped) (w : Note out 0 0 x r o) where
    first : Left (found_of g s) (ends_as (tokens_at (rules_of g) s 0)) out 0 0 (listed x ++ walk_at g s 0 0) out 0 0
    unfolding found_of
    first = rw ex (left_first (found_of g s) (ends_as (tokens_at (rules_of g) s 0)) out 0 0 (omega arith) (omega arith))

    pub all_full : (l : Stopped) → r ≡ Err l → Found (Err l) o
    all_full l e = found_all (Err l) o (left_full (found_of g s) (ends_as (tokens_at (rules_of g) s 0)) out 0 0 out 0 0 (walk_at g s 0 0) o r x first w l e)

    module _ (m d : ℕ) (e : r ≡ Ok (noted_at m d)) where
      pub all_went : Left (found_of g s) (ends_as (tokens_at (rules_of g) s 0)) out 0 0 (walk_at g s 0 0) o m d
      all_went = left_went (found_of g s) (ends_as (tokens_at (rules_of g) s 0)) out 0 0 out 0 0 (walk_at g s 0 0) o r x first w m d e

      pub all_then : (l : Listed) (o' : List ℕ) → Done (walk_at g s 0 0) (ends_as (tokens_at (rules_of g) s 0)) o m d l o' → Found l o'
      all_then l o' h = found_all l o' (h.0 ∙ all_went.answers, h.1 ∙ all_went.stores)

-- the tests before, and the whole
pub found_by_test : (g : Reading) (s : List ℕ) (room : ℕ) (t : Tested) → t ≡ source_test s
    → (findings_of g s room ≡ after_test t (answer_found (found_of g s) (ends_as (tokens_at (rules_of g) s 0)) room 0) (listed_up_to 0))
    × (stored_findings g s room ≡ after_test t (words_found (found_of g s) room) (λ r. []))
unfolding findings_of stored_findings
found_by_test g s room t e = (rw (← e, findings_of), rw (← e, stored_findings))
