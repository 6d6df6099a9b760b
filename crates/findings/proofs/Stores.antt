-- A finding more in the store: what is left to find gives the answer, and written after what is stored it gives the store. Assumes nothing.
use Rattle.listing.specs.Listing.{Listed, listed_up_to, stopped_at}
use Rattle.listing.specs.declared.Stopped.{Stopped}
use Rattle.std.specs.Prelude.{None, Option, Some, Result, Ok, Err}
use Prim.Native.Nat.{ℕ, suc, ◌+◌, ◌-◌, ◌≤◌, ◌<◌}
use mathlib.Core.Path.{◌≡◌, refl, sym, ap, ◌∙◌}
use mathlib.Core.List.{List, [], ◌∷◌, ◌++◌}
use mathlib.Core.Bool.{false}
use native.Mathlib.Omega.{arith}
use lib.Dec.{ltb}
use lib.Seq.{length-sets, sets}
use lib.ListN.{length, set}
use borrow.Author.Tests.{le-ltb, lt-ltb, ltb-false}
use Rattle.findings.specs.Findings.{answer_found, finding_words, listed, no_room_for, words_found}
use Rattle.findings.specs.Notes.{noted_at, noted_of}
use Rattle.findings.specs.declared.store.Finding.{Finding}
use Rattle.findings.specs.declared.store.Noted.{Noted}
use Rattle.laws.proofs.Cases.{never, split}
use Rattle.laws.proofs.Sets.{sets_append}

pub put_five : (out : List ℕ) (n a b c d e : ℕ) → set (set (set (set (set out n a) (n + 1) b) (n + 2) c) (n + 3) d) (n + 4) e ≡ sets out n (a ∷ (b ∷ (c ∷ (d ∷ (e ∷ [])))))
put_five out n a b c d e =
    let e₁ : n + 1 ≡ suc n = omega arith in
    let e₂ : n + 2 ≡ suc (suc n) = omega arith in
    let e₃ : n + 3 ≡ suc (suc (suc n)) = omega arith in
    let e₄ : n + 4 ≡ suc (suc (suc (suc n))) = omega arith in
    λ i. set (set (set (set (set out n a) (e₁ i) b) (e₂ i) c) (e₃ i) d) (e₄ i) e

abbrev stop_in : Stopped → Result Noted Stopped → Stopped
stop_in d (Ok h) = d
stop_in d (Err s) = s

abbrev told : Result Noted Stopped → Noted
told (Ok h) = h
told (Err s) = noted_at 0 0

module _ (out : List ℕ) (n count : ℕ) (x : Option Finding) where
  abbrev pub Note : Result Noted Stopped → List ℕ → Type 0
  Note r o = (r ≡ noted_of (length out) (noted_at n count) x) × (o ≡ sets out n (words_found (listed x) (length out - n)))

  pub note_none : x ≡ None → Note (Ok (noted_at n count)) out
  unfolding words_found noted_of
  note_none e = rw (e, noted_of, words_found) (refl, refl)

  module _ (f : Finding) (e : x ≡ Some f) where
    pub note_full : (l : Stopped) → l ≡ stopped_at count (no_room_for f) → length out - n < 5 → Note (Err l) out
    unfolding words_found noted_of
    note_full l i h = rw (e, i, lt-ltb (length out - n) 5 h, words_found, noted_of) (refl, refl)

    pub note_went : (o : List ℕ) → o ≡ sets out n (finding_words f []) → 5 ≤ length out - n → Note (Ok (noted_at (n + 5) (count + 1))) o
    unfolding words_found noted_of
    note_went o i h = rw (e, i, le-ltb (length out - n) 5 h, words_found, noted_of) (refl, refl)

-- of all that is to be found, fs is left; out, of which n words are taken by count findings, holds what came before
pub record Left (all : List Finding) (close : ℕ → Listed) (out₀ : List ℕ) (n₀ c₀ : ℕ) (fs : List Finding) (out : List ℕ) (n count : ℕ) : Type 0 where
  pub answers : answer_found fs close (length out - n) count ≡ answer_found all close (length out₀ - n₀) c₀
  pub stores : sets out n (words_found fs (length out - n)) ≡ sets out₀ n₀ (words_found all (length out₀ - n₀))
  pub in_store : n ≤ length out
  pub few : count ≤ n
  pub same : length out ≡ length out₀

module _ (all : List Finding) (close : ℕ → Listed) (out₀ : List ℕ) (n₀ c₀ : ℕ) where
  abbrev pub Done : Listed → List ℕ → Type 0
  Done l o = (l ≡ answer_found all close (length out₀ - n₀) c₀) × (o ≡ sets out₀ n₀ (words_found all (length out₀ - n₀)))

  pub left_first : n₀ ≤ length out₀ → c₀ ≤ n₀ → Left all close out₀ n₀ c₀ all out₀ n₀ c₀
  left_first h f = record { answers = refl; stores = refl; in_store = h; few = f; same = refl }

  module _ (out : List ℕ) (n count : ℕ) where
    pub left_done : (fs : List Finding) → Left all close out₀ n₀ c₀ fs out n count → fs ≡ [] → Done (close count) out
    unfolding answer_found words_found
    left_done fs h e = let k = (rw e at h) in (k.answers, k.stores)

    one_more : (f : Finding) (fs : List Finding) → Left all close out₀ n₀ c₀ (f ∷ fs) out n count → ltb (length out - n) 5 ≡ false → Left all close out₀ n₀ c₀ fs (sets out n (finding_words f [])) (n + 5) (count + 1)
    unfolding answer_found words_found
    one_more f fs h t =
        let l = ltb-false (length out - n) 5 t in
        let len = length-sets out n (finding_words f []) in
        let i = h.in_store in
        let c = h.few in
        let left : length (sets out n (finding_words f [])) - (n + 5) ≡ length out - n - 5 = omega arith in
        let words : words_found (f ∷ fs) (length out - n) ≡ finding_words f (words_found fs (length out - n - 5)) = rw (t, words_found) refl in
        record {
          answers = ap (λ (m : ℕ). answer_found fs close m (count + 1)) left ∙ sym (rw (t, answer_found) refl) ∙ h.answers;
          stores =
              ap (λ (m : ℕ). sets (sets out n (finding_words f [])) (n + 5) (words_found fs m)) left ∙ sets_append out (finding_words f []) (words_found fs (length out - n - 5)) n (n + 5) refl
              ∙ ap (sets out n) (sym words) ∙ h.stores;
          in_store = omega arith;
          few = omega arith;
          same = len ∙ h.same;
        }

    -- one more, or none, was noted
    module _ (fs : List Finding) (o : List ℕ) (r : Result Noted Stopped) where
      pub left_went : (x : Option Finding) → Left all close out₀ n₀ c₀ (listed x ++ fs) out n count → Note out n count x r o → (m d : ℕ) → r ≡ Ok (noted_at m d) → Left all close out₀ n₀ c₀ fs o m d
      unfolding answer_found words_found noted_of
      left_went None h w m d e =
          let z = ap told (sym e ∙ w.0) in
          let em : m ≡ n = ap (λ (h : Noted). h.words) z in
          let ed : d ≡ count = ap (λ (h : Noted). h.count) z in
          rw (em, ed, w.1) h
      left_went (Some f) h w m d e =
          split (ltb (length out - n) 5) (λ t. never (let z : Ok (noted_at m d) ≡ Err (stopped_at count (no_room_for f)) = sym e ∙ w.0 ∙ rw (t, noted_of) refl in cc))
          (λ t.
          let y : Ok (noted_at m d) ≡ Ok (noted_at (n + 5) (count + 1)) = sym e ∙ w.0 ∙ rw (t, noted_of) refl in
          let z = ap told y in
          let em : m ≡ n + 5 = ap (λ (h : Noted). h.words) z in
          let ed : d ≡ count + 1 = ap (λ (h : Noted). h.count) z in
          let eo : o ≡ sets out n (finding_words f []) = w.1 ∙ rw (t, words_found) refl in
          rw (em, ed, eo) (one_more f fs h t))

      pub left_full : (x : Option Finding) → Left all close out₀ n₀ c₀ (listed x ++ fs) out n count → Note out n count x r o → (l : Stopped) → r ≡ Err l → Done (Err l) o
      unfolding answer_found words_found noted_of
      left_full None h w l e = never (let z : Err l ≡ Ok (noted_at n count) = sym e ∙ w.0 in cc)
      left_full (Some f) h w l e =
          split (ltb (length out - n) 5)
          (λ t.
          let z : Err l ≡ Err (stopped_at count (no_room_for f)) = sym e ∙ w.0 ∙ rw (t, noted_of) refl in
          let el : Err l ≡ listed_up_to count (no_room_for f) = ap (λ (x : Result Noted Stopped). Err (stop_in l x)) z in
          let eo : o ≡ out = w.1 ∙ rw (t, words_found) refl in
          let a = (rw (t, answer_found) at h.answers) in
          let b = (rw (t, words_found) at h.stores) in
          (el ∙ a, eo ∙ b))
          (λ t. never (let z : Err l ≡ Ok (noted_at (n + 5) (count + 1)) = sym e ∙ w.0 ∙ rw (t, noted_of) refl in cc))
