-- Rows written one after the other into a lent slice, and the room that they need. Assumes nothing.
use Rattle.std.specs.Prelude.{Err, Ok}
use Rattle.token.specs.declared.reason.Reason.TheVariants.{NoRoom}
use Prim.Native.Nat.{ℕ, ◌+◌, ◌≤◌, ◌<◌}
use mathlib.Core.Path.{◌≡◌, refl, sym, ap, ◌∙◌}
use mathlib.Core.List.{List, [], ◌∷◌, ◌++◌, map}
use native.Mathlib.Omega.{arith}
use Rattle.std.proofs.lemmas.List.{append_assoc}
use lib.Seq.{drop-drop, length-sets, sets, sets-eq}
use borrow.Rule.Slice.PartMut.{put_mid}
use lib.ListN.{drop, drop_of_length-le, get_or, length, length-append, take}
use borrow.Author.Tests.{le-leb, lt-leb}
use Rattle.laws.proofs.Sets.{sets_append}
use Rattle.rows.proofs.Rows.{drop_one}
use Rattle.rows.specs.Rows.{Row, stored_in, unless_refused}
use Rattle.token.specs.Reads.{point_refusal, Tested, Counted}
use Rattle.token.specs.declared.read.Refusal.{Refusal}

-- `put` writes each row as `one` does, and that is `each` long
pub record Layout (put : List Row → List ℕ) (one : Row → List ℕ) (each : ℕ) : Type 0 where
  pub nil : put [] ≡ []
  pub cons : (r : Row) (rs : List Row) → put (r ∷ rs) ≡ one r ++ put rs
  pub long : (r : Row) → length (one r) ≡ each

-- a copy into a part of a slice
copied : (out v w : List ℕ) (a k : ℕ) → k ≡ length v → a + k ≤ length out → w ≡ v → put_mid a k out w ≡ sets out a v
copied out v w a k e h f =
    ap (λ (l : List ℕ). take a out ++ (l ++ drop k (drop a out))) f
    ∙ ap (λ (l : List ℕ). take a out ++ (v ++ l)) (drop-drop k a out ∙ ap (λ (j : ℕ). drop (a + j) out) e)
    ∙ sym (sets-eq v out a (let z = h in omega arith) ∙ append_assoc (take a out) v (drop (a + length v) out))

-- the rows of the arrays rs, as far as n: what is left of them, after what is written, gives the whole
pub record Puts (put : List Row → List ℕ) (row : List ℕ → Row) (rs : List (List ℕ)) (out₀ out : List ℕ) (n at : ℕ) : Type 0 where
  pub stores : sets out at (put (map row (drop n rs))) ≡ sets out₀ 0 (put (map row rs))
  pub room : at + length (put (map row (drop n rs))) ≤ length out
  pub same : length out ≡ length out₀

pub puts_first : (put : List Row → List ℕ) (row : List ℕ → Row) (rs : List (List ℕ)) (out₀ : List ℕ) → length (put (map row rs)) ≤ length out₀ → Puts put row rs out₀ out₀ 0 0
puts_first put row rs out₀ h = record { stores = refl; room = omega arith; same = refl }

module _ (put : List Row → List ℕ) (one : Row → List ℕ) (each : ℕ) (y : Layout put one each) (row : List ℕ → Row) (rs : List (List ℕ)) (out₀ out : List ℕ) (n at : ℕ) (w : Puts put row rs out₀ out n at) where
  pub puts_end : length rs ≤ n → out ≡ sets out₀ 0 (put (map row rs))
  puts_end h = sym (ap (sets out at) (ap (λ (l : List (List ℕ)). put (map row l)) (drop_of_length-le rs h) ∙ y.nil)) ∙ w.stores

  module _ (h : n < length rs) where
    puts_one : put (map row (drop n rs)) ≡ one (row (get_or rs n [])) ++ put (map row (drop (n + 1) rs))
    puts_one = ap (λ (l : List (List ℕ)). put (map row l)) (drop_one rs n h) ∙ y.cons (row (get_or rs n [])) (map row (drop (n + 1) rs))

    puts_length : length (put (map row (drop n rs))) ≡ each + length (put (map row (drop (n + 1) rs)))
    puts_length =
        ap length puts_one ∙ length-append (one (row (get_or rs n []))) (put (map row (drop (n + 1) rs)))
        ∙ ap (λ (k : ℕ). k + length (put (map row (drop (n + 1) rs)))) (y.long (row (get_or rs n [])))

    pub puts_room : at + each ≤ length out
    puts_room = let r = w.room in omega (arith, puts_length)

    pub puts_more : (out₁ : List ℕ) (at₁ : ℕ) → out₁ ≡ sets out at (one (row (get_or rs n []))) → at₁ ≡ at + each → Puts put row rs out₀ out₁ (n + 1) at₁
    puts_more out₁ at₁ e a =
        let long = ap length e ∙ length-sets out at (one (row (get_or rs n []))) in
        let r = w.room in
        record {
          stores =
              ap (λ (o : List ℕ). sets o at₁ (put (map row (drop (n + 1) rs)))) e
              ∙ sets_append out (one (row (get_or rs n []))) (put (map row (drop (n + 1) rs))) at at₁ (ap (λ (k : ℕ). at + k) (y.long (row (get_or rs n []))) ∙ sym a)
              ∙ sym (ap (sets out at) puts_one) ∙ w.stores;
          room = omega (arith, puts_length);
          same = long ∙ w.same;
        }

    pub puts_copied : (v : List ℕ) (k at₁ : ℕ) → v ≡ one (row (get_or rs n [])) → k ≡ each → at₁ ≡ at + each → Puts put row rs out₀ (put_mid at k out v) (n + 1) at₁
    puts_copied v k at₁ e h a =
        let r : at + k ≤ length out = let q = puts_room in omega arith in
        puts_more _ at₁ (copied out (one (row (get_or rs n []))) v at k (h ∙ sym (y.long (row (get_or rs n [])))) r e) a

-- the answer and what is written, by the check and the room
abbrev Stores : ℕ → Tested → List ℕ → Counted → List ℕ → Type 0
Stores room c out x w = (x ≡ stored_in room c out) × (w ≡ unless_refused (stored_in room c out) out)

module _ (room : ℕ) (c : Tested) (out : List ℕ) where
  pub stored_faulty : (r : Refusal) → c ≡ Err r → Stores room c out (Err r) []
  stored_faulty r e = (rw e, rw e)

  pub stored_short : c ≡ Ok tt → room < length out → Stores room c out (Err (point_refusal NoRoom 0)) []
  stored_short e h = (rw (e, lt-leb (length out) room h), rw (e, lt-leb (length out) room h))

  pub stored_done : c ≡ Ok tt → length out ≤ room → Stores room c out (Ok (length out)) out
  stored_done e h = (rw (e, le-leb (length out) room h), rw (e, le-leb (length out) room h))
