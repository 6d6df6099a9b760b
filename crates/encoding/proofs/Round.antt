-- Scalars encoded and decoded again are the same scalars; bytes decoded and encoded again are the same bytes, as far as they are well formed. Assumes nothing.
use Prim.Native.Nat.{ℕ, zero, suc, ◌+◌, ◌-◌, ◌/◌, ◌≤◌}
use mathlib.Core.Path.{◌≡◌, refl, sym, ap, ◌∙◌}
use mathlib.Core.List.{List, [], ◌∷◌, ◌++◌, append_assoc, append-nil}
use mathlib.Core.Bool.{true}
use native.Mathlib.Omega.{arith}
use lib.Seq.{drop-length}
use lib.ListN.{drop, get_or, length, length-append, take, take-append-drop}
use Rattle.encoding.proofs.Rows.{by_row, encode_1, encode_2, encode_3, encode_4, encode_length, lead_1, lead_2, lead_3, lead_4, lead_bytes, lead_scalar, scalar_most}
use Rattle.encoding.specs.Encode.{AllScalar, encode_all, encode_of, is_scalar, tail_of}
use Rattle.laws.proofs.Cases.{never}
use Rattle.text.proofs.Decode.{Step, by_first, decode_one, end_first, first_whole, step_first}
use Rattle.text.proofs.Leads.{lead_whole}
use Rattle.text.specs.Utf8.{after, decode, first, from, rest, seq, width}

pub encode_decode : (v : ℕ) → is_scalar v ≡ true → (t : List ℕ) → decode (encode_of v ++ t) ≡ v ∷ decode t
unfolding first
encode_decode v i t =
    by_row v
    (λ h. rw (encode_1 v h) (decode_one (v ∷ t) v 0 (lead_1 v _ _ _ h)))
    (λ h k. rw (encode_2 v h k) (decode_one ((0xc0 + v / 64) ∷ tail_of v ∷ t) v 1 (lead_2 v _ _ h k)))
    (λ h k. rw (encode_3 v h k i) (decode_one ((0xe0 + v / 4096) ∷ tail_of (v / 64) ∷ tail_of v ∷ t) v 2 (lead_3 v _ h k i)))
    (λ h. rw (encode_4 v h i) (decode_one ((0xf0 + v / 262144) ∷ tail_of (v / 4096) ∷ tail_of (v / 64) ∷ tail_of v ∷ t) v 3 (lead_4 v h (scalar_most v i))))

pub all_decode : (cs : List ℕ) → AllScalar cs → decode (encode_all cs) ≡ cs
unfolding AllScalar encode_all decode from
all_decode [] h = refl
all_decode (v ∷ cs) h = encode_decode v h.0 (encode_all cs) ∙ ap (λ (l : List ℕ). v ∷ l) (all_decode cs h.1)

all_after : (cs : List ℕ) (p : ℕ) → AllScalar cs → after cs p ≡ p + length (encode_all cs)
unfolding AllScalar encode_all after
all_after [] p h = omega arith
all_after (v ∷ cs) p h = all_after cs (p + width v) h.1 ∙ omega (arith, length-append (encode_of v) (encode_all cs), encode_length v h.0)

-- what is encoded is well formed to its end
pub all_whole : (cs : List ℕ) → AllScalar cs → after (rest (encode_all cs) 0) 0 ≡ length (encode_all cs)
unfolding rest
all_whole cs h = ap (λ (l : List ℕ). after l 0) (all_decode cs h) ∙ all_after cs 0 h ∙ omega arith

-- the first bytes of a list, each read by its place
front : (e : ℕ) (t : List ℕ) → e ≤ 3 → e ≤ length t → take e (get_or t 0 0 ∷ get_or t 1 0 ∷ get_or t 2 0 ∷ []) ≡ take e t
front zero t h k = refl
front (suc e) [] h k = absurd (omega arith)
front (suc zero) (a ∷ t) h k = refl
front (suc (suc e)) (a ∷ []) h k = absurd (omega arith)
front (suc (suc zero)) (a ∷ b ∷ t) h k = refl
front (suc (suc (suc e))) (a ∷ b ∷ []) h k = absurd (omega arith)
front (suc (suc (suc zero))) (a ∷ b ∷ c ∷ t) h k = refl
front (suc (suc (suc (suc e)))) (a ∷ b ∷ c ∷ t) h k = absurd (omega arith)

first_scalar : (t : List ℕ) (v e : ℕ) → first t ≡ seq v e → is_scalar v ≡ true
unfolding first
first_scalar [] v e h = never (cc)
first_scalar (a ∷ t) v e h = lead_scalar a (get_or t 0 0) (get_or t 1 0) (get_or t 2 0) v e h

-- the bytes of a sequence are those that stand there
first_bytes : (t : List ℕ) (v e : ℕ) → first t ≡ seq v e → encode_of v ≡ take (suc e) t
unfolding first
first_bytes [] v e h = never (cc)
first_bytes (a ∷ t) v e h =
    let w = first_whole (a ∷ t) v e h in
    let few = (lead_whole a (get_or t 0 0) (get_or t 1 0) (get_or t 2 0) v e h).few in
    lead_bytes a (get_or t 0 0) (get_or t 1 0) (get_or t 2 0) v e h ∙ ap (λ (l : List ℕ). a ∷ l) (front e t few (omega arith))

from_scalar : (k : ℕ) (s : List ℕ) → AllScalar (from k s)
unfolding AllScalar from
from_scalar zero [] = tt
from_scalar (suc k) [] = tt
from_scalar (suc k) (a ∷ s) = from_scalar k s
from_scalar zero (a ∷ s) =
    by_first (a ∷ s) 0 (λ q. rw (q, from) tt)
    (λ v e q. rw (q, from) (first_scalar (a ∷ s) v e q, from_scalar e s))

pub decode_scalar : (s : List ℕ) → AllScalar (decode s)
unfolding decode
decode_scalar s = from_scalar 0 s

after_suc : (cs : List ℕ) (p : ℕ) → after cs (suc p) ≡ suc (after cs p)
unfolding after
after_suc [] p = refl
after_suc (v ∷ cs) p = ap (after cs) (omega arith) ∙ after_suc cs (p + width v)

-- one scalar before those that are encoded
one_more : (a : ℕ) (s : List ℕ) (v e : ℕ) (cs : List ℕ) → width v ≡ suc e → encode_of v ≡ take (suc e) (a ∷ s)
    → encode_all cs ++ drop (after cs e) s ≡ drop e s → encode_all (v ∷ cs) ++ drop (after (v ∷ cs) 0) (a ∷ s) ≡ a ∷ s
unfolding encode_all after
one_more a s v e cs w b h =
    let n : after cs (0 + width v) ≡ suc (after cs e) = ap (after cs) (omega arith) ∙ after_suc cs e in
    rw (append_assoc, n, h, b) (take-append-drop (suc e) (a ∷ s))

from_encode : (k : ℕ) (s : List ℕ) → encode_all (from k s) ++ drop (after (from k s) k) s ≡ drop k s
unfolding from encode_all after
from_encode zero [] = refl
from_encode (suc k) [] = refl
from_encode (suc k) (a ∷ s) = rw (after_suc (from k s) k) (from_encode k s)
from_encode zero (a ∷ s) =
    by_first (a ∷ s) 0 (λ q. rw (q, from))
    (λ v e q. rw (q, from) (one_more a s v e (from e s) (first_whole (a ∷ s) v e q).0 (first_bytes (a ∷ s) v e q) (from_encode e s)))

pub decode_encode : (s : List ℕ) → encode_all (decode s) ++ drop (after (decode s) 0) s ≡ s
unfolding decode
decode_encode s = from_encode 0 s

-- what is well formed to its end is the bytes of its scalars
pub whole_encode : (s : List ℕ) → after (rest s 0) 0 ≡ length s → encode_all (decode s) ≡ s
unfolding rest
whole_encode s h =
    let none : drop (after (decode s) 0) s ≡ [] = ap (λ (n : ℕ). drop n s) h ∙ drop-length s in
    sym (append-nil (encode_all (decode s))) ∙ ap (λ (l : List ℕ). encode_all (decode s) ++ l) (sym none) ∙ decode_encode s

module _ (s : List ℕ) (at v n : ℕ) (t : Step s at v n) where
  -- the sequence at the place of a step
  step_sequence : (e : ℕ) × (first (drop at s) ≡ seq v e) × (n - at ≡ suc e)
  step_sequence =
      by_first s at (λ q. never (let z = end_first s at q in let y = t.here in cc))
      (λ v' e q.
      let u = (step_first s at v' e q).here in
      let y = t.here in
      let p : v' ≡ v = cc in
      let h = q ∙ ap (λ (x : ℕ). seq x e) p in
      (e, h, omega (arith, (first_whole (drop at s) v e h).0)))

  pub step_is_scalar : is_scalar v ≡ true
  step_is_scalar = let q = step_sequence in first_scalar (drop at s) v q.0 q.1

  -- the bytes of a scalar of a source are those that stand at its place
  pub step_bytes : encode_of v ≡ take (n - at) (drop at s)
  step_bytes = let q = step_sequence in first_bytes (drop at s) v q.0 q.1 ∙ ap (λ (k : ℕ). take k (drop at s)) (sym q.2)
