-- The records that the reader checks, and the tokens that it puts, word by word. Assumes nothing.
use Rattle.std.specs.Prelude.{Err, Ok}
use Rattle.token.specs.declared.reason.Reason.TheVariants.{BadLength, BadMark}
use Prim.Native.Nat.{ℕ, zero, suc, ◌+◌, ◌*◌, ◌/◌, ◌%◌, ◌<◌}
use mathlib.Core.Path.{◌≡◌, refl, ◌∙◌}
use mathlib.Core.List.{List, [], ◌∷◌, map}
use mathlib.Core.Logic.{inl, inr, ◌⊎◌}
use native.Mathlib.Omega.{arith}
use Rattle.std.proofs.lemmas.List.{get_or-take}
use Rattle.std.specs.Simd.{first_chunks}
use lib.Seq.{sets}
use lib.ListN.{drop, get_or, length, set, take}
use borrow.Author.Tests.{eq-eqb, ne_eqb}
use Rattle.laws.proofs.Cases.{both_false, never, split_eq}
use Rattle.rows.proofs.Puts.{Layout}
use Rattle.rows.proofs.Rows.{Local, chunk_rows}
use Rattle.rows.specs.declared.Record.{Record}
use Rattle.rows.specs.Rows.{Row, record_check, row_check, rows_check, rows_of}
use Rattle.storage.specs.Reader.{byte_row, bytes_check, list_words, stored_rows, told_by, token_words}
use Rattle.token.specs.Reads.{point_refusal}

-- the length test before the walk
pub bytes_refused : (s : List ℕ) → (length s % 11 ≡ 0 → ⊥) → Err (point_refusal BadLength 0) ≡ bytes_check s
unfolding bytes_check
bytes_refused s h = rw (ne_eqb (length s % 11) 0 h)

pub bytes_checked : (s : List ℕ) → length s % 11 ≡ 0 → rows_check 0 0 (stored_rows s) ≡ bytes_check s
unfolding bytes_check
bytes_checked s h = rw (eq-eqb (length s % 11) 0 h)

-- what is accepted is whole, and sound row by row
pub bytes_sound : (s : List ℕ) → bytes_check s ≡ Ok tt → (length s % 11 ≡ 0) × (rows_check 0 0 (stored_rows s) ≡ Ok tt)
bytes_sound s h = split_eq (length s % 11) 0 (λ e. (e, bytes_checked s e ∙ h)) (λ e. never (let z = bytes_refused s e in cc))

-- the records are those of the bytes cut into arrays
byte_local : Local byte_row 11
byte_local s = rw (at 0 (omega arith), at 1 (omega arith), at 2 (omega arith), at 3 (omega arith), at 4 (omega arith), at 5 (omega arith), at 6 (omega arith), at 7 (omega arith), at 8 (omega arith), at 9 (omega arith), at 10 (omega arith))
  where
    at : (k : ℕ) → k < 11 → get_or (take 11 s) k 0 ≡ get_or s k 0
    at k h = get_or-take 11 s k 0 h

pub records_cut : (s : List ℕ) → map byte_row (first_chunks 11 (length s / 11) s) ≡ stored_rows s
records_cut s = chunk_rows byte_row 11 byte_local (length s / 11) s

-- what one of them says
module _ (r : List ℕ) (n last : ℕ) where
  pub unmarked : (get_or r 0 0 ≡ 0x54 → ⊥) ⊎ (get_or r 1 0 ≡ 0x4b → ⊥) → Err (point_refusal BadMark n) ≡ row_check n last (byte_row r)
  unmarked (inl h) = rw (ne_eqb (get_or r 0 0) 0x54 h)
  unmarked (inr h) = rw (ne_eqb (get_or r 1 0) 0x4b h, both_false)

  pub marked : get_or r 0 0 ≡ 0x54 → get_or r 1 0 ≡ 0x4b → (t : Record) → t ≡ told_by r → record_check n last t.kind t.start t.end ≡ row_check n last (byte_row r)
  marked h i t e = rw (e, eq-eqb _ _ h, eq-eqb _ _ i)

-- tokens one after the other
pub tokens_layout : Layout list_words token_words 3
unfolding list_words
tokens_layout = record { nil = refl; cons = λ r rs. refl; long = λ r. refl }

pub length_tokens : (row : List ℕ → Row) (size n : ℕ) (s : List ℕ) → length (list_words (rows_of row size n s)) ≡ n * 3
unfolding list_words rows_of
length_tokens row size zero s = refl
length_tokens row size (suc n) s = let h = length_tokens row size n (drop size s) in omega arith

-- stores one after the other
pub three_stores : (out : List ℕ) (p a b c : ℕ) → set (set (set out p a) (p + 1) b) (p + 2) c ≡ sets out p (a ∷ (b ∷ (c ∷ [])))
three_stores out p a b c =
    let e₁ : p + 1 ≡ suc p = omega arith in
    let e₂ : p + 2 ≡ suc (suc p) = omega arith in
    rw (e₁, e₂)
