-- The records that the writer puts, byte by byte. Assumes nothing.
use Prim.Native.Nat.{ℕ, zero, suc, ◌+◌, ◌*◌, ◌/◌, ◌%◌}
use mathlib.Core.Path.{◌≡◌, refl, ap, ◌∙◌}
use mathlib.Core.List.{List, map}
use native.Mathlib.Omega.{arith}
use lib.Seq.{sets}
use lib.ListN.{drop, length, set}
use Rattle.std.specs.Simd.{first_chunks}
use Rattle.laws.proofs.Sets.{sets_append}
use Rattle.rows.proofs.Puts.{Layout}
use Rattle.rows.proofs.Rows.{chunk_rows, word_local}
use Rattle.rows.specs.Rows.{Row, list_rows, rows_of, word_row}
use Rattle.storage.specs.Writer.{record_of, records_of, u32_bytes}

abbrev pub record_in : Row → List ℕ
record_in r = record_of r.kind r.start r.end

pub records_layout : Layout records_of record_in 11
unfolding records_of
records_layout = record { nil = refl; cons = λ r rs. refl; long = λ r. refl }

pub length_records : (row : List ℕ → Row) (size n : ℕ) (s : List ℕ) → length (records_of (rows_of row size n s)) ≡ n * 11
unfolding records_of rows_of
length_records row size zero s = refl
length_records row size (suc n) s = let h = length_records row size n (drop size s) in omega arith

-- the rows of a list cut into arrays
pub rows_cut : (l : List ℕ) → map word_row (first_chunks 3 (length l / 3) l) ≡ list_rows l
rows_cut l = chunk_rows word_row 3 word_local (length l / 3) l

-- stores one after the other
pub word_stores : (out : List ℕ) (p w : ℕ) {a b c d : ℕ} → a ≡ w % 256 → b ≡ w / 256 % 256 → c ≡ w / 65536 % 256 → d ≡ w / 16777216 % 256
    → set (set (set (set out p a) (p + 1) b) (p + 2) c) (p + 3) d ≡ sets out p (u32_bytes w)
word_stores out p w ea eb ec ed =
    let e₁ : p + 1 ≡ suc p = omega arith in
    let e₂ : p + 2 ≡ suc (suc p) = omega arith in
    let e₃ : p + 3 ≡ suc (suc (suc p)) = omega arith in
    rw (ea, eb, ec, ed, e₁, e₂, e₃)

pub record_stores : (out : List ℕ) (p kind start end : ℕ) {a : ℕ} (out₁ out₂ : List ℕ) → a ≡ kind % 256
    → out₁ ≡ sets (set (set (set out p 0x54) (p + 1) 0x4b) (p + 2) a) (p + 3) (u32_bytes start) → out₂ ≡ sets out₁ (p + 7) (u32_bytes end)
    → out₂ ≡ sets out p (record_of kind start end)
record_stores out p kind start end out₁ out₂ ea h k =
    let e₁ : p + 1 ≡ suc p = omega arith in
    let e₂ : p + 2 ≡ suc (suc p) = omega arith in
    let e₃ : p + 3 ≡ suc (suc (suc p)) = omega arith in
    k ∙ ap (λ (l : List ℕ). sets l (p + 7) (u32_bytes end)) h
    ∙ sets_append (set (set (set out p 0x54) (p + 1) 0x4b) (p + 2) _) (u32_bytes start) (u32_bytes end) (p + 3) (p + 7) (omega arith)
    ∙ rw (ea, e₁, e₂, e₃)
