-- Document 01, "Stored token list": what was written is read back, and what was read is written back, exactly. Assumes nothing.
use Rattle.std.specs.Prelude.{Err, Ok}
use Rattle.token.specs.declared.reason.Reason.TheVariants.{BadKind, BadMark, Gap}
use Prim.Native.Nat.{ℕ, zero, suc, ◌+◌, ◌*◌, ◌/◌, ◌%◌, ◌≤◌, ◌<◌}
use mathlib.Core.Path.{◌≡◌, refl, sym, ap, ◌∙◌, subst}
use mathlib.Core.List.{List, [], ◌∷◌, ◌++◌}
use mathlib.Core.Bool.{Bool, true, false}
use native.Mathlib.Omega.{arith}
use lib.Dec.{ltb, eqb}
use lib.Seq.{drop-cons, get_or-drop}
use lib.ListN.{drop, get_or, length, length-drop}
use borrow.Author.Tests.{eqb-true}
use Rattle.laws.proofs.Cases.{both_inv, never, within_inv}
use Rattle.laws.specs.Bools.{both, pick, within}
use Rattle.rows.proofs.Puts.{stored_done}
use Rattle.rows.proofs.Rows.{list_checked, list_sound}
use Rattle.rows.specs.Rows.{Row, and_then, list_check, list_rows, record_check, row_check, rows_check, rows_of, stored_in, unless_refused, word_row}
use Rattle.storage.proofs.ReadRecords.{bytes_checked, bytes_sound, length_tokens}
use Rattle.storage.proofs.WrittenRecords.{length_records, record_in}
use Rattle.storage.specs.Reader.{byte_row, bytes_check, list_words, read_by, read_of, stored_rows, token_words, u32_of}
use Rattle.storage.specs.Storage.{Below}
use Rattle.storage.specs.Writer.{records_of, u32_bytes, write_of, written_by}
use Rattle.token.specs.Reads.{point_refusal, Tested, Counted}
use Rattle.token.specs.declared.read.Refusal.{Refusal}

-- a word and its bytes
pub word_bytes : (w : ℕ) → w < 4294967296 → u32_of (w % 256) (w / 256 % 256) (w / 65536 % 256) (w / 16777216 % 256) ≡ w
word_bytes w h =
    let e₁ : w ≡ w / 256 * 256 + w % 256 = omega arith in
    let e₂ : w / 256 ≡ w / 65536 * 256 + w / 256 % 256 = omega arith in
    let e₃ : w / 65536 ≡ w / 16777216 * 256 + w / 65536 % 256 = omega arith in
    let e₄ : w / 16777216 % 256 ≡ w / 16777216 = omega arith in
    go w (w % 256) (w / 256) (w / 256 % 256) (w / 65536) (w / 65536 % 256) (w / 16777216) (w / 16777216 % 256) e₁ e₂ e₃ e₄
  where
    go : (w a p b q c r d : ℕ) → w ≡ p * 256 + a → p ≡ q * 256 + b → q ≡ r * 256 + c → d ≡ r → u32_of a b c d ≡ w
    go w a p b q c r d e f g h = omega arith

pub bytes_word : (a b c d : ℕ) → a < 256 → b < 256 → c < 256 → d < 256 → u32_bytes (u32_of a b c d) ≡ a ∷ b ∷ c ∷ d ∷ []
bytes_word a b c d ha hb hc hd =
    let w = u32_of a b c d in
    let q₁ : w / 256 ≡ b + c * 256 + d * 65536 = omega arith in
    let q₂ : w / 65536 ≡ c + d * 256 = omega arith in
    let q₃ : w / 16777216 ≡ d = omega arith in
    let e₁ : w % 256 ≡ a = omega arith in
    let e₂ : w / 256 % 256 ≡ b = ap (λ (k : ℕ). k % 256) q₁ ∙ omega arith in
    let e₃ : w / 65536 % 256 ≡ c = ap (λ (k : ℕ). k % 256) q₂ ∙ omega arith in
    let e₄ : w / 16777216 % 256 ≡ d = ap (λ (k : ℕ). k % 256) q₃ ∙ omega arith in
    λ i. e₁ i ∷ e₂ i ∷ e₃ i ∷ e₄ i ∷ []

-- what a sound check says
and_inv : (c d : Tested) → and_then c d ≡ Ok tt → (c ≡ Ok tt) × (d ≡ Ok tt)
and_inv (Ok tt) d h = (refl, h)
and_inv (Err r) d h = never (cc)

pick_inv : (b : Bool) (c : Tested) (r : Refusal) → pick b c (Err r) ≡ Ok tt → (b ≡ true) × (c ≡ Ok tt)
pick_inv true c r h = (refl, h)
pick_inv false c r h = never (cc)

pub rows_inv : (n last : ℕ) (r : Row) (rs : List Row) → rows_check n last (r ∷ rs) ≡ Ok tt → (row_check n last r ≡ Ok tt) × (rows_check (n + 1) r.end rs ≡ Ok tt)
unfolding rows_check
rows_inv n last r rs h = and_inv (row_check n last r) (rows_check (n + 1) r.end rs) h

pub row_marked : (n last : ℕ) (r : Row) → row_check n last r ≡ Ok tt → r.marked ≡ true
row_marked n last r h = (pick_inv r.marked (record_check n last r.kind r.start r.end) (point_refusal BadMark n) h).0

pub row_kind : (n last : ℕ) (r : Row) → row_check n last r ≡ Ok tt → r.kind ≤ 66
unfolding record_check
row_kind n last r h =
    let c = (pick_inv r.marked (record_check n last r.kind r.start r.end) (point_refusal BadMark n) h).1 in
    (within_inv 1 66 r.kind (pick_inv (within 1 66 r.kind) (pick (both (eqb r.start last) (ltb r.start r.end)) (Ok tt) (Err (point_refusal Gap n))) (point_refusal BadKind n) c).0).1

row_same : (r q : Row) → r.marked ≡ q.marked → r.kind ≡ q.kind → r.start ≡ q.start → r.end ≡ q.end → r ≡ q
row_same r q m k s e = λ i. record { marked = m i; kind = k i; start = s i; end = e i }

-- the words of sound rows are these rows again
rows_tokens : (n last : ℕ) (rs : List Row) → rows_check n last rs ≡ Ok tt → rows_of word_row 3 (length rs) (list_words rs) ≡ rs
unfolding rows_of list_words
rows_tokens n last [] h = refl
rows_tokens n last (r ∷ rs) h =
    let c = rows_inv n last r rs h in
    let e : word_row (token_words r ++ list_words rs) ≡ r = row_same (word_row (token_words r ++ list_words rs)) r (sym (row_marked n last r c.0)) refl refl refl in
    let f = rows_tokens (n + 1) r.end rs c.1 in
    λ i. e i ∷ f i

-- starts and ends of rows are words
unfoldable Words : List Row → Type 0
Words [] = Unit {0}
Words (r ∷ rs) = (r.start < 4294967296) × (r.end < 4294967296) × Words rs

-- and so are their bytes
rows_records : (n last : ℕ) (rs : List Row) → rows_check n last rs ≡ Ok tt → Words rs → rows_of byte_row 11 (length rs) (records_of rs) ≡ rs
unfolding rows_of records_of Words
rows_records n last [] h w = refl
rows_records n last (r ∷ rs) h w =
    let c = rows_inv n last r rs h in
    let small = row_kind n last r c.0 in
    let k : r.kind % 256 ≡ r.kind = omega arith in
    let e : byte_row (record_in r ++ records_of rs) ≡ r = row_same (byte_row (record_in r ++ records_of rs)) r (sym (row_marked n last r c.0)) k (word_bytes r.start w.0) (word_bytes r.end w.1) in
    let f = rows_records (n + 1) r.end rs c.1 w.2 in
    λ i. e i ∷ f i

below_drop : (b k : ℕ) (s : List ℕ) → Below b s → Below b (drop k s)
below_drop b k s h i = subst (λ (x : ℕ). x < b) (sym (get_or-drop k s i 0)) (h (k + i))

list_words_law : (n : ℕ) (l : List ℕ) → Below 4294967296 l → Words (rows_of word_row 3 n l)
unfolding rows_of Words
list_words_law zero l h = tt
list_words_law (suc n) l h = (h 1, h 2, list_words_law n (drop 3 l) (below_drop 4294967296 3 l h))

-- rows cut off a whole list and joined again
cons_next : (s t : List ℕ) (j : ℕ) → j < length s → drop (suc j) s ≡ t → drop j s ≡ get_or s j 0 ∷ t
cons_next s t j h e = drop-cons s j 0 h ∙ ap (λ (l : List ℕ). get_or s j 0 ∷ l) e

list_joined : (n : ℕ) (l : List ℕ) → length l ≡ n * 3 → list_words (rows_of word_row 3 n l) ≡ l
unfolding rows_of list_words
list_joined zero [] h = refl
list_joined zero (a ∷ l) h = absurd (omega arith)
list_joined (suc n) l h =
    let three : 3 ≤ length l = omega arith in
    ap (λ (t : List ℕ). get_or l 0 0 ∷ get_or l 1 0 ∷ get_or l 2 0 ∷ t) (list_joined n (drop 3 l) (length-drop 3 l ∙ omega arith))
    ∙ sym (cons_next l _ 0 (omega arith) (cons_next l _ 1 (omega arith) (cons_next l _ 2 (omega arith) refl)))

bytes_joined : (k last n : ℕ) (s : List ℕ) → length s ≡ n * 11 → Below 256 s → rows_check k last (rows_of byte_row 11 n s) ≡ Ok tt → records_of (rows_of byte_row 11 n s) ≡ s
unfolding rows_of records_of
bytes_joined k last zero [] h b c = refl
bytes_joined k last zero (a ∷ s) h b c = absurd (omega arith)
bytes_joined k last (suc n) s h b c =
    let eleven : 11 ≤ length s = omega arith in
    let v = rows_inv k last (byte_row s) (rows_of byte_row 11 n (drop 11 s)) c in
    let m = both_inv (eqb (get_or s 0 0) 0x54) (eqb (get_or s 1 0) 0x4b) (row_marked k last (byte_row s) v.0) in
    let m₀ = eqb-true (get_or s 0 0) 0x54 m.0 in
    let m₁ = eqb-true (get_or s 1 0) 0x4b m.1 in
    let kind = b 2 in
    let e : get_or s 2 0 % 256 ≡ get_or s 2 0 = omega arith in
    let f = bytes_word (get_or s 3 0) (get_or s 4 0) (get_or s 5 0) (get_or s 6 0) (b 3) (b 4) (b 5) (b 6) in
    let g = bytes_word (get_or s 7 0) (get_or s 8 0) (get_or s 9 0) (get_or s 10 0) (b 7) (b 8) (b 9) (b 10) in
    let t = bytes_joined (k + 1) (byte_row s).end n (drop 11 s) (length-drop 11 s ∙ omega arith) (below_drop 256 11 s b) v.1 in
    (λ i. sym m₀ i ∷ sym m₁ i ∷ e i ∷ ((f i ++ g i) ++ t i))
    ∙ sym (cons_next s _ 0 (omega arith) (cons_next s _ 1 (omega arith) (cons_next s _ 2 (omega arith) (cons_next s _ 3 (omega arith)
    (cons_next s _ 4 (omega arith) (cons_next s _ 5 (omega arith) (cons_next s _ 6 (omega arith) (cons_next s _ 7 (omega arith)
    (cons_next s _ 8 (omega arith) (cons_next s _ 9 (omega arith) (cons_next s _ 10 (omega arith) refl)))))))))))

length_rows : (row : List ℕ → Row) (size n : ℕ) (s : List ℕ) → length (rows_of row size n s) ≡ n
unfolding rows_of
length_rows row size zero s = refl
length_rows row size (suc n) s = ap suc (length_rows row size n (drop size s))

-- the records of an accepted list are accepted, and are that list
pub list_round : (l : List ℕ) → Below 4294967296 l → list_check l ≡ Ok tt → (bytes_check (records_of (list_rows l)) ≡ Ok tt) × (list_words (stored_rows (records_of (list_rows l))) ≡ l)
list_round l b h =
    let v = list_sound l h in
    let n = length l / 3 in
    let out = records_of (list_rows l) in
    let long : length out ≡ n * 11 = length_records word_row 3 n l in
    let whole = v.0 in
    let z : length out % 11 ≡ 0 = omega arith in
    let q : length out / 11 ≡ length (list_rows l) = let u = length_rows word_row 3 n l in omega arith in
    let same : stored_rows out ≡ list_rows l = ap (λ (k : ℕ). rows_of byte_row 11 k out) q ∙ rows_records 0 0 (list_rows l) v.1 (list_words_law n l b) in
    (sym (bytes_checked out z) ∙ ap (rows_check 0 0) same ∙ v.1, ap list_words same ∙ list_joined n l (omega arith))

-- the token list of accepted bytes is accepted, and its records are these bytes
pub bytes_round : (s : List ℕ) → Below 256 s → bytes_check s ≡ Ok tt → (list_check (list_words (stored_rows s)) ≡ Ok tt) × (records_of (list_rows (list_words (stored_rows s))) ≡ s)
bytes_round s b h =
    let v = bytes_sound s h in
    let n = length s / 11 in
    let out = list_words (stored_rows s) in
    let long : length out ≡ n * 3 = length_tokens byte_row 11 n s in
    let whole = v.0 in
    let z : length out % 3 ≡ 0 = omega arith in
    let q : length out / 3 ≡ length (stored_rows s) = let u = length_rows byte_row 11 n s in omega arith in
    let same : list_rows out ≡ stored_rows s = ap (λ (k : ℕ). rows_of word_row 3 k out) q ∙ rows_tokens 0 0 (stored_rows s) v.1 in
    (sym (list_checked out z) ∙ ap (rows_check 0 0) same ∙ v.1, ap records_of same ∙ bytes_joined 0 0 n s (omega arith) b v.1)

-- what was done was sound, and fitted
done_inv : (room : ℕ) (c : Tested) (out : List ℕ) (count : ℕ) → stored_in room c out ≡ Ok count → (c ≡ Ok tt) × (unless_refused (stored_in room c out) out ≡ out)
done_inv room (Ok tt) out count h = (refl, ap (λ (x : Counted). unless_refused x out) h)
done_inv room (Err r) out count h = never (cc)

-- document 01: a list that was written is read back, word for word
pub store_round : (l : List ℕ) (room room' count : ℕ) → Below 4294967296 l → write_of l room ≡ Ok count → length l ≤ room'
    → (read_of (written_by l room) room' ≡ Ok (length l)) × (read_by (written_by l room) room' ≡ l)
unfolding write_of written_by read_of read_by
store_round l room room' count b h f =
    let d = done_inv room (list_check l) (records_of (list_rows l)) count h in
    let r = list_round l b d.0 in
    let s = stored_done room' (bytes_check (records_of (list_rows l))) (list_words (stored_rows (records_of (list_rows l)))) r.0 (subst (λ (x : List ℕ). length x ≤ room') (sym r.1) f) in (
      ap (λ (x : List ℕ). stored_in room' (bytes_check x) (list_words (stored_rows x))) d.1 ∙ sym s.0 ∙ ap (λ (x : List ℕ). Ok (length x)) r.1,
      ap (λ (x : List ℕ). unless_refused (stored_in room' (bytes_check x) (list_words (stored_rows x))) (list_words (stored_rows x))) d.1 ∙ sym s.1 ∙ r.1,
    )

-- and bytes that were read are written back, byte for byte
pub store_round_bytes : (s : List ℕ) (room room' count : ℕ) → Below 256 s → read_of s room ≡ Ok count → length s ≤ room'
    → (write_of (read_by s room) room' ≡ Ok (length s)) × (written_by (read_by s room) room' ≡ s)
unfolding write_of written_by read_of read_by
store_round_bytes s room room' count b h f =
    let d = done_inv room (bytes_check s) (list_words (stored_rows s)) count h in
    let r = bytes_round s b d.0 in
    let w = stored_done room' (list_check (list_words (stored_rows s))) (records_of (list_rows (list_words (stored_rows s)))) r.0 (subst (λ (x : List ℕ). length x ≤ room') (sym r.1) f) in (
      ap (λ (x : List ℕ). stored_in room' (list_check x) (records_of (list_rows x))) d.1 ∙ sym w.0 ∙ ap (λ (x : List ℕ). Ok (length x)) r.1,
      ap (λ (x : List ℕ). unless_refused (stored_in room' (list_check x) (records_of (list_rows x))) (records_of (list_rows x))) d.1 ∙ sym w.1 ∙ r.1,
    )
