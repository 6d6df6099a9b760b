-- Of a token list and of stored bytes nothing but document 01's cases is refused: 40 to 43, and 3 for want of room; a refusal writes nothing. Assumes nothing.
use Rattle.std.specs.Prelude.{Err, Ok}
use Rattle.token.specs.declared.reason.Reason.TheVariants.{NoRoom}
use Prim.Native.Nat.{ℕ, ◌+◌, ◌%◌, ◌<◌}
use mathlib.Core.Path.{◌≡◌, refl, sym, ap, subst}
use mathlib.Core.List.{List, [], ◌∷◌}
use mathlib.Core.Bool.{Bool, true, false}
use mathlib.Core.Logic.{inl, inr, ◌⊎◌}
use lib.Dec.{ltb, eqb}
use lib.ListN.{length}
use borrow.Author.Tests.{le-leb, lt-leb}
use Rattle.laws.proofs.Cases.{split_le}
use Rattle.laws.specs.Bools.{both, pick, within}
use Rattle.rows.proofs.Puts.{stored_short}
use Rattle.rows.specs.Rows.{Row, and_then, list_check, list_rows, record_check, row_check, rows_check, stored_in, unless_refused}
use Rattle.storage.specs.Reader.{bytes_check, list_words, read_by, read_of, stored_rows}
use Rattle.storage.specs.Writer.{records_of, write_of, written_by}
use Rattle.token.specs.Reads.{point_refusal, Tested, Counted, number_in}
use Rattle.token.specs.declared.read.Refusal.{Refusal}

-- a check, and an answer of so many words or bytes: no refusal, or one with such a number
abbrev Faults : Tested → Type 0
Faults (Ok tt) = Unit {0}
Faults (Err r) = within 40 43 (number_in r) ≡ true

abbrev Refuses : ℕ → ℕ → Counted → Type 0
Refuses room long (Ok count) = Unit {0}
Refuses room long (Err r) = ((r ≡ point_refusal NoRoom 0) × (room < long)) ⊎ (within 40 43 (number_in r) ≡ true)

pick_faults : (b : Bool) (c d : Tested) → Faults c → Faults d → Faults (pick b c d)
pick_faults true c d h k = h
pick_faults false c d h k = k

and_faults : (c d : Tested) → Faults c → Faults d → Faults (and_then c d)
and_faults (Ok tt) d h k = k
and_faults (Err r) d h k = h

row_faults : (n last : ℕ) (r : Row) → Faults (row_check n last r)
unfolding record_check
row_faults n last r = pick_faults r.marked _ _ (pick_faults (within 1 66 r.kind) _ _ (pick_faults (both (eqb r.start last) (ltb r.start r.end)) _ _ tt refl) refl) refl

rows_faults : (n last : ℕ) (rs : List Row) → Faults (rows_check n last rs)
unfolding rows_check
rows_faults n last [] = tt
rows_faults n last (r ∷ rs) = and_faults (row_check n last r) (rows_check (n + 1) r.end rs) (row_faults n last r) (rows_faults (n + 1) r.end rs)

list_faults : (l : List ℕ) → Faults (list_check l)
unfolding list_check
list_faults l = pick_faults (eqb (length l % 3) 0) _ _ (rows_faults 0 0 (list_rows l)) refl

bytes_faults : (s : List ℕ) → Faults (bytes_check s)
unfolding bytes_check
bytes_faults s = pick_faults (eqb (length s % 11) 0) _ _ (rows_faults 0 0 (stored_rows s)) refl

stored_refuses : (room : ℕ) (c : Tested) (out : List ℕ) → Faults c → Refuses room (length out) (stored_in room c out)
stored_refuses room (Ok tt) out h = split_le (length out) room (λ l. rw (le-leb (length out) room l) tt) (λ l. rw (lt-leb (length out) room l) (inl (refl, l)))
stored_refuses room (Err r) out h = inr h

module _ (l : List ℕ) (room : ℕ) where
  -- a token list is refused with 3 at the point 0, where its records do not fit, or with one of 40 to 43
  pub write_refusal : (r : Refusal) → write_of l room ≡ Err r → ((r ≡ point_refusal NoRoom 0) × (room < length (records_of (list_rows l)))) ⊎ (within 40 43 (number_in r) ≡ true)
  unfolding write_of
  write_refusal r e = subst (Refuses room (length (records_of (list_rows l)))) e (stored_refuses room (list_check l) (records_of (list_rows l)) (list_faults l))

  -- .. and stored bytes, where their words do not fit
  pub read_refusal : (r : Refusal) → read_of l room ≡ Err r → ((r ≡ point_refusal NoRoom 0) × (room < length (list_words (stored_rows l)))) ⊎ (within 40 43 (number_in r) ≡ true)
  unfolding read_of
  read_refusal r e = subst (Refuses room (length (list_words (stored_rows l)))) e (stored_refuses room (bytes_check l) (list_words (stored_rows l)) (bytes_faults l))

  -- a faultless list whose records do not fit is refused with 3
  pub write_no_room : list_check l ≡ Ok tt → room < length (records_of (list_rows l)) → write_of l room ≡ Err (point_refusal NoRoom 0)
  unfolding write_of
  write_no_room h k = sym (stored_short room (list_check l) (records_of (list_rows l)) h k).0

  -- .. and so are faultless bytes whose words do not fit
  pub read_no_room : bytes_check l ≡ Ok tt → room < length (list_words (stored_rows l)) → read_of l room ≡ Err (point_refusal NoRoom 0)
  unfolding read_of
  read_no_room h k = sym (stored_short room (bytes_check l) (list_words (stored_rows l)) h k).0

  -- a refusal to write writes nothing
  pub write_nothing : (r : Refusal) → write_of l room ≡ Err r → written_by l room ≡ []
  unfolding written_by
  write_nothing r e = ap (λ (x : Counted). unless_refused x (records_of (list_rows l))) e

  -- .. and so does a refusal to read
  pub read_nothing : (r : Refusal) → read_of l room ≡ Err r → read_by l room ≡ []
  unfolding read_by
  read_nothing r e = ap (λ (x : Counted). unless_refused x (list_words (stored_rows l))) e
