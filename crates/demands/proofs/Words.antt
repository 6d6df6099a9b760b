-- The words of tokens that lie end to end from 0 are a token list that the writer accepts. Assumes nothing.
use Rattle.std.specs.Prelude.{Ok}
use Prim.Native.Nat.{ℕ, ◌+◌, ◌-◌, ◌*◌, ◌/◌, ◌%◌, ◌≤◌}
use mathlib.Core.Path.{◌≡◌, refl, sym, ap, ◌∙◌}
use mathlib.Core.List.{List, []}
use native.Mathlib.Omega.{arith}
use lib.Dec.{ltb}
use lib.ListN.{length}
use borrow.Author.Tests.{leb-true}
use Rattle.demands.proofs.Inner.{AllInner}
use Rattle.families.specs.Tokens.{Covers, Tokens, fin, halt, more}
use Rattle.laws.proofs.Cases.{split}
use Rattle.listing.specs.Listing.{listed_words}
use Rattle.numbers.proofs.Inverse.{number_range}
use Rattle.numbers.specs.Kinds.{number_of}
use Rattle.rows.proofs.Puts.{stored_done}
use Rattle.rows.proofs.Rows.{list_checked, list_cons}
use Rattle.rows.specs.Rows.{list_check, list_rows, rows_check, rows_of, word_row}
use Rattle.storage.proofs.WrittenRecords.{length_records}
use Rattle.storage.specs.Writer.{records_of, write_of}

-- no refusal but of the room
abbrev pub Accepted : List ℕ → Type 0
Accepted l = list_check l ≡ Ok tt

pub none_accepted : Accepted []
unfolding list_check rows_of rows_check
none_accepted = refl

words_from : (ts : Tokens) (p e n room : ℕ) → Covers ts p e → AllInner ts → (length (listed_words ts room) % 3 ≡ 0) × (rows_check n p (list_rows (listed_words ts room)) ≡ Ok tt)
unfolding Covers AllInner listed_words rows_of rows_check
words_from fin p e n room c i = (refl, refl)
words_from (halt r) p e n room c i = (refl, refl)
words_from (more k ts) p e n room c i =
    split (ltb room 3) (λ t. rw (t, listed_words) (refl, refl))
    (λ t.
    let w = words_from ts k.span.end e (n + 1) (room - 3) c.2 i.1 in
    let m = w.0 in
    let start = c.0 in
    let past = c.1 in
    rw (t, listed_words) (
      omega arith,
      list_cons n p (number_of k.kind) k.span.start k.span.end (listed_words ts (room - 3))
          (number_range k.kind).0 (leb-true (number_of k.kind) 66 i.0) start (omega arith) w.1,
    ))

pub words_accepted : (ts : Tokens) (e room : ℕ) → Covers ts 0 e → AllInner ts → Accepted (listed_words ts room)
words_accepted ts e room c i = let w = words_from ts 0 e 0 room c i in sym (list_checked (listed_words ts room) w.0) ∙ w.1

-- 11 bytes of room for each three words
pub accepted_written : (l : List ℕ) (room : ℕ) → Accepted l → length l / 3 * 11 ≤ room → write_of l room ≡ Ok (length l / 3 * 11)
unfolding write_of
accepted_written l room h f =
    let n = length_records word_row 3 (length l / 3) l in
    sym (stored_done room (list_check l) (records_of (list_rows l)) h (omega arith)).0 ∙ ap Ok n
