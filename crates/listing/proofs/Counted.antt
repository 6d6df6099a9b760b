-- The count that listing answers is the length of the defined list where there is room for it, and of what was stored in any case. Assumes nothing.
use Rattle.std.specs.Prelude.{Err, Ok}
use Rattle.token.specs.Reads.{Tested}
use Prim.Native.Nat.{ℕ, ◌+◌, ◌-◌, ◌*◌, ◌≤◌}
use mathlib.Core.Path.{◌≡◌, refl, sym, ap, ◌∙◌}
use mathlib.Core.List.{List}
use native.Mathlib.Omega.{arith}
use lib.Dec.{ltb}
use lib.ListN.{length}
use borrow.Author.Tests.{le-ltb}
use Rattle.families.specs.Tokens.{Tokens, count_of, fin, halt, more, tokens_at}
use Rattle.laws.proofs.Cases.{never, split}
use Rattle.listing.proofs.Stores.{by_test}
use Rattle.listing.specs.Listing.{list_answer, list_of, listed_words, no_room, stored_of, Listed, listed_up_to}
use Rattle.readers.specs.Rules.{rules_of}
use Rattle.readers.specs.declared.reading.Reading.{Reading}
use Rattle.source_test.specs.Source.{source_test}

abbrev pub count_in : Listed → ℕ
count_in (Ok n) = n
count_in (Err s) = s.count

-- n tokens were stored before
three_from : (ts : Tokens) (room n : ℕ) → 3 * n + length (listed_words ts room) ≡ 3 * count_in (list_answer ts room n)
unfolding list_answer listed_words
three_from fin room n = omega arith
three_from (halt r) room n = omega arith
three_from (more k ts) room n =
    split (ltb room 3) (λ e. rw (e, list_answer, listed_words) (omega arith))
    (λ e. rw (e, list_answer, listed_words) (let h = three_from ts (room - 3) (n + 1) in omega arith))

counted_from : (ts : Tokens) (room n : ℕ) → 3 * count_of ts ≤ room → count_in (list_answer ts room n) ≡ n + count_of ts
unfolding list_answer count_of
counted_from fin room n h = omega arith
counted_from (halt r) room n h = omega arith
counted_from (more k ts) room n h = rw (le-ltb room 3 (omega arith), list_answer) (let i = counted_from ts (room - 3) (n + 1) (omega arith) in omega arith)

whole_from : (ts : Tokens) (room n m : ℕ) → list_answer ts room n ≡ Ok m → m ≡ n + count_of ts
unfolding list_answer count_of
whole_from fin room n m h = let e : n ≡ m = ap count_in h in omega arith
whole_from (halt r) room n m h = never (cc)
whole_from (more k ts) room n m h =
    split (ltb room 3) (λ e. never (let z : list_answer (more k ts) room n ≡ listed_up_to n (no_room k) = rw (e, list_answer) in cc))
    (λ e. let z : list_answer (more k ts) room n ≡ list_answer ts (room - 3) (n + 1) = rw (e, list_answer) in let i = whole_from ts (room - 3) (n + 1) m (sym z ∙ h) in omega arith)

-- three words for each counted token, whatever the answer
pub three_words : (g : Reading) (s : List ℕ) (room : ℕ) → length (stored_of g s room) ≡ 3 * count_in (list_of g s room)
three_words g s room = by_source (source_test s) refl
  where
    by_source : (t : Tested) → t ≡ source_test s → length (stored_of g s room) ≡ 3 * count_in (list_of g s room)
    by_source (Ok u) e = let b = by_test g s room (Ok tt) e in rw (b.0, b.1) (let z = three_from (tokens_at (rules_of g) s 0) room 0 in omega arith)
    by_source (Err r) e = let b = by_test g s room (Err r) e in rw (b.0, b.1) refl

-- with room for all tokens of a sound source, all are counted, those before a refusal too
pub counted : (g : Reading) (s : List ℕ) (room : ℕ) → source_test s ≡ Ok tt → 3 * count_of (tokens_at (rules_of g) s 0) ≤ room → count_in (list_of g s room) ≡ count_of (tokens_at (rules_of g) s 0)
counted g s room e h = rw (by_test g s room (Ok tt) (sym e)).0 (let z = counted_from (tokens_at (rules_of g) s 0) room 0 h in omega arith)

-- the count of an accepted source is that of its tokens
pub whole_counted : (g : Reading) (s : List ℕ) (room m : ℕ) → list_of g s room ≡ Ok m → m ≡ count_of (tokens_at (rules_of g) s 0)
whole_counted g s room m h = by_source (source_test s) refl
  where
    by_source : (t : Tested) → t ≡ source_test s → m ≡ count_of (tokens_at (rules_of g) s 0)
    by_source (Ok u) e = let z = whole_from (tokens_at (rules_of g) s 0) room 0 m (sym (by_test g s room (Ok tt) e).0 ∙ h) in omega arith
    by_source (Err r) e = never (let b = (by_test g s room (Err r) e).0 in cc)
