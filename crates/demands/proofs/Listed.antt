-- What was listed can always be written, whatever the source and the store. Assumes nothing.
use Rattle.std.specs.Prelude.{Err, Ok}
use Rattle.token.specs.Reads.{Tested}
use Prim.Native.Nat.{ℕ, ◌*◌, ◌/◌, ◌≤◌}
use mathlib.Core.Path.{◌≡◌, refl, sym, subst}
use mathlib.Core.List.{List}
use lib.ListN.{length}
use Rattle.demands.proofs.Inner.{all_inner}
use Rattle.demands.proofs.Words.{Accepted, accepted_written, none_accepted, words_accepted}
use Rattle.families.proofs.Cover.{covers}
use Rattle.families.specs.Tokens.{tokens_at}
use Rattle.listing.proofs.Stores.{by_test}
use Rattle.listing.specs.Listing.{stored_of}
use Rattle.readers.specs.Rules.{rules_of}
use Rattle.readers.specs.declared.reading.Reading.{Reading}
use Rattle.source_test.specs.Source.{source_test}
use Rattle.storage.specs.Writer.{write_of}

accepted_by : (g : Reading) (s : List ℕ) (room : ℕ) (t : Tested) → t ≡ source_test s → Accepted (stored_of g s room)
accepted_by g s room (Ok tt) e = subst Accepted (sym (by_test g s room (Ok tt) e).1) (words_accepted (tokens_at (rules_of g) s 0) (length s) room (covers g s (sym e)) (all_inner g s 0))
accepted_by g s room (Err r) e = subst Accepted (sym (by_test g s room (Err r) e).1) none_accepted

-- the words that listing stores are accepted by the writer
pub listing_accepted : (g : Reading) (s : List ℕ) (room : ℕ) → Accepted (stored_of g s room)
listing_accepted g s room = accepted_by g s room (source_test s) refl

-- and written where there is room for them
pub listing_written : (g : Reading) (s : List ℕ) (room room' : ℕ) → length (stored_of g s room) / 3 * 11 ≤ room' → write_of (stored_of g s room) room' ≡ Ok (length (stored_of g s room) / 3 * 11)
listing_written g s room room' f = accepted_written (stored_of g s room) room' (listing_accepted g s room) f
