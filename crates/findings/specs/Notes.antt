-- One finding, or none, into the store, as the code of the walk does it. It serves the proofs; what is stored stands in Findings.
use Rattle.std.specs.Prelude.{None, Option, Some, Result, Ok, Err, ℕ, ◌+◌, ◌-◌, ◌≤◌, true, false, ltb}
use Rattle.findings.specs.Findings.{no_room_for}
use Rattle.findings.specs.declared.store.Finding.{Finding}
use Rattle.findings.specs.declared.store.Noted.{Noted}
use Rattle.listing.specs.Listing.{stopped_at}
use Rattle.listing.specs.declared.Stopped.{Stopped}

-- places fit the store's words
abbrev pub Small : Finding → Type 0
Small f = (f.start ≤ 65536) × (f.end ≤ 65536) × (f.from ≤ 65536) × (f.to ≤ 65536)

abbrev pub AllSmall : Option Finding → Type 0
AllSmall (Some f) = Small f
AllSmall None = Unit {0}

abbrev pub noted_at : ℕ → ℕ → Noted
noted_at words count = record { words = words; count = count }

-- a store of so many words, of which some are taken
unfoldable pub noted_of : ℕ → Noted → Option Finding → Result Noted Stopped
noted_of len had None = Ok had
noted_of len had (Some f) =
    elim (ltb (len - had.words) 5) [
      | true ↦ Err (stopped_at had.count (no_room_for f))
      | false ↦ Ok (noted_at (had.words + 5) (had.count + 1))
    ]
