-- Any two results that the promise of `findings` allows are equal. Assumes nothing.
use Rattle.listing.specs.Listing.{Listed}
use Prim.Native.Nat.{ℕ}
use mathlib.Core.Path.{◌≡◌}
use mathlib.Core.List.{List}
use lib.Seq.{sets}
use lib.ListN.{length}
use Rattle.findings.specs.Findings.{findings_of, stored_findings}
use Rattle.laws.proofs.Determined.{determined_both}
use Rattle.readers.specs.declared.reading.Reading.{Reading}

pub findings_determined : (g : Reading) (s out : List ℕ) (r q : Listed) (v w : List ℕ) → (r ≡ findings_of g s (length out)) × (v ≡ sets out 0 (stored_findings g s (length out)))
    → (q ≡ findings_of g s (length out)) × (w ≡ sets out 0 (stored_findings g s (length out))) → (r ≡ q) × (v ≡ w)
findings_determined g s out r q v w h k = determined_both r q v w h k
