use native.Mathlib.Omega.{arith}
use lib.ListN.{length-set}
use Rattle.listing.proofs.put.Goals as goal

pub bounds-store-n-2 : goal.bounds-store-n-2
bounds-store-n-2 c = simp length-set (omega arith)

pub bounds-store-n-3 : goal.bounds-store-n-3
bounds-store-n-3 c = simp length-set (omega arith)
