use Prim.Native.Nat.{ℕ}
use mathlib.Core.Path.{ap, ◌∙◌}
use mathlib.Core.List.{[], ◌∷◌}
use lib.Seq.{sets}
use native.Mathlib.Omega.{arith}
use lib.ListN.{length-set}
use Rattle.findings.proofs.Stores.{put_five}
use Rattle.findings.proofs.store.put.Goals as goal

pub bounds-store-n-2 : goal.bounds-store-n-2
bounds-store-n-2 c = simp length-set (omega arith)

pub bounds-store-n-3 : goal.bounds-store-n-3
bounds-store-n-3 c = simp length-set (omega arith)

pub bounds-store-n-4 : goal.bounds-store-n-4
bounds-store-n-4 c = simp length-set (omega arith)

pub bounds-store-n-5 : goal.bounds-store-n-5
bounds-store-n-5 c = simp length-set (omega arith)

pub returns : goal.returns
returns c = put_five c.args.store.now c.args.n c.from.result c.args.f.start c.args.f.end c.args.f.from c.args.f.to ∙ ap (λ (k : ℕ). sets c.args.store.now c.args.n (k ∷ (c.args.f.start ∷ (c.args.f.end ∷ (c.args.f.from ∷ (c.args.f.to ∷ [])))))) c.from.ensures
