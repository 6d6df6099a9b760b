-- Any two results that a call's promise allows are equal: the state, whose numbers are six, the answer and the store. Assumes nothing.
use Prim.Native.Nat.{ℕ}
use mathlib.Core.Path.{◌≡◌}
use mathlib.Core.List.{List}
use mathlib.Core.Bool.{Bool}
use lib.Seq.{sets}
use lib.ListN.{length}
use Rattle.std.specs.Prelude.{Result}
use Rattle.ahead.proofs.Lent.{lent}
use Rattle.ahead.specs.View.{fresh_by, view_of}
use Rattle.ahead.specs.declared.Ahead.{Ahead}
use Rattle.emitted.specs.Sequence.{Call, turn_of}
use Rattle.laws.proofs.Determined.{determined}
use Rattle.looks.specs.Buffer.{State}
use Rattle.looks.specs.Calls.{Turn}
use Rattle.looks.specs.declared.look.Done.{Done}
use Rattle.looks.specs.declared.look.Stop.{Stop}

pub new_determined : (keep : Bool) (a b : Ahead) → length a.nums ≡ 6 → length b.nums ≡ 6 → view_of a ≡ fresh_by keep → view_of b ≡ fresh_by keep → a ≡ b
new_determined keep a b i j h k = lent a b i j (determined (view_of a) (view_of b) h k)

-- what a call promises of the state that it leaves, its answer and its store; a call without a store writes nothing
abbrev Promised : Turn → List ℕ → Ahead → Result Done Stop → List ℕ → Type 0
Promised t out a r v = (view_of a ≡ t.state) × (r ≡ t.answer) × (v ≡ sets out 0 t.written)

turn_determined : (t : Turn) (out : List ℕ) (a b : Ahead) (r q : Result Done Stop) (v w : List ℕ) → length a.nums ≡ 6 → length b.nums ≡ 6 → Promised t out a r v → Promised t out b q w → (a ≡ b) × (r ≡ q) × (v ≡ w)
turn_determined t out a b r q v w i j h k = (lent a b i j (determined (view_of a) (view_of b) h.0 k.0), determined r q h.1 k.1, determined v w h.2 k.2)

module _ (t : ℕ) (l : List ℕ) (call : Call) (st : State) (out : List ℕ) (a b : Ahead) (r q : Result Done Stop) (v w : List ℕ) where
  pub call_determined : length a.nums ≡ 6 → length b.nums ≡ 6 → Promised (turn_of t l call st) out a r v → Promised (turn_of t l call st) out b q w → (a ≡ b) × (r ≡ q) × (v ≡ w)
  call_determined i j h k = turn_determined (turn_of t l call st) out a b r q v w i j h k
