-- One scanner for every reader that takes a scalar at a time: a reader is a step on a small state, and an answer made of where and why it stopped.
use Rattle.std.specs.Prelude.{ℕ, ◌+◌, List, [], ◌∷◌}

-- how far a scalar moves the place
abbrev pub Stride : Type 0
Stride = ℕ → ℕ

-- what a scalar does: the scan goes on, stops before it, or stops after it; each with the state then
pub data Act (S : Type 0) : Type 0 where
  on : S → Act S
  before : S → Act S
  behind : S → Act S

-- why a scan stopped: the scalars ended, or one stopped it before or after itself
pub data How : Type 0 where
  ended : How
  short : How
  full : How

-- the state at the stop, the place of the last scalar read, the place reached, and why
pub record Stop (S : Type 0) : Type 0 where
  pub state : S
  pub last : ℕ
  pub place : ℕ
  pub how : How

module _ {S : Type 0} where
  abbrev pub stop_at : S → ℕ → ℕ → How → Stop S
  stop_at s l p h = record { state = s; last = l; place = p; how = h }

  -- a step sees the state, the scalar, and the scalars after it
  unfoldable pub scan : (S → ℕ → List ℕ → Act S) → Stride → S → ℕ → List ℕ → ℕ → Stop S
  scan step w s l [] p = stop_at s l p ended
  scan step w s l (v ∷ cs) p =
      elim (step s v cs) [
        | on s' ↦ scan step w s' p cs (p + w v)
        | before s' ↦ stop_at s' l p short
        | behind s' ↦ stop_at s' p (p + w v) full
      ]
