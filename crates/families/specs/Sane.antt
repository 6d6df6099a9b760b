-- No rule of document 01, for theorems: what rules must keep so that all that is stated here holds of them.
use Rattle.std.specs.Prelude.{ℕ, ◌<◌, ◌≡◌, false}
use Rattle.readers.specs.Rules.{Rules}
use Rattle.text.specs.Characters.{backtick}

-- every scalar moves the place, and no word starts with the template's backtick
pub record Sane (R : Rules) : Type 0 where
  pub steps : (v : ℕ) → 0 < R.stride v
  pub tick : R.start backtick ≡ false

-- the same with another number of scalars passed over after `/*`
abbrev pub with_skip : Rules → ℕ → Rules
with_skip R n = record { stride = R.stride; skip = n; start = R.start; continue = R.continue; exponents = R.exponents }
