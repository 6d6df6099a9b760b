-- What lies inside, as the code hands it on. No rule of document 01: `between` of Outline says it of a token.
use Rattle.std.specs.Prelude.{ℕ, ◌+◌, Bool, false, Option, Some, None, leb, ltb}
use Rattle.laws.specs.Bools.{both}
use Rattle.outline.specs.declared.Inside.{Inside}

-- the byte at i lies inside; `left` bytes of its piece are left from it on
abbrev pub covered : Option Inside → ℕ → ℕ → Bool
covered None i left = false
covered (Some x) i left = both (leb x.lo i) (ltb x.kept left)

-- .. of a piece up to e
abbrev pub covers : Option Inside → ℕ → ℕ → Bool
covers None e i = false
covers (Some x) e i = both (leb x.lo i) (ltb (i + x.kept) e)
