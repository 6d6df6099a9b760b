-- Escapes by value, for the loops of a body. They are no rules of document 01: what a number says is true, and 0 says nothing.
use Rattle.std.specs.Prelude.{ℕ, ◌+◌, ◌/◌, ◌%◌, ◌<◌, ◌≡◌, true, Option, Some}
use Rattle.encoding.specs.Encode.{is_scalar}
use Rattle.escapes.specs.declared.Escape.{Escape}
use Rattle.escapes.specs.declared.Escape.TheVariants.{Item}

-- an item in one number, 16 times it and the length of its escape from p on, since a number needs no memory; 0 says nothing of e
abbrev pub Packed : ℕ → Escape → ℕ → Type 0
Packed p e r = 0 < r → Item (r / 16) (p + r % 16) ≡ e

-- a scalar in braces, the last of which is i bytes after the backslash
pub record IsClosed (x : Option ℕ) (i r : ℕ) : Type 0 where
  pub digits : x ≡ Some (r / 16)
  pub scalar : is_scalar (r / 16) ≡ true
  pub place : r % 16 ≡ i + 1

abbrev pub Closed : Option ℕ → ℕ → ℕ → Type 0
Closed x i r = 0 < r → IsClosed x i r
