-- What may vary in how text is read. All reading is defined, and all that holds for every reading proved, over one such record.
use Rattle.std.specs.Prelude.{ℕ, Bool, true}
use Rattle.classes.specs.Classes.{is_xid_continue, is_xid_start}
use Rattle.readers.specs.declared.reading.Comments.{Comments}
use Rattle.readers.specs.declared.reading.Comments.TheVariants.{Crate, First}
use Rattle.readers.specs.declared.reading.Reading.{Reading}
use Rattle.text.specs.Utf8.{width}

pub record Rules : Type 0 where
  -- how far a scalar moves the place
  pub stride : ℕ → ℕ
  -- how many scalars are passed over after the opening of a comment
  pub skip : ℕ
  -- word letters: the first one, and those after it
  pub start : ℕ → Bool
  pub continue : ℕ → Bool
  -- whether a number takes an exponent with a sign
  pub exponents : Bool

-- document 01: two scalars are skipped after `/*`; document 02, A3: none
abbrev pub skip_of : Comments → ℕ
skip_of Crate = 2
skip_of First = 0

-- byte places, XID up to U+024F, document 02's A2, and what the caller names
abbrev pub rules_of : Reading → Rules
rules_of g = record { stride = width; skip = skip_of g.comments; start = is_xid_start; continue = is_xid_continue; exponents = true }

-- the two readings: rune's, and the one in which the first close ends a comment
abbrev pub rune : Reading
rune = record { comments = Crate }

abbrev pub first_close : Reading
first_close = record { comments = First }
