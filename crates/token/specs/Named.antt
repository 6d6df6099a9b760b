-- Document 01, "Refusal numbers and places": the numbers that name a reason.
use Rattle.std.specs.Prelude.{ℕ, Bool, leb, ◌&&◌, ◌||◌}

abbrev pub is_named : ℕ → Bool
is_named n = (leb 1 n && leb n 6) || ((leb 10 n && leb n 27) || (leb 40 n && leb n 43))
