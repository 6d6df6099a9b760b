-- How a program ended, as a digit.
use Rattle.std.specs.Prelude.{ℕ}
use Rattle.buffer.specs.declared.Ending.{Ending}
use Rattle.buffer.specs.declared.Ending.TheVariants.{Clean, Failed, Told}

abbrev pub status_of : Ending → ℕ
status_of Clean = 0
status_of Told = 1
status_of Failed = 2
