-- Document 01, "The lookahead buffer": what a call answers, and the numbers of its refusals.
use Rattle.std.specs.Prelude.{ℕ, Result, Ok}
use Rattle.looks.specs.declared.look.Done.{Done}
use Rattle.looks.specs.declared.look.Stop.{Stop}
use Rattle.looks.specs.declared.look.Stop.TheVariants.{Faulty, PastHeld, StoreShort, TooFar, WaitingFull}

-- how many tokens were written, a kind or 1 for yes, and a span
abbrev pub done : ℕ → ℕ → ℕ → ℕ → Result Done Stop
done count value start end = Ok (record { count = count; value = value; start = start; end = end })

abbrev pub number_of : Stop → ℕ
number_of TooFar = 30
number_of WaitingFull = 31
number_of PastHeld = 32
number_of StoreShort = 33
number_of Faulty = 34
