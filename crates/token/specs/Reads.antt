-- Document 01, "How one token is read" and "Refusal numbers and places": what a token reader answers.
use Rattle.std.specs.Prelude.{ℕ, Result, Ok, Err, refl}
use Rattle.token.specs.declared.kind.Kind.{Kind}
use Rattle.token.specs.declared.read.Refusal.{Refusal}
use Rattle.token.specs.declared.read.Span.{Span}
use Rattle.token.specs.declared.read.Token.{Token}
use Rattle.token.specs.declared.reason.Reason.{Reason}
use Rattle.token.specs.declared.reason.Reason.TheVariants.{TooLong, IllFormed, NoRoom, NoPlace, NoSuchForm, NoSuchReading, ExpectedEscape, UnterminatedCharLit, ExpectedCharClose, ExpectedCharOrLabel, ExpectedByteClose, UnterminatedByteLit, UnterminatedStrLit, UnterminatedByteStrLit, UnexpectedChar, TooDeep, BadEscapeSequence, BadUnicodeEscapeInByteString, BadUnicodeEscape, BadHexEscapeChar, BadByteEscape, NotAscii, OutputShort, NotOneItem, BadLength, BadMark, BadKind, Gap, Other}

-- a token or a refusal
abbrev pub Read : Type 0
Read = Result Token Refusal

-- a source, a place or a list that is in order, or its refusal
abbrev pub Tested : Type 0
Tested = Result (Unit {0}) Refusal

-- how many bytes or words were written, or the refusal
abbrev pub Counted : Type 0
Counted = Result ℕ Refusal

-- the numbers of refusals
abbrev pub reason_number : Reason → ℕ
reason_number TooLong = 1
reason_number IllFormed = 2
reason_number NoRoom = 3
reason_number NoPlace = 4
reason_number NoSuchForm = 5
reason_number NoSuchReading = 6
reason_number ExpectedEscape = 10
reason_number UnterminatedCharLit = 11
reason_number ExpectedCharClose = 12
reason_number ExpectedCharOrLabel = 13
reason_number ExpectedByteClose = 14
reason_number UnterminatedByteLit = 15
reason_number UnterminatedStrLit = 16
reason_number UnterminatedByteStrLit = 17
reason_number UnexpectedChar = 18
reason_number TooDeep = 19
reason_number BadEscapeSequence = 20
reason_number BadUnicodeEscapeInByteString = 21
reason_number BadUnicodeEscape = 22
reason_number BadHexEscapeChar = 23
reason_number BadByteEscape = 24
reason_number NotAscii = 25
reason_number OutputShort = 26
reason_number NotOneItem = 27
reason_number BadLength = 40
reason_number BadMark = 41
reason_number BadKind = 42
reason_number Gap = 43
reason_number (Other n) = n.number

-- a span in bytes, from start to before end
abbrev pub span_of : ℕ → ℕ → Span
span_of start end = record { start = start; end = end }

-- a point is a span that ends where it starts
abbrev pub point_of : ℕ → Span
point_of p = span_of p p

-- a token is a kind with its data beside its span
abbrev pub got_of : Kind → ℕ → ℕ → Read
got_of kind start end = Ok (record { kind = kind; span = span_of start end })

-- a refusal has a reason, a span and the place reached
abbrev pub refused_of : Reason → ℕ → ℕ → ℕ → Read
refused_of reason start end reached = Err (record { reason = reason; span = span_of start end; reached = reached })

-- one of a place or of a record alone: a point, and nothing reached past it
abbrev pub point_refusal : Reason → ℕ → Refusal
point_refusal reason p = record { reason = reason; span = point_of p; reached = p }

-- a refusal's number
abbrev pub number_in : Refusal → ℕ
number_in r = reason_number r.reason

-- the refusal that was answered; of a token none, which is number 0 at its end
abbrev pub refusal_in : Read → Refusal
refusal_in (Ok k) = point_refusal (Other (record { number = 0; other = refl })) k.span.end
refusal_in (Err r) = r

-- the number of the refusal that was answered; 0 of a token
abbrev pub refusal_number : Read → ℕ
refusal_number (Ok k) = 0
refusal_number (Err r) = number_in r

-- the place that reading reached: a token's end, or a refusal's own
abbrev pub reached_of : Read → ℕ
reached_of (Ok k) = k.span.end
reached_of (Err r) = r.reached
