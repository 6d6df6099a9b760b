-- A reason's number tells which it is. Assumes nothing.
use Rattle.std.specs.Prelude.{ℕ, Bool, true, false, List, [], ◌∷◌, get_or}
use Rattle.std.proofs.Math.Bool.{Bool-set}
use native.Mathlib.Omega.{arith}
use mathlib.Core.Path.{◌≡◌, refl, sym, ap, ◌∙◌}
use Rattle.token.specs.Named.{is_named}
use Rattle.token.specs.Reads.{reason_number}
use Rattle.token.specs.declared.reason.Reason.{Reason}
use Rattle.token.specs.declared.reason.Reason.TheVariants.{BadByteEscape, BadEscapeSequence, BadHexEscapeChar, BadKind, BadLength, BadMark, BadUnicodeEscape, BadUnicodeEscapeInByteString, ExpectedByteClose, ExpectedCharClose, ExpectedCharOrLabel, ExpectedEscape, Gap, IllFormed, NoPlace, NoRoom, NoSuchForm, NoSuchReading, NotAscii, NotOneItem, Other, OutputShort, TooDeep, TooLong, UnexpectedChar, UnterminatedByteLit, UnterminatedByteStrLit, UnterminatedCharLit, UnterminatedStrLit}

-- each at its number; `TooLong` stands at numbers of none
numbered : List Reason
numbered =
    TooLong ∷ TooLong ∷ IllFormed ∷ NoRoom ∷ NoPlace ∷ NoSuchForm ∷ NoSuchReading ∷ TooLong ∷ TooLong ∷ TooLong ∷ ExpectedEscape ∷ UnterminatedCharLit ∷
    ExpectedCharClose ∷ ExpectedCharOrLabel ∷ ExpectedByteClose ∷ UnterminatedByteLit ∷ UnterminatedStrLit ∷ UnterminatedByteStrLit ∷
    UnexpectedChar ∷ TooDeep ∷ BadEscapeSequence ∷ BadUnicodeEscapeInByteString ∷ BadUnicodeEscape ∷ BadHexEscapeChar ∷ BadByteEscape ∷ NotAscii ∷
    OutputShort ∷ NotOneItem ∷ TooLong ∷ TooLong ∷ TooLong ∷ TooLong ∷ TooLong ∷ TooLong ∷ TooLong ∷ TooLong ∷ TooLong ∷ TooLong ∷ TooLong ∷
    TooLong ∷ BadLength ∷ BadMark ∷ BadKind ∷ Gap ∷ []

abbrev by_named : (n : ℕ) (b : Bool) → is_named n ≡ b → Reason
by_named n true e = get_or numbered n TooLong
by_named n false e = Other (record { number = n; other = e })

abbrev reason_at : ℕ → Reason
reason_at n = by_named n (is_named n) refl

other_told : (n : ℕ) (b : Bool) (e : is_named n ≡ b) (f : is_named n ≡ false) → by_named n b e ≡ Other (record { number = n; other = f })
other_told n true e f = grind arith
other_told n false e f = ap (λ (h : is_named n ≡ false). Other (record { number = n; other = h })) (Bool-set (is_named n) false e f)

told : (k : Reason) → reason_at (reason_number k) ≡ k
unfolding numbered
told TooLong = refl
told IllFormed = refl
told NoRoom = refl
told NoPlace = refl
told NoSuchForm = refl
told NoSuchReading = refl
told ExpectedEscape = refl
told UnterminatedCharLit = refl
told ExpectedCharClose = refl
told ExpectedCharOrLabel = refl
told ExpectedByteClose = refl
told UnterminatedByteLit = refl
told UnterminatedStrLit = refl
told UnterminatedByteStrLit = refl
told UnexpectedChar = refl
told TooDeep = refl
told BadEscapeSequence = refl
told BadUnicodeEscapeInByteString = refl
told BadUnicodeEscape = refl
told BadHexEscapeChar = refl
told BadByteEscape = refl
told NotAscii = refl
told OutputShort = refl
told NotOneItem = refl
told BadLength = refl
told BadMark = refl
told BadKind = refl
told Gap = refl
told (Other n) = other_told n.number (is_named n.number) refl n.other

pub reason_one : (a b : Reason) → reason_number a ≡ reason_number b → a ≡ b
reason_one a b e = sym (told a) ∙ ap reason_at e ∙ told b
