-- Document 01, "Token numbers": the number of each kind, and the kinds in the order of their numbers.
use Rattle.std.specs.Prelude.{None, Option, Some, ℕ, zero, suc, List, [], ◌∷◌, Bool, true, false, eqb}
use Rattle.laws.specs.Bools.{either, pick, within}
use Rattle.token.specs.declared.kind.Bracket.TheVariants.{Curly, Round, Square}
use Rattle.token.specs.declared.kind.Kind.{Kind}
use Rattle.token.specs.declared.kind.Kind.TheVariants.{Amp, AmpAmp, AmpEq, Arrow, At, Bang, BangEq, Byte, ByteStr, Caret, CaretEq, Char, Close, Colon, ColonColon, Comma, Comment, Dash, DashEq, Div, Dollar, Dot, DotDot, DotDotEq, Eof, Eq, EqEq, Gt, GtEq, GtGt, GtGtEq, Ident, Label, Lt, LtEq, LtLt, LtLtEq, MultilineComment, Number, Open, Perc, PercEq, Pipe, PipeEq, PipePipe, Plus, PlusEq, Pound, QuestionMark, Rocket, SemiColon, Shebang, SlashEq, Star, StarEq, Str, Template, Tilde, Underscore, Whitespace}

-- the number is the kind's outside form
unfoldable pub number_of : Kind → ℕ
number_of Whitespace = 1
number_of Comment = 2
number_of (MultilineComment true) = 3
number_of (MultilineComment false) = 4
number_of Shebang = 5
number_of Ident = 6
number_of Underscore = 7
number_of Number = 8
number_of Char = 9
number_of Byte = 10
number_of (Str false) = 11
number_of (Str true) = 12
number_of (ByteStr false) = 13
number_of (ByteStr true) = 14
number_of Label = 15
number_of (Template c) = 16
-- 17 to 43: `! # $ % & ( ) * + , - . / : ; < = > ? @ [ ] ^ { | } ~`
number_of Bang = 17
number_of Pound = 18
number_of Dollar = 19
number_of Perc = 20
number_of Amp = 21
number_of (Open Round) = 22
number_of (Close Round) = 23
number_of Star = 24
number_of Plus = 25
number_of Comma = 26
number_of Dash = 27
number_of Dot = 28
number_of Div = 29
number_of Colon = 30
number_of SemiColon = 31
number_of Lt = 32
number_of Eq = 33
number_of Gt = 34
number_of QuestionMark = 35
number_of At = 36
number_of (Open Square) = 37
number_of (Close Square) = 38
number_of Caret = 39
number_of (Open Curly) = 40
number_of Pipe = 41
number_of (Close Curly) = 42
number_of Tilde = 43
-- 44 to 63: `!= %= && &= *= += -= -> .. /= :: << <= == => >= >> ^= |= ||`
number_of BangEq = 44
number_of PercEq = 45
number_of AmpAmp = 46
number_of AmpEq = 47
number_of StarEq = 48
number_of PlusEq = 49
number_of DashEq = 50
number_of Arrow = 51
number_of DotDot = 52
number_of SlashEq = 53
number_of ColonColon = 54
number_of LtLt = 55
number_of LtEq = 56
number_of EqEq = 57
number_of Rocket = 58
number_of GtEq = 59
number_of GtGt = 60
number_of CaretEq = 61
number_of PipeEq = 62
number_of PipePipe = 63
-- 64 to 66: `..= <<= >>=`
number_of DotDotEq = 64
number_of LtLtEq = 65
number_of GtGtEq = 66
-- end of file
number_of Eof = 67

-- the kinds by number, from 1 on; of the two kinds with number 16 the closed template
unfoldable pub kinds : List Kind
kinds =
    Whitespace ∷ Comment ∷ MultilineComment true ∷ MultilineComment false ∷ Shebang ∷
    Ident ∷ Underscore ∷ Number ∷ Char ∷ Byte ∷
    Str false ∷ Str true ∷ ByteStr false ∷ ByteStr true ∷ Label ∷ Template true ∷
    Bang ∷ Pound ∷ Dollar ∷ Perc ∷ Amp ∷ Open Round ∷ Close Round ∷
    Star ∷ Plus ∷ Comma ∷ Dash ∷ Dot ∷ Div ∷ Colon ∷ SemiColon ∷ Lt ∷ Eq ∷ Gt ∷ QuestionMark ∷ At ∷
    Open Square ∷ Close Square ∷ Caret ∷ Open Curly ∷ Pipe ∷ Close Curly ∷ Tilde ∷
    BangEq ∷ PercEq ∷ AmpAmp ∷ AmpEq ∷ StarEq ∷ PlusEq ∷ DashEq ∷ Arrow ∷ DotDot ∷ SlashEq ∷
    ColonColon ∷ LtLt ∷ LtEq ∷ EqEq ∷ Rocket ∷ GtEq ∷ GtGt ∷ CaretEq ∷ PipeEq ∷ PipePipe ∷
    DotDotEq ∷ LtLtEq ∷ GtGtEq ∷ Eof ∷ []

-- the kind at a place of a list, counted from 0
unfoldable pub nth_kind : List Kind → ℕ → Option Kind
nth_kind [] n = None
nth_kind (k ∷ ks) zero = Some k
nth_kind (k ∷ ks) (suc n) = nth_kind ks n

-- the kind of a number, counted from 1
unfoldable pub kind_of : ℕ → Option Kind
kind_of zero = None
kind_of (suc n) = nth_kind kinds n

-- the outline paints the inside of kinds 2, 3, 4, 11 to 14 and 16
abbrev pub has_inside : Kind → Bool
has_inside k = either (within 2 4 (number_of k)) (either (within 11 14 (number_of k)) (eqb (number_of k) 16))

-- the number up to the escape mark: 11 for 12, and 13 for 14
abbrev pub plain_number : ℕ → ℕ
plain_number n = pick (eqb n 12) 11 (pick (eqb n 14) 13 n)

-- the kind up to the escape mark
abbrev pub plain_kind : Kind → Kind
plain_kind k = pick (eqb (number_of k) 12) (Str false) (pick (eqb (number_of k) 14) (ByteStr false) k)
