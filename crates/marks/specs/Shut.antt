-- Whether a backtick closed a template: the one thing about a kind that its number does not say.
use Rattle.std.specs.Prelude.{Bool, false}
use Rattle.token.specs.declared.kind.Kind.{Kind}
use Rattle.token.specs.declared.kind.Kind.TheVariants.{Amp, AmpAmp, AmpEq, Arrow, At, Bang, BangEq, Byte, ByteStr, Caret, CaretEq, Char, Close, Colon, ColonColon, Comma, Comment, Dash, DashEq, Div, Dollar, Dot, DotDot, DotDotEq, Eof, Eq, EqEq, Gt, GtEq, GtGt, GtGtEq, Ident, Label, Lt, LtEq, LtLt, LtLtEq, MultilineComment, Number, Open, Perc, PercEq, Pipe, PipeEq, PipePipe, Plus, PlusEq, Pound, QuestionMark, Rocket, SemiColon, Shebang, SlashEq, Star, StarEq, Str, Template, Tilde, Underscore, Whitespace}

unfoldable pub is_shut : Kind → Bool
is_shut Whitespace = false
is_shut Comment = false
is_shut (MultilineComment b) = false
is_shut Shebang = false
is_shut Ident = false
is_shut Underscore = false
is_shut Number = false
is_shut Char = false
is_shut Byte = false
is_shut (Str b) = false
is_shut (ByteStr b) = false
is_shut Label = false
is_shut (Template b) = b
is_shut Bang = false
is_shut Pound = false
is_shut Dollar = false
is_shut Perc = false
is_shut Amp = false
is_shut (Open b) = false
is_shut (Close b) = false
is_shut Star = false
is_shut Plus = false
is_shut Comma = false
is_shut Dash = false
is_shut Dot = false
is_shut Div = false
is_shut Colon = false
is_shut SemiColon = false
is_shut Lt = false
is_shut Eq = false
is_shut Gt = false
is_shut QuestionMark = false
is_shut At = false
is_shut Caret = false
is_shut Pipe = false
is_shut Tilde = false
is_shut BangEq = false
is_shut PercEq = false
is_shut AmpAmp = false
is_shut AmpEq = false
is_shut StarEq = false
is_shut PlusEq = false
is_shut DashEq = false
is_shut Arrow = false
is_shut DotDot = false
is_shut SlashEq = false
is_shut ColonColon = false
is_shut LtLt = false
is_shut LtEq = false
is_shut EqEq = false
is_shut Rocket = false
is_shut GtEq = false
is_shut GtGt = false
is_shut CaretEq = false
is_shut PipeEq = false
is_shut PipePipe = false
is_shut DotDotEq = false
is_shut LtLtEq = false
is_shut GtGtEq = false
is_shut Eof = false
