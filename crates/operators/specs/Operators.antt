-- Document 01, "Token numbers" 17 to 66: the operators by their characters, in its order, a row each.
use Rattle.std.specs.Prelude.{None, Option, Some, ℕ, ◌+◌, List, [], ◌∷◌, eqb}
use Rattle.laws.specs.Bools.{both, pick}
use Rattle.operators.specs.declared.Operator.{Operator}
use Rattle.readers.specs.Scan.{Stride}
use Rattle.token.specs.declared.kind.Bracket.TheVariants.{Curly, Round, Square}
use Rattle.token.specs.declared.kind.Kind.{Kind}
use Rattle.token.specs.declared.kind.Kind.TheVariants.{Amp, AmpAmp, AmpEq, Arrow, At, Bang, BangEq, Caret, CaretEq, Close, Colon, ColonColon, Comma, Dash, DashEq, Div, Dollar, Dot, DotDot, DotDotEq, Eq, EqEq, Gt, GtEq, GtGt, GtGtEq, Lt, LtEq, LtLt, LtLtEq, Open, Perc, PercEq, Pipe, PipeEq, PipePipe, Plus, PlusEq, Pound, QuestionMark, Rocket, SemiColon, SlashEq, Star, StarEq, Tilde}

-- 17 to 43
unfoldable pub ones : List (ℕ × Kind)
ones =
    (33, Bang) ∷ (35, Pound) ∷ (36, Dollar) ∷ (37, Perc) ∷ (38, Amp) ∷ (40, Open Round) ∷ (41, Close Round) ∷ (42, Star) ∷ (43, Plus)
    ∷ (44, Comma) ∷ (45, Dash) ∷ (46, Dot) ∷ (47, Div) ∷ (58, Colon) ∷ (59, SemiColon) ∷ (60, Lt) ∷ (61, Eq) ∷ (62, Gt)
    ∷ (63, QuestionMark) ∷ (64, At) ∷ (91, Open Square) ∷ (93, Close Square) ∷ (94, Caret) ∷ (123, Open Curly) ∷ (124, Pipe)
    ∷ (125, Close Curly) ∷ (126, Tilde) ∷ []

-- 44 to 63
unfoldable pub twos : List (ℕ × ℕ × Kind)
twos =
    (33, 61, BangEq) ∷ (37, 61, PercEq) ∷ (38, 38, AmpAmp) ∷ (38, 61, AmpEq) ∷ (42, 61, StarEq) ∷ (43, 61, PlusEq) ∷ (45, 61, DashEq)
    ∷ (45, 62, Arrow) ∷ (46, 46, DotDot) ∷ (47, 61, SlashEq) ∷ (58, 58, ColonColon) ∷ (60, 60, LtLt) ∷ (60, 61, LtEq) ∷ (61, 61, EqEq)
    ∷ (61, 62, Rocket) ∷ (62, 61, GtEq) ∷ (62, 62, GtGt) ∷ (94, 61, CaretEq) ∷ (124, 61, PipeEq) ∷ (124, 124, PipePipe) ∷ []

-- 64 to 66
unfoldable pub threes : List (ℕ × ℕ × ℕ × Kind)
threes = (46, 46, 61, DotDotEq) ∷ (60, 60, 61, LtLtEq) ∷ (62, 62, 61, GtGtEq) ∷ []

unfoldable pub look_one : List (ℕ × Kind) → ℕ → Option Kind
look_one [] a = None
look_one (r ∷ t) a = pick (eqb a r.0) (Some r.1) (look_one t a)

unfoldable pub look_two : List (ℕ × ℕ × Kind) → ℕ → ℕ → Option Kind
look_two [] a b = None
look_two (r ∷ t) a b = pick (both (eqb a r.0) (eqb b r.1)) (Some r.2) (look_two t a b)

unfoldable pub look_three : List (ℕ × ℕ × ℕ × Kind) → ℕ → ℕ → ℕ → Option Kind
look_three [] a b c = None
look_three (r ∷ t) a b c = pick (both (eqb a r.0) (both (eqb b r.1) (eqb c r.2))) (Some r.3) (look_three t a b c)

-- an operator's kind, and the place after it
abbrev pub operator : Kind → ℕ → Operator
operator k p = record { kind = k; end = p }

abbrev pub found_at : Option Kind → ℕ → Option Operator
found_at (Some k) p = Some (operator k p)
found_at None p = None

abbrev pub or_else : Option Operator → Option Operator → Option Operator
or_else (Some o) f = Some o
or_else None f = f

-- of the scalar v, which ends at p, and those after it
unfoldable pub find_one : ℕ → ℕ → Option Operator
find_one v p = found_at (look_one ones v) p

unfoldable pub find_two : Stride → ℕ → List ℕ → ℕ → Option Operator
find_two stride v [] p = None
find_two stride v (w ∷ cs) p = found_at (look_two twos v w) (p + stride w)

unfoldable pub find_three : Stride → ℕ → List ℕ → ℕ → Option Operator
find_three stride v [] p = None
find_three stride v (w ∷ []) p = None
find_three stride v (w ∷ (x ∷ cs)) p = found_at (look_three threes v w x) (p + stride w + stride x)

-- three characters are tried before two, and two before one
unfoldable pub operator_of : Stride → ℕ → List ℕ → ℕ → Option Operator
operator_of stride v cs p = or_else (find_three stride v cs p) (or_else (find_two stride v cs p) (find_one v p))
