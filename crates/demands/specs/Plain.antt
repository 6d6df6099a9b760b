-- Demand 3: tokens up to the escape mark of strings, and rules that count places in bytes.
use Rattle.std.specs.Prelude.{ℕ, List, [], ◌∷◌}
use Rattle.families.specs.Moves.{with_stride}
use Rattle.families.specs.Tokens.{Tokens, fin, halt, more}
use Rattle.numbers.specs.Kinds.{plain_kind, plain_number}
use Rattle.readers.specs.Rules.{Rules}
use Rattle.text.specs.Utf8.{width}
use Rattle.token.specs.declared.read.Token.{Token}

-- the rules R with places in bytes
abbrev pub in_bytes : Rules → Rules
in_bytes R = with_stride R width

-- a token up to the escape mark
abbrev pub plain_token : Token → Token
plain_token k = record { kind = plain_kind k.kind; span = k.span }

unfoldable pub plain_tokens : Tokens → Tokens
plain_tokens fin = fin
plain_tokens (halt r) = halt r
plain_tokens (more k ts) = more (plain_token k) (plain_tokens ts)

-- words of a listing up to the escape mark: of each three the first is a kind's number
unfoldable pub plain_words : List ℕ → List ℕ
plain_words [] = []
plain_words (k ∷ []) = k ∷ []
plain_words (k ∷ (a ∷ [])) = k ∷ (a ∷ [])
plain_words (k ∷ (a ∷ (e ∷ ws))) = plain_number k ∷ (a ∷ (e ∷ plain_words ws))
