-- The tokens of a source as data, read one after the other up to the end or to a refusal.
use Rattle.std.specs.Prelude.{Err, Ok, ℕ, suc, ◌+◌, ◌<◌, ◌≡◌, List, [], ◌∷◌, true, false, ltb, length}
use Rattle.token.specs.Reads.{Read}
use Rattle.lexer.specs.Next.{next_of}
use Rattle.readers.specs.Rules.{Rules}
use Rattle.text.specs.Utf8.{rest}
use Rattle.token.specs.declared.read.Refusal.{Refusal}
use Rattle.token.specs.declared.read.Token.{Token}

pub data Tokens : Type 0 where
  fin : Tokens
  halt : Refusal → Tokens
  more : Token → Tokens → Tokens

abbrev pub each_of : Read → (ℕ → Tokens) → Tokens
each_of (Err r) go = halt r
each_of (Ok k) go = more k (go k.span.end)

-- the tokens of the scalars cs from p on, in a source that ends at n. Scalars before the place t belong to the token before, and are passed over
unfoldable pub tokens_of : Rules → ℕ → ℕ → List ℕ → ℕ → Tokens
tokens_of R n t [] p = fin
tokens_of R n t (v ∷ cs) p =
    elim (ltb p t) [
      | true ↦ tokens_of R n t cs (p + R.stride v)
      | false ↦ each_of (next_of R n (v ∷ cs) p) (λ t'. tokens_of R n t' cs (p + R.stride v))
    ]

unfoldable pub tokens_at : Rules → List ℕ → ℕ → Tokens
tokens_at R s p = tokens_of R (length s) 0 (rest s p) p

-- how many there are
unfoldable pub count_of : Tokens → ℕ
count_of fin = 0
count_of (halt r) = 0
count_of (more k ts) = suc (count_of ts)

-- the spans lie end to end from p on, none of them empty, up to the end e of the source or to a refusal
unfoldable pub Covers : Tokens → ℕ → ℕ → Type 0
Covers fin p e = p ≡ e
Covers (halt r) p e = Unit {0}
Covers (more k ts) p e = (k.span.start ≡ p) × (p < k.span.end) × Covers ts k.span.end e
