-- The template, whose body's backslashes read whole tokens, and the token with a bound on how deep templates go.
use Rattle.std.specs.Prelude.{Err, Ok, ℕ, zero, suc, ◌+◌, ◌%◌, true, false, List, [], ◌∷◌, ◌==◌, nat_lt}
use Rattle.token.specs.declared.reason.Reason.TheVariants.{TooDeep}
use Rattle.choice.specs.Rule.{Deep, token_with}
use Rattle.readers.specs.Rules.{Rules}
use Rattle.text.specs.Characters.{backslash, backtick, close_brace, open_brace}
use Rattle.token.specs.Reads.{got_of, refused_of, Read, number_in}
use Rattle.token.specs.declared.kind.Kind.TheVariants.{Template}

-- a brace level counts as a u32 that wraps
abbrev pub up : ℕ → ℕ
up l = (l + 1) % 4294967296

abbrev pub down : ℕ → ℕ
down l = (l + 4294967295) % 4294967296

-- after a token that a backslash read: on from the place that it reached, its refusal dropped unless that is 19
abbrev pub go_on : ℕ → Read → (ℕ → Read) → Read
go_on a (Ok k) go = go k.span.end
go_on a (Err r) go = elim ((number_in r) == 19) [ true ↦ refused_of TooDeep a r.span.end r.reached | false ↦ go r.reached ]

-- one scalar v of a body; after it stand the scalars cs, from p on, and `go` reads on from a place at a brace level
unfoldable pub template_turn : (List ℕ → ℕ → Read) → ℕ → ℕ → List ℕ → ℕ → ℕ → (ℕ → ℕ → Read) → Read
template_turn next a v cs p l go =
    elim (v == backtick) [
      | true ↦ elim (l == 0) [ true ↦ got_of (Template true) a p | false ↦ go 0 l ]
      | false ↦
          elim (v == open_brace) [
            | true ↦ go 0 (up l)
            | false ↦
                elim (v == close_brace) [
                  | true ↦ go 0 (down l)
                  | false ↦ elim (v == backslash) [ true ↦ go_on a (next cs p) (λ t. go t l) | false ↦ go 0 l ]
                ]
          ]
    ]

-- the body from p on at brace level l. Scalars before the place t were read by a token inside, and are passed over
unfoldable pub template_body : Rules → (List ℕ → ℕ → Read) → ℕ → ℕ → List ℕ → ℕ → ℕ → Read
template_body R next a t [] p l = got_of (Template false) a p
template_body R next a t (v ∷ cs) p l =
    elim (nat_lt p t) [
      | true ↦ template_body R next a t cs (p + R.stride v) l
      | false ↦ template_turn next a v cs (p + R.stride v) l (λ t' l'. template_body R next a t' cs (p + R.stride v) l')
    ]

-- a template that starts at a, from after its backtick on
unfoldable pub template_of : Rules → (List ℕ → ℕ → Read) → Deep
template_of R next a cs p = template_body R next a 0 cs p 0

-- the 65th: refused from its start to after its backtick
abbrev pub too_deep : Deep
too_deep a cs p = refused_of TooDeep a p p

-- a token within which d templates may still open, one inside the other
unfoldable pub token_of : Rules → ℕ → List ℕ → ℕ → Read
token_of R zero cs p = token_with R too_deep cs p
token_of R (suc d) cs p = token_with R (template_of R (token_of R d)) cs p
