-- Document 01, "Refusal numbers and places": which refusals reading makes, and where a 19 stands.
use Rattle.token.specs.Reads.{number_in}
use Rattle.std.specs.Prelude.{ℕ, ◌+◌, ◌≡◌, List, ◌∷◌, ◌++◌, true, ◌⊎◌}
use Rattle.families.specs.Places.{place_after}
use Rattle.families.specs.Tokens.{Tokens, fin, halt, more}
use Rattle.laws.specs.Bools.{within}
use Rattle.readers.specs.Rules.{Rules}
use Rattle.text.specs.Characters.{backtick}
use Rattle.token.specs.declared.read.Refusal.{Refusal}

-- r is the place after a backtick of the scalars cs, the first of which stands at p
pub record AfterBacktick (R : Rules) (cs : List ℕ) (p r : ℕ) : Type 0 where
  pub front : List ℕ
  pub back : List ℕ
  pub whole : cs ≡ front ++ (backtick ∷ back)
  pub ends : r ≡ place_after R.stride front p + R.stride backtick

-- 19 for the token that starts at a: a span from there to the place reached, which is after a backtick of the scalars cs from p on
pub record Nineteen (R : Rules) (a : ℕ) (cs : List ℕ) (p : ℕ) (r : Refusal) : Type 0 where
  pub number : number_in r ≡ 19
  pub start : r.span.start ≡ a
  pub end : r.span.end ≡ r.reached
  pub ticked : AfterBacktick R cs p r.reached

-- what a token that starts at a may be refused with: one of 10 to 18, or such a 19
abbrev pub Numbered : Rules → ℕ → List ℕ → ℕ → Refusal → Type 0
Numbered R a cs p r = (within 10 18 (number_in r) ≡ true) ⊎ Nineteen R a cs p r

-- tokens up to the end, or to a refusal with one of 10 to 19
unfoldable pub NumberedEnd : Tokens → Type 0
NumberedEnd fin = Unit {0}
NumberedEnd (halt r) = within 10 19 (number_in r) ≡ true
NumberedEnd (more k ts) = NumberedEnd ts
