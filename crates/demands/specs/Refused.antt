-- Document 01, "Refusal numbers and places": why the calls refuse, and what they then leave.
use Rattle.std.specs.Prelude.{Err, ℕ, zero, suc, ◌+◌, ◌≤◌, ◌<◌, ◌≡◌, List, [], true, ◌⊎◌, length}
use Rattle.token.specs.declared.reason.Reason.TheVariants.{IllFormed, TooLong}
use Rattle.families.specs.Tokens.{Tokens, fin, halt, more}
use Rattle.findings.specs.Findings.{findings_of, stored_findings}
use Rattle.items.specs.declared.Form.{Form}
use Rattle.laws.specs.Bools.{within}
use Rattle.lexer.specs.Next.{read_at}
use Rattle.listing.specs.Listing.{list_of, no_room, stored_of, listed_up_to}
use Rattle.outline.specs.Outline.{outline_of, outline_written}
use Rattle.readers.specs.declared.reading.Reading.{Reading}
use Rattle.rows.specs.Rows.{row_place}
use Rattle.source_test.specs.Source.{sound_to}
use Rattle.token.specs.Reads.{point_refusal, number_in}
use Rattle.token.specs.declared.read.Refusal.{Refusal}
use Rattle.token.specs.declared.read.Token.{Token}
use Rattle.unescape.specs.Bodies.{refuse_with, unescape_of}

-- every call that takes a source refuses it with r, and writes nothing
pub record AllRefuse (s : List ℕ) (r : Refusal) : Type 0 where
  pub reads : (g : Reading) (at : ℕ) → read_at g s at ≡ Err r
  pub lists : (g : Reading) (room : ℕ) → (list_of g s room ≡ listed_up_to 0 r) × (stored_of g s room ≡ [])
  pub outlines : (g : Reading) (room : ℕ) → (outline_of g s room ≡ Err r) × (outline_written g s room ≡ [])
  pub finds : (g : Reading) (room : ℕ) → (findings_of g s room ≡ listed_up_to 0 r) × (stored_findings g s room ≡ [])
  pub unescapes : (form : Form) (room : ℕ) → unescape_of form s room ≡ refuse_with r

-- before reading: 1 for a source that is too long, at 0; 2 for one that is ill-formed, at its first bad sequence
abbrev pub Unread : List ℕ → Refusal → Type 0
Unread s r = ((65536 < length s) × (r ≡ point_refusal TooLong 0)) ⊎ ((length s ≤ 65536) × (sound_to s ≡ length s → ⊥) × (r ≡ point_refusal IllFormed (sound_to s)))

-- in reading: 10 to 19
abbrev pub InReading : Refusal → Type 0
InReading r = within 10 19 (number_in r) ≡ true

-- k is the token of a list that has n before it
unfoldable pub IsToken : Tokens → ℕ → Token → Type 0
IsToken fin n k = ⊥
IsToken (halt r) n k = ⊥
IsToken (more j ts) zero k = j ≡ k
IsToken (more j ts) (suc n) k = IsToken ts n k

-- 3: n tokens were stored, and the next one found no place in a store of so many words; the span is that token's
pub record FoundNoPlace (ts : Tokens) (room n : ℕ) (r : Refusal) : Type 0 where
  pub token : Token
  pub next : IsToken ts n token
  pub stored : row_place n ≤ room
  pub full : room < row_place (n + 1)
  pub refusal : r ≡ no_room token
