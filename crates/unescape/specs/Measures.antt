-- A body as the code measures it before it writes. It serves the proofs and is no rule of document 01.
use Rattle.std.specs.Prelude.{Ok, ℕ, ◌+◌, ◌≤◌, ◌≡◌, List, length}
use Rattle.items.specs.declared.Form.{Form}
use Rattle.source_test.specs.Source.{sound_to}
use Rattle.text.specs.Utf8.{rest}
use Rattle.token.specs.Reads.{Counted}
use Rattle.unescape.specs.Bodies.{Body, body_of, fault, items_bytes, refused_at, whole}

-- how many bytes, or the first fault
unfoldable pub measured_of : Form → ℕ → Body → Counted
measured_of form count b =
    elim b.ending [
      | whole ↦ Ok (count + length (items_bytes form b.items))
      | fault reason start end ↦ refused_at reason start end
    ]

-- what is known of a body before it is written: well-formed, without a fault, and with room enough
pub record Writable (form : Form) (s : List ℕ) (room : ℕ) : Type 0 where
  pub sound : sound_to s ≡ length s
  pub faultless : (body_of form 0 (rest s 0) 0).ending ≡ whole
  pub enough : length (items_bytes form (body_of form 0 (rest s 0) 0).items) ≤ room
