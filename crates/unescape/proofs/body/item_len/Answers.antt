use mathlib.Core.Path.{ap}
use Rattle.encoding.specs.declared.Encoded.{Encoded}
use Rattle.unescape.proofs.body.item_len.Goals as goal

pub item_bytes-encoded-requires : goal.item_bytes-encoded-requires
item_bytes-encoded-requires c = c.requires

pub returns : goal.returns
returns c = (ap (λ (r : Encoded). r.len) c.item_bytes-encoded.ensures)
