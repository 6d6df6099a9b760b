use mathlib.Core.Path.{ap, ◌∙◌}
use native.Mathlib.Omega.{arith}
use lib.Seq.{sets}
use Rattle.encoding.specs.declared.Encoded.{Encoded}
use Rattle.items.proofs.Items.{item_four}
use Rattle.items.specs.Items.{item_bytes}
use Rattle.unescape.proofs.Stores.{padded_front, padded_size}
use Rattle.unescape.proofs.body.put_item.Goals as goal

pub item_bytes-encoded-requires : goal.item_bytes-encoded-requires
item_bytes-encoded-requires c = c.requires.0

pub put-requires : goal.put-requires
put-requires c = (omega (arith, (item_four c.args.form c.args.item), (ap (λ (r : Encoded). r.len) c.item_bytes-encoded.ensures)), padded_size (item_bytes c.args.form c.args.item) (item_four c.args.form c.args.item) _ c.item_bytes-encoded.ensures, omega (arith, c.requires.1, (ap (λ (r : Encoded). r.len) c.item_bytes-encoded.ensures)))

pub returns : goal.returns
returns c = record { len = (ap (λ (r : Encoded). r.len) c.item_bytes-encoded.ensures); bytes = c.put.ensures ∙ ap (sets _ _) (padded_front (item_bytes c.args.form c.args.item) (item_four c.args.form c.args.item) _ c.item_bytes-encoded.ensures) }
