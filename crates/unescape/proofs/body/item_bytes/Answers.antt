use mathlib.Core.Path.{sym, ap, ◌∙◌}
use native.Mathlib.Omega.{arith}
use Rattle.encoding.specs.Encode.{encoded_of, padded}
use Rattle.items.proofs.Items.{byte_bytes, scalar_bytes}
use Rattle.unescape.proofs.body.item_bytes.Goals as goal

pub overflow_cast-bytes : goal.overflow_cast-bytes
overflow_cast-bytes c = omega (arith, c.requires (sym c.is_bytes.ensures ∙ c.if-is_bytes.true))

pub returns-then-is_bytes : goal.returns-then-is_bytes
returns-then-is_bytes c = ap padded (sym (byte_bytes c.args.form c.args.item (sym c.is_bytes.ensures ∙ c.if-is_bytes.true)))

pub returns : goal.returns
unfolding encoded_of
returns c = c.encode.ensures ∙ ap padded (sym (scalar_bytes c.args.form c.args.item (sym c.is_bytes.ensures ∙ c.if-is_bytes.false)))
