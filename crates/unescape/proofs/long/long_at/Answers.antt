use mathlib.Core.Path.{sym, ◌∙◌}
use Rattle.unescape.proofs.Longs.{byte_hex, char_hex, char_unicode}
use Rattle.unescape.proofs.long.long_at.Goals as goal

pub returns-then-v-eq120 : goal.returns-then-v-eq120
returns-then-v-eq120 c = byte_hex _ _ _ _ _ c.escaped_at-v.ensures (sym c.is_bytes.ensures ∙ c.if-is_bytes.true) c.if-v-eq120.true c.hex_at.ensures.0

pub returns-then-v-eq120-2 : goal.returns-then-v-eq120-2
returns-then-v-eq120-2 c = char_hex _ _ _ _ _ c.escaped_at-v.ensures (sym c.is_bytes.ensures ∙ c.if-is_bytes.false) c.if-v-eq120-2.true c.hex_at-then-v-eq120-2.ensures.0 c.hex_at-then-v-eq120-2.ensures.1

pub returns-then-v-eq117 : goal.returns-then-v-eq117
returns-then-v-eq117 c = char_unicode _ _ _ _ _ c.escaped_at-v.ensures (sym c.is_bytes.ensures ∙ c.if-is_bytes.false) c.if-v-eq117.true c.unicode_at.ensures
