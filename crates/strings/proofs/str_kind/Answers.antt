use mathlib.Core.Path.{sym, ap}
use mathlib.Core.Bool.{Bool}
use Rattle.readers.specs.Readers.{str_kind}
use Rattle.strings.proofs.str_kind.Goals as goal

pub returns-then-bytes : goal.returns-then-bytes
returns-then-bytes c = sym (ap (λ (b : Bool). str_kind b c.args.escaped) c.if-bytes.true)

pub returns-else-bytes : goal.returns-else-bytes
returns-else-bytes c = sym (ap (λ (b : Bool). str_kind b c.args.escaped) c.if-bytes.false)
