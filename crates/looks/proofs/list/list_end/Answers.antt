use Prim.Native.Nat.{ℕ, ◌-◌}
use mathlib.Core.Path.{sym, ap, ◌∙◌}
use Rattle.looks.proofs.Numbers.{end_last, end_none}
use Rattle.looks.specs.Numbered.{end_at}
use Rattle.looks.proofs.list.list_end.Goals as goal

pub returns-then-count-eq0 : goal.returns-then-count-eq0
returns-then-count-eq0 c = end_none c.args.list.now (sym c.count_of-count.ensures ∙ c.if-count-eq0.true)

pub returns : goal.returns
returns c = c.end_at.ensures ∙ ap (λ (n : ℕ). end_at c.args.list.now (n - 1)) c.count_of-count.ensures ∙ end_last c.args.list.now (λ e. c.if-count-eq0.false (c.count_of-count.ensures ∙ e))
