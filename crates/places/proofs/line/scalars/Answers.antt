-- How many places the filter passes on. Assumes nothing.
use Rattle.std.proofs.Common.{◌-◌, ◌∙◌, get_or, refl, rules, tests}
use Rattle.std.proofs.lemmas.Iterator.{YieldsList-from_range}
use Rattle.std.proofs.lemmas.Iterator.Consumers.{YieldsList-at, YieldsList-from_filter, count_from_yields_List}
use Rattle.places.proofs.Counts.{filtered}
use Rattle.places.specs.Lines.{begins}
use Rattle.places.proofs.line.scalars.Goals as goal

pub returns : goal.returns
returns c =
    count_from_yields_List _ _ c.count.ensures.ran
    (YieldsList-from_filter _ (λ i. begins (get_or c.args.s.now i 0))
    (YieldsList-at c.filter.ensures.source (YieldsList-from_range c.args.from c.args.to (c.args.to - c.args.from) refl refl))
    c.filter.ensures.closure
    (λ x r q k. search (rules, tests)))
    ∙ filtered begins c.args.s.now c.args.from c.args.to
