-- What a search back found is the last LF. Assumes nothing.
use Rattle.std.proofs.Common.{◌+◌, ◌∙◌, ap, get_or, rules, sym, tests}
use Rattle.std.proofs.lemmas.Iterator.Search.{find_from_yields_List}
use Rattle.std.specs.Option.{option_map_or}
use Rattle.places.proofs.Last.{start_found, yields_down}
use Rattle.places.specs.Lines.{is_feed}
use Rattle.places.proofs.line.line_start.Goals as goal

pub returns-in-Some : goal.returns-in-Some
returns-in-Some c =
    ap (λ o. option_map_or (λ i. i + 1) o 0) (sym c.in-Some.is)
    ∙ start_found c.args.s.now c.args.at c.find-feed.result
    (find_from_yields_List (λ i. is_feed (get_or c.args.s.now i 0)) _ _ c.find-feed.result c.find-feed.ensures.ran (yields_down c.rev.result c.args.at c.rev.ensures.source) (λ x b q k. search (rules, tests)))

pub returns-in-None : goal.returns-in-None
returns-in-None c =
    ap (λ o. option_map_or (λ i. i + 1) o 0) (sym c.in-None.is)
    ∙ start_found c.args.s.now c.args.at c.find-feed.result
    (find_from_yields_List (λ i. is_feed (get_or c.args.s.now i 0)) _ _ c.find-feed.result c.find-feed.ensures.ran (yields_down c.rev.result c.args.at c.rev.ensures.source) (λ x b q k. search (rules, tests)))
