use mathlib.Core.Path.{◌≡◌, sym, ap, ◌∙◌}
use mathlib.Core.Bool.{false}
use native.Mathlib.Omega.{arith}
use lib.Dec.{eqb}
use Rattle.laws.specs.Bools.{both}
use Rattle.lexer.proofs.Sources.{later_none, later_token, next_shebang, no_shebang}
use Rattle.lexer.specs.Next.{is_shebang}
use Rattle.text.specs.Utf8.{rest}
use Rattle.token.specs.Reads.{got_of}
use Rattle.token.specs.declared.kind.Kind.TheVariants.{Shebang}
use Rattle.lexer.proofs.next.Goals as goal

pub returns-then-is_shebang : goal.returns-then-is_shebang
returns-then-is_shebang c = c.got.ensures ∙ ap (got_of Shebang 0) c.consume_line.ensures ∙ next_shebang c.args.reading c.args.s.now c.args.at (omega arith) (sym c.is_shebang.ensures ∙ c.if-is_shebang.true)

pub returns : goal.returns
returns c =
    let none : both (eqb c.args.at 0) (is_shebang (rest c.args.s.now c.args.at)) ≡ false =
    grind (arith, later_none c.args.s.now c.args.at, no_shebang c.args.s.now c.args.at) in
    c.next_past_start.ensures ∙ later_token c.args.reading c.args.s.now c.args.at none
