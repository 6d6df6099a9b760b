-- Examples of the lister's lines, computed. Assumes nothing.
use Rattle.std.proofs.Common.{◌≡◌, refl}
use Rattle.std.specs.Prelude.{codes}
use Rattle.std.specs.Fmt.{digits}
use Rattle.lines.specs.Lines.{end_line, refused_line, token_line}

pub three_shown : token_line 10 0 4 ≡ codes "10 0 4\n"
unfolding digits
three_shown = refl

pub refused_shown : refused_line 13 4 5 ≡ codes "refused 13 4 5\n"
unfolding digits
refused_shown = refl

pub end_shown : end_line 2 ≡ codes "end 2\n"
unfolding digits
end_shown = refl
