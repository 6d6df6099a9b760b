-- Document 01, the outline: the marks that stay around an inside.
use Rattle.std.specs.Prelude.{ℕ, List, [], ◌∷◌, eqb}
use Rattle.laws.specs.Bools.{both, pick, within}
use Rattle.marks.specs.Shut.{is_shut}
use Rattle.numbers.specs.Kinds.{number_of}
use Rattle.text.specs.Characters.{backtick, double_quote, letter_b, slash, star}
use Rattle.token.specs.declared.kind.Kind.{Kind}

-- the marks that stay before and after an inside, each scalar of one byte
unfoldable pub open_mark : Kind → List ℕ
open_mark k =
    let n = number_of k in
    pick (eqb n 2) (slash ∷ slash ∷ [])
    (pick (within 3 4 n) (slash ∷ star ∷ [])
    (pick (within 11 12 n) (double_quote ∷ [])
    (pick (within 13 14 n) (letter_b ∷ double_quote ∷ [])
    (pick (eqb n 16) (backtick ∷ []) []))))

-- a closing mark stays only where it closed the token
unfoldable pub close_mark : Kind → List ℕ
close_mark k =
    let n = number_of k in
    pick (eqb n 3) (star ∷ slash ∷ [])
    (pick (within 11 14 n) (double_quote ∷ [])
    (pick (both (eqb n 16) (is_shut k)) (backtick ∷ []) []))
