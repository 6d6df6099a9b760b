-- The readings by the words that name them.
use Rattle.std.specs.Prelude.{None, Option, Some, ℕ, List, bytes_eq, codes}
use Rattle.readers.specs.declared.reading.Reading.{Reading}
use Rattle.laws.specs.Bools.{pick}
use Rattle.readers.specs.declared.reading.Comments.{Comments}
use Rattle.readers.specs.declared.reading.Comments.TheVariants.{Crate, First}

abbrev pub chosen_of : Comments → Option Reading
chosen_of c = Some (record { comments = c })

unfoldable pub reading_named : List ℕ → List ℕ → Option Reading
reading_named option value =
    pick (bytes_eq option (codes "--comments")) (pick (bytes_eq value (codes "crate")) (chosen_of Crate) (pick (bytes_eq value (codes "first")) (chosen_of First) None)) None
