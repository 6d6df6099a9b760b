-- Document 01's example of a stored list, computed. Assumes nothing.
use mathlib.Core.Path.{◌≡◌, refl}
use mathlib.Core.List.{[], ◌∷◌}
use Rattle.rows.specs.Rows.{list_check, record_check, rows_check, rows_of}
use Rattle.storage.specs.Writer.{records_of, write_of, written_by}

-- `a` is one word token from 0 to 1
pub stored_a : written_by (6 ∷ 0 ∷ 1 ∷ []) 11 ≡ 0x54 ∷ 0x4b ∷ 0x06 ∷ 0x00 ∷ 0x00 ∷ 0x00 ∷ 0x00 ∷ 0x01 ∷ 0x00 ∷ 0x00 ∷ 0x00 ∷ []
unfolding written_by write_of list_check rows_check record_check records_of rows_of
stored_a = refl
