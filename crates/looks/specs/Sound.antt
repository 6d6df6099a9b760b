-- Document 01, refusal 34: the faults of a lent list, and of a lent state over it.
use Rattle.std.specs.Prelude.{ℕ, zero, suc, ◌+◌, ◌%◌, List, Bool, true, false, leb, ltb, eqb, get_or}
use Rattle.std.specs.Result.{is_ok}
use Rattle.laws.specs.Bools.{both, either, same}
use Rattle.looks.specs.Buffer.{State}
use Rattle.looks.specs.Numbered.{is_white, kind_at, token_count}
use Rattle.ahead.specs.declared.Nums.{Nums}
use Rattle.rows.specs.Rows.{list_check}

-- a list not of whole records, or faulty by 42 or 43
unfoldable pub whole_by : List ℕ → Bool
whole_by l = is_ok (list_check l)

-- a held or waiting number x ascends, from low on below top, and is of white space or is not
abbrev pub follows_by : Bool → List ℕ → ℕ → ℕ → ℕ → Bool
follows_by white l x low top = both (both (leb low x) (ltb x top)) (same white (is_white (kind_at l x)))

-- n numbers of a ring of the given size, from the slot `at` on
unfoldable pub ascends_by : Bool → List ℕ → ℕ → List ℕ → ℕ → ℕ → ℕ → ℕ → Bool
ascends_by white l size ring zero at low top = true
ascends_by white l size ring (suc n) at low top =
    both (follows_by white l (get_or ring (at % size) 0) low top) (ascends_by white l size ring n (at + 1) (get_or ring (at % size) 0 + 1) top)

-- n counts of a ring of 8, from the slot `at` on, together
unfoldable pub count_sum : List ℕ → ℕ → ℕ → ℕ
count_sum ring zero at = 0
count_sum ring (suc n) at = get_or ring (at % 8) 0 + count_sum ring n (at + 1)

-- over 8 held, over 256 waiting, a start outside its ring, the next one past the list
unfoldable pub bounded_by : List ℕ → Nums → Bool
bounded_by l m =
    both (both (leb m.held_len 8) (leb m.wait_len 256))
    (both (both (ltb m.held_at 8) (ltb m.wait_at 256)) (leb m.next (token_count l)))

-- held or waiting numbers that do not ascend below the next one or have the wrong kind
unfoldable pub ordered_by : List ℕ → State → Bool
ordered_by l st =
    both (ascends_by false l 8 st.held st.nums.held_len st.nums.held_at 0 st.nums.next)
    (ascends_by true l 256 st.waiting st.nums.wait_len st.nums.wait_at 0 st.nums.next)

-- all that 34 refuses, with counts that sum above the queue; where t is not 0 the list and the order were tested before, and are not here
unfoldable pub sound_by : ℕ → List ℕ → State → Bool
sound_by t l st =
    both (both (bounded_by l st.nums) (leb (count_sum st.counts st.nums.held_len st.nums.held_at) st.nums.wait_len))
    (either (ltb 0 t) (both (whole_by l) (ordered_by l st)))

-- the short test where the list and the order were tested before: one held or more, or none
unfoldable pub some_by : ℕ → List ℕ → Nums → List ℕ → Bool
some_by t l m counts = both (both (ltb 0 t) (ltb 0 m.held_len)) (both (bounded_by l m) (leb (count_sum counts m.held_len m.held_at) m.wait_len))

unfoldable pub none_by : ℕ → List ℕ → Nums → Bool
none_by t l m = both (both (ltb 0 t) (eqb m.held_len 0)) (bounded_by l m)
