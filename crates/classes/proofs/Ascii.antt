-- The tables ascend. Below 0x80 a class is what the code tests: one computed test over all numbers there. A table of pairs holds what its list holds. Assumes nothing.
use Prim.Native.Nat.{ℕ, ◌<◌}
use mathlib.Core.Path.{◌≡◌, refl}
use mathlib.Core.Bool.{Bool, true, false, ◌||◌}
use mathlib.Core.List.{List, [], ◌∷◌}
use Rattle.classes.specs.Ascii.{ascii_continue, ascii_start, ascii_white, in_pairs}
use Rattle.classes.specs.Classes.{is_white_space, is_xid_continue, is_xid_start, white_space, xid_continue, xid_start}
use Rattle.laws.proofs.Tables.{below_same}
use Rattle.laws.specs.Bools.{either, within}
use Rattle.laws.specs.Tables.{every_below, in_ranges, ordered}

pub white_ordered : ordered 0 white_space ≡ true
unfolding ordered white_space
white_ordered = refl

pub start_ordered : ordered 0 xid_start ≡ true
unfolding ordered xid_start
start_ordered = refl

pub continue_ordered : ordered 0 xid_continue ≡ true
unfolding ordered xid_continue
continue_ordered = refl

pub white_ascii : (v : ℕ) → v < 0x80 → ascii_white v ≡ is_white_space v
unfolding in_ranges white_space every_below
white_ascii = below_same ascii_white is_white_space 0x80 refl

pub start_ascii : (v : ℕ) → v < 0x80 → ascii_start v ≡ is_xid_start v
unfolding in_ranges xid_start every_below
start_ascii = below_same ascii_start is_xid_start 0x80 refl

pub continue_ascii : (v : ℕ) → v < 0x80 → ascii_continue v ≡ is_xid_continue v
unfolding in_ranges xid_continue every_below
continue_ascii = below_same ascii_continue is_xid_continue 0x80 refl

-- the first and last members of ranges that stand as pairs
abbrev by_turns : List (ℕ × ℕ) → List ℕ
by_turns [] = []
by_turns ((first, last) ∷ t) = first ∷ (last ∷ by_turns t)

pub pairs_hold : (t : List (ℕ × ℕ)) (v : ℕ) → in_pairs t v ≡ in_ranges (by_turns t) v
unfolding in_ranges in_pairs
pairs_hold [] v = refl
pairs_hold ((first, last) ∷ t) v = or_either (within first last v) (pairs_hold t v)
  where
    or_either : (a : Bool) {b c : Bool} → b ≡ c → (a || b) ≡ either a c
    or_either true e = refl
    or_either false e = e
