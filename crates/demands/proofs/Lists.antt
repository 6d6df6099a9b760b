-- Demand 3 for the calls: source and outline list alike with equal room, and so do sources with equal outlines. Assumes nothing.
use Rattle.std.specs.Prelude.{Ok}
use Prim.Native.Nat.{ℕ, suc, ◌+◌, ◌-◌, ◌≤◌}
use mathlib.Core.Path.{◌≡◌, refl, sym, ap, ◌∙◌}
use mathlib.Core.List.{List, ◌∷◌}
use mathlib.Core.Bool.{true}
use native.Mathlib.Omega.{arith}
use lib.Dec.{ltb}
use lib.ListN.{length}
use borrow.Author.Tests.{eq-eqb, le-ltb}
use Rattle.demands.proofs.Outlines.{outline_length, outline_sound, outline_tokens, outline_twice}
use Rattle.demands.specs.Plain.{plain_tokens, plain_words}
use Rattle.families.proofs.Base.{reading_sane}
use Rattle.families.proofs.Switch.{switch_safe_law}
use Rattle.families.specs.Sane.{Sane}
use Rattle.families.specs.Switch.{switch_safe}
use Rattle.families.specs.Tokens.{Tokens, count_of, fin, halt, more, tokens_at}
use Rattle.laws.proofs.Cases.{split}
use Rattle.listing.specs.Listing.{list_answer, list_of, listed_words, stored_of}
use Rattle.numbers.proofs.Inverse.{plain_number_law}
use Rattle.outline.specs.Outline.{inside_at, outline_answer, outline_of, outline_written, outlined, paint}
use Rattle.readers.specs.Rules.{Rules, first_close, rules_of, rune}
use Rattle.readers.specs.declared.reading.Reading.{Reading}
use Rattle.source_test.proofs.Places.{sound_inv}
use Rattle.source_test.specs.Source.{sound_to, source_test}
use Rattle.text.specs.Utf8.{width}

-- the listing of tokens without the escape mark
pub plain_words_law : (ts : Tokens) (room : ℕ) → listed_words (plain_tokens ts) room ≡ plain_words (listed_words ts room)
unfolding listed_words plain_tokens plain_words
plain_words_law fin room = refl
plain_words_law (halt r) room = refl
plain_words_law (more k ts) room =
    split (ltb room 3) (λ h. rw (h, listed_words) refl)
    (λ h. rw (h, listed_words) (λ i. plain_number_law k.kind i ∷ (k.span.start ∷ (k.span.end ∷ plain_words_law ts (room - 3) i))))

pub plain_answer : (ts : Tokens) (room n : ℕ) → list_answer (plain_tokens ts) room n ≡ list_answer ts room n
unfolding list_answer plain_tokens
plain_answer fin room n = refl
plain_answer (halt r) room n = refl
plain_answer (more k ts) room n = split (ltb room 3) (λ h. rw (h, list_answer) refl) (λ h. rw (h, list_answer) (plain_answer ts (room - 3) (n + 1)))

pub plain_count : (ts : Tokens) → count_of (plain_tokens ts) ≡ count_of ts
unfolding count_of plain_tokens
plain_count fin = refl
plain_count (halt r) = refl
plain_count (more k ts) = ap suc (plain_count ts)

-- .. and what the outline answers
shade_answer : (ts : Tokens) → outline_answer (plain_tokens ts) ≡ outline_answer ts
unfolding outline_answer plain_tokens
shade_answer fin = refl
shade_answer (halt r) = refl
shade_answer (more k ts) = shade_answer ts

test_sound : (s : List ℕ) → length s ≤ 65536 → sound_to s ≡ length s → source_test s ≡ Ok tt
unfolding source_test
test_sound s l h = rw (le-ltb 65536 (length s) l, eq-eqb (sound_to s) (length s) h)

-- over all rules in bytes: the tests, and the listing of the tokens
module _ (R : Rules) (bytes : R.stride ≡ width) (sane : Sane R) where
  module _ (s : List ℕ) (h : source_test s ≡ Ok tt) where
    pub outline_test : source_test (outlined R s) ≡ Ok tt
    outline_test =
        let i = sound_inv s h in
        let l : length (outlined R s) ≤ 65536 = let z = i.0 in let y = outline_length R s in omega arith in
        test_sound (outlined R s) l (outline_sound R bytes sane s i.1)

    tokens : tokens_at R (outlined R s) 0 ≡ plain_tokens (tokens_at R s 0)
    tokens = outline_tokens R bytes sane s (sound_inv s h).1

    module _ (room : ℕ) where
      pub outline_words : listed_words (tokens_at R (outlined R s) 0) room ≡ plain_words (listed_words (tokens_at R s 0) room)
      outline_words = ap (λ (ts : Tokens). listed_words ts room) tokens ∙ plain_words_law (tokens_at R s 0) room

      pub outline_answer_law : list_answer (tokens_at R (outlined R s) 0) room 0 ≡ list_answer (tokens_at R s 0) room 0
      outline_answer_law = ap (λ (ts : Tokens). list_answer ts room 0) tokens ∙ plain_answer (tokens_at R s 0) room 0

    pub outline_count : count_of (tokens_at R (outlined R s) 0) ≡ count_of (tokens_at R s 0)
    outline_count = ap count_of tokens ∙ plain_count (tokens_at R s 0)

    pub outline_stops : outline_answer (tokens_at R (outlined R s) 0) ≡ outline_answer (tokens_at R s 0)
    outline_stops = ap outline_answer tokens ∙ shade_answer (tokens_at R s 0)

  module _ (s t : List ℕ) (h : source_test s ≡ Ok tt) (k : source_test t ≡ Ok tt) (e : outlined R s ≡ outlined R t) (room : ℕ) where
    pub equal_words : plain_words (listed_words (tokens_at R s 0) room) ≡ plain_words (listed_words (tokens_at R t 0) room)
    equal_words = sym (outline_words s h room) ∙ ap (λ (l : List ℕ). listed_words (tokens_at R l 0) room) e ∙ outline_words t k room

    pub equal_answer : list_answer (tokens_at R s 0) room 0 ≡ list_answer (tokens_at R t 0) room 0
    equal_answer = sym (outline_answer_law s h room) ∙ ap (λ (l : List ℕ). list_answer (tokens_at R l 0) room 0) e ∙ outline_answer_law t k room

-- what the calls answer and store for a source that passes the tests
module _ (g : Reading) (s : List ℕ) (h : source_test s ≡ Ok tt) (room : ℕ) where
  list_sound : list_of g s room ≡ list_answer (tokens_at (rules_of g) s 0) room 0
  unfolding list_of
  list_sound = rw (h, list_of)

  stored_sound : stored_of g s room ≡ listed_words (tokens_at (rules_of g) s 0) room
  unfolding stored_of
  stored_sound = rw (h, stored_of)

  pub written_sound : length s ≤ room → outline_written g s room ≡ outlined (rules_of g) s
  unfolding outline_written
  written_sound l = rw (h, outline_written) (rw (le-ltb room (length s) l))

  outlined_sound : length s ≤ room → outline_of g s room ≡ outline_answer (tokens_at (rules_of g) s 0)
  unfolding outline_of
  outlined_sound l = rw (h, outline_of) (rw (le-ltb room (length s) l))

module _ (g : Reading) (s : List ℕ) (h : source_test s ≡ Ok tt) (room : ℕ) where
  test : source_test (outlined (rules_of g) s) ≡ Ok tt
  test = outline_test (rules_of g) refl (reading_sane g) s h

  -- the same refusal and the same count
  pub outline_lists : list_of g (outlined (rules_of g) s) room ≡ list_of g s room
  outline_lists = list_sound g (outlined (rules_of g) s) test room ∙ outline_answer_law (rules_of g) refl (reading_sane g) s h room ∙ sym (list_sound g s h room)

  -- the same spans, and the same kinds up to the escape mark
  pub outline_stores : stored_of g (outlined (rules_of g) s) room ≡ plain_words (stored_of g s room)
  outline_stores = stored_sound g (outlined (rules_of g) s) test room ∙ outline_words (rules_of g) refl (reading_sane g) s h room ∙ ap plain_words (sym (stored_sound g s h room))

  -- the outline of what was written is what was written, with the same answer
  pub outline_again : length s ≤ room → outline_written g (outline_written g s room) room ≡ outline_written g s room
  outline_again l =
      let fits : length (outlined (rules_of g) s) ≤ room = let z = outline_length (rules_of g) s in omega arith in
      ap (λ (t : List ℕ). outline_written g t room) (written_sound g s h room l)
      ∙ written_sound g (outlined (rules_of g) s) test room fits ∙ outline_twice (rules_of g) refl (reading_sane g) s (sound_inv s h).1 ∙ sym (written_sound g s h room l)

  pub outline_ends : length s ≤ room → outline_of g (outline_written g s room) room ≡ outline_of g s room
  outline_ends l =
      let fits : length (outlined (rules_of g) s) ≤ room = let z = outline_length (rules_of g) s in omega arith in
      ap (λ (t : List ℕ). outline_of g t room) (written_sound g s h room l)
      ∙ outlined_sound g (outlined (rules_of g) s) test room fits ∙ outline_stops (rules_of g) refl (reading_sane g) s h ∙ sym (outlined_sound g s h room l)

module _ (g : Reading) (s t : List ℕ) (h : source_test s ≡ Ok tt) (k : source_test t ≡ Ok tt) (e : outlined (rules_of g) s ≡ outlined (rules_of g) t) (room : ℕ) where
  pub equal_lists : list_of g s room ≡ list_of g t room
  equal_lists = list_sound g s h room ∙ equal_answer (rules_of g) refl (reading_sane g) s t h k e room ∙ sym (list_sound g t k room)

  pub equal_stores : plain_words (stored_of g s room) ≡ plain_words (stored_of g t room)
  equal_stores = ap plain_words (stored_sound g s h room) ∙ equal_words (rules_of g) refl (reading_sane g) s t h k e room ∙ ap plain_words (sym (stored_sound g t k room))

-- a source whose list is safe lists, stores and is outlined in rune's reading as where the first `*/` closes
module _ (s : List ℕ) (h : source_test s ≡ Ok tt) (safe : switch_safe s (tokens_at (rules_of first_close) s 0) ≡ true) (room : ℕ) where
  same : tokens_at (rules_of rune) s 0 ≡ tokens_at (rules_of first_close) s 0
  same = switch_safe_law s safe

  pub switch_lists : list_of rune s room ≡ list_of first_close s room
  switch_lists = list_sound rune s h room ∙ ap (λ (ts : Tokens). list_answer ts room 0) same ∙ sym (list_sound first_close s h room)

  pub switch_stores : stored_of rune s room ≡ stored_of first_close s room
  switch_stores = stored_sound rune s h room ∙ ap (λ (ts : Tokens). listed_words ts room) same ∙ sym (stored_sound first_close s h room)

  pub switch_outlines : length s ≤ room → outline_written rune s room ≡ outline_written first_close s room
  unfolding outlined
  switch_outlines l = written_sound rune s h room l ∙ ap (λ (ts : Tokens). paint (inside_at ts) s 0) same ∙ sym (written_sound first_close s h room l)
