-- The user's three demands, sentence by sentence, in every reading; every proof is a citation. Whoever trusts the checker reads this and the definitions that it names. Assumes nothing.
use Rattle.std.specs.Prelude.{Err, Ok}
use Rattle.token.specs.declared.reason.Reason.TheVariants.{IllFormed, NoPlace, NoRoom, TooLong}
use Prim.Native.Nat.{ℕ, ◌+◌, ◌*◌, ◌≤◌, ◌<◌}
use mathlib.Core.Path.{◌≡◌}
use mathlib.Core.List.{List, [], ◌++◌, map}
use mathlib.Core.Bool.{Bool, true, false}
use mathlib.Core.Logic.{inl, inr, ◌⊎◌, ⊎_elim}
use lib.Seq.{sets}
use lib.ListN.{drop, get_or, length, take}
use Rattle.std.specs.Prelude.{Err}
use Rattle.ahead.specs.View.{fresh_by}
use Rattle.demands.proofs.Left.{left_again, left_answer, left_inside, left_length, left_lists, left_past}
use Rattle.demands.proofs.Listed.{listing_accepted}
use Rattle.demands.proofs.Lists.{equal_lists, equal_stores, switch_lists, switch_outlines, switch_stores}
use Rattle.demands.specs.Left.{outline_left}
use Rattle.demands.specs.Plain.{plain_words}
use Rattle.demands.specs.Refused.{AllRefuse, FoundNoPlace, InReading, IsToken, Unread}
use Rattle.emitted.proofs.Fronts.{accepted_sound, front, tested_same}
use Rattle.emitted.proofs.Views.{Sized}
use Rattle.families.proofs.Cover.{covers}
use Rattle.families.proofs.Deeper.{deeper_same}
use Rattle.families.proofs.Depth.{depth_read, depth_refused, nested}
use Rattle.families.proofs.Exponents.{exponent_examples, exponents_read}
use Rattle.families.proofs.OldNumbers.{old_numbers}
use Rattle.families.proofs.Sooner.{Sooner, first_ends_sooner}
use Rattle.families.proofs.Starred.{Answer, all_read, answer_by, examples, reads, refuses, starred}
use Rattle.families.specs.Exponents.{none_signed, plain_numbers}
use Rattle.families.specs.Refusals.{Numbered}
use Rattle.families.specs.Switch.{switch_safe}
use Rattle.families.specs.Tokens.{Covers, count_of, tokens_at}
use Rattle.findings.proofs.InStep.{nothing_found}
use Rattle.findings.specs.Findings.{findings_of, under_first}
use Rattle.items.specs.Items.{is_bytes, is_single, item_bytes}
use Rattle.items.specs.declared.Form.{Form}
use Rattle.laws.specs.Bools.{pick, within}
use Rattle.lexer.specs.Next.{next_at, read_at}
use Rattle.listing.proofs.Counted.{count_in, counted, three_words}
use Rattle.listing.specs.Listing.{list_of, no_room, stored_of, listed_up_to}
use Rattle.looks.specs.Buffer.{State}
use Rattle.looks.specs.Sound.{sound_by}
use Rattle.outline.specs.Outline.{inside_at, outline_of, outline_written, outlined}
use Rattle.readers.specs.Rules.{Rules, first_close, rules_of, rune}
use Rattle.readers.specs.declared.reading.Reading.{Reading}
use Rattle.rows.specs.Rows.{list_check, list_rows, row_place}
use Rattle.source_test.specs.Source.{is_place, sound_to, source_test}
use Rattle.storage.proofs.StoreRound.{store_round, store_round_bytes}
use Rattle.storage.specs.Reader.{bytes_check, list_words, read_by, read_of, stored_rows}
use Rattle.storage.specs.Storage.{Below}
use Rattle.storage.specs.Writer.{records_of, write_of, written_by}
use Rattle.templates.specs.Body.{token_of}
use Rattle.text.specs.Utf8.{decode, rest}
use Rattle.token.specs.Reads.{point_refusal, refusal_number, number_in}
use Rattle.token.specs.declared.kind.Kind.TheVariants.{MultilineComment}
use Rattle.token.specs.declared.read.Refusal.{Refusal}
use Rattle.token.specs.declared.read.Token.{Token}
use Rattle.unescape.proofs.Faults.{unescape_refusal}
use Rattle.unescape.proofs.Holds.{Bare, as_it_stands, as_long, no_longer, one_item, only_output, refused_nothing, well_formed}
use Rattle.unescape.specs.Bodies.{unescape_of, wrote}
use Rattle.emitted.proofs.Refused.{refused_number, refused_same}
use Rattle.emitted.specs.Sequence.{Call, IsFront, accepted, emitted, is_end, turn_of, without}
use Rattle.looks.specs.Answer.{number_of}
use Rattle.looks.specs.declared.look.Stop.{Stop}
use Rattle.storage.proofs.Refused.{read_refusal as load_refusal, read_no_room, read_nothing, write_no_room, write_nothing, write_refusal}
use Rattle.demands.proofs.Refused.{all_refuse, list_front, list_no_place, list_nothing, list_refusal, list_stored, outline_no_place, outline_nothing, outline_refusal, read_misplaced, read_refusal, test_ill, test_long, test_refuses}

-- Demand 1. Every public call answers on every input and ends: Rattle proves that of every function, and no public one has a `requires` but `readers::run_end`, which asks that its closure may be called, and which no call of a user reaches.

-- What is over-long is refused with 1 at 0, what is ill-formed with 2 at its first bad sequence: by every call that takes a source, which then writes nothing.
pub over_long : (s : List ℕ) → 65536 < length s → AllRefuse s (point_refusal TooLong 0)
over_long s h = all_refuse s (point_refusal TooLong 0) (test_long s h)

pub ill_formed_law : (s : List ℕ) → length s ≤ 65536 → (sound_to s ≡ length s → ⊥) → AllRefuse s (point_refusal IllFormed (sound_to s))
ill_formed_law s h n = all_refuse s (point_refusal IllFormed (sound_to s)) (test_ill s h n)

-- A position past the end or inside a scalar is refused with 4, a point there.
pub misplaced : (g : Reading) (s : List ℕ) (at : ℕ) → source_test s ≡ Ok tt → is_place (rest s 0) 0 at ≡ false → read_at g s at ≡ Err (point_refusal NoPlace at)
misplaced g s at h p = read_misplaced s g at h p

-- What is too deep is refused with 19, from the top token's start to after the backtick that is one too many: every depth up to 64 is read, and none above.
pub deep_read : (g : Reading) (n : ℕ) → n < 64 → answer_by g (nested n) ≡ reads 16 0 (3 * n + 2) all_read
deep_read g n h = depth_read g n h

pub too_deep_law : (g : Reading) (n : ℕ) → 64 ≤ n → answer_by g (nested n) ≡ refuses 19 0 129
too_deep_law g n h = depth_refused g n h

-- Where 19 is not answered, the bound plays no part: with any higher one the same is read.
pub bound_plays_no_part : (R : Rules) (d e : ℕ) (cs : List ℕ) (p : ℕ) → (refusal_number (token_of R d cs p) ≡ 19 → ⊥) → d ≤ e → token_of R e cs p ≡ token_of R d cs p
bound_plays_no_part R d e cs p h l = deeper_same R d e cs p h l

-- What does not fit is refused with 3. A listing names the token that found no place, and the tokens before it are stored: the front of what a store with more room gets;
pub list_does_not_fit : (g : Reading) (s : List ℕ) (room : ℕ) → source_test s ≡ Ok tt → (n : ℕ) (k : Token) → IsToken (tokens_at (rules_of g) s 0) n k
    → row_place n ≤ room → room < row_place (n + 1) → (list_of g s room ≡ listed_up_to n (no_room k)) × (length (stored_of g s room) ≡ row_place n)
list_does_not_fit g s room h n k i a b = (list_no_place g s room h n k i a b, list_stored g s room h n k i a b)

pub stored_are_a_front : (g : Reading) (s : List ℕ) (room large : ℕ) → room ≤ large → stored_of g s room ≡ take (length (stored_of g s room)) (stored_of g s large)
stored_are_a_front g s room large l = list_front g s room large l

-- an outline, a written and a read list name 0, and write nothing (below).
pub outline_does_not_fit : (g : Reading) (s : List ℕ) (room : ℕ) → source_test s ≡ Ok tt → room < length s → (outline_of g s room ≡ Err (point_refusal NoRoom 0)) × (outline_written g s room ≡ [])
outline_does_not_fit g s room h l = outline_no_place g s room h l

pub store_does_not_fit : (l : List ℕ) (room : ℕ) → list_check l ≡ Ok tt → room < length (records_of (list_rows l)) → write_of l room ≡ Err (point_refusal NoRoom 0)
store_does_not_fit l room h k = write_no_room l room h k

pub load_does_not_fit : (s : List ℕ) (room : ℕ) → bytes_check s ≡ Ok tt → room < length (list_words (stored_rows s)) → read_of s room ≡ Err (point_refusal NoRoom 0)
load_does_not_fit s room h k = read_no_room s room h k

-- Nothing else is refused with these numbers: here is why each call refuses. `Numbered` says 10 to 18, or 19 with its span, of a token that was read.
module _ (g : Reading) (s : List ℕ) where
  pub why_read : (at : ℕ) (r : Refusal) → read_at g s at ≡ Err r → Unread s r ⊎ (((is_place (rest s 0) 0 at ≡ false) × (r ≡ point_refusal NoPlace at)) ⊎ Numbered (rules_of g) at (rest s at) at r)
  why_read at r e = read_refusal s g at r e

  pub why_list : (room n : ℕ) (r : Refusal) → list_of g s room ≡ listed_up_to n r → Unread s r ⊎ (FoundNoPlace (tokens_at (rules_of g) s 0) room n r ⊎ InReading r)
  why_list room n r e = list_refusal g s room n r e

  pub why_outline : (room : ℕ) (r : Refusal) → outline_of g s room ≡ Err r → Unread s r ⊎ (((room < length s) × (r ≡ point_refusal NoRoom 0)) ⊎ InReading r)
  why_outline room r e = outline_refusal g s room r e

  -- Refusals other than 3 and 10 to 19 write nothing (`read` has nothing to write to, and 3 writes nothing to a buffer for an outline).
  pub list_writes_nothing : (room n : ℕ) (r : Refusal) → list_of g s room ≡ listed_up_to n r → (number_in r ≡ 3 → ⊥) → (InReading r → ⊥) → stored_of g s room ≡ []
  list_writes_nothing room n r e three reading = list_nothing g s room n r e three reading

  pub outline_writes_nothing : (room : ℕ) (r : Refusal) → outline_of g s room ≡ Err r → (InReading r → ⊥) → outline_written g s room ≡ []
  outline_writes_nothing room r e reading = outline_nothing g s room r e reading

-- The other calls refuse with other numbers: a body with 20 to 27 beside 1 and 2, a stored list with 40 to 43 beside 3, the lookahead with 30 to 34. None of these writes.
module _ (form : Form) (s : List ℕ) (room : ℕ) (r : Refusal) (e : (unescape_of form s room).answer ≡ Err r) where
  pub why_unescape : Unread s r ⊎ (within 20 27 (number_in r) ≡ true)
  why_unescape = ⊎_elim (λ h. inl (test_refuses s r h)) (λ h. inr h) (unescape_refusal form s room r e)

  pub unescape_writes_nothing : (unescape_of form s room).bytes ≡ []
  unescape_writes_nothing = refused_nothing form s room r e

module _ (l : List ℕ) (room : ℕ) (r : Refusal) where
  pub why_store : write_of l room ≡ Err r → ((r ≡ point_refusal NoRoom 0) × (room < length (records_of (list_rows l)))) ⊎ (within 40 43 (number_in r) ≡ true)
  why_store e = write_refusal l room r e

  pub why_load : read_of l room ≡ Err r → ((r ≡ point_refusal NoRoom 0) × (room < length (list_words (stored_rows l)))) ⊎ (within 40 43 (number_in r) ≡ true)
  why_load e = load_refusal l room r e

  pub store_writes_nothing : write_of l room ≡ Err r → written_by l room ≡ []
  store_writes_nothing e = write_nothing l room r e

  pub load_writes_nothing : read_of l room ≡ Err r → read_by l room ≡ []
  load_writes_nothing e = read_nothing l room r e

module _ (t : ℕ) (l : List ℕ) (call : Call) (st : State) (stop : Stop) (e : (turn_of t l call st).answer ≡ Err stop) where
  pub why_look : within 30 34 (number_of stop) ≡ true
  why_look = refused_number stop

  pub look_writes_nothing : ((turn_of t l call st).state ≡ st) × ((turn_of t l call st).written ≡ [])
  look_writes_nothing = refused_same t l call st stop e

-- Demand 2. Token lists, refusals, unescaped text and lookahead states equal the definitions: each call's promise says so, and any two results that it allows are equal.
-- `determined` stands for each call in Calls.antt: here for the tests, reading, listing and the outline, and in source, storage, emitted, findings, puffsatchel, puffsatchel_bytes, puffsatchel_look; for escapes it is `unescape_determined`.
-- The definitions are the ones wanted. Accepted spans cover the source with no gap, and no token is empty.
pub tokens_cover : (g : Reading) (s : List ℕ) → source_test s ≡ Ok tt → Covers (tokens_at (rules_of g) s 0) 0 (length s)
tokens_cover g s h = covers g s h

-- The count is the length of the defined list, and three words are stored for each token counted.
pub count_is_length : (g : Reading) (s : List ℕ) (room : ℕ) → source_test s ≡ Ok tt → 3 * count_of (tokens_at (rules_of g) s 0) ≤ room → count_in (list_of g s room) ≡ count_of (tokens_at (rules_of g) s 0)
count_is_length g s room h k = counted g s room h k

pub three_words_each : (g : Reading) (s : List ℕ) (room : ℕ) → length (stored_of g s room) ≡ 3 * count_in (list_of g s room)
three_words_each g s room = three_words g s room

-- Document 01's starred examples, in rune's reading, as one table that the definitions compute.
pub starred_examples : map (λ (e : List ℕ × Answer). answer_by rune e.0) examples ≡ map (λ (e : List ℕ × Answer). e.1) examples
starred_examples = starred

-- Document 02's A2: its examples in the same way; and where no `e` or `E` is followed by a sign, the tokens are those of document 01's own rule for numbers.
pub exponent_examples_law : map (λ (e : List ℕ × Answer). answer_by rune e.0) exponent_examples ≡ map (λ (e : List ℕ × Answer). e.1) exponent_examples
exponent_examples_law = exponents_read

pub numbers_as_before : (g : Reading) (s : List ℕ) → none_signed (rest s 0) ≡ true → tokens_at (rules_of g) s 0 ≡ tokens_at (plain_numbers (rules_of g)) s 0
numbers_as_before g s h = old_numbers g s 0 h

-- Unescaped text, template and char bodies are well-formed; a char or a byte gives one item; and never more bytes come out than the body has.
module _ (form : Form) (s : List ℕ) (room n : ℕ) (e : (unescape_of form s room).answer ≡ Ok n) where
  pub text_well_formed : is_bytes form ≡ false → source_test (unescape_of form s room).bytes ≡ Ok tt
  text_well_formed h = well_formed form s room n e h

  pub single_item : is_single form ≡ true → (x : ℕ) × ((unescape_of form s room).bytes ≡ item_bytes form x)
  single_item h = one_item form s room n e h

  pub no_more_bytes : n ≤ length s
  no_more_bytes = no_longer form s room n e

-- A body without a backslash comes out as it went in, and only such a body has as many bytes as its output.
pub bare_as_it_is : (form : Form) (s : List ℕ) (room : ℕ) → source_test s ≡ Ok tt → Bare form (decode s) → (is_single form ≡ true → length (decode s) ≡ 1) → length s ≤ room → unescape_of form s room ≡ wrote s
bare_as_it_is form s room h b one l = as_it_stands form s room h b one l

pub bare_alone : (form : Form) (s : List ℕ) (room n : ℕ) → (unescape_of form s room).answer ≡ Ok n → n ≡ length s → Bare form (decode s)
bare_alone form s room n e h = as_long form s room n e h

-- An accepted body changes only the bytes of its output.
pub only_its_output : (form : Form) (s out : List ℕ) (n : ℕ) → (unescape_of form s (length out)).answer ≡ Ok n
    → sets out 0 (unescape_of form s (length out)).bytes ≡ (unescape_of form s (length out)).bytes ++ drop n out
only_its_output form s out n e = only_output form s out n e

-- What the writer writes the reader gives back, and the other way round; what was listed can always be written.
pub stored_comes_back : (l : List ℕ) (room room' count : ℕ) → Below 4294967296 l → write_of l room ≡ Ok count → length l ≤ room'
    → (read_of (written_by l room) room' ≡ Ok (length l)) × (read_by (written_by l room) room' ≡ l)
stored_comes_back l room room' count b e f = store_round l room room' count b e f

pub loaded_goes_back : (s : List ℕ) (room room' count : ℕ) → Below 256 s → read_of s room ≡ Ok count → length s ≤ room'
    → (write_of (read_by s room) room' ≡ Ok (length s)) × (written_by (read_by s room) room' ≡ s)
loaded_goes_back s room room' count b e f = store_round_bytes s room room' count b e f

pub listed_can_be_stored : (g : Reading) (s : List ℕ) (room : ℕ) → list_check (stored_of g s room) ≡ Ok tt
listed_can_be_stored g s room = listing_accepted g s room

-- From a fresh state, after any calls, what the lookahead emitted, end-of-file aside, is a front part of the list; with white space dropped, that part without it.
pub emitted_is_a_front : (l : List ℕ) (keep : Bool) (calls : List Call) → IsFront keep l (without is_end (emitted (turn_of 0 l) calls (fresh_by keep)))
emitted_is_a_front l keep calls = front l keep calls

-- An accepted call leaves a state that 34 does not refuse; over a sound state a call that does not test again is the same call.
pub accepted_stays_sound : (l : List ℕ) (call : Call) (st : State) → Sized st → accepted (turn_of 0 l call st).answer ≡ true → sound_by 0 l (turn_of 0 l call st).state ≡ true
accepted_stays_sound l call st z a = accepted_sound l call st z a

pub tested_before : (l : List ℕ) (t : ℕ) (call : Call) (st : State) → Sized st → sound_by 0 l st ≡ true → turn_of t l call st ≡ turn_of 0 l call st
tested_before l t call st z h = tested_same l t call st z h

-- Demand 3. Of the call `outline`, for a source that passes the tests 1 and 2 and a buffer with room for it:
module _ (g : Reading) (s out : List ℕ) (h : source_test s ≡ Ok tt) (l : length s ≤ length out) where
  -- the bytes that it leaves where the source's were
  abbrev shown : List ℕ
  shown = take (length s) (outline_left g s out)

  -- x over every byte inside strings, byte strings, comments and templates, the source elsewhere; and past the source the buffer is as it was.
  pub x_inside : (i : ℕ) → i < length s → get_or (outline_left g s out) i 0 ≡ pick (inside_at (tokens_at (rules_of g) s 0) i) 0x78 (get_or s i 0)
  x_inside i k = left_inside g s out h l i k

  pub past_unchanged : (i : ℕ) → length s ≤ i → get_or (outline_left g s out) i 0 ≡ get_or out i 0
  past_unchanged i k = left_past g s out h l i k

  pub as_long_as_before : length (outline_left g s out) ≡ length out
  as_long_as_before = left_length g s out h l

  -- Outline and source list alike: the same count, the same refusal, the same spans, the same kinds up to the escape mark.
  pub list_alike : (room : ℕ) → (list_of g shown room ≡ list_of g s room) × (stored_of g shown room ≡ plain_words (stored_of g s room))
  list_alike room = left_lists g s out h l room

  -- Outlining twice adds nothing: the outline leaves in any buffer what the source leaves there, with the same answer.
  pub twice_nothing : (buf : List ℕ) → length s ≤ length buf → (outline_left g shown buf ≡ outline_left g s buf) × (outline_of g shown (length buf) ≡ outline_of g s (length buf))
  twice_nothing buf k = (left_again g s out h l buf k, left_answer g s out h l (length buf) k)

-- Two sources with equal outlines list alike.
pub equal_alike : (g : Reading) (s t : List ℕ) → source_test s ≡ Ok tt → source_test t ≡ Ok tt → outlined (rules_of g) s ≡ outlined (rules_of g) t → (room : ℕ)
    → (list_of g s room ≡ list_of g t room) × (plain_words (stored_of g s room) ≡ plain_words (stored_of g t room))
equal_alike g s t h k e room = (equal_lists g s t h k e room, equal_stores g s t h k e room)

-- Document 02, A3: what rune reads as a comment is one where the first `*/` closes, from the same place on, and ends there no later.
pub comment_ends_sooner : (s : List ℕ) (at : ℕ) (k : Token) (c : Bool) → next_at rune s at ≡ Ok k → k.kind ≡ MultilineComment c → Sooner (next_at first_close s at) k
comment_ends_sooner = first_ends_sooner

-- A file may switch without a look where each closed comment of its list under the first close has two scalars or more before its `*/`,
-- and no template holds a backslash: both readings list and outline it alike.
pub switch_alike : (s : List ℕ) → source_test s ≡ Ok tt → switch_safe s (tokens_at (rules_of first_close) s 0) ≡ true → (room : ℕ)
    → (list_of rune s room ≡ list_of first_close s room) × (stored_of rune s room ≡ stored_of first_close s room) × (length s ≤ room → outline_written rune s room ≡ outline_written first_close s room)
switch_alike s h safe room = (switch_lists s h safe room, switch_stores s h safe room, switch_outlines s h safe room)

-- Where the check finds nothing and answers no refusal, it makes no difference where comments end: with every room both readings list the same.
pub nothing_found_alike : (g : Reading) (s : List ℕ) (room : ℕ) → findings_of g s room ≡ Ok 0 → (n : ℕ)
    → (list_of g s n ≡ list_of (under_first g) s n) × (stored_of g s n ≡ stored_of (under_first g) s n)
nothing_found_alike g s room e n = nothing_found g s room e n
