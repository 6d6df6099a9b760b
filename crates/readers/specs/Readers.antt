-- Document 01, "How one token is read" with "Refusal numbers and places", rule by rule in its order. A reader takes the scalars after
-- a token's opening, their place, and the place a where the token started.
use Rattle.token.specs.declared.reason.Reason.TheVariants.{ExpectedByteClose, ExpectedCharClose, ExpectedCharOrLabel, ExpectedEscape, UnterminatedByteLit, UnterminatedByteStrLit, UnterminatedCharLit, UnterminatedStrLit}
use Rattle.token.specs.declared.reason.Reason.{Reason}
use Rattle.std.specs.Prelude.{Err, Ok, ℕ, zero, suc, ◌+◌, ◌≡◌, List, [], ◌∷◌, Bool, true, false, not, eqb}
use Rattle.classes.specs.Classes.{is_control, is_white_space}
use Rattle.classes.specs.Digits.{is_digit}
use Rattle.laws.specs.Bools.{both, either, pick, within}
use Rattle.readers.specs.Rules.{Rules}
use Rattle.readers.specs.Scan.{Act, How, Stop, Stride, before, behind, ended, full, on, scan, short}
use Rattle.readers.specs.declared.comments.Ended.{Ended}
use Rattle.text.specs.Characters.{backslash, double_quote, line_feed, quote, slash, star, underscore}
use Rattle.token.specs.Reads.{Counted, Read, got_of, refused_of, span_of}
use Rattle.token.specs.declared.kind.Kind.{Kind}
use Rattle.token.specs.declared.kind.Kind.TheVariants.{Byte, ByteStr, Char, Ident, Label, MultilineComment, Str, Underscore, Whitespace}

-- the place where the longest run of scalars that pass a test ends
abbrev pub run_step : (ℕ → Bool) → Unit {0} → ℕ → List ℕ → Act (Unit {0})
run_step f s v cs = pick (f v) (on tt) (before tt)

unfoldable pub run : Stride → (ℕ → Bool) → List ℕ → ℕ → ℕ
run w f cs p = (scan (run_step f) w tt p cs p).place

-- the answers of a test are those of f
abbrev pub Tests : (ℕ → Bool → Type 0) → (ℕ → Bool) → Type 0
Tests answers f = (v : ℕ) (b : Bool) → answers v b → b ≡ f v

-- white space
unfoldable pub white_of : Stride → ℕ → List ℕ → ℕ → Read
white_of w a cs p = got_of Whitespace a (run w is_white_space cs p)

-- a line comment and the shebang stop before LF
abbrev pub in_line : ℕ → Bool
in_line v = not (eqb v line_feed)

unfoldable pub line_of : Stride → Kind → ℕ → List ℕ → ℕ → Read
line_of w k a cs p = got_of k a (run w in_line cs p)

-- a comment: so many scalars are skipped untested, and then the first `*/` closes; what nothing closes is unclosed, and goes to the end
pub data Closing : Type 0 where
  skips : ℕ → Closing
  after_star : Closing

unfoldable pub comment_step : Closing → ℕ → List ℕ → Act Closing
comment_step (skips (suc k)) v cs = on (skips k)
comment_step (skips zero) v cs = pick (eqb v star) (on after_star) (on (skips 0))
comment_step after_star v cs = pick (eqb v slash) (behind after_star) (pick (eqb v star) (on after_star) (on (skips 0)))

abbrev pub closed_by : How → Bool
closed_by ended = false
closed_by short = false
closed_by full = true

abbrev pub ended_of : Stop Closing → Ended
ended_of o = record { end = o.place; closed = closed_by o.how }

-- where it ends, and whether a close ended it; k scalars are skipped
unfoldable pub comment_end : Stride → ℕ → List ℕ → ℕ → Ended
comment_end w k cs p = ended_of (scan comment_step w (skips k) p cs p)

unfoldable pub comment_of : Stride → ℕ → ℕ → List ℕ → ℕ → Read
comment_of w k a cs p = let e = comment_end w k cs p in got_of (MultilineComment e.closed) a e.end

-- the place after the scalar that a backslash at b takes along
abbrev pub taken_of : Stride → ℕ → List ℕ → ℕ → Counted
taken_of w b [] p = Err (record { reason = ExpectedEscape; span = span_of b p; reached = p })
taken_of w b (v ∷ cs) p = Ok (p + w v)

-- a byte: its first scalar is not tested; after it a quote closes, and a backslash takes the scalar after it along
pub data Bytes : Type 0 where
  fresh : Bytes
  body : Bytes
  backslashed : Bytes
  control : Bytes

unfoldable pub byte_step : Bytes → ℕ → List ℕ → Act Bytes
byte_step fresh v cs = on body
byte_step body v cs = pick (eqb v backslash) (on backslashed) (pick (eqb v quote) (behind body) (pick (is_control v) (behind control) (on body)))
byte_step backslashed v cs = on body
byte_step control v cs = behind control

-- 10 after a backslash, 15 at a control, 14 at the end
abbrev pub byte_answer : ℕ → Bytes → ℕ → ℕ → How → Read
byte_answer a backslashed l p h = refused_of ExpectedEscape l p p
byte_answer a control l p h = refused_of UnterminatedByteLit a p p
byte_answer a fresh l p h = refused_of ExpectedByteClose a p p
byte_answer a body l p full = got_of Byte a p
byte_answer a body l p ended = refused_of ExpectedByteClose a p p
byte_answer a body l p short = refused_of ExpectedByteClose a p p

unfoldable pub byte_of : Stride → ℕ → List ℕ → ℕ → Read
byte_of w a cs p = let o = scan byte_step w fresh p cs p in byte_answer a o.state o.last o.place o.how

-- a string or byte string: a quote closes, a backslash takes the scalar after it along and sets the escape mark
pub data Quoted : Type 0 where
  text : Bool → Quoted
  slashed : Bool → Quoted

unfoldable pub str_step : Quoted → ℕ → List ℕ → Act Quoted
str_step (text e) v cs = pick (eqb v double_quote) (behind (text e)) (pick (eqb v backslash) (on (slashed e)) (on (text e)))
str_step (slashed e) v cs = on (text true)

-- the kind and refusal of a string, and of a byte string
abbrev pub str_kind : Bool → Bool → Kind
str_kind false e = Str e
str_kind true e = ByteStr e

abbrev pub str_reason : Bool → Reason
str_reason false = UnterminatedStrLit
str_reason true = UnterminatedByteStrLit

-- 10 after a backslash, 16 or 17 at the end
abbrev pub str_answer : Bool → ℕ → Quoted → ℕ → ℕ → How → Read
str_answer b a (slashed e) l p h = refused_of ExpectedEscape l p p
str_answer b a (text e) l p full = got_of (str_kind b e) a p
str_answer b a (text e) l p ended = refused_of (str_reason b) a p p
str_answer b a (text e) l p short = refused_of (str_reason b) a p p

unfoldable pub str_of : Stride → Bool → ℕ → List ℕ → ℕ → Read
str_of w b a cs p = let o = scan str_step w (text false) p cs p in str_answer b a o.state o.last o.place o.how

-- a word: its first letter was read already; a lone `_` is a kind of its own
abbrev pub starts_word : Rules → ℕ → Bool
starts_word R v = either (eqb v underscore) (R.start v)

unfoldable pub word_of : Stride → (ℕ → Bool) → ℕ → ℕ → List ℕ → ℕ → Read
word_of w more v a cs p = let e = run w more cs p in got_of (pick (both (eqb v underscore) (eqb e p)) Underscore Ident) a e

-- a char or a label: the first flag says that it may still be a label, the second that something was counted
pub data Chars : Type 0 where
  letters : Bool → Bool → Chars
  escape : Chars
  shut : Bool → Chars
  broken : Chars

abbrev pub in_label : ℕ → Bool
in_label v = either (is_digit v) (within 97 122 v)

unfoldable pub char_step : Chars → ℕ → List ℕ → Act Chars
char_step (letters l n) v cs =
    pick (eqb v backslash) (on escape)
    (pick (eqb v quote) (behind (shut n))
    (pick (in_label v) (on (letters l true))
    (pick (is_control v) (before broken)
    (pick (both l n) (before (letters l n)) (on (letters false true))))))
char_step escape v cs = on (letters false true)
char_step (shut n) v cs = behind (shut n)
char_step broken v cs = before broken

-- 10 after a backslash, 11 before a control, 12 for `''` (its span's end is the source's, which the caller adds), 13 for `'` at the end
abbrev pub char_answer : ℕ → Chars → ℕ → ℕ → Read
char_answer a escape l p = refused_of ExpectedEscape l p p
char_answer a broken l p = refused_of UnterminatedCharLit a p p
char_answer a (shut false) l p = refused_of ExpectedCharClose a p p
char_answer a (shut true) l p = got_of Char a p
char_answer a (letters false false) l p = refused_of ExpectedCharClose a p p
char_answer a (letters true false) l p = refused_of ExpectedCharOrLabel a p p
char_answer a (letters false true) l p = got_of Char a p
char_answer a (letters true true) l p = got_of Label a p

unfoldable pub char_of : Stride → ℕ → List ℕ → ℕ → Read
char_of w a cs p = let o = scan char_step w (letters true false) p cs p in char_answer a o.state o.last o.place
