-- A kind and its number determine each other, but for the two kinds of template, which share 16. Assumes nothing.
use Rattle.std.specs.Prelude.{None, Option, Some}
use Prim.Native.Nat.{ℕ, zero, suc, ◌-◌, ◌≤◌, ◌<◌}
use mathlib.Core.Path.{◌≡◌, refl, sym, ap, ◌∙◌}
use mathlib.Core.List.{List, [], ◌∷◌}
use mathlib.Core.Bool.{Bool, true, false}
use mathlib.Core.Logic.{inl, inr, ◌⊎◌, ⊎_elim}
use native.Mathlib.Omega.{arith}
use lib.Dec.{eqb}
use lib.ListN.{get_or, length}
use borrow.Author.Tests.{eqb-true}
use Rattle.laws.proofs.Cases.{never, split_le}
use Rattle.laws.proofs.Tables.{below_at}
use Rattle.laws.specs.Tables.{every_below}
use Rattle.numbers.specs.Kinds.{kind_of, kinds, nth_kind, number_of, plain_kind, plain_number}
use Rattle.token.specs.declared.kind.Bracket.TheVariants.{Curly, Round, Square}
use Rattle.token.specs.declared.kind.Kind.{Kind}
use Rattle.token.specs.declared.kind.Kind.TheVariants.{Amp, AmpAmp, AmpEq, Arrow, At, Bang, BangEq, Byte, ByteStr, Caret, CaretEq, Char, Close, Colon, ColonColon, Comma, Comment, Dash, DashEq, Div, Dollar, Dot, DotDot, DotDotEq, Eof, Eq, EqEq, Gt, GtEq, GtGt, GtGtEq, Ident, Label, Lt, LtEq, LtLt, LtLtEq, MultilineComment, Number, Open, Perc, PercEq, Pipe, PipeEq, PipePipe, Plus, PlusEq, Pound, QuestionMark, Rocket, SemiColon, Shebang, SlashEq, Star, StarEq, Str, Template, Tilde, Underscore, Whitespace}

kind_in : (ks : List Kind) (n : ℕ) → n < length ks → nth_kind ks n ≡ Some (get_or ks n Whitespace)
unfolding nth_kind
kind_in [] n h = absurd (omega arith)
kind_in (k ∷ ks) zero h = refl
kind_in (k ∷ ks) (suc n) h = kind_in ks n (omega arith)

kind_past : (ks : List Kind) (n : ℕ) → length ks ≤ n → nth_kind ks n ≡ None
unfolding nth_kind
kind_past [] n h = refl
kind_past (k ∷ ks) zero h = absurd (omega arith)
kind_past (k ∷ ks) (suc n) h = kind_past ks n (omega arith)

pub kind_zero : kind_of 0 ≡ None
unfolding kind_of
kind_zero = refl

pub kind_above : (n : ℕ) → 67 < n → kind_of n ≡ None
unfolding kind_of kinds
kind_above zero h = refl
kind_above (suc n) h = kind_past kinds n (omega arith)

pub kind_at : (n : ℕ) → 1 ≤ n → n ≤ 67 → kind_of n ≡ Some (get_or kinds (n - 1) Whitespace)
unfolding kind_of kinds
kind_at zero h k = absurd (omega arith)
kind_at (suc n) h k =
    let e : n ≡ suc n - 1 = omega arith in
    kind_in kinds n (omega arith) ∙ ap (λ (i : ℕ). Some (get_or kinds i Whitespace)) e

-- the table has every kind but the unclosed template at its number
known : (k : Kind) → (k ≡ Template false) ⊎ (kind_of (number_of k) ≡ Some k)
unfolding kind_of kinds nth_kind number_of
known Whitespace = inr refl
known Comment = inr refl
known (MultilineComment true) = inr refl
known (MultilineComment false) = inr refl
known Shebang = inr refl
known Ident = inr refl
known Underscore = inr refl
known Number = inr refl
known Char = inr refl
known Byte = inr refl
known (Str false) = inr refl
known (Str true) = inr refl
known (ByteStr false) = inr refl
known (ByteStr true) = inr refl
known Label = inr refl
known (Template true) = inr refl
known (Template false) = inl refl
known Bang = inr refl
known Pound = inr refl
known Dollar = inr refl
known Perc = inr refl
known Amp = inr refl
known (Open Round) = inr refl
known (Close Round) = inr refl
known Star = inr refl
known Plus = inr refl
known Comma = inr refl
known Dash = inr refl
known Dot = inr refl
known Div = inr refl
known Colon = inr refl
known SemiColon = inr refl
known Lt = inr refl
known Eq = inr refl
known Gt = inr refl
known QuestionMark = inr refl
known At = inr refl
known (Open Square) = inr refl
known (Close Square) = inr refl
known Caret = inr refl
known (Open Curly) = inr refl
known Pipe = inr refl
known (Close Curly) = inr refl
known Tilde = inr refl
known BangEq = inr refl
known PercEq = inr refl
known AmpAmp = inr refl
known AmpEq = inr refl
known StarEq = inr refl
known PlusEq = inr refl
known DashEq = inr refl
known Arrow = inr refl
known DotDot = inr refl
known SlashEq = inr refl
known ColonColon = inr refl
known LtLt = inr refl
known LtEq = inr refl
known EqEq = inr refl
known Rocket = inr refl
known GtEq = inr refl
known GtGt = inr refl
known CaretEq = inr refl
known PipeEq = inr refl
known PipePipe = inr refl
known DotDotEq = inr refl
known LtLtEq = inr refl
known GtGtEq = inr refl
known Eof = inr refl

-- the kind at a place of `kinds` has the next number
numbered : ℕ → Bool
numbered n = eqb (number_of (get_or kinds n Whitespace)) (suc n)

all_numbered : every_below numbered 67 ≡ true
unfolding every_below numbered kinds number_of
all_numbered = refl

unknown : {x : (Option Kind)} {k : Kind} → x ≡ None → x ≡ Some k → ◌≡◌ {A = ℕ} 0 1
unknown e f = cc

-- a kind is had back from its number, but for the unclosed template, whose number is the closed one's
pub kind_number : (k : Kind) → (k ≡ Template false → ⊥) → kind_of (number_of k) ≡ Some k
kind_number k h = ⊎_elim (λ e. absurd (h e)) (λ e. e) (known k)

number_at : (n : ℕ) → n < 67 → number_of (get_or kinds n Whitespace) ≡ suc n
unfolding numbered
number_at n h = eqb-true _ _ (below_at numbered 67 all_numbered n h)

-- every number from 1 to 67 is some kind's
pub number_kind : (n : ℕ) → 1 ≤ n → n ≤ 67 → (k : Kind) × (kind_of n ≡ Some k) × (number_of k ≡ n)
number_kind n h l =
    let e : suc (n - 1) ≡ n = omega arith in
    (get_or kinds (n - 1) Whitespace, kind_at n h l, number_at (n - 1) (omega arith) ∙ e)

-- a number is from 1 to 67
pub number_range : (k : Kind) → (1 ≤ number_of k) × (number_of k ≤ 67)
unfolding number_of
number_range k =
    ⊎_elim
    (λ e. let n : number_of k ≡ 16 = ap number_of e in (omega arith, omega arith))
    (λ e. (
      split_le 1 (number_of k) (λ h. h) (λ h. never (let z : number_of k ≡ 0 = omega arith in unknown (ap kind_of z ∙ kind_zero) e)),
      split_le (number_of k) 67 (λ h. h) (λ h. never (unknown (kind_above _ h) e)),
    ))
    (known k)

-- a test that passes at every entry of `kinds`, and at the unclosed template, passes at every kind
pub every_kind : (f : Kind → Bool) → every_below (λ n. f (get_or kinds n Whitespace)) 67 ≡ true → f (Template false) ≡ true → (k : Kind) → f k ≡ true
every_kind f t u k =
    let r = number_range k in
    ⊎_elim
    (λ e. ap f e ∙ u)
    (λ e.
    let i : Some (get_or kinds (number_of k - 1) Whitespace) ≡ Some k = sym (kind_at (number_of k) r.0 r.1) ∙ e in
    let j : get_or kinds (number_of k - 1) Whitespace ≡ k = cc in
    sym (ap f j) ∙ below_at (λ n. f (get_or kinds n Whitespace)) 67 t (number_of k - 1) (omega arith))
    (known k)

pub plain_str : (e : Bool) → plain_kind (Str e) ≡ Str false
unfolding number_of
plain_str true = refl
plain_str false = refl

pub plain_byte_str : (e : Bool) → plain_kind (ByteStr e) ≡ ByteStr false
unfolding number_of
plain_byte_str true = refl
plain_byte_str false = refl

-- the two ways to drop the escape mark agree
pub plain_number_law : (k : Kind) → number_of (plain_kind k) ≡ plain_number (number_of k)
unfolding kinds every_below number_of
plain_number_law k = eqb-true _ _ (every_kind (λ k. eqb (number_of (plain_kind k)) (plain_number (number_of k))) refl refl k)
