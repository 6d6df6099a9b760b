-- No rule of document 01, for theorems: what a token with an inside looks like, a mark before the inside, the inside, a mark after it, and what may follow.
use Rattle.std.specs.Prelude.{ℕ, ◌≤◌, ◌≡◌, List, [], ◌∷◌, ◌++◌, Bool, true, false, ◌⊎◌, length, replicate, Err, Ok}
use Rattle.token.specs.Reads.{Read}
use Rattle.families.specs.Places.{place_after}
use Rattle.numbers.specs.Kinds.{has_inside}
use Rattle.readers.specs.Readers.{str_kind}
use Rattle.readers.specs.Rules.{Rules}
use Rattle.text.specs.Characters.{backtick, double_quote, letter_b, line_feed, slash, star}
use Rattle.token.specs.declared.kind.Kind.{Kind}
use Rattle.token.specs.declared.kind.Kind.TheVariants.{Comment, MultilineComment, Template}
use Rattle.token.specs.declared.read.Token.{Token}

-- the tokens with an inside: `//`, `/*` (closed?), a string (of bytes?, with an escape?), a template (closed?)
pub data Shape : Type 0 where
  line_shape : Shape
  comment_shape : Bool → Shape
  string_shape : Bool → Bool → Shape
  template_shape : Bool → Shape

abbrev pub shape_kind : Shape → Kind
shape_kind line_shape = Comment
shape_kind (comment_shape c) = MultilineComment c
shape_kind (string_shape b e) = str_kind b e
shape_kind (template_shape c) = Template c

-- the marks, in scalars
abbrev pub mark_before : Shape → List ℕ
mark_before line_shape = slash ∷ slash ∷ []
mark_before (comment_shape c) = slash ∷ star ∷ []
mark_before (string_shape false e) = double_quote ∷ []
mark_before (string_shape true e) = letter_b ∷ double_quote ∷ []
mark_before (template_shape c) = backtick ∷ []

abbrev pub mark_after : Shape → List ℕ
mark_after line_shape = []
mark_after (comment_shape true) = star ∷ slash ∷ []
mark_after (comment_shape false) = []
mark_after (string_shape b e) = double_quote ∷ []
mark_after (template_shape true) = backtick ∷ []
mark_after (template_shape false) = []

-- a line ends before LF or with the scalars
abbrev pub LineEnd : List ℕ → Type 0
LineEnd [] = Unit
LineEnd (v ∷ x) = v ≡ line_feed

-- what else holds of the inside `mid` and of the scalars `back` after the token, where n scalars are passed over after `/*`
abbrev pub ShapeFits : ℕ → Shape → List ℕ → List ℕ → Type 0
ShapeFits n line_shape mid back = LineEnd back
ShapeFits n (comment_shape true) mid back = n ≤ length mid
ShapeFits n (comment_shape false) mid back = back ≡ []
ShapeFits n (string_shape b e) mid back = Unit
ShapeFits n (template_shape true) mid back = Unit
ShapeFits n (template_shape false) mid back = back ≡ []

-- the scalars cs at p are the token k of a form, and more
pub record Framed (R : Rules) (cs : List ℕ) (p : ℕ) (k : Token) : Type 0 where
  pub shape : Shape
  pub mid : List ℕ
  pub back : List ℕ
  pub kind : k.kind ≡ shape_kind shape
  pub whole : cs ≡ mark_before shape ++ (mid ++ (mark_after shape ++ back))
  pub ends : k.span.end ≡ place_after R.stride (mark_after shape) (place_after R.stride mid (place_after R.stride (mark_before shape) p))
  pub fits : ShapeFits R.skip shape mid back

-- an accepted token has no inside, or is framed
abbrev pub Shaped : Rules → List ℕ → ℕ → Read → Type 0
Shaped R cs p (Ok k) = (has_inside k.kind ≡ false) ⊎ Framed R cs p k
Shaped R cs p (Err r) = Unit

-- with x in place of the inside, the escape mark is gone
abbrev pub plain_shape : Shape → Shape
plain_shape line_shape = line_shape
plain_shape (comment_shape c) = comment_shape c
plain_shape (string_shape b e) = string_shape b false
plain_shape (template_shape c) = template_shape c

-- as many x
abbrev pub xs : ℕ → List ℕ
xs j = replicate j 120

-- a token's scalars with as many x as its inside takes places, and y after them
abbrev pub painted : Rules → Shape → List ℕ → List ℕ → List ℕ
painted R shape mid y = mark_before shape ++ (xs (place_after R.stride mid 0) ++ (mark_after shape ++ y))
