-- Document 01, "Escapes": a whole body, the bytes that it gives, and its refusals in their order.
use Rattle.std.specs.Prelude.{Err, Ok, ℕ, ◌+◌, List, [], ◌∷◌, ◌++◌, Bool, true, false, not, ltb, eqb, length}
use Rattle.token.specs.declared.reason.Reason.{Reason}
use Rattle.token.specs.declared.reason.Reason.TheVariants.{NotOneItem, OutputShort}
use Rattle.escapes.specs.declared.Escape.{Escape}
use Rattle.escapes.specs.declared.Escape.TheVariants.{Bad, Item, Skipped}
use Rattle.items.specs.Items.{is_single, item_bytes, item_of}
use Rattle.items.specs.declared.Form.{Form}
use Rattle.laws.specs.Bools.{pick}
use Rattle.source_test.specs.Source.{after_test, source_test}
use Rattle.text.specs.Utf8.{rest, width}
use Rattle.token.specs.Reads.{span_of, Counted}
use Rattle.token.specs.declared.read.Refusal.{Refusal}

-- how the items end: with the body, or at the first of 20 to 25, with its reason and span
pub data Ending : Type 0 where
  whole : Ending
  fault : Reason → ℕ → ℕ → Ending

-- the items of a body (scalars, or bytes in the byte forms) before its end or its first fault
pub record Body : Type 0 where
  pub items : List ℕ
  pub ending : Ending

abbrev pub no_more : Ending → Body
no_more e = record { items = []; ending = e }

abbrev pub also : ℕ → Body → Body
also x b = record { items = x ∷ b.items; ending = b.ending }

-- what began at p gives an item, nothing or a fault; `go n` is the body from the place n on
unfoldable pub item_turn : ℕ → Escape → (ℕ → Body) → Body
item_turn p (Item x n) go = also x (go n)
item_turn p (Skipped n) go = go n
item_turn p (Bad reason n) go = no_more (fault reason p n)

-- the body of the scalars cs, the first of which stands at p; those before t are passed over
unfoldable pub body_of : Form → ℕ → List ℕ → ℕ → Body
body_of form t [] p = no_more whole
body_of form t (v ∷ cs) p =
    elim (ltb p t) [
      | true ↦ body_of form t cs (p + width v)
      | false ↦ item_turn p (item_of form v cs (p + width v)) (λ n. body_of form n cs (p + width v))
    ]

unfoldable pub items_bytes : Form → List ℕ → List ℕ
items_bytes form [] = []
items_bytes form (x ∷ l) = item_bytes form x ++ items_bytes form l

-- an answer, and the bytes that are written from the output's first on
pub record Result : Type 0 where
  pub answer : Counted
  pub bytes : List ℕ

-- the number of bytes written is the answer
abbrev pub wrote : List ℕ → Result
wrote l = record { answer = Ok (length l); bytes = l }

-- a refusal writes nothing
abbrev pub refuse_with : Refusal → Result
refuse_with r = record { answer = Err r; bytes = [] }

-- .. and reaches its span's end
abbrev pub refusal_at : Reason → ℕ → ℕ → Refusal
refusal_at reason start end = record { reason = reason; span = span_of start end; reached = end }

abbrev pub refused_at : Reason → ℕ → ℕ → Counted
refused_at reason start end = Err (refusal_at reason start end)

abbrev pub refuse : Reason → ℕ → ℕ → Result
refuse reason start end = refuse_with (refusal_at reason start end)

-- 27: a char or byte body that gives other than one item
abbrev pub wrong_count : Form → ℕ → Bool
wrong_count form n = pick (is_single form) (not (eqb n 1)) false

-- the earliest of 20 to 25; then 27, then 26, with the whole body as span
unfoldable pub judge : Form → ℕ → ℕ → List ℕ → Ending → Result
judge form size room l (fault reason start end) = refuse reason start end
judge form size room l whole =
    pick (wrong_count form (length l)) (refuse NotOneItem 0 size)
    (pick (ltb room (length (items_bytes form l))) (refuse OutputShort 0 size) (wrote (items_bytes form l)))

unfoldable pub unescaped_of : Form → List ℕ → ℕ → Result
unescaped_of form s room =
    let b = body_of form 0 (rest s 0) 0 in
    judge form (length s) room b.items b.ending

-- first 1, 2
unfoldable pub unescape_of : Form → List ℕ → ℕ → Result
unescape_of form s room = after_test (source_test s) (unescaped_of form s room) refuse_with
