-- A promise that is an equation leaves no choice of answer. Assumes nothing.
use mathlib.Core.Path.{◌≡◌, sym, ◌∙◌}

-- two results of a call, each allowed by a promise `r ≡ definition of the arguments`, are equal
pub determined : {A : Type 0} {d : A} (r q : A) → r ≡ d → q ≡ d → r ≡ q
determined r q h k = h ∙ sym k

-- .. and so are the two parts of a promise: the answer, and what was lent
pub determined_both : {A B : Type 0} {d : A} {l : B} (r q : A) (v w : B) → (r ≡ d) × (v ≡ l) → (q ≡ d) × (w ≡ l) → (r ≡ q) × (v ≡ w)
determined_both r q v w h k = (determined r q h.0 k.0, determined v w h.1 k.1)
