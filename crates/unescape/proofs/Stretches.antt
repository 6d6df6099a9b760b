-- From one place of a body to another: the bytes that it gives between them. A run gives its bytes as they stand. Assumes nothing.
use Rattle.token.specs.declared.reason.Reason.{Reason}
use Rattle.token.specs.declared.reason.Reason.TheVariants.{NotAscii}
use Prim.Native.Nat.{ℕ, zero, suc, ◌+◌, ◌≤◌, ◌<◌}
use mathlib.Core.Path.{◌≡◌, refl, sym, ap, ◌∙◌, subst}
use mathlib.Core.List.{List, [], ◌∷◌, ◌++◌, append_assoc}
use mathlib.Core.Bool.{Bool, true, false}
use native.Mathlib.Omega.{arith}
use lib.ListN.{drop, get_or, length, length-append}
use Rattle.encoding.proofs.Round.{step_is_scalar}
use Rattle.encoding.proofs.Rows.{encode_1, encode_length}
use Rattle.encoding.specs.Encode.{encode_of}
use Rattle.escapes.specs.declared.Escape.{Escape}
use Rattle.escapes.specs.declared.Escape.TheVariants.{Bad, Item, Skipped}
use Rattle.items.proofs.Begins.{item_high, item_low, item_plain}
use Rattle.items.proofs.Items.{byte_bytes, scalar_bytes}
use Rattle.items.proofs.Lands.{place_of}
use Rattle.items.specs.Items.{is_bytes, is_template, item_bytes, item_of}
use Rattle.items.specs.declared.Form.{Form}
use Rattle.laws.proofs.Cases.{never, split, split_eq, split_le}
use Rattle.runs.proofs.Begins.{begins_item}
use Rattle.runs.proofs.Runs.{bare_backslash, bare_cons, bare_end, bare_more, bare_scalar, high_here, low_few, low_here}
use Rattle.runs.proofs.Shorts.{short_here}
use Rattle.runs.specs.Runs.{ascii_of, bare_of, begins_of, escaped_at, item_in, limit_of, plain_end, short_of}
use Rattle.text.proofs.Decode.{Step, after_end, by_step, step_ascii}
use Rattle.text.specs.Utf8.{after, rest}
use Rattle.unescape.proofs.Bodies.{body_bad, body_item, body_skipped, body_at, fits_here, next_past, next_room, next_sound}
use Rattle.unescape.specs.Bodies.{Body, fault, items_bytes, no_more, whole}

-- from p to r the body gives the bytes l, and goes on at r
pub record Stretch (form : Form) (s : List ℕ) (p r : ℕ) (l : List ℕ) : Type 0 where
  pub bytes : items_bytes form (body_at form s p).items ≡ l ++ items_bytes form (body_at form s r).items
  pub ending : (body_at form s p).ending ≡ (body_at form s r).ending
  pub sound : after (rest s r) r ≡ after (rest s p) p
  pub few : p + length l ≤ r
  pub inside : p ≤ length s → r ≤ length s

-- what the scalar v at p begins, as the code found it: e
module _ (form : Form) (s : List ℕ) (p v n : ℕ) (t : Step s p v n) (e : Escape) (q : e ≡ item_of form v (rest s n) n) where
  stretch_item : (x m : ℕ) → e ≡ Item x m → Stretch form s p m (item_bytes form x)
  unfolding items_bytes
  stretch_item x m h =
      let b = body_item form s p v n t e q x m h in
      let d = ap place_of h in
      record {
        bytes = ap (λ (y : Body). items_bytes form y.items) b;
        ending = ap (λ (y : Body). y.ending) b;
        sound = subst (λ (k : ℕ). after (rest s k) k ≡ after (rest s p) p) d (next_sound form s p v n t e q);
        few = (fits_here form s p v n t e q x m h).room;
        inside = λ z. omega (arith, next_room form s p v n t e q);
      }

  stretch_skipped : (m : ℕ) → e ≡ Skipped m → Stretch form s p m []
  stretch_skipped m h =
      let b = body_skipped form s p v n t e q m h in
      let d = ap place_of h in
      record {
        bytes = ap (λ (y : Body). items_bytes form y.items) b;
        ending = ap (λ (y : Body). y.ending) b;
        sound = subst (λ (k : ℕ). after (rest s k) k ≡ after (rest s p) p) d (next_sound form s p v n t e q);
        few = omega (arith, next_past form s p v n t e q);
        inside = λ z. omega (arith, next_room form s p v n t e q);
      }

-- an escape of two bytes
pub stretch_short : (form : Form) (s : List ℕ) (p : ℕ) {v x limit : ℕ} {m : Bool} → v ≡ escaped_at s p → x ≡ short_of v → limit ≡ limit_of m → m ≡ is_template form → x < limit → Stretch form s p (p + 2) (item_in x ∷ [])
stretch_short form s p {v} {x} {limit} {m} q r u e l =
    let h = short_here form s p v x q r (omega (arith, u, ap limit_of e)) in
    let low : item_bytes form (item_in x) ≡ item_in x ∷ [] = split (is_bytes form) (λ b. byte_bytes form (item_in x) b) (λ b. scalar_bytes form (item_in x) b ∙ encode_1 (item_in x) (omega arith)) in
    subst (Stretch form s p (p + 2)) low (stretch_item form s p 0x5c (p + 1) h.step (Item (item_in x) (p + 2)) h.item (item_in x) (p + 2) refl)

-- any other, as `begin_at` found it: e
module _ (form : Form) (s : List ℕ) (p : ℕ) (h : p < length s) (d : after (rest s p) p ≡ length s) (e : Escape) (q : e ≡ begins_of form (rest s p) p) where
  begun {ℓ} : {X : Type ℓ} → ((v n : ℕ) → Step s p v n → e ≡ item_of form v (rest s n) n → X) → X
  begun f = by_step s p (λ z. absurd (omega (arith, after_end s p z))) (λ v n t. f v n t (q ∙ sym (begins_item form s p v n t)))

  pub begun_past : p < place_of e
  begun_past = begun (λ v n t g. next_past form s p v n t e g)

  pub begun_room : place_of e ≤ length s
  begun_room = begun (λ v n t g. next_room form s p v n t e g)

  pub begun_byte : (x m : ℕ) → e ≡ Item x m → is_bytes form ≡ true → x ≤ 0xff
  begun_byte x m k = begun (λ v n t g. (fits_here form s p v n t e g x m k).byte)

  pub begun_item : (x m : ℕ) → e ≡ Item x m → Stretch form s p m (item_bytes form x)
  begun_item x m k = begun (λ v n t g. stretch_item form s p v n t e g x m k)

  pub begun_skipped : (m : ℕ) → e ≡ Skipped m → Stretch form s p m []
  begun_skipped m k = begun (λ v n t g. stretch_skipped form s p v n t e g m k)

  pub begun_bad : (reason : Reason) (m : ℕ) → e ≡ Bad reason m → body_at form s p ≡ no_more (fault reason p m)
  begun_bad reason m k = begun (λ v n t g. body_bad form s p v n t e g reason m k)

-- .. all of it at once
pub record Begun (form : Form) (s : List ℕ) (p : ℕ) (e : Escape) : Type 0 where
  pub past : p < place_of e
  pub room : place_of e ≤ length s
  pub byte : (x m : ℕ) → e ≡ Item x m → is_bytes form ≡ true → x ≤ 0xff
  pub item : (x m : ℕ) → e ≡ Item x m → Stretch form s p m (item_bytes form x)
  pub skipped : (m : ℕ) → e ≡ Skipped m → Stretch form s p m []
  pub bad : (reason : Reason) (m : ℕ) → e ≡ Bad reason m → body_at form s p ≡ no_more (fault reason p m)

pub begun_here : (form : Form) (s : List ℕ) (p : ℕ) → p < length s → after (rest s p) p ≡ length s → (e : Escape) → e ≡ begins_of form (rest s p) p → Begun form s p e
begun_here form s p h d e q =
    record {
      past = begun_past form s p h d e q;
      room = begun_room form s p h d e q;
      byte = begun_byte form s p h d e q;
      item = begun_item form s p h d e q;
      skipped = begun_skipped form s p h d e q;
      bad = begun_bad form s p h d e q;
    }

no_length : (l : List ℕ) → length l ≤ 0 → l ≡ []
no_length [] h = refl
no_length (x ∷ l) h = absurd (omega arith)

module _ (form : Form) (s : List ℕ) where
  stretch_none : (p : ℕ) → Stretch form s p p []
  stretch_none p = record { bytes = refl; ending = refl; sound = refl; few = omega arith; inside = λ h. h }

  stretch_then : (p q r : ℕ) (l m : List ℕ) → Stretch form s p q l → Stretch form s q r m → Stretch form s p r (l ++ m)
  stretch_then p q r l m a b =
      record {
        bytes = a.bytes ∙ ap (λ (x : List ℕ). l ++ x) b.bytes ∙ sym (append_assoc l m (items_bytes form (body_at form s r).items));
        ending = a.ending ∙ b.ending;
        sound = b.sound ∙ a.sound;
        few = omega (arith, a.few, b.few, length-append l m);
        inside = λ h. b.inside (a.inside h);
      }

  -- a run of no bytes
  no_run : (p : ℕ) (l : List ℕ) → l ≡ [] → Stretch form s p (p + length l) l
  no_run p l e =
      let z : p ≡ p + length l = omega (arith, ap length e) in
      subst (λ (k : ℕ). Stretch form s p k l) z (subst (Stretch form s p p) (sym e) (stretch_none p))

  -- a scalar that stands for itself
  stretch_plain : (p v n : ℕ) → Step s p v n → (v ≡ 0x5c → ⊥) → (is_bytes form ≡ true → v ≤ 0x7f) → Stretch form s p n (encode_of v)
  stretch_plain p v n t h k =
      let q : Item v n ≡ item_of form v (rest s n) n = split (is_bytes form) (λ b. item_low form v (rest s n) n h b (k b)) (λ b. item_plain form v (rest s n) n h b) in
      let e : item_bytes form v ≡ encode_of v = split (is_bytes form) (λ b. byte_bytes form v b ∙ sym (encode_1 v (k b))) (λ b. scalar_bytes form v b) in
      subst (Stretch form s p n) e (stretch_item form s p v n t (Item v n) q v n refl)

  -- the run l begins with the bytes of a scalar, and the others of it follow
  run_more : (p v n : ℕ) (l m : List ℕ) → Step s p v n → l ≡ encode_of v ++ m → Stretch form s p n (encode_of v) → Stretch form s n (n + length m) m → Stretch form s p (p + length l) l
  run_more p v n l m t e a b =
      let z : n + length m ≡ p + length l = omega (arith, ap length e, length-append (encode_of v) m, encode_length v (step_is_scalar s p v n t), t.next) in
      subst (λ (k : ℕ). Stretch form s p k l) z (subst (Stretch form s p (n + length m)) (sym e) (stretch_then p n (n + length m) (encode_of v) m a b))

  -- in a body without a fault, and in text, all before a backslash stands for itself
  bare_by : (f p : ℕ) → length (bare_of (drop p s)) ≤ f → after (rest s p) p ≡ length s → (is_bytes form ≡ true → (body_at form s p).ending ≡ whole)
      → Stretch form s p (p + length (bare_of (drop p s))) (bare_of (drop p s))
  bare_by zero p h d w = no_run p (bare_of (drop p s)) (no_length (bare_of (drop p s)) h)
  bare_by (suc f) p h d w =
      by_step s p (λ e. no_run p (bare_of (drop p s)) (bare_end s p (omega (arith, after_end s p e))))
      (λ v n t.
      split_eq v 0x5c (λ k. no_run p (bare_of (drop p s)) (bare_backslash s p v n t k))
      (λ k.
      let low : is_bytes form ≡ true → v ≤ 0x7f =
      λ b. split_le v 0x7f (λ l. l)
      (λ l. never (let z = ap (λ (y : Body). y.ending) (body_bad form s p v n t (Bad NotAscii n) (item_high form v (rest s n) n k b l) NotAscii n refl) in let y = w b in cc)) in
      let a = stretch_plain p v n t k low in
      let e = bare_scalar s p v n t k in
      let few : length (bare_of (drop n s)) ≤ f = omega (arith, ap length e, length-append (encode_of v) (bare_of (drop n s)), encode_length v (step_is_scalar s p v n t), t.next, t.past) in
      run_more p v n (bare_of (drop p s)) (bare_of (drop n s)) t e a (bare_by f n few (a.sound ∙ d) (λ b. sym a.ending ∙ w b))))

  pub stretch_bare : (p : ℕ) → after (rest s p) p ≡ length s → (is_bytes form ≡ true → (body_at form s p).ending ≡ whole) → (r : ℕ) → r ≡ p + length (bare_of (drop p s)) → Stretch form s p r (bare_of (drop p s))
  stretch_bare p d w r e = subst (λ (k : ℕ). Stretch form s p k (bare_of (drop p s))) (sym e) (bare_by (length (bare_of (drop p s))) p (omega arith) d w)

  -- before a byte above 0x7f too it does in every form
  low_by : (f p : ℕ) → length (bare_of (drop p s)) ≤ f → Stretch form s p (p + length (ascii_of (bare_of (drop p s)))) (ascii_of (bare_of (drop p s)))
  low_by zero p h = no_run p (ascii_of (bare_of (drop p s))) (no_length (ascii_of (bare_of (drop p s))) (omega (arith, low_few (bare_of (drop p s)))))
  low_by (suc f) p h =
      split_le (length (bare_of (drop p s))) 0 (λ z. no_run p (ascii_of (bare_of (drop p s))) (no_length (ascii_of (bare_of (drop p s))) (omega (arith, low_few (bare_of (drop p s))))))
      (λ z.
      let b = bare_more s p z in
      split_le (get_or s p 0) 0x7f
      (λ l.
      let t = step_ascii s p b.0 l in
      let e = low_here s p z l ∙ ap (λ (x : List ℕ). x ++ ascii_of (bare_of (drop (p + 1) s))) (sym (encode_1 (get_or s p 0) l)) in
      let few : length (bare_of (drop (p + 1) s)) ≤ f = omega (arith, ap length (bare_cons s p z)) in
      run_more p (get_or s p 0) (p + 1) (ascii_of (bare_of (drop p s))) (ascii_of (bare_of (drop (p + 1) s))) t e (stretch_plain p (get_or s p 0) (p + 1) t b.1 (λ k. l)) (low_by f (p + 1) few))
      (λ l. no_run p (ascii_of (bare_of (drop p s))) (high_here s p z l)))

  pub stretch_run : (p : ℕ) → after (rest s p) p ≡ length s → (b : Bool) → b ≡ is_bytes form → (r : ℕ) → r ≡ p + length (plain_end b (drop p s)) → Stretch form s p r (plain_end b (drop p s))
  stretch_run p d true q r e = subst (λ (k : ℕ). Stretch form s p k (ascii_of (bare_of (drop p s)))) (sym e) (low_by (length (bare_of (drop p s))) p (omega arith))
  stretch_run p d false q r e = stretch_bare p d (λ h. never (cc)) r e
