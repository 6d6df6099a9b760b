-- The turns of a body at a place of its source, and the answer made of what was measured. Assumes nothing.
use Rattle.token.specs.declared.reason.Reason.{Reason}
use Rattle.std.specs.Prelude.{Err, Ok}
use Rattle.token.specs.Reads.{Tested}
use Rattle.token.specs.declared.reason.Reason.TheVariants.{NotOneItem, OutputShort}
use Prim.Native.Nat.{ℕ, ◌+◌, ◌≤◌, ◌<◌}
use mathlib.Core.Path.{◌≡◌, refl, sym, ap, ◌∙◌, subst}
use mathlib.Core.List.{List, [], ◌∷◌}
use mathlib.Core.Bool.{true, false}
use mathlib.Core.Logic.{inl, inr}
use native.Mathlib.Omega.{arith}
use lib.Dec.{ltb}
use lib.Seq.{sets}
use lib.ListN.{length}
use borrow.Author.Tests.{le-ltb, lt-ltb}
use Rattle.encoding.proofs.Round.{step_is_scalar}
use Rattle.escapes.specs.declared.Escape.{Escape}
use Rattle.escapes.specs.declared.Escape.TheVariants.{Bad, Item, Skipped}
use Rattle.items.proofs.Items.{Fits, item_fits}
use Rattle.items.proofs.Lands.{Lands, item_lands, lands_le, lands_room, place_of}
use Rattle.items.specs.Items.{item_of}
use Rattle.items.specs.declared.Form.{Form}
use Rattle.laws.proofs.Cases.{never}
use Rattle.laws.specs.Bools.{pick}
use Rattle.source_test.specs.Source.{source_test}
use Rattle.text.proofs.Decode.{Step, after_step, rest_tail, width_pos}
use Rattle.text.specs.Utf8.{after, rest, width}
use Rattle.token.specs.declared.read.Refusal.{Refusal}
use Rattle.unescape.specs.Bodies.{Body, Ending, Result, also, body_of, fault, item_turn, items_bytes, judge, no_more, refusal_at, refuse, refuse_with, unescape_of, unescaped_of, whole, wrong_count, wrote}
use Rattle.unescape.specs.Measures.{measured_of}

pub arrived : (form : Form) (cs : List ℕ) (t : ℕ) → body_of form t cs t ≡ body_of form 0 cs t
unfolding body_of
arrived form [] t = refl
arrived form (v ∷ cs) t = rw (le-ltb t t (omega arith), le-ltb t 0 (omega arith), body_of)

-- passing over what lies before r
body_skip : (form : Form) (s cs : List ℕ) (p r : ℕ) → cs ≡ rest s p → Lands cs p r → body_of form r cs p ≡ body_of form 0 (rest s r) r
unfolding body_of
body_skip form s [] p r e k = subst (λ (x : ℕ). body_of form x [] p ≡ body_of form 0 (rest s x) x) k (rw (← e))
body_skip form s (v ∷ cs) p r e (inl k) =
    subst (λ (x : ℕ). body_of form x (v ∷ cs) p ≡ body_of form 0 (rest s x) x) k (rw (← e) (arrived form (v ∷ cs) p))
body_skip form s (v ∷ cs) p r e (inr k) =
    let b = lands_le cs (p + width v) r k in
    let w = width_pos v in
    rw (lt-ltb p r (omega arith), body_of) (body_skip form s cs (p + width v) r (rest_tail s p v cs e) k)

lands_sound : (s cs : List ℕ) (p r : ℕ) → cs ≡ rest s p → Lands cs p r → after (rest s r) r ≡ after cs p
unfolding after
lands_sound s [] p r e k = subst (λ (x : ℕ). after (rest s x) x ≡ p) k (rw (← e))
lands_sound s (v ∷ cs) p r e (inl k) = subst (λ (x : ℕ). after (rest s x) x ≡ after cs (p + width v)) k (rw (← e))
lands_sound s (v ∷ cs) p r e (inr k) = lands_sound s cs (p + width v) r (rest_tail s p v cs e) k

-- the body from a place of the source on
abbrev pub body_at : Form → List ℕ → ℕ → Body
body_at form s p = body_of form 0 (rest s p) p

pub body_end : (form : Form) (s : List ℕ) (p : ℕ) → rest s p ≡ [] → body_at form s p ≡ no_more whole
unfolding body_of
body_end form s p e = rw e

-- the scalar v at p begins what the code found: e
module _ (form : Form) (s : List ℕ) (p v n : ℕ) (t : Step s p v n) (e : Escape) (q : e ≡ item_of form v (rest s n) n) where
  found : e ≡ item_of form v (rest s n) (p + width v)
  found = q ∙ ap (item_of form v (rest s n)) t.next

  turn : body_at form s p ≡ item_turn p e (λ k. body_of form k (rest s n) n)
  unfolding body_of
  turn =
      rw t.here (rw (le-ltb p 0 (omega arith), body_of)
      (sym (ap (λ (x : Escape). item_turn p x (λ k. body_of form k (rest s n) n)) q
      ∙ ap (λ (m : ℕ). item_turn p (item_of form v (rest s n) m) (λ k. body_of form k (rest s n) m)) t.next)))

  lands : Lands (rest s n) n (place_of e)
  lands = subst (λ (x : Escape). Lands (rest s n) n (place_of x)) (sym q) (item_lands form v (rest s n) n)

  pub next_past : p < place_of e
  next_past = let a = t.past in omega (arith, lands_le (rest s n) n (place_of e) lands)

  pub next_room : place_of e ≤ length s
  next_room = lands_room s (rest s n) n (place_of e) refl t.room lands

  pub next_sound : after (rest s (place_of e)) (place_of e) ≡ after (rest s p) p
  next_sound = lands_sound s (rest s n) n (place_of e) refl lands ∙ after_step s p v n t

  go_on : (r : ℕ) → r ≡ place_of e → body_of form r (rest s n) n ≡ body_at form s r
  go_on r h = body_skip form s (rest s n) n r refl (subst (λ (x : ℕ). Lands (rest s n) n x) (sym h) lands)

  pub body_item : (x m : ℕ) → e ≡ Item x m → body_at form s p ≡ also x (body_at form s m)
  unfolding item_turn
  body_item x m h = turn ∙ rw h (ap (also x) (go_on m (sym (ap place_of h))))

  pub body_skipped : (m : ℕ) → e ≡ Skipped m → body_at form s p ≡ body_at form s m
  unfolding item_turn
  body_skipped m h = turn ∙ rw h (go_on m (sym (ap place_of h)))

  pub body_bad : (reason : Reason) (m : ℕ) → e ≡ Bad reason m → body_at form s p ≡ no_more (fault reason p m)
  unfolding item_turn
  body_bad reason m h = turn ∙ rw h

  pub fits_here : (x m : ℕ) → e ≡ Item x m → Fits form p x m
  fits_here x m h = item_fits form p v (rest s n) x m (step_is_scalar s p v n t) (sym found ∙ h)

pub by_ending {ℓ} : {X : Type ℓ} (e : Ending) → (e ≡ whole → X) → ((reason : Reason) (start end : ℕ) → e ≡ fault reason start end → X) → X
by_ending whole f g = f refl
by_ending (fault reason start end) f g = g reason start end refl

-- the answer, of how the items end
module _ (form : Form) (s : List ℕ) (room : ℕ) where
  pub read_fault : (reason : Reason) (start end : ℕ) → (body_at form s 0).ending ≡ fault reason start end → unescaped_of form s room ≡ refuse reason start end
  unfolding unescaped_of judge
  read_fault reason start end e = rw (e, judge)

  pub read_whole : (body_at form s 0).ending ≡ whole → unescaped_of form s room
      ≡ pick (wrong_count form (length (body_at form s 0).items)) (refuse NotOneItem 0 (length s))
      (pick (ltb room (length (items_bytes form (body_at form s 0).items))) (refuse OutputShort 0 (length s)) (wrote (items_bytes form (body_at form s 0).items)))
  unfolding unescaped_of judge
  read_whole e = rw (e, judge)

-- .. and of what was measured
module _ (form : Form) (s : List ℕ) (room : ℕ) where
  pub read_stopped : (r : Refusal) → Err r ≡ measured_of form 0 (body_at form s 0) → unescaped_of form s room ≡ refuse_with r
  unfolding measured_of
  read_stopped r q =
      by_ending (body_at form s 0).ending
      (λ e. never (let z = (rw (e, measured_of) at q) in cc))
      (λ a b c e.
      let z = (rw (e, measured_of) at q) in
      let x : refusal_at a b c ≡ r = cc in
      read_fault form s room a b c e ∙ ap refuse_with x)

  module _ (count : ℕ) (q : Ok count ≡ measured_of form 0 (body_at form s 0)) where
    pub whole_is : ((body_at form s 0).ending ≡ whole) × (count ≡ length (items_bytes form (body_at form s 0).items))
    unfolding measured_of
    whole_is =
        by_ending (body_at form s 0).ending
        (λ e.
        let z = (rw (e, measured_of) at q) in
        let y : count ≡ 0 + length (items_bytes form (body_at form s 0).items) = cc in
        (e, omega arith))
        (λ a b c e. never (let z = (rw (e, measured_of) at q) in cc))

    judged : unescaped_of form s room
        ≡ pick (wrong_count form (length (body_at form s 0).items)) (refuse NotOneItem 0 (length s)) (pick (ltb room count) (refuse OutputShort 0 (length s)) (wrote (items_bytes form (body_at form s 0).items)))
    judged =
        read_whole form s room whole_is.0
        ∙ ap (λ (c : ℕ). pick (wrong_count form (length (body_at form s 0).items)) (refuse NotOneItem 0 (length s)) (pick (ltb room c) (refuse OutputShort 0 (length s)) (wrote (items_bytes form (body_at form s 0).items)))) (sym whole_is.1)

    pub read_wrong : wrong_count form (length (body_at form s 0).items) ≡ true → unescaped_of form s room ≡ refuse NotOneItem 0 (length s)
    read_wrong w = judged ∙ rw w

    module _ (w : wrong_count form (length (body_at form s 0).items) ≡ false) where
      pub read_short : room < count → unescaped_of form s room ≡ refuse OutputShort 0 (length s)
      read_short l = judged ∙ rw (w, lt-ltb room count l)

      pub read_wrote : count ≤ room → unescaped_of form s room ≡ wrote (items_bytes form (body_at form s 0).items)
      read_wrote l = judged ∙ rw (w, le-ltb room count l)

module _ (form : Form) (s : List ℕ) (room : ℕ) (t : Tested) (q : t ≡ source_test s) where
  pub source_sound : t ≡ Ok tt → unescape_of form s room ≡ unescaped_of form s room
  unfolding unescape_of
  source_sound h = rw (sym q ∙ h, unescape_of)

  pub source_refused : (r : Refusal) → t ≡ Err r → unescape_of form s room ≡ refuse_with r
  unfolding unescape_of
  source_refused r h = rw (sym q ∙ h, unescape_of)

-- a refusal writes nothing
pub refused_store : (r : Result) (f : Refusal) (out : List ℕ) → r ≡ refuse_with f → out ≡ sets out 0 r.bytes
refused_store r f out h = sym (ap (λ (x : Result). sets out 0 x.bytes) h)

pub refused_answer : (r : Result) (f : Refusal) → r ≡ refuse_with f → Err f ≡ r.answer
refused_answer r f h = sym (ap (λ (x : Result). x.answer) h)

pub wrote_answer : (r : Result) (l : List ℕ) (count : ℕ) → r ≡ wrote l → count ≡ length l → Ok count ≡ r.answer
wrote_answer r l count h e = ap Ok e ∙ sym (ap (λ (x : Result). x.answer) h)

pub wrote_store : (r : Result) (l out out' : List ℕ) → r ≡ wrote l → out' ≡ sets out 0 l → out' ≡ sets out 0 r.bytes
wrote_store r l out out' h e = e ∙ sym (ap (λ (x : Result). sets out 0 x.bytes) h)
