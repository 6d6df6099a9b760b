-- What holds of every body: its bytes are well-formed text, one item for a char or a byte, no more bytes than the body has,
-- and a body without escapes as it stands. Assumes nothing.
use Rattle.std.specs.Prelude.{Err, Ok}
use Rattle.token.specs.Reads.{Counted}
use Rattle.token.specs.declared.reason.Reason.TheVariants.{NotOneItem, OutputShort}
use Prim.Native.Nat.{ℕ, ◌+◌, ◌≤◌, ◌<◌}
use mathlib.Core.Path.{◌≡◌, refl, sym, ap, ap₂, ◌∙◌, subst}
use mathlib.Core.List.{List, [], ◌∷◌, ◌++◌, append-nil}
use mathlib.Core.Bool.{true, false}
use mathlib.Core.Logic.{inl, inr, ◌⊎◌, ⊎_elim}
use native.Mathlib.Omega.{arith}
use lib.Dec.{ltb, eqb}
use lib.Seq.{sets, sets-eq}
use lib.ListN.{drop, length, length-append}
use borrow.Author.Tests.{eq-eqb, eqb-true, le-ltb, lt-ltb, ltb-false, not-false}
use Rattle.encoding.proofs.Round.{all_whole, decode_scalar, whole_encode}
use Rattle.encoding.proofs.Rows.{encode_1, encode_length}
use Rattle.encoding.specs.Encode.{AllScalar, encode_all, is_scalar}
use Rattle.escapes.specs.declared.Escape.{Escape}
use Rattle.escapes.specs.declared.Escape.TheVariants.{Bad, Item, Skipped}
use Rattle.items.proofs.Begins.{item_high, item_low, item_plain}
use Rattle.items.proofs.Items.{Fits, byte_bytes, escape_fits, item_fits, scalar_bytes}
use Rattle.items.proofs.Lands.{Lands, here, item_lands, lands_le, pick_of, place_of}
use Rattle.items.specs.Items.{is_bytes, is_single, item_bytes, item_of}
use Rattle.items.specs.declared.Form.{Form}
use Rattle.laws.proofs.Cases.{never, split, split_eq, split_le}
use Rattle.laws.proofs.Determined.{determined}
use Rattle.source_test.proofs.Places.{by_tested, sound_inv}
use Rattle.source_test.specs.Source.{sound_to, source_test}
use Rattle.text.proofs.Decode.{width_pos}
use Rattle.text.proofs.Leads.{width_1}
use Rattle.text.specs.Utf8.{after, decode, rest, width}
use Rattle.token.specs.declared.read.Refusal.{Refusal}
use Rattle.unescape.proofs.Bodies.{arrived, body_at, by_ending, read_fault, read_whole, source_refused, source_sound}
use Rattle.unescape.specs.Bodies.{Body, Ending, Result, also, body_of, fault, item_turn, items_bytes, no_more, refusal_at, refuse_with, unescape_of, whole, wrong_count, wrote}

-- the items of a body are scalars, or bytes by the form, and take no more bytes than what they were read from
pub record Sizes (form : Form) (b : Body) (start end : ℕ) : Type 0 where
  pub room : start + length (items_bytes form b.items) ≤ end
  pub scalars : is_bytes form ≡ false → AllScalar b.items

sizes_none : (form : Form) (e : Ending) (start end : ℕ) → start ≤ end → Sizes form (no_more e) start end
unfolding items_bytes AllScalar
sizes_none form e start end h = record { room = omega arith; scalars = λ z. tt }

sizes_also : (form : Form) (b : Body) (start x n end : ℕ) → Fits form start x n → Sizes form b n end → Sizes form (also x b) start end
unfolding items_bytes AllScalar
sizes_also form b start x n end f h =
    record {
      room = omega (arith, f.room, h.room, length-append (item_bytes form x) (items_bytes form b.items));
      scalars = λ z. (f.scalar z, h.scalars z);
    }

sizes_later : (form : Form) (b : Body) (start n end : ℕ) → start ≤ n → Sizes form b n end → Sizes form b start end
sizes_later form b start n end l h = record { room = omega (arith, h.room); scalars = h.scalars }

sizes_turn : (form : Form) (a p : ℕ) (e : Escape) (go : ℕ → Body) (end : ℕ) → a ≤ place_of e → place_of e ≤ end → ((x n : ℕ) → e ≡ Item x n → Fits form a x n)
    → ((n : ℕ) → n ≡ place_of e → Sizes form (go n) n end) → Sizes form (item_turn p e go) a end
unfolding item_turn
sizes_turn form a p (Item x n) go end l k f g = sizes_also form (go n) a x n end (f x n refl) (g n refl)
sizes_turn form a p (Skipped n) go end l k f g = sizes_later form (go n) a n end l (g n refl)
sizes_turn form a p (Bad reason n) go end l k f g = sizes_none form (fault reason p n) a end (omega arith)

lands_after : (cs : List ℕ) (p r : ℕ) → Lands cs p r → r ≤ after cs p
unfolding after
lands_after [] p r h = omega arith
lands_after (v ∷ cs) p r (inl h) = let a = lands_after cs (p + width v) (p + width v) (here cs (p + width v)) in omega arith
lands_after (v ∷ cs) p r (inr h) = lands_after cs (p + width v) r h

body_sizes : (form : Form) (cs : List ℕ) (t p : ℕ) → AllScalar cs → Lands cs p t → Sizes form (body_of form t cs p) t (after cs p)
unfolding body_of after AllScalar
body_sizes form [] t p a k = sizes_none form whole t p (omega arith)
body_sizes form (v ∷ cs) t p a (inl k) =
    let q = p + width v in
    let e = item_of form v cs q in
    let l = item_lands form v cs q in
    rw (le-ltb p t (omega arith), body_of)
    (subst (λ (x : ℕ). Sizes form (item_turn p e (λ n. body_of form n cs q)) x (after cs q)) k
    (sizes_turn form p p e (λ n. body_of form n cs q) (after cs q) (omega (arith, lands_le cs q (place_of e) l)) (lands_after cs q (place_of e) l)
    (λ x n h. item_fits form p v cs x n a.0 h)
    (λ n h. body_sizes form cs n q a.1 (subst (λ (r : ℕ). Lands cs q r) (sym h) l))))
body_sizes form (v ∷ cs) t p a (inr k) =
    let b = lands_le cs (p + width v) t k in
    let w = width_pos v in
    rw (lt-ltb p t (omega arith), body_of) (body_sizes form cs t (p + width v) a.1 k)

sound_sizes : (form : Form) (s : List ℕ) → source_test s ≡ Ok tt → Sizes form (body_at form s 0) 0 (length s)
unfolding sound_to rest
sound_sizes form s h =
    subst (λ (k : ℕ). Sizes form (body_at form s 0) 0 k) (sound_inv s h).1
    (body_sizes form (rest s 0) 0 0 (decode_scalar (drop 0 s)) (here (rest s 0) 0))

-- what an accepted body is
pub record Accepted (form : Form) (s : List ℕ) (room : ℕ) : Type 0 where
  pub sound : source_test s ≡ Ok tt
  pub items : List ℕ
  pub count : wrong_count form (length items) ≡ false
  pub fits : length (items_bytes form items) ≤ room
  pub read : body_of form 0 (rest s 0) 0 ≡ record { items = items; ending = whole }
  pub result : unescape_of form s room ≡ wrote (items_bytes form items)

-- the bytes of text are its scalars as UTF-8
text_written : (form : Form) (l : List ℕ) → is_bytes form ≡ false → items_bytes form l ≡ encode_all l
unfolding items_bytes encode_all
text_written form [] h = refl
text_written form (x ∷ l) h = ap₂ (λ (a b : List ℕ). a ++ b) (scalar_bytes form x h) (text_written form l h)

sound_of : (s : List ℕ) → after (rest s 0) 0 ≡ length s → length s ≤ 65536 → source_test s ≡ Ok tt
unfolding source_test sound_to
sound_of s h l = rw (le-ltb 65536 (length s) l, eq-eqb (after (rest s 0) 0) (length s) h)

right_count : (form : Form) (n : ℕ) → is_single form ≡ true → wrong_count form n ≡ false → n ≡ 1
right_count form n h c = eqb-true n 1 (not-false (eqb n 1) (rw h at c))

pub count_right : (form : Form) (n : ℕ) → (is_single form ≡ true → n ≡ 1) → wrong_count form n ≡ false
count_right form n h = split (is_single form) (λ e. rw (e, eq-eqb n 1 (h e))) (λ e. rw e)

single : (l : List ℕ) → length l ≡ 1 → (x : ℕ) × (l ≡ x ∷ [])
single [] h = absurd (omega arith)
single (x ∷ []) h = (x, refl)
single (x ∷ (y ∷ l)) h = absurd (omega arith)

not_wrote {ℓ} : {X : Type ℓ} (r : Result) (k : Refusal) (n : ℕ) → r ≡ refuse_with k → r.answer ≡ Ok n → X
not_wrote r k n h e = never (let z = ap (λ (x : Result). x.answer) h in cc)

module _ (form : Form) (s : List ℕ) (room n : ℕ) (e : (unescape_of form s room).answer ≡ Ok n) where
  accepted_sound : source_test s ≡ Ok tt → Accepted form s room
  accepted_sound h =
      let u = source_sound form s room (source_test s) refl h in
      let b = body_at form s 0 in
      by_ending b.ending
      (λ w. split (wrong_count form (length b.items))
      (λ c. not_wrote (unescape_of form s room) (refusal_at NotOneItem 0 (length s)) n (u ∙ read_whole form s room w ∙ rw c) e)
      (λ c. split (ltb room (length (items_bytes form b.items)))
      (λ l. not_wrote (unescape_of form s room) (refusal_at OutputShort 0 (length s)) n (u ∙ read_whole form s room w ∙ rw (c, l)) e)
      (λ l. record {
        sound = h;
        items = b.items;
        count = c;
        fits = ltb-false room (length (items_bytes form b.items)) l;
        read = ap (λ (x : Ending). record { items = b.items; ending = x }) w;
        result = u ∙ read_whole form s room w ∙ rw (c, l);
      })))
      (λ reason start end w. not_wrote (unescape_of form s room) (refusal_at reason start end) n (u ∙ read_fault form s room reason start end w) e)

  pub accepted : Accepted form s room
  accepted =
      by_tested (source_test s) (λ h. accepted_sound h)
      (λ r h. not_wrote (unescape_of form s room) r n (source_refused form s room (source_test s) refl r h) e)

  bytes_are : (unescape_of form s room).bytes ≡ items_bytes form accepted.items
  bytes_are = ap (λ (r : Result). r.bytes) accepted.result

  pub count_is_length : n ≡ length (unescape_of form s room).bytes
  count_is_length = let z = ap (λ (r : Result). r.answer) accepted.result in let y : n ≡ length (items_bytes form accepted.items) = cc in y ∙ sym (ap length bytes_are)

  sizes : Sizes form (body_at form s 0) 0 (length s)
  sizes = sound_sizes form s accepted.sound

  items_are : (body_at form s 0).items ≡ accepted.items
  items_are = ap (λ (b : Body). b.items) accepted.read

  -- the number of bytes written is at most the body's length
  pub no_longer : n ≤ length s
  no_longer = omega (arith, sizes.room, count_is_length, ap length bytes_are, ap (λ (l : List ℕ). length (items_bytes form l)) items_are)

  -- the output of an accepted text, template or char body is a source: well-formed, and not over-long
  pub well_formed : is_bytes form ≡ false → source_test (unescape_of form s room).bytes ≡ Ok tt
  well_formed h =
      let all : AllScalar accepted.items = subst AllScalar items_are (sizes.scalars h) in
      let enc : (unescape_of form s room).bytes ≡ encode_all accepted.items = bytes_are ∙ text_written form accepted.items h in
      sound_of (unescape_of form s room).bytes
      (subst (λ (w : List ℕ). after (rest w 0) 0 ≡ length w) (sym enc) (all_whole accepted.items all))
      (omega (arith, no_longer, count_is_length, (sound_inv s accepted.sound).0))

  -- an accepted char or byte body gives one item
  pub one_item : is_single form ≡ true → (x : ℕ) × ((unescape_of form s room).bytes ≡ item_bytes form x)
  unfolding items_bytes
  one_item h =
      let one : length accepted.items ≡ 1 = right_count form (length accepted.items) h accepted.count in
      let i = single accepted.items one in
      (i.0, bytes_are ∙ ap (items_bytes form) i.1 ∙ append-nil (item_bytes form i.0))

-- a body in which every scalar stands for itself
abbrev pub Bare : Form → List ℕ → Type 0
Bare form [] = Unit {0}
Bare form (v ∷ cs) = (v ≡ 0x5c → ⊥) × (is_bytes form ≡ true → v ≤ 0x7f) × Bare form cs

bare_item : (form : Form) (v : ℕ) (cs : List ℕ) (p : ℕ) → (v ≡ 0x5c → ⊥) → (is_bytes form ≡ true → v ≤ 0x7f) → Item v p ≡ item_of form v cs p
bare_item form v cs p h k = split (is_bytes form) (λ b. item_low form v cs p h b (k b)) (λ b. item_plain form v cs p h b)

bare_body : (form : Form) (cs : List ℕ) (p : ℕ) → Bare form cs → body_of form 0 cs p ≡ record { items = cs; ending = whole }
unfolding body_of item_turn
bare_body form [] p h = refl
bare_body form (v ∷ cs) p h =
    let q = p + width v in
    rw (le-ltb p 0 (omega arith), body_of)
    (ap (λ (e : Escape). item_turn p e (λ n. body_of form n cs q)) (sym (bare_item form v cs q h.0 h.1))
    ∙ ap (also v) (arrived form cs q ∙ bare_body form cs q h.2))

bare_written : (form : Form) (cs : List ℕ) → Bare form cs → items_bytes form cs ≡ encode_all cs
unfolding items_bytes encode_all
bare_written form [] h = refl
bare_written form (v ∷ cs) h =
    ap₂ (λ (a b : List ℕ). a ++ b)
    (split (is_bytes form) (λ b. byte_bytes form v b ∙ sym (encode_1 v (h.1 b))) (λ b. scalar_bytes form v b))
    (bare_written form cs h.2)

-- a body without a backslash, and in the byte forms without a scalar above U+007F, comes out as it went in
pub as_it_stands : (form : Form) (s : List ℕ) (room : ℕ) → source_test s ≡ Ok tt → Bare form (decode s) → (is_single form ≡ true → length (decode s) ≡ 1) → length s ≤ room
    → unescape_of form s room ≡ wrote s
unfolding rest sound_to
as_it_stands form s room h b one l =
    let body = bare_body form (rest s 0) 0 b in
    let same : items_bytes form (decode s) ≡ s = bare_written form (decode s) b ∙ whole_encode s (sound_inv s h).1 in
    let items : (body_at form s 0).items ≡ decode s = ap (λ (x : Body). x.items) body in
    let c : wrong_count form (length (body_at form s 0).items) ≡ false = ap (λ (x : List ℕ). wrong_count form (length x)) items ∙ count_right form (length (decode s)) one in
    let w : items_bytes form (body_at form s 0).items ≡ s = ap (items_bytes form) items ∙ same in
    let z : ltb room (length (items_bytes form (body_at form s 0).items)) ≡ false = le-ltb room (length (items_bytes form (body_at form s 0).items)) (omega (arith, ap length w)) in
    source_sound form s room (source_test s) refl h
    ∙ read_whole form s room (ap (λ (x : Body). x.ending) body)
    ∙ rw (c, z) (ap wrote w)

-- what begins with a backslash gives fewer bytes than it has
slash_less : (form : Form) (v : ℕ) (cs : List ℕ) (p : ℕ) → AllScalar cs → v ≡ 0x5c → p + length (items_bytes form (body_of form 0 (v ∷ cs) p).items) < after (v ∷ cs) p
unfolding body_of after
slash_less form v cs p a h =
    let q = p + width v in
    let e = item_of form v cs q in
    let l = item_lands form v cs q in
    let b = lands_le cs q (place_of e) l in
    let z = sizes_turn form (p + 1) p e (λ n. body_of form n cs q) (after cs q) (omega (arith, width_pos v)) (lands_after cs q (place_of e) l)
    (λ x n k. escape_fits form p v cs x n h k)
    (λ n k. body_sizes form cs n q a (subst (λ (r : ℕ). Lands cs q r) (sym k) l)) in
    rw (le-ltb p 0 (omega arith), body_of) (omega (arith, z.room))

-- a scalar that stands for itself has as many bytes as its width; a fault at it has none
plain_body : (form : Form) (v : ℕ) (cs : List ℕ) (p : ℕ) → (v ≡ 0x5c → ⊥) → is_scalar v ≡ true
    → ((is_bytes form ≡ true → v ≤ 0x7f) × (length (items_bytes form (body_of form 0 (v ∷ cs) p).items) ≡ width v + length (items_bytes form (body_of form 0 cs (p + width v)).items)))
    ⊎ (length (items_bytes form (body_of form 0 (v ∷ cs) p).items) ≡ 0)
unfolding body_of item_turn items_bytes
plain_body form v cs p h i =
    let q = p + width v in
    let go : Escape → Body = λ e. item_turn p e (λ n. body_of form n cs q) in
    let on : (n : ℕ) → length (item_bytes form v) ≡ n → length (items_bytes form (go (Item v q)).items) ≡ n + length (items_bytes form (body_of form 0 cs q).items) =
    λ n w. length-append (item_bytes form v) (items_bytes form (body_of form q cs q).items)
    ∙ ap₂ (λ (x y : ℕ). x + y) w (ap (λ (b : Body). length (items_bytes form b.items)) (arrived form cs q)) in
    rw (le-ltb p 0 (omega arith), body_of)
    (split (is_bytes form)
    (λ b. split_le v 0x7f
    (λ l. inl (λ z. l, ap (λ (e : Escape). length (items_bytes form (go e).items)) (sym (item_low form v cs q h b l)) ∙ on (width v) (ap length (byte_bytes form v b) ∙ sym (width_1 v l))))
    (λ l. inr (ap (λ (e : Escape). length (items_bytes form (go e).items)) (sym (item_high form v cs q h b l)))))
    (λ b. inl (λ z. never (cc), ap (λ (e : Escape). length (items_bytes form (go e).items)) (sym (item_plain form v cs q h b)) ∙ on (width v) (ap length (scalar_bytes form v b) ∙ encode_length v i))))

all_bare : (form : Form) (cs : List ℕ) (p : ℕ) → AllScalar cs → p + length (items_bytes form (body_of form 0 cs p).items) ≡ after cs p → Bare form cs
unfolding AllScalar after
all_bare form [] p a h = tt
all_bare form (v ∷ cs) p a h =
    let q = p + width v in
    let far = lands_after cs q q (here cs q) in
    let w = width_pos v in
    split_eq v 0x5c (λ e. absurd (omega (arith, slash_less form v cs p a.1 e)))
    (λ e. ⊎_elim (λ k. (e, k.0, all_bare form cs q a.1 (omega (arith, k.1)))) (λ k. absurd (omega arith)) (plain_body form v cs p e a.0))

-- only a body in which every scalar stands for itself gives as many bytes as it has
pub as_long : (form : Form) (s : List ℕ) (room n : ℕ) → (unescape_of form s room).answer ≡ Ok n → n ≡ length s → Bare form (decode s)
unfolding rest sound_to
as_long form s room n e h =
    let a = accepted form s room n e in
    let z = (sound_inv s a.sound).1 in
    all_bare form (rest s 0) 0 (decode_scalar s)
    (omega (arith, count_is_length form s room n e, ap (λ (r : Result). length r.bytes) a.result, ap (λ (b : Body). length (items_bytes form b.items)) a.read))

-- an output as long as the body is enough: more room changes nothing, so 26 is never its answer
pub enough_room : (form : Form) (s : List ℕ) (room : ℕ) → length s ≤ room → unescape_of form s room ≡ unescape_of form s (length s)
enough_room form s room l =
    by_tested (source_test s)
    (λ h.
    let b = (sound_sizes form s h).room in
    source_sound form s room (source_test s) refl h
    ∙ by_ending (body_at form s 0).ending
    (λ w.
    read_whole form s room w
    ∙ rw (le-ltb room (length (items_bytes form (body_at form s 0).items)) (omega arith))
    (sym (read_whole form s (length s) w ∙ rw (le-ltb (length s) (length (items_bytes form (body_at form s 0).items)) (omega arith)))))
    (λ reason start end w. read_fault form s room reason start end w ∙ sym (read_fault form s (length s) reason start end w))
    ∙ sym (source_sound form s (length s) (source_test s) refl h))
    (λ r h. source_refused form s room (source_test s) refl r h ∙ sym (source_refused form s (length s) (source_test s) refl r h))

-- a refusal writes nothing
pub refused_nothing : (form : Form) (s : List ℕ) (room : ℕ) (r : Refusal) → (unescape_of form s room).answer ≡ Err r → (unescape_of form s room).bytes ≡ []
refused_nothing form s room r e =
    let Nothing : Result → Type 0 = λ x. x.answer ≡ Err r → x.bytes ≡ [] in
    let of : (x : Result) → unescape_of form s room ≡ x → Nothing x → (unescape_of form s room).bytes ≡ [] = λ x q f. subst Nothing (sym q) f e in
    by_tested (source_test s)
    (λ h.
    let u = source_sound form s room (source_test s) refl h in
    by_ending (body_at form s 0).ending
    (λ w. of _ (u ∙ read_whole form s room w)
    (pick_of Nothing (wrong_count form (length (body_at form s 0).items)) _ _ (λ z. refl)
    (pick_of Nothing (ltb room (length (items_bytes form (body_at form s 0).items))) _ _ (λ z. refl) (λ z. never (cc)))))
    (λ reason start end w. of _ (u ∙ read_fault form s room reason start end w) (λ z. refl)))
    (λ q h. of _ (source_refused form s room (source_test s) refl q h) (λ z. refl))

-- two results that the promise allows, answers and lent bytes, are equal
module _ (form : Form) (s out : List ℕ) where
  abbrev pub Allowed : Counted → List ℕ → Type 0
  Allowed r w = (r ≡ (unescape_of form s (length out)).answer) × (w ≡ sets out 0 (unescape_of form s (length out)).bytes)

  pub unescape_determined : (r q : Counted) (v w : List ℕ) → Allowed r v → Allowed q w → (r ≡ q) × (v ≡ w)
  unescape_determined r q v w h k = (determined r q h.0 k.0, determined v w h.1 k.1)

-- an accepted body changes only the bytes of its output
pub only_output : (form : Form) (s out : List ℕ) (n : ℕ) → (unescape_of form s (length out)).answer ≡ Ok n
    → sets out 0 (unescape_of form s (length out)).bytes ≡ (unescape_of form s (length out)).bytes ++ drop n out
only_output form s out n e =
    let l = count_is_length form s (length out) n e in
    let a = accepted form s (length out) n e in
    let fits : 0 + length (unescape_of form s (length out)).bytes ≤ length out = omega (arith, a.fits, ap (λ (r : Result). length r.bytes) a.result) in
    let end : 0 + length (unescape_of form s (length out)).bytes ≡ n = omega arith in
    sets-eq (unescape_of form s (length out)).bytes out 0 fits ∙ ap (λ (k : ℕ). (unescape_of form s (length out)).bytes ++ drop k out) end
