-- What the loops keep: the measuring one, the writing one with its copies, and the count of items. Assumes nothing.
use Rattle.std.specs.Prelude.{Ok}
use Rattle.token.specs.declared.reason.Reason.{Reason}
use Prim.Native.Nat.{ℕ, ◌+◌, ◌-◌, ◌≤◌, ◌<◌}
use mathlib.Core.Path.{◌≡◌, refl, sym, ap, ap₂, ◌∙◌, subst}
use mathlib.Core.List.{List, [], ◌∷◌, ◌++◌}
use mathlib.Core.Bool.{Bool}
use native.Mathlib.Omega.{arith}
use native.Mathlib.Numerals.{add-one}
use lib.Seq.{length-sets, sets}
use lib.ListN.{drop, get_or, length, length-append, length-set, set}
use Rattle.escapes.specs.declared.Escape.{Escape}
use Rattle.escapes.specs.declared.Escape.TheVariants.{Bad, Item, Skipped}
use Rattle.items.proofs.Lands.{place_of}
use Rattle.items.specs.Items.{is_bytes, item_of}
use Rattle.items.specs.declared.Form.{Form}
use Rattle.laws.proofs.Cases.{never}
use Rattle.laws.proofs.Sets.{sets_append}
use Rattle.runs.proofs.Runs.{bare_next}
use Rattle.runs.specs.Runs.{bare_of, plain_end}
use Rattle.source_test.specs.Source.{sound_to}
use Rattle.text.proofs.Decode.{Step, rest_end}
use Rattle.text.specs.Utf8.{after, rest}
use Rattle.unescape.proofs.Bodies.{body_bad, body_end, body_item, body_skipped, body_at, by_ending, next_past, next_room}
use Rattle.unescape.proofs.Stretches.{Stretch, stretch_bare, stretch_run}
use Rattle.unescape.specs.Bodies.{Body, fault, items_bytes, no_more, refused_at, whole}
use Rattle.unescape.specs.Measures.{Writable, measured_of}

-- what is measured from here on gives what is measured from the start
pub record Measuring (form : Form) (s : List ℕ) (at count : ℕ) : Type 0 where
  pub same : measured_of form count (body_at form s at) ≡ measured_of form 0 (body_at form s 0)
  pub sound : after (rest s at) at ≡ length s
  pub inside : at ≤ length s
  pub less : count ≤ at

pub measuring_first : (form : Form) (s : List ℕ) → sound_to s ≡ length s → Measuring form s 0 0
unfolding sound_to
measuring_first form s h = record { same = refl; sound = h; inside = omega arith; less = omega arith }

measured_on : (form : Form) (c k : ℕ) (l : List ℕ) (a b : Body) → items_bytes form a.items ≡ l ++ items_bytes form b.items → a.ending ≡ b.ending → k ≡ length l → measured_of form (c + k) b ≡ measured_of form c a
unfolding measured_of
measured_on form c k l a b w e h =
    by_ending b.ending
    (λ z. rw (e ∙ z, z, measured_of) (ap Ok (omega (arith, ap length w, length-append l (items_bytes form b.items)))))
    (λ reason start end z. rw (e ∙ z, z, measured_of))

module _ (form : Form) (s : List ℕ) (at count : ℕ) (i : Measuring form s at count) where
  pub measuring_next : (r : ℕ) (l : List ℕ) (k : ℕ) → Stretch form s at r l → k ≡ length l → Measuring form s r (count + k)
  measuring_next r l k g h =
      let a = i.less in
      record {
        same = measured_on form count k l (body_at form s at) (body_at form s r) g.bytes g.ending h ∙ i.same;
        sound = g.sound ∙ i.sound;
        inside = g.inside i.inside;
        less = omega (arith, g.few);
      }

  pub measuring_same : (r : ℕ) → Stretch form s at r [] → Measuring form s r count
  measuring_same r g = subst (Measuring form s r) (omega arith) (measuring_next r [] 0 g refl)

  pub measuring_run : {b : Bool} {r : ℕ} → b ≡ is_bytes form → r ≡ at + length (plain_end b (drop at s)) → Measuring form s r (count + (r - at))
  measuring_run {b} {r} q e = measuring_next r (plain_end b (drop at s)) (r - at) (stretch_run form s at i.sound b q r e) (omega arith)

  pub measured_end : length s ≤ at → Ok count ≡ measured_of form 0 (body_at form s 0)
  unfolding measured_of items_bytes
  measured_end h = sym (ap (measured_of form count) (body_end form s at (rest_end s at h)) ∙ ap Ok (omega arith)) ∙ i.same

  pub measured_bad : (reason : Reason) (m : ℕ) → body_at form s at ≡ no_more (fault reason at m) → refused_at reason at m ≡ measured_of form 0 (body_at form s 0)
  unfolding measured_of
  measured_bad reason m h = sym (ap (measured_of form count) h) ∙ i.same

-- what is written from here on gives what is written from the start, and there is room for it
pub record Writing (form : Form) (s out₀ out : List ℕ) (at n : ℕ) : Type 0 where
  pub same : sets out n (items_bytes form (body_at form s at).items) ≡ sets out₀ 0 (items_bytes form (body_at form s 0).items)
  pub room : n + length (items_bytes form (body_at form s at).items) ≤ length out
  pub size : length out ≡ length out₀
  pub sound : after (rest s at) at ≡ length s
  pub faultless : (body_at form s at).ending ≡ whole
  pub inside : at ≤ length s

pub writing_first : (form : Form) (s out : List ℕ) → Writable form s (length out) → Writing form s out out 0 0
unfolding sound_to
writing_first form s out w = record { same = refl; room = omega (arith, w.enough); size = refl; sound = w.sound; faultless = w.faultless; inside = omega arith }

module _ (form : Form) (s out₀ out : List ℕ) (at n : ℕ) (i : Writing form s out₀ out at n) where
  pub written_end : length s ≤ at → out ≡ sets out₀ 0 (items_bytes form (body_at form s 0).items)
  unfolding items_bytes
  written_end h = sym (ap (λ (b : Body). sets out n (items_bytes form b.items)) (body_end form s at (rest_end s at h))) ∙ i.same

  -- a body that is written has no fault
  pub written_bad {ℓ} : {X : Type ℓ} (reason : Reason) (m : ℕ) → body_at form s at ≡ no_more (fault reason at m) → X
  written_bad reason m h = never (let z = ap (λ (b : Body). b.ending) h in let y = i.faultless in cc)

  module _ (r : ℕ) (l : List ℕ) (g : Stretch form s at r l) where
    more : length (items_bytes form (body_at form s at).items) ≡ length l + length (items_bytes form (body_at form s r).items)
    more = ap length g.bytes ∙ length-append l (items_bytes form (body_at form s r).items)

    pub room_next : n + length l ≤ length out
    room_next = omega (arith, i.room, more)

    pub writing_next : (out' : List ℕ) (k : ℕ) → out' ≡ sets out n l → k ≡ length l → Writing form s out₀ out' r (n + k)
    writing_next out' k z h =
        let w = items_bytes form (body_at form s r).items in
        let size' : length out' ≡ length out = ap length z ∙ length-sets out n l in
        record {
          same = ap₂ (λ (o : List ℕ) (j : ℕ). sets o j w) z (ap (λ (j : ℕ). n + j) h) ∙ sets_append out l w n (n + length l) refl ∙ ap (sets out n) (sym g.bytes) ∙ i.same;
          room = omega (arith, i.room, more);
          size = size' ∙ i.size;
          sound = g.sound ∙ i.sound;
          faultless = sym g.ending ∙ i.faultless;
          inside = g.inside i.inside;
        }

  pub writing_same : (r : ℕ) → Stretch form s at r [] → Writing form s out₀ out r n
  writing_same r g = subst (Writing form s out₀ out r) (omega arith) (writing_next r [] g out 0 refl refl)

  run_here : (r : ℕ) → r ≡ at + length (bare_of (drop at s)) → Stretch form s at r (bare_of (drop at s))
  run_here r e = stretch_bare form s at i.sound (λ b. i.faultless) r e

  pub room_run : n + length (bare_of (drop at s)) ≤ length out
  room_run = room_next (at + length (bare_of (drop at s))) (bare_of (drop at s)) (run_here (at + length (bare_of (drop at s))) refl)

  pub writing_run : {r : ℕ} {out' : List ℕ} → r ≡ at + length (bare_of (drop at s)) → out' ≡ sets out n (bare_of (drop at s)) → Writing form s out₀ out' r (n + (r - at))
  writing_run {r} {out'} e z = writing_next r (bare_of (drop at s)) (run_here r e) out' (r - at) z (omega arith)

-- a run is copied from p on to m: what is left of it gives the whole
pub record Copying (s out₀ out : List ℕ) (at n p m : ℕ) : Type 0 where
  pub same : sets out m (bare_of (drop p s)) ≡ sets out₀ n (bare_of (drop at s))
  pub end : p + length (bare_of (drop p s)) ≡ at + length (bare_of (drop at s))
  pub room : m + length (bare_of (drop p s)) ≤ length out
  pub size : length out ≡ length out₀

pub copying_first : (s out : List ℕ) (at n : ℕ) → n + length (bare_of (drop at s)) ≤ length out → Copying s out out at n at n
copying_first s out at n h = record { same = refl; end = refl; room = h; size = refl }

module _ (s out₀ out : List ℕ) (at n p m : ℕ) (i : Copying s out₀ out at n p m) where
  pub copied : bare_of (drop p s) ≡ [] → (p ≡ at + length (bare_of (drop at s))) × (out ≡ sets out₀ n (bare_of (drop at s)))
  copied e = (omega (arith, ap length e, i.end), sym (ap (sets out m) e) ∙ i.same)

  module _ (h : p < length s) (k : get_or s p 0 ≡ 0x5c → ⊥) where
    rest_is : bare_of (drop p s) ≡ get_or s p 0 ∷ bare_of (drop (p + 1) s)
    rest_is = bare_next s p h k

    pub copy_room : m < length out
    copy_room = omega (arith, i.room, ap length rest_is)

    pub copying_next : Copying s out₀ (set out m (get_or s p 0)) at n (p + 1) (m + 1)
    copying_next =
        record {
          same = ap (λ (j : ℕ). sets (set out m (get_or s p 0)) j (bare_of (drop (p + 1) s))) (add-one m) ∙ ap (sets out m) (sym rest_is) ∙ i.same;
          end = omega (arith, i.end, ap length rest_is);
          room = omega (arith, i.room, ap length rest_is, length-set out m (get_or s p 0));
          size = length-set out m (get_or s p 0) ∙ i.size;
        }

-- the items from here on and those counted are all
pub record Counting (form : Form) (s : List ℕ) (at n : ℕ) : Type 0 where
  pub same : n + length (body_at form s at).items ≡ length (body_at form s 0).items
  pub inside : at ≤ length s
  pub few : n ≤ at

pub counting_first : (form : Form) (s : List ℕ) → Counting form s 0 0
counting_first form s = record { same = omega arith; inside = omega arith; few = omega arith }

module _ (form : Form) (s : List ℕ) (at n : ℕ) (i : Counting form s at n) where
  pub counted_end : rest s at ≡ [] → n ≡ length (body_at form s 0).items
  counted_end e = omega (arith, i.same, ap (λ (b : Body). length b.items) (body_end form s at e))

  module _ (v m : ℕ) (t : Step s at v m) (e : Escape) (q : e ≡ item_of form v (rest s m) m) where
    pub counted_bad : (reason : Reason) (k : ℕ) → e ≡ Bad reason k → n ≡ length (body_at form s 0).items
    counted_bad reason k h = omega (arith, i.same, ap (λ (b : Body). length b.items) (body_bad form s at v m t e q reason k h))

    pub counting_item : (x k : ℕ) → e ≡ Item x k → Counting form s k (n + 1)
    counting_item x k h =
        record {
          same = omega (arith, i.same, ap (λ (b : Body). length b.items) (body_item form s at v m t e q x k h));
          inside = omega (arith, next_room form s at v m t e q, ap place_of h);
          few = omega (arith, i.few, next_past form s at v m t e q, ap place_of h);
        }

    pub counting_skipped : (k : ℕ) → e ≡ Skipped k → Counting form s k n
    counting_skipped k h =
        record {
          same = omega (arith, i.same, ap (λ (b : Body). length b.items) (body_skipped form s at v m t e q k h));
          inside = omega (arith, next_room form s at v m t e q, ap place_of h);
          few = omega (arith, i.few, next_past form s at v m t e q, ap place_of h);
        }
