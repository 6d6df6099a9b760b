-- Up to the first runs-on both readings list the same, word for word; with none the whole lists and the refusal are the same. Assumes nothing.
use Rattle.std.specs.Prelude.{Err, Ok}
use Rattle.token.proofs.Reasons.{reason_one}
use Rattle.token.specs.declared.reason.Reason.TheVariants.{NoRoom}
use Prim.Native.Nat.{ℕ, ◌+◌, ◌-◌}
use mathlib.Core.Path.{◌≡◌, refl, sym, ap, ◌∙◌}
use mathlib.Core.List.{List, [], ◌∷◌, ◌++◌}
use mathlib.Core.Bool.{true, false}
use mathlib.Core.Logic.{inl, inr, ◌⊎◌, ⊎_elim}
use native.Mathlib.Omega.{arith}
use lib.Dec.{leb, ltb, eqb}
use lib.ListN.{length}
use borrow.Author.Tests.{eq-eqb, eqb-true, le-ltb}
use Rattle.families.proofs.Cover.{by_read}
use Rattle.families.proofs.Steps.{next_end, refused_past, tokens_fin, tokens_halt, tokens_more, tokens_past, tokens_past_step, tokens_start}
use Rattle.families.specs.Tokens.{Tokens, fin, halt, more, tokens_at}
use Rattle.findings.proofs.Readings.{go_onward, head_next, stay_end, stay_over, stay_refused}
use Rattle.findings.proofs.Turns.{after_of, found_by_test, walk_turn}
use Rattle.findings.specs.Findings.{across, alike, alone, answer_found, ends_as, findings_of, found_of, from_of, head_of, holds_at, listed, mark_of, onward, runs_on, runs_on_code, under_first, walk_at}
use Rattle.findings.specs.InStep.{part_at, partless, parts, words_before}
use Rattle.findings.specs.declared.store.Finding.{Finding}
use Rattle.laws.proofs.Cases.{both_inv, never, split, split_eq}
use Rattle.laws.specs.Bools.{both, pick}
use Rattle.lexer.specs.Next.{next_at}
use Rattle.listing.proofs.Stores.{by_test}
use Rattle.listing.specs.Listing.{list_answer, list_of, listed_words, stored_of, listed_up_to}
use Rattle.marks.specs.Marks.{close_mark}
use Rattle.numbers.specs.Kinds.{number_of}
use Rattle.readers.specs.Rules.{rules_of}
use Rattle.readers.specs.declared.reading.Reading.{Reading}
use Rattle.source_test.specs.Source.{source_test}
use Rattle.text.proofs.Decode.{by_step}
use Rattle.text.specs.Utf8.{rest}
use Rattle.token.specs.Reads.{got_of, point_of, reached_of, span_of, Read, Tested, number_in}
use Rattle.token.specs.declared.kind.Kind.TheVariants.{Eof}
use Rattle.token.specs.declared.read.Refusal.{Refusal}
use Rattle.token.specs.declared.read.Token.{Token}

module _ (g : Reading) (s : List ℕ) (p : ℕ) where
  pub halt_inv : (r : Refusal) → halt r ≡ tokens_at (rules_of g) s p → next_at g s p ≡ Err r
  halt_inv r e = sym (head_next g s p) ∙ ap (head_of p) (sym e)

  pub more_inv : (k : Token) (ts : Tokens) → more k ts ≡ tokens_at (rules_of g) s p → (next_at g s p ≡ Ok k) × (k.span.end ≡ p → ⊥) × (ts ≡ tokens_at (rules_of g) s k.span.end)
  more_inv k ts e =
      let n : next_at g s p ≡ Ok k = sym (head_next g s p) ∙ ap (head_of p) (sym e) in
      let past : k.span.end ≡ p → ⊥ = λ z. never (let y = tokens_fin g s p (next_at g s p) refl k n z in cc) in
      (n, past, (let y = tokens_more g s p (next_at g s p) refl k n past in cc))

  -- where one reading has nothing left to read, so has every other
  fin_both : (f : Reading) → fin ≡ tokens_at (rules_of g) s p → tokens_at (rules_of f) s p ≡ fin
  fin_both f e =
      let n : next_at g s p ≡ got_of Eof p p = sym (head_next g s p) ∙ ap (head_of p) (sym e) in
      by_step s p (λ z. tokens_fin f s p (next_at f s p) refl (record { kind = Eof; span = point_of p }) (next_end f s p z) refl)
      (λ v m t. absurd (let z = tokens_past_step g s p (record { kind = Eof; span = point_of p }) n v m t in omega arith))

  -- the token at a place covers it
  pub stay_here : onward p p (tokens_at (rules_of g) s p) ≡ from_of g s p
  stay_here =
      by_read (next_at g s p)
      (λ k e. split_eq k.span.end p (λ z. stay_end g s p p (next_at g s p) refl k e z)
      (λ z. stay_over g s p p (next_at g s p) refl k e (tokens_past g s p (next_at g s p) refl k e z)))
      (λ k e. stay_refused g s p p (next_at g s p) refl k e)

-- what is alike is the same: a refusal whole, a token up to what its number does not say
alike_refused : (r : Refusal) (b : Read) → alike (Err r) b ≡ true → b ≡ Err r
alike_refused r (Ok k) h = never (cc)
alike_refused r (Err q) h =
    let i = both_inv (eqb (number_in r) (number_in q)) (both (eqb r.span.start q.span.start) (both (eqb r.span.end q.span.end) (eqb r.reached q.reached))) h in
    let j = both_inv (eqb r.span.start q.span.start) (both (eqb r.span.end q.span.end) (eqb r.reached q.reached)) i.1 in
    let l = both_inv (eqb r.span.end q.span.end) (eqb r.reached q.reached) j.1 in
    let n = reason_one r.reason q.reason (eqb-true (number_in r) (number_in q) i.0) in
    let a = eqb-true r.span.start q.span.start j.0 in
    let e = eqb-true r.span.end q.span.end l.0 in
    let t = eqb-true r.reached q.reached l.1 in
    sym (λ i. Err (record { reason = n i; span = record { start = a i; end = e i }; reached = t i }))

alike_got : (k : Token) (b : Read) → alike (Ok k) b ≡ true → (j : Token) × (b ≡ Ok j) × (number_of k.kind ≡ number_of j.kind) × (k.span.end ≡ j.span.end)
alike_got k (Err r) h = never (cc)
alike_got k (Ok j) h =
    let i = both_inv (eqb (number_of k.kind) (number_of j.kind)) (eqb k.span.end j.span.end) h in
    (j, refl, eqb-true (number_of k.kind) (number_of j.kind) i.0, eqb-true k.span.end j.span.end i.1)

-- what is found at a runs-on parts the two, what else is found does not
runs_parts : (g : Reading) (s : List ℕ) (p x y : ℕ) → (parts (runs_on g s p x y) ≡ true) × ((runs_on g s p x y).start ≡ p)
unfolding runs_on runs_on_code
runs_parts g s p x y =
    split (leb y x)
    (λ e. rw e (split (holds_at (under_first g) s y x) (λ i. rw i (refl, refl)) (λ i. rw i (refl, refl))))
    (λ e. rw e (split (holds_at g s x y) (λ i. rw i (refl, refl)) (λ i. rw i (refl, refl))))

-- the same findings, as far as parting goes
abbrev Parting : List Finding → List Finding → Type 0
Parting fs gs = ((e : ℕ) → part_at fs e ≡ part_at gs e) × (partless fs ≡ partless gs)

alone_parts : (p : ℕ) (k : Token) (fs : List Finding) → Parting (listed (alone p k) ++ fs) fs
unfolding alone part_at partless
alone_parts p k fs =
    split (eqb (number_of k.kind) 4) (λ e. rw e ((λ n. refl), refl))
    (λ e. split (both (eqb (number_of k.kind) 16) (eqb (length (close_mark k.kind)) 0)) (λ i. rw (e, i) ((λ n. refl), refl)) (λ i. rw (e, i) ((λ n. refl), refl)))

mark_parts : (cs : List ℕ) (fs : List Finding) → Parting (listed (mark_of cs) ++ fs) fs
unfolding part_at partless
mark_parts [] fs = ((λ n. refl), refl)
mark_parts (v ∷ cs) fs = split (eqb v 0xFEFF) (λ e. rw e ((λ n. refl), refl)) (λ e. rw e ((λ n. refl), refl))

-- no token begins before the place where reading began
none_before : (g : Reading) (s : List ℕ) (p : ℕ) → words_before p (tokens_at (rules_of g) s p) ≡ []
unfolding words_before
none_before g s p =
    by_read (next_at g s p)
    (λ k e. split_eq k.span.end p (λ z. rw (tokens_fin g s p (next_at g s p) refl k e z, words_before) refl)
    (λ z. rw (tokens_more g s p (next_at g s p) refl k e z, words_before) (rw (le-ltb k.span.start p (let i = tokens_start g s p (next_at g s p) refl k e in omega arith)) refl)))
    (λ k e. rw (tokens_halt g s p (next_at g s p) refl k e, words_before) refl)

-- where both readings stand at p
module _ (g : Reading) (s : List ℕ) (p q : ℕ) (u : onward p q (tokens_at (rules_of (under_first g)) s q) ≡ from_of (under_first g) s p) where
  -- they part there
  pub record Apart : Type 0 where
    pub place : (e : ℕ) → part_at (walk_at g s p q) e ≡ p
    pub parted : partless (walk_at g s p q) ≡ false

  -- they read the same token, word for word, and stand together after it
  pub record Together (k : Token) (ts : Tokens) : Type 0 where
    pub other : Token
    pub list : tokens_at (rules_of (under_first g)) s p ≡ more other (tokens_at (rules_of (under_first g)) s k.span.end)
    pub number : number_of k.kind ≡ number_of other.kind
    pub start : k.span.start ≡ other.span.start
    pub end : k.span.end ≡ other.span.end
    pub stands : onward k.span.end p (tokens_at (rules_of (under_first g)) s p) ≡ from_of (under_first g) s k.span.end
    pub walks : Parting (walk_at g s p q) (walk_at g s k.span.end p)
    pub rest : ts ≡ tokens_at (rules_of g) s k.span.end

  module _ (a : Read) (ea : a ≡ next_at g s p) (z : reached_of a ≡ p → ⊥) where
    walks_on : walk_at g s p q ≡ listed (across g s p a p (next_at (under_first g) s p)) ++ after_of g s p p a
    walks_on = walk_turn g s p q a ea z p (next_at (under_first g) s p) refl u

    unlike : alike a (next_at (under_first g) s p) ≡ false → Apart
    unfolding across part_at partless
    unlike h =
        let r = runs_parts g s p (reached_of a) (reached_of (next_at (under_first g) s p)) in
        record {
          place = λ e. rw walks_on (rw (eq-eqb p p refl, h) (rw (r.0, r.1) refl));
          parted = rw walks_on (rw (eq-eqb p p refl, h) (rw r.0 refl));
        }

    like : alike a (next_at (under_first g) s p) ≡ true → walk_at g s p q ≡ after_of g s p p a
    unfolding across
    like h = walks_on ∙ rw (eq-eqb p p refl, h) refl

  at_halt : (r : Refusal) → halt r ≡ tokens_at (rules_of g) s p → (tokens_at (rules_of (under_first g)) s p ≡ halt r) ⊎ Apart
  at_halt r e =
      let n = halt_inv g s p r e in
      split (alike (Err r) (next_at (under_first g) s p))
      (λ h. inl (tokens_halt (under_first g) s p (next_at (under_first g) s p) refl r (alike_refused r (next_at (under_first g) s p) h)))
      (λ h. inr (unlike (Err r) (sym n) (λ i. absurd (let l = refused_past g s p (Err r) (sym n) r refl in omega arith)) h))

  at_more : (k : Token) (ts : Tokens) → more k ts ≡ tokens_at (rules_of g) s p → Together k ts ⊎ Apart
  at_more k ts e =
      let m = more_inv g s p k ts e in
      split (alike (Ok k) (next_at (under_first g) s p)) (λ h. inl (together m h)) (λ h. inr (unlike (Ok k) (sym m.0) m.1 h))
    where
      together : (next_at g s p ≡ Ok k) × (k.span.end ≡ p → ⊥) × (ts ≡ tokens_at (rules_of g) s k.span.end) → alike (Ok k) (next_at (under_first g) s p) ≡ true → Together k ts
      together m h =
          let b = next_at (under_first g) s p in
          let i = alike_got k b h in
          let j = i.0 in
          let past : j.span.end ≡ p → ⊥ = λ y. m.1 (i.3 ∙ y) in
          let more-first = tokens_more (under_first g) s p b refl j i.1 past in
          record {
            other = j;
            list = more-first ∙ ap (λ (x : ℕ). more j (tokens_at (rules_of (under_first g)) s x)) (sym i.3);
            number = i.2;
            start = tokens_start g s p (next_at g s p) refl k m.0 ∙ sym (tokens_start (under_first g) s p b refl j i.1);
            end = i.3;
            stands =
                sym (go_onward (under_first g) s k.span.end p b refl j i.1 past (let y = i.3 in omega arith))
                ∙ ap (λ (x : ℕ). onward k.span.end x (tokens_at (rules_of (under_first g)) s x)) (sym i.3) ∙ stay_here (under_first g) s k.span.end;
            walks =
                let l = like (Ok k) (sym m.0) m.1 h in
                let c = alone_parts p k (walk_at g s k.span.end p) in
                ((λ n. ap (λ (fs : List Finding). part_at fs n) l ∙ c.0 n), ap partless l ∙ c.1);
            rest = m.2;
          }

-- up to the place where they part
before_from : (g : Reading) (s : List ℕ) (ts : Tokens) (p q e : ℕ) → ts ≡ tokens_at (rules_of g) s p → onward p q (tokens_at (rules_of (under_first g)) s q) ≡ from_of (under_first g) s p
    → words_before (part_at (walk_at g s p q) e) ts ≡ words_before (part_at (walk_at g s p q) e) (tokens_at (rules_of (under_first g)) s p)
unfolding words_before
before_from g s fin p q e i u = rw (fin_both g s p (under_first g) i, words_before) refl
before_from g s (halt r) p q e i u =
    ⊎_elim (λ (h : tokens_at (rules_of (under_first g)) s p ≡ halt r). rw (h, words_before) refl) (λ (a : Apart g s p q u). rw (a.place e) (sym (none_before (under_first g) s p))) (at_halt g s p q u r i)
before_from g s (more k ts) p q e i u =
    ⊎_elim
    (λ t.
    let n = t.number in
    let a = t.start in
    let z = t.end in
    let w = before_from g s ts k.span.end p e t.rest t.stands in
    let there = tokens_at (rules_of (under_first g)) s p in
    let at = part_at (walk_at g s k.span.end p) e in
    let same : words_before at (more k ts) ≡ words_before at (more t.other (tokens_at (rules_of (under_first g)) s k.span.end)) =
    (λ x. pick (ltb (a x) at) (n x ∷ (a x ∷ (z x ∷ w x))) []) in
    ap (λ (x : ℕ). words_before x (more k ts)) (t.walks.0 e)
    ∙ same
    ∙ ap (words_before at) (sym t.list)
    ∙ ap (λ (x : ℕ). words_before x there) (sym (t.walks.0 e)))
    (λ (a : Apart g s p q u).
    ap (λ (x : ℕ). words_before x (more k ts)) (a.place e)
    ∙ (ap (words_before p) i ∙ none_before g s p ∙ sym (none_before (under_first g) s p))
    ∙ ap (λ (x : ℕ). words_before x (tokens_at (rules_of (under_first g)) s p)) (sym (a.place e)))
    (at_more g s p q u k ts i)

-- with no place to part at, the lists are the same to the end
whole_from : (g : Reading) (s : List ℕ) (ts : Tokens) (p q room n : ℕ) → ts ≡ tokens_at (rules_of g) s p → onward p q (tokens_at (rules_of (under_first g)) s q) ≡ from_of (under_first g) s p → partless (walk_at g s p q) ≡ true
    → (listed_words ts room ≡ listed_words (tokens_at (rules_of (under_first g)) s p) room) × (list_answer ts room n ≡ list_answer (tokens_at (rules_of (under_first g)) s p) room n)
unfolding listed_words list_answer
whole_from g s fin p q room n i u h = rw (fin_both g s p (under_first g) i) (refl, refl)
whole_from g s (halt r) p q room n i u h =
    ⊎_elim (λ e. rw e (refl, refl)) (λ a. never (let z = a.parted in cc)) (at_halt g s p q u r i)
whole_from g s (more k ts) p q room n i u h =
    ⊎_elim
    (λ t.
    let b = t.number in
    let a = t.start in
    let z = t.end in
    let w = whole_from g s ts k.span.end p (room - 3) (n + 1) t.rest t.stands (sym t.walks.1 ∙ h) in
    rw t.list (split (ltb room 3)
    (λ e. rw (e, listed_words, list_answer) (refl, (λ x. listed_up_to n (record { reason = NoRoom; span = span_of (a x) (z x); reached = z x }))))
    (λ e. rw (e, listed_words, list_answer) ((λ x. b x ∷ (a x ∷ (z x ∷ w.0 x))), w.1))))
    (λ a. never (let z = a.parted in cc))
    (at_more g s p q u k ts i)

module _ (g : Reading) (s : List ℕ) where
  -- up to the first runs-on both readings list the same, word for word; to the source's end where there is none
  pub in_step_up_to : let e = part_at (found_of g s) (length s) in words_before e (tokens_at (rules_of g) s 0) ≡ words_before e (tokens_at (rules_of (under_first g)) s 0)
  unfolding found_of
  in_step_up_to = rw ((mark_parts (rest s 0) (walk_at g s 0 0)).0 (length s)) (before_from g s (tokens_at (rules_of g) s 0) 0 0 (length s) refl (stay_here (under_first g) s 0))

  -- with none the whole lists and the refusal are the same
  pub in_step : partless (found_of g s) ≡ true → (room : ℕ) → (list_of g s room ≡ list_of (under_first g) s room) × (stored_of g s room ≡ stored_of (under_first g) s room)
  unfolding found_of
  in_step h room = by_source (source_test s) refl
    where
      by_source : (t : Tested) → t ≡ source_test s → (list_of g s room ≡ list_of (under_first g) s room) × (stored_of g s room ≡ stored_of (under_first g) s room)
      by_source (Ok u) e =
          let a = by_test g s room (Ok tt) e in
          let b = by_test (under_first g) s room (Ok tt) e in
          let w = whole_from g s (tokens_at (rules_of g) s 0) 0 0 room 0 refl (stay_here (under_first g) s 0) (sym (mark_parts (rest s 0) (walk_at g s 0 0)).1 ∙ h) in
          (a.0 ∙ w.1 ∙ sym b.0, a.1 ∙ w.0 ∙ sym b.1)
      by_source (Err r) e = let a = by_test g s room (Err r) e in let b = by_test (under_first g) s room (Err r) e in (a.0 ∙ sym b.0, a.1 ∙ sym b.1)

-- an answer without a refusal counts all that was found
ends_count : (ts : Tokens) (n m : ℕ) → ends_as ts n ≡ Ok m → n ≡ m
unfolding ends_as
ends_count fin n m e = cc
ends_count (halt r) n m e = never (cc)
ends_count (more k ts) n m e = ends_count ts n m e

found_count : (fs : List Finding) (ts : Tokens) (room n m : ℕ) → answer_found fs (ends_as ts) room n ≡ Ok m → n + length fs ≡ m
unfolding answer_found
found_count [] ts room n m e = let z = ends_count ts n m e in omega arith
found_count (f ∷ fs) ts room n m e =
    split (ltb room 5) (λ h. never (let z = (rw (h, answer_found) at e) in cc))
    (λ h. let z = found_count fs ts (room - 5) (n + 1) m (rw (h, answer_found) at e) in omega arith)

none_found : (fs : List Finding) → length fs ≡ 0 → fs ≡ []
none_found [] e = refl
none_found (f ∷ fs) e = absurd (omega arith)

-- where nothing is found, neither finding nor refusal, both readings list the same
pub nothing_found : (g : Reading) (s : List ℕ) (room : ℕ) → findings_of g s room ≡ Ok 0 → (n : ℕ) → (list_of g s n ≡ list_of (under_first g) s n) × (stored_of g s n ≡ stored_of (under_first g) s n)
unfolding partless
nothing_found g s room h = by_source (source_test s) refl
  where
    by_source : (t : Tested) → t ≡ source_test s → (n : ℕ) → (list_of g s n ≡ list_of (under_first g) s n) × (stored_of g s n ≡ stored_of (under_first g) s n)
    by_source (Ok u) e =
        let c = found_count (found_of g s) (tokens_at (rules_of g) s 0) room 0 0 (sym (found_by_test g s room (Ok tt) e).0 ∙ h) in
        let z = none_found (found_of g s) (omega arith) in
        in_step g s (rw z refl)
    by_source (Err r) e = never (let b = (found_by_test g s room (Err r) e).0 in cc)
