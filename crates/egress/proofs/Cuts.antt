-- Copies that leave the front of a queue of a port, one after the other. Assumes nothing.
use Rattle.std.proofs.Common.{◌≡◌, ℕ, zero, suc, ◌+◌, ◌<◌, ◌≤◌, true, false, List, [], ◌∷◌, length, drop, is_some, sym, refl, ap, ◌∙◌, add-one, arith, length-drop}
use Rattle.std.proofs.lemmas.Bool.{false≢true, true≢false}
use Rattle.buffers.specs.Holdings.{egress, first_gone}
use Rattle.cells.specs.Fifos.{first_of, rest_of}
use Rattle.buffers.specs.declared.buffers.Buffers.{Buffers}
use Rattle.rules.specs.Copies.{Egress, with_queue}
use Rattle.egress.proofs.Changes.{changed_so, changed_then, port_after, unchanged}
use Rattle.egress.proofs.Ports.{put_here, put_own, put_put}
use Rattle.egress.specs.Changes.{ChangesPort}

pub rest_drop : {A : Type 0} (n : ℕ) (xs : List A) → rest_of (drop n xs) ≡ drop (n + 1) xs
rest_drop n xs = by_suc n xs ∙ ap (λ m. drop m xs) (sym (add-one n))
  where
    by_suc : {A : Type 0} (n : ℕ) (xs : List A) → rest_of (drop n xs) ≡ drop (suc n) xs
    by_suc zero [] = refl
    by_suc zero (x ∷ xs) = refl
    by_suc (suc n) [] = refl
    by_suc (suc n) (x ∷ xs) = by_suc n xs

-- a port without the first n copies of queue k
abbrev pub cut : ℕ → ℕ → Egress → Egress
cut k n e = with_queue e k (drop n (e.queue k))

cut_none_at : (k : ℕ) (e : Egress) → cut k 0 e ≡ e
cut_none_at k e = λ i. record { queue = sym (put_own e.queue k) i; tokens = e.tokens; out = e.out }

-- one copy more is gone
cut_more : (k n : ℕ) (e : Egress) → first_gone k (cut k n e) ≡ with_queue e k (drop (n + 1) (e.queue k))
cut_more k n e =
    (λ i. with_queue (cut k n e) k (rest_of (put_here e.queue k (drop n (e.queue k)) i)))
    ∙ (λ i. record { queue = put_put e.queue k (drop n (e.queue k)) (rest_of (drop n (e.queue k))) i; tokens = e.tokens; out = e.out })
    ∙ (λ i. with_queue e k (rest_drop n (e.queue k) i))

-- the first n copies of queue k of port p are gone
pub record Cut (before after : Buffers) (p k n : ℕ) : Type 0 where
  pub change : ChangesPort before after p (cut k n)
  pub few : (d : ℕ) → n ≤ length ((egress d before p).queue k)

pub cut_none : (b : Buffers) (p k : ℕ) → Cut b b p k 0
cut_none b p k = record { change = unchanged b p (cut k 0) (λ d. cut_none_at k (egress d b p)); few = λ d. omega arith }

some_left : {A : Type 0} (xs : List A) → is_some (first_of xs) ≡ true → 0 < length xs
some_left [] e = absurd (false≢true e)
some_left (x ∷ xs) e = omega arith

none_left : {A : Type 0} (xs : List A) → is_some (first_of xs) ≡ false → xs ≡ []
none_left [] e = refl
none_left (x ∷ xs) e = absurd (true≢false e)

rest_less : {A : Type 0} (xs : List A) → is_some (first_of xs) ≡ true → length (rest_of xs) < length xs
rest_less [] e = absurd (false≢true e)
rest_less (x ∷ xs) e = omega arith

-- one more copy ends: fewer are left
pub cut_less : {b after : Buffers} {p : ℕ} (k : ℕ) → ChangesPort b after p (first_gone k) → (d : ℕ) → is_some (first_of ((egress d b p).queue k)) ≡ true → length ((egress d after p).queue k) < length ((egress d b p).queue k)
cut_less {b} {after} {p} k gone d some =
    let now : (egress d after p).queue k ≡ rest_of ((egress d b p).queue k) =
    ap (λ e. e.queue k) (port_after gone d) ∙ put_here (egress d b p).queue k (rest_of ((egress d b p).queue k)) in
    omega (arith, ap length now, rest_less ((egress d b p).queue k) some)

module _ {before mid : Buffers} {p k n : ℕ} (c : Cut before mid p k n) where
  -- the copies of the queue that are left
  pub left_in : (d : ℕ) → (egress d mid p).queue k ≡ drop n ((egress d before p).queue k)
  left_in d = ap (λ e. e.queue k) (port_after c.change d) ∙ put_here (egress d before p).queue k (drop n ((egress d before p).queue k))

  module _ {after : Buffers} (gone : ChangesPort mid after p (first_gone k)) where
    pub cut_on : ((d : ℕ) → is_some (first_of ((egress d mid p).queue k)) ≡ true) → Cut before after p k (n + 1)
    cut_on some = record {
      change = changed_so (changed_then c.change gone) (λ d. cut_more k n (egress d before p));
      few = λ d. omega (arith, some_left ((egress d mid p).queue k) (some d), ap length (left_in d), length-drop n ((egress d before p).queue k), c.few d);
    }

    -- the first copy was asked for, and there was none: all are gone
    pub cut_all : ((d : ℕ) → is_some (first_of ((egress d mid p).queue k)) ≡ false) → ((d : ℕ) → n ≡ length ((egress d before p).queue k)) × ChangesPort before after p (λ e. with_queue e k [])
    cut_all none =
        let left : (d : ℕ) → drop n ((egress d before p).queue k) ≡ [] = λ d. sym (left_in d) ∙ none_left ((egress d mid p).queue k) (none d) in
        let past : (d : ℕ) → drop (n + 1) ((egress d before p).queue k) ≡ [] = λ d. sym (rest_drop n ((egress d before p).queue k)) ∙ ap rest_of (left d) in (
          λ d. omega (arith, c.few d, length-drop n ((egress d before p).queue k), ap length (left d)),
          changed_so (changed_then c.change gone) (λ d. cut_more k n (egress d before p) ∙ (λ i. with_queue (egress d before p) k (past d i))),
        )
