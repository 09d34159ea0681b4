-- The queues of a port emptied one after the other. Assumes nothing.
use Rattle.std.proofs.Common.{◌≡◌, ℕ, zero, suc, ◌+◌, ◌*◌, ◌≤◌, Bool, true, false, cond, eqb, ltb, List, [], ◌++◌, length, is_some, Some, None, Option, sym, refl, ap, ◌∙◌, ⊎_elim, add-one, arith, length-append}
use Rattle.std.proofs.lemmas.Bool.{cases_order, cond-false, cond-true, eq-eqb, le-ltb, lt-ltb, ne_eqb}
use mir.Val.{bool_byte}
use Rattle.std.specs.Option.{option_to_list}
use Rattle.buffers.proofs.Lengths.{no_more, queue_few}
use Rattle.buffers.specs.Holdings.{egress}
use Rattle.buffers.specs.declared.buffers.Buffers.{Buffers}
use Rattle.rules.specs.Copies.{Copy, Egress, queued_at, with_queue}
use Rattle.egress.proofs.Changes.{changed_so, changed_then, port_after, unchanged}
use Rattle.egress.specs.Changes.{ChangesPort}
use Rattle.egress.specs.Ports.{unqueued}

-- a port whose first n queues are emptied
abbrev pub emptied : ℕ → Egress → Egress
emptied n e = record { queue = λ k. cond (ltb k n) [] (e.queue k); tokens = e.tokens; out = e.out }

-- how many copies are in the first n queues
abbrev pub in_first : Egress → ℕ → ℕ
in_first e zero = 0
in_first e (suc n) = in_first e n + length (e.queue n)

-- the first n queues of port p are emptied, and so many copies have ended
pub record Emptied (before after : Buffers) (p n count : ℕ) : Type 0 where
  pub change : ChangesPort before after p (emptied n)
  pub counted : (d : ℕ) → count ≡ in_first (egress d before p) n

none_yet : (e : Egress) → emptied 0 e ≡ e
none_yet e = λ i. record { queue = λ k. cond-false (ltb k 0) [] (e.queue k) (le-ltb k 0 (omega arith)) i; tokens = e.tokens; out = e.out }

pub emptied_none : (b : Buffers) (p : ℕ) → Emptied b b p 0 0
emptied_none b p = record { change = unchanged b p (emptied 0) (λ d. none_yet (egress d b p)); counted = λ d. refl }

one_more : (xs : List Copy) (n j : ℕ) → cond (eqb j n) [] (cond (ltb j n) [] xs) ≡ cond (ltb j (n + 1)) [] xs
one_more xs n j =
    ⊎_elim
    (λ same. cond-true (eqb j n) [] _ (eq-eqb j n same) ∙ sym (cond-true (ltb j (n + 1)) [] xs (lt-ltb j (n + 1) (omega arith))))
    (⊎_elim
    (λ less.
    cond-false (eqb j n) [] _ (ne_eqb j n (λ e. omega arith))
    ∙ cond-true (ltb j n) [] xs (lt-ltb j n less)
    ∙ sym (cond-true (ltb j (n + 1)) [] xs (lt-ltb j (n + 1) (omega arith))))
    (λ more.
    cond-false (eqb j n) [] _ (ne_eqb j n (λ e. omega arith))
    ∙ cond-false (ltb j n) [] xs (le-ltb j n (omega arith))
    ∙ sym (cond-false (ltb j (n + 1)) [] xs (le-ltb j (n + 1) (omega arith)))))
    (cases_order j n)

pub emptied_on : {before mid after : Buffers} {p n count : ℕ} (k r : ℕ) → Emptied before mid p n count → k ≡ n → ((d : ℕ) → r ≡ length ((egress d mid p).queue k)) → ChangesPort mid after p (λ e. with_queue e k []) → Emptied before after p (n + 1) (count + r)
emptied_on {before} {mid} {after} {p} {n} {count} k r so_far is ended gone =
    let here : (d : ℕ) → (egress d mid p).queue k ≡ (egress d before p).queue n = λ d.
    ap (egress d mid p).queue is ∙ ap (λ e. e.queue n) (port_after so_far.change d) ∙ cond-false (ltb n n) [] ((egress d before p).queue n) (le-ltb n n (omega arith)) in
    record {
      change = changed_so (changed_then so_far.change gone) (λ d.
          let e : Egress = egress d before p in
          (λ i. with_queue (emptied n e) (is i) []) ∙ (λ i. record { queue = λ j. one_more (e.queue j) n j i; tokens = e.tokens; out = e.out }));
      counted = λ d. omega (arith, so_far.counted d, ended d, ap length (here d), ap (in_first (egress d before p)) (add-one n));
    }

emptied_at : (b : Buffers) (d p k : ℕ) → cond (ltb k 4) [] ((egress d b p).queue k) ≡ []
emptied_at b d p zero = refl
emptied_at b d p (suc zero) = refl
emptied_at b d p (suc (suc zero)) = refl
emptied_at b d p (suc (suc (suc zero))) = refl
emptied_at b d p (suc (suc (suc (suc k)))) =
    cond-false (ltb (suc (suc (suc (suc k)))) 4) [] ((egress d b p).queue (suc (suc (suc (suc k))))) (le-ltb _ 4 (omega arith)) ∙ no_more b d p k

queued_length : (e : Egress) → length (queued_at e) ≡ in_first e 4
queued_length e =
    omega (arith, length-append (e.queue 0) (e.queue 1 ++ (e.queue 2 ++ e.queue 3)), length-append (e.queue 1) (e.queue 2 ++ e.queue 3), length-append (e.queue 2) (e.queue 3))

pub emptied_all : {b after : Buffers} {p n count : ℕ} → Emptied b after p n count → n ≡ 4 → ((d : ℕ) → count ≡ length (queued_at (egress d b p))) × ChangesPort b after p unqueued
emptied_all {b} {after} {p} {n} {count} done four = (
  λ d. done.counted d ∙ ap (in_first (egress d b p)) four ∙ sym (queued_length (egress d b p)),
  changed_so done.change (λ d.
      (λ i. emptied (four i) (egress d b p)) ∙ (λ i. record { queue = λ k. emptied_at b d p k i; tokens = (egress d b p).tokens; out = (egress d b p).out })),
)

pub in_first_few : (b : Buffers) (d p n : ℕ) → in_first (egress d b p) n ≤ 32 * n
in_first_few b d p zero = omega arith
in_first_few b d p (suc n) = omega (arith, in_first_few b d p n, queue_few b d p n)

pub queued_few : (b : Buffers) (d p : ℕ) → length (queued_at (egress d b p)) ≤ 128
queued_few b d p = omega (arith, queued_length (egress d b p), in_first_few b d p 4)

-- a copy that is out counts as one
pub out_counts : (o : Option Copy) → bool_byte (is_some o) ≡ length (option_to_list o)
out_counts None = refl
out_counts (Some c) = refl

pub bit_few : (b : Bool) → bool_byte b ≤ 1
bit_few true = omega arith
bit_few false = omega arith
