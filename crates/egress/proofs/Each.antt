-- The ports changed one after the other. Assumes nothing.
use Rattle.std.proofs.Common.{◌≡◌, ℕ, zero, suc, ◌+◌, ◌*◌, ◌≤◌, min, eqb, ltb, List, [], ◌++◌, length, sym, refl, ap, ◌∙◌, ⊎_elim, add-one, arith, length-append}
use Rattle.std.proofs.lemmas.Bool.{cases_lt, cases_order, cond_both, cond-false, cond-true, eq-eqb, le-ltb, lt-ltb, ne_eqb}
use Rattle.buffers.specs.Holdings.{changed, contents, egress, next_number}
use Rattle.buffers.specs.declared.buffers.Buffers.{Buffers}
use Rattle.rules.specs.Cells.{OnlyFreed}
use Rattle.rules.specs.Copies.{Copy, Egress, put}
use Rattle.rules.specs.Runs.{sum_below}
use Rattle.rules.specs.Switch.{empty_port, over_ports}
use Rattle.egress.proofs.Contents.{freed_on, none_freed}
use Rattle.buffers.proofs.Lengths.{queue_few}
use Rattle.egress.specs.Changes.{ChangesPort}
use Rattle.egress.specs.Ports.{each_port, turned}

module _ (g : ℕ → Egress → Egress) where
  pub each_none : (ports : ℕ → Egress) → ports ≡ each_port g 0 ports
  each_none ports = λ i p. sym (cond-false (ltb p 0) (g p (ports p)) (ports p) (le-ltb p 0 (omega arith))) i

  module _ (before mid : ℕ → Egress) (n : ℕ) (so_far : mid ≡ each_port g n before) where
    -- those from n on are as they were
    pub each_later : (p : ℕ) → n ≤ p → mid p ≡ before p
    each_later p past = ap (λ f. f p) so_far ∙ cond-false (ltb p n) (g p (before p)) (before p) (le-ltb p n past)

    pub each_on : (after : ℕ → Egress) (k : ℕ) → k ≡ n → after ≡ changed mid k (g k) → after ≡ each_port g (n + 1) before
    each_on after k is e = e ∙ (λ i. changed mid (is i) (g (is i))) ∙ (λ i q. one q i)
      where
        one : (q : ℕ) → changed mid n (g n) q ≡ each_port g (n + 1) before q
        one q =
            ⊎_elim
            (λ same.
            cond-true (eqb q n) (g n (mid n)) (mid q) (eq-eqb q n same)
            ∙ ap (g n) (each_later n (omega arith))
            ∙ ap (λ m. g m (before m)) (sym same)
            ∙ sym (cond-true (ltb q (n + 1)) (g q (before q)) (before q) (lt-ltb q (n + 1) (omega arith))))
            (⊎_elim
            (λ less.
            cond-false (eqb q n) (g n (mid n)) (mid q) (ne_eqb q n (λ e. omega arith))
            ∙ ap (λ f. f q) so_far
            ∙ cond-true (ltb q n) (g q (before q)) (before q) (lt-ltb q n less)
            ∙ sym (cond-true (ltb q (n + 1)) (g q (before q)) (before q) (lt-ltb q (n + 1) (omega arith))))
            (λ more.
            cond-false (eqb q n) (g n (mid n)) (mid q) (ne_eqb q n (λ e. omega arith))
            ∙ each_later q (omega arith)
            ∙ sym (cond-false (ltb q (n + 1)) (g q (before q)) (before q) (le-ltb q (n + 1) (omega arith)))))
            (cases_order q n)

  -- where a change leaves a port above 3 alone, all ports are changed
  pub each_all : (d : ℕ) (b : Buffers) → ((p : ℕ) → 4 ≤ p → g p (empty_port d) ≡ empty_port d) → each_port g 4 (egress d b) ≡ (λ p. g p (egress d b p))
  each_all d b alone = λ i p. each p i
    where
      each : (p : ℕ) → each_port g 4 (egress d b) p ≡ g p (egress d b p)
      each p =
          ⊎_elim
          (λ low. cond-true (ltb p 4) _ _ (lt-ltb p 4 low))
          (λ high.
          let none : egress d b p ≡ empty_port d = cond-false (ltb p 4) _ (empty_port d) (le-ltb p 4 high) in
          cond-false (ltb p 4) (g p (egress d b p)) (egress d b p) (le-ltb p 4 high) ∙ none ∙ sym (alone p high) ∙ ap (g p) (sym none))
          (cases_lt p 4)

-- as many as a queue of the buffers has are at most 32
pub few_late : (b : Buffers) (d p k : ℕ) {r : ℕ} → r ≡ length ((egress d b p).queue k) → r ≤ 32
few_late b d p k e = omega (arith, e, queue_few b d p k)

-- the ports below n have had their turn, and so many copies have ended; no frame was let in
pub record Turned (before after : Buffers) (k rate depth n late : ℕ) : Type 0 where
  pub ports : (d : ℕ) → egress d after ≡ each_port (λ p. turned k rate depth) n (egress d before)
  pub counted : (d : ℕ) → late ≡ sum_below (λ p. length ((egress d before p).queue k)) n
  pub number : next_number after ≡ next_number before
  pub cells : OnlyFreed (contents before) (contents after)

pub turned_none : (b : Buffers) (k rate depth : ℕ) → Turned b b k rate depth 0 0
turned_none b k rate depth = record { ports = λ d. each_none (λ p. turned k rate depth) (egress d b); counted = λ d. refl; number = refl; cells = none_freed _ }

pub turned_on : {before mid after : Buffers} {k rate depth n late : ℕ} (p r : ℕ) → Turned before mid k rate depth n late → p ≡ n → ((d : ℕ) → r ≡ length ((egress d mid p).queue k)) → ChangesPort mid after p (turned k rate depth) → Turned before after k rate depth (n + 1) (late + r)
turned_on {before} {mid} {after} {k} {rate} {depth} {n} {late} p r so_far is ended turn =
    record {
      ports = λ d. each_on (λ p. turned k rate depth) (egress d before) (egress d mid) n (so_far.ports d) (egress d after) p is (turn.state d);
      counted = λ d.
          let b : ℕ → Egress = egress d before in
          omega (arith, so_far.counted d, ended d, ap (λ q. length ((egress d mid q).queue k)) is, ap (λ e. length (e.queue k)) (each_later (λ p. turned k rate depth) b (egress d mid) n (so_far.ports d) n (omega arith)), ap (sum_below (λ p. length ((b p).queue k))) (add-one n));
      number = turn.number ∙ so_far.number;
      cells = freed_on so_far.cells turn.cells;
    }

pub turned_all : {before after : Buffers} {k rate depth n late : ℕ} → Turned before after k rate depth n late → n ≡ 4 → (d : ℕ) → (late ≡ length (over_ports (λ p. (egress d before p).queue k))) × (egress d after ≡ each_port (λ p. turned k rate depth) 4 (egress d before))
turned_all {before} {after} {k} {rate} {depth} {n} {late} done four d =
    let q : ℕ → List Copy = λ p. (egress d before p).queue k in
    (omega (arith, done.counted d, ap (sum_below (λ p. length (q p))) four, length-append (q 0) (q 1 ++ (q 2 ++ q 3)), length-append (q 1) (q 2 ++ q 3), length-append (q 2) (q 3)), done.ports d ∙ (λ i. each_port (λ p. turned k rate depth) (four i) (egress d before)))

pub late_few : (b : Buffers) (d k n : ℕ) → sum_below (λ p. length ((egress d b p).queue k)) n ≤ 32 * n
late_few b d k zero = omega arith
late_few b d k (suc n) = omega (arith, late_few b d k n, queue_few b d n k)

no_copies : (k j : ℕ) → put (empty_port 0).queue k [] j ≡ []
no_copies k j = cond_both {A = List Copy} (eqb j k) [] [] (λ x. x ≡ []) (λ e. refl) (λ e. refl)

-- nothing changes at an empty port with all its tokens
pub turned_empty : (k rate depth : ℕ) → turned k rate depth (empty_port depth) ≡ empty_port depth
turned_empty k rate depth =
    let full : min depth (depth + rate) ≡ depth = omega arith in
    λ i. record { queue = λ j. no_copies k j i; tokens = full i; out = (empty_port depth).out }
