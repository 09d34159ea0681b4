-- The copies of a frame laid at one port after the other. Assumes nothing.
use Rattle.std.proofs.Common.{◌≡◌, ℕ, ◌+◌, ◌/◌, ◌%◌, ◌^◌, ◌<◌, ◌≤◌, true, false, cond, eqb, sym, refl, ap, ◌∙◌, ⊎_elim, arith, pow_mono}
use native.Mathlib.Nat.{div-eq_of_lt}
use Rattle.std.proofs.lemmas.Bool.{cases_Bool, cases_eq, cond_both, cond-false, cond-true, eqb-false, eqb-true}
use Rattle.buffers.proofs.Soundness.{put_other, put_same}
use Rattle.buffers.specs.Holdings.{FramesStay, changed, copies_in, egress, filled, frame_at, free, next_number}
use Rattle.buffers.specs.declared.buffers.Buffers.{Buffers}
use Rattle.frame.specs.Numbers.{in_set}
use Rattle.rules.specs.Copies.{laid, put}
use Rattle.egress.proofs.Each.{each_none, each_on}
use Rattle.egress.proofs.Ports.{put_own}
use Rattle.egress.specs.Ports.{each_port, laid_in}

-- the ports below n that are in the set have a copy of the frame in the cell
pub record Laying (before after : Buffers) (set k cell n : ℕ) : Type 0 where
  pub ports : (d : ℕ) → egress d after ≡ each_port (laid_in set k (frame_at before cell)) n (egress d before)
  pub frames : frame_at after ≡ frame_at before
  pub filled : filled after ≡ filled before
  pub copies : (p : ℕ) → n ≤ p → p < 4 → copies_in after p cell ≡ 0
  pub others : (c : ℕ) → (c ≡ cell → ⊥) → free after c ≡ free before c
  pub used : (p : ℕ) → p < n → in_set set p ≡ true → free after cell ≡ false
  pub number : next_number after ≡ next_number before

pub laying_none : (before : Buffers) (set k cell : ℕ) → ((p : ℕ) → p < 4 → copies_in before p cell ≡ 0) → Laying before before set k cell 0
laying_none before set k cell none =
    record {
      ports = λ d. each_none (laid_in set k (frame_at before cell)) (egress d before);
      frames = refl;
      filled = refl;
      copies = λ p past low. none p low;
      others = λ c other. refl;
      used = λ p past. absurd (omega arith);
      number = refl;
    }

-- what laying at port q does
pub record LaidAt (mid after : Buffers) (set k cell q : ℕ) : Type 0 where
  pub ports : (d : ℕ) → egress d after ≡ changed (egress d mid) q (laid_in set k (frame_at mid cell) q)
  pub cells : free after ≡ cond (in_set set q) (put (free mid) cell false) (free mid)
  pub kept : FramesStay mid after
  pub copies : (p c : ℕ) → (p ≡ q → ⊥) → copies_in after p c ≡ copies_in mid p c

-- a port of the set has a copy laid at it
pub put_in : {mid after : Buffers} {set k cell q : ℕ} → in_set set q ≡ true → ((d : ℕ) → egress d after ≡ changed (egress d mid) q (λ e. laid e k (frame_at mid cell))) → free after ≡ put (free mid) cell false → FramesStay mid after → ((p c : ℕ) → (p ≡ q → ⊥) → copies_in after p c ≡ copies_in mid p c) → LaidAt mid after set k cell q
put_in {mid} {after} {set} {k} {cell} {q} within ports cells kept copies = record {
  ports = λ d. ports d ∙ (λ i. put (egress d mid) q (sym (cond-true (in_set set q) (laid (egress d mid q) k (frame_at mid cell)) (egress d mid q) within) i));
  cells = cells ∙ sym (cond-true (in_set set q) _ _ within);
  kept = kept;
  copies = copies;
}

-- any other port is left as it is
pub left_out : {set k cell q : ℕ} (mid : Buffers) → in_set set q ≡ false → LaidAt mid mid set k cell q
left_out {set} {k} {cell} {q} mid out = record {
  ports = λ d. put_own (egress d mid) q ∙ (λ i. put (egress d mid) q (sym (cond-false (in_set set q) (laid (egress d mid q) k (frame_at mid cell)) (egress d mid q) out) i));
  cells = sym (cond-false (in_set set q) _ _ out);
  kept = record { number = refl; frames = refl; filled_are = refl };
  copies = λ p c other. refl;
}

pub laying_on : {before mid after : Buffers} {set k cell n : ℕ} (q : ℕ) → Laying before mid set k cell n → q ≡ n → LaidAt mid after set k cell q → Laying before after set k cell (n + 1)
laying_on {before} {mid} {after} {set} {k} {cell} {n} q so_far is now =
    record {
      ports = λ d. each_on (laid_in set k (frame_at before cell)) (egress d before) (egress d mid) n (so_far.ports d) (egress d after) q is (now.ports d ∙ (λ i. changed (egress d mid) q (laid_in set k (so_far.frames i cell) q)));
      frames = now.kept.frames ∙ so_far.frames;
      filled = now.kept.filled_are ∙ so_far.filled;
      copies = λ p past low. now.copies p cell (λ e. omega arith) ∙ so_far.copies p (omega arith) low;
      others = λ c other. ap (λ f. f c) now.cells ∙ cond_both (in_set set q) (put (free mid) cell false) (free mid) (λ f. f c ≡ free before c) (λ t. put_other (free mid) cell false c other ∙ so_far.others c other) (λ t. so_far.others c other);
      used = λ p past inside. ap (λ f. f cell) now.cells ∙ cond_both (in_set set q) (put (free mid) cell false) (free mid) (λ f. f cell ≡ false) (λ t. put_same (free mid) cell false cell refl) (λ t. ⊎_elim (λ same. absurd (both t inside same)) (λ other. so_far.used p (omega (arith, other)) inside) (cases_eq p q));
      number = now.kept.number ∙ so_far.number;
    }
  where
    both : {p : ℕ} → in_set set q ≡ false → in_set set p ≡ true → p ≡ q → ⊥
    both {p} no-q yes-p same = omega (arith, eqb-false _ 1 no-q, eqb-true _ 1 (sym (ap (in_set set) same) ∙ yes-p))

pub laid_cells : {before after : Buffers} {set k cell n : ℕ} → Laying before after set k cell n → (p : ℕ) → p < n → in_set set p ≡ true → free after ≡ put (free before) cell false
laid_cells {before} {after} {set} {k} {cell} {n} done p low inside = λ i c. each c i
  where
    each : (c : ℕ) → free after c ≡ put (free before) cell false c
    each c =
        ⊎_elim
        (λ same. ap (free after) same ∙ done.used p low inside ∙ sym (put_same (free before) cell false c same))
        (λ other. done.others c other ∙ sym (put_other (free before) cell false c other))
        (cases_eq c cell)

bit_off : (x : ℕ) → eqb (x % 2) 1 ≡ false → x % 2 ≡ 0
bit_off x e = omega (arith, eqb-false (x % 2) 1 e)

even_low : (x : ℕ) → x < 2 → x % 2 ≡ 0 → x ≡ 0
even_low x low even = omega arith

all_off : (s : ℕ) → s < 16 → s / 1 % 2 ≡ 0 → s / 2 % 2 ≡ 0 → s / 4 % 2 ≡ 0 → s / 8 % 2 ≡ 0 → s ≡ 0
all_off s few a b c d =
    let h = even_low (s / 8) (omega arith) d in
    let l = even_low (s / 4) (omega (arith, h)) c in
    let k = even_low (s / 2) (omega (arith, l)) b in
    let m = even_low (s / 1) (omega (arith, k)) a in
    omega (arith, m)

-- a set that is not empty has one of the four ports
pub some_port : (s : ℕ) → 0 < s → s < 16 → (p : ℕ) × (p < 4) × (in_set s p ≡ true)
some_port s some few =
    ⊎_elim
    (λ a. (0, omega arith, a))
    (λ a.
    ⊎_elim
    (λ b. (1, omega arith, b))
    (λ b.
    ⊎_elim
    (λ c. (2, omega arith, c))
    (λ c.
    ⊎_elim
    (λ d. (3, omega arith, d))
    (λ d. absurd (omega (arith, all_off s few (bit_off (s / 1) a) (bit_off (s / 2) b) (bit_off (s / 4) c) (bit_off (s / 8) d))))
    (cases_Bool (in_set s 3)))
    (cases_Bool (in_set s 2)))
    (cases_Bool (in_set s 1)))
    (cases_Bool (in_set s 0))

-- and no port above 3
pub none_above : (s p : ℕ) → s < 16 → 4 ≤ p → in_set s p ≡ false
none_above s p few high =
    let big : 16 ≤ 2 ^ p = pow_mono high in
    let none : s / 2 ^ p ≡ 0 = div-eq_of_lt (omega arith) in
    ap (λ x. eqb (x % 2) 1) none
