-- The four ports, and sets of them. Assumes nothing.
use Rattle.std.proofs.Common.{◌≡◌, ℕ, zero, suc, ◌+◌, ◌^◌, ◌<◌, ◌≤◌, true, false, List, [], ◌∷◌, map, get_or, refl, sym, ap, ◌∙◌, arith}
use Rattle.std.proofs.Math.ListN.{get_or-map}
use Rattle.std.proofs.lemmas.Bool.{eqb-true, eqb-false}
use Rattle.frame.specs.Numbers.{in_set}

-- what holds of each of 0 to 3 holds of every number below 4
pub each_of_four : (P : ℕ → Type 0) → P 0 → P 1 → P 2 → P 3 → (n : ℕ) → n < 4 → P n
each_of_four P a b c d zero h = a
each_of_four P a b c d (suc zero) h = b
each_of_four P a b c d (suc (suc zero)) h = c
each_of_four P a b c d (suc (suc (suc zero))) h = d
each_of_four P a b c d (suc (suc (suc (suc n)))) h = absurd (omega arith)

pub weight_small : (p : ℕ) → p < 4 → 2 ^ p ≤ 8
weight_small = each_of_four (λ p. 2 ^ p ≤ 8) (omega arith) (omega arith) (omega arith) (omega arith)

-- a set counts each of its ports
pub weight_in : (s p : ℕ) → p < 4 → in_set s p ≡ true → 2 ^ p ≤ s
weight_in s = each_of_four (λ p. in_set s p ≡ true → 2 ^ p ≤ s) (λ e. omega (arith, eqb-true _ _ e)) (λ e. omega (arith, eqb-true _ _ e)) (λ e. omega (arith, eqb-true _ _ e)) (λ e. omega (arith, eqb-true _ _ e))

-- and has room for those that it lacks
pub weight_out : (s p : ℕ) → s < 16 → p < 4 → in_set s p ≡ false → s + 2 ^ p < 16
weight_out s p h = each_of_four (λ p. in_set s p ≡ false → s + 2 ^ p < 16) (λ e. omega (arith, h, eqb-false _ _ e)) (λ e. omega (arith, h, eqb-false _ _ e)) (λ e. omega (arith, h, eqb-false _ _ e)) (λ e. omega (arith, h, eqb-false _ _ e)) p

-- four items in the order of their numbers, as all ports and all queues are
pub record InOrder {A : Type 0} (number : A → ℕ) (xs : List A) : Type 0 where
  pub numbers : map number xs ≡ 0 ∷ 1 ∷ 2 ∷ 3 ∷ []

-- the one at place i has number i
pub at_place : {A : Type 0} {number : A → ℕ} {xs : List A} → InOrder number xs → (i : ℕ) (x : A) → i < 4 → number (get_or xs i x) ≡ i
at_place {number = number} {xs = xs} four i x low =
    sym (get_or-map number xs i x) ∙ ap (λ l. get_or l i (number x)) four.numbers ∙ each_of_four (λ k. get_or (0 ∷ 1 ∷ 2 ∷ 3 ∷ []) k (number x) ≡ k) refl refl refl refl i low
