-- The entries of a good list turn from each to the next, and from the last to the first. Assumes nothing.
use Rattle.std.specs.Prelude.{◌≡◌, ℕ, zero, suc, ◌+◌, ◌-◌, ◌%◌, ◌<◌, true, false, cond, List, length, is_some, ◌==◌, ◌≢◌, slice_index}
use Rattle.std.proofs.Common.{◌∙◌, arith}
use Rattle.std.proofs.Math.Nat.{dvd_of_mod-eq-zero, mod-mod_of_dvd}
use Rattle.std.proofs.lemmas.Nat.{mod_below}
use Rattle.std.proofs.lemmas.Bool.{cond_both, or_parts}
use Rattle.std.proofs.lemmas.Bool.Decides.{nat_tests}
use Rattle.gates.specs.GateLists.{entry_bit, entry_in, first_from, first_wrong, ill_formed, list_fills, list_opens, right_count, wrong_at}
use Rattle.gates.specs.Places.{none_found}

-- what is known of a list in which no place is wrong
pub record Good (es : List ℕ) : Type 0 where
  pub some : 0 < length es
  pub even : length es % 2 ≡ 0
  pub right : (k : ℕ) → k < length es → wrong_at es k ≡ false

pub good : (es : List ℕ) → is_some (first_wrong es) ≡ false → Good es
good es e =
    let n = length es in
    let fits : right_count n ≡ true = grind arith in
    let none : is_some (first_from (wrong_at es) 0 n) ≡ false = grind arith in
    record {
      some = grind (arith, nat_tests);
      even = grind (arith, nat_tests);
      right = λ k h. none_found (wrong_at es) n 0 none k (omega arith) (omega arith);
    }

-- the number of the queue of 0 and 1 that an entry shuts is its bit 0
shut_one : (e : ℕ) → ill_formed e ≡ false → cond (entry_bit e 0 == 1) 1 0 ≡ entry_bit e 0
shut_one e fine = grind (arith, nat_tests)

shuts : (e : ℕ) → ill_formed e ≡ false → (entry_bit e (cond (entry_bit e 0 == 1) 1 0) == 1) ≡ false
shuts e fine = grind (arith, nat_tests)

opens_other : (e : ℕ) → ill_formed e ≡ false → (entry_bit e (1 - cond (entry_bit e 0 == 1) 1 0) == 1) ≡ true
opens_other e fine = grind (arith, nat_tests)

-- queue 0 or queue 1 fills
pub list_pair : (es : List ℕ) (s : ℕ) → list_fills es s < 2
list_pair es s = cond_both (list_opens es s 0) 1 0 (λ q. q < 2) (λ _. omega arith) (λ _. omega arith)

module _ (es : List ℕ) (g : Good es) where
  -- bit 0 at place k + 1 is not that at place k
  turned : (k : ℕ) → suc k < length es → entry_bit (slice_index es (suc k)) 0 ≢ entry_bit (slice_index es k) 0
  turned k h same = let fine = g.right (suc k) h in grind (arith, nat_tests)

  -- so it goes by the parity of the place
  by_place : (k : ℕ) → k < length es → entry_bit (slice_index es k) 0 ≡ (entry_bit (slice_index es 0) 0 + k) % 2
  by_place zero h = omega arith
  by_place (suc k) h = let before = by_place k (omega arith) in let other = turned k h in omega arith

  place_in : (s : ℕ) → s % length es < length es
  place_in s = mod_below s (length es) g.some

  fine_in : (s : ℕ) → ill_formed (entry_in es s) ≡ false
  fine_in s = (or_parts (ill_formed (entry_in es s)) _ (g.right (s % length es) (place_in s))).0

  -- and, since the number of entries is even, by that of the slot
  by_slot : (s : ℕ) → list_fills es s ≡ (entry_bit (slice_index es 0) 0 + s) % 2
  by_slot s =
      let at = by_place (s % length es) (place_in s) in
      let even = mod-mod_of_dvd 2 s (dvd_of_mod-eq-zero 2 g.even) in
      shut_one (entry_in es s) (fine_in s) ∙ omega arith

  pub list_turns : (s : ℕ) → list_fills es (s + 1) ≡ 1 - list_fills es s
  list_turns s = let a = by_slot s in let b = by_slot (s + 1) in omega arith

  pub list_shut : (s : ℕ) → list_opens es s (list_fills es s) ≡ false
  list_shut s = shuts (entry_in es s) (fine_in s)

  pub list_sends : (s : ℕ) → list_opens es s (1 - list_fills es s) ≡ true
  list_sends s = opens_other (entry_in es s) (fine_in s)
