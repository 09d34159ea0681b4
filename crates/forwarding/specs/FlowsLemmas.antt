-- The set of each flow, as it is kept in a list. Assumes nothing.
use Rattle.std.specs.Prelude.{◌≡◌, ℕ, ◌-◌, ◌^◌, ◌<◌, cond, replicate, IfSome, Some, None, ◌==◌, nat_lt, slice_index, refl}
use Rattle.std.proofs.Common.{arith}
use Rattle.std.proofs.lemmas.Bool.{cond_both}
use Rattle.std.proofs.lemmas.Bool.Decides.{nat_tests}
use Rattle.std.proofs.lemmas.Grind.{common_steps}
use Rattle.forwarding.specs.Flows.{all_flows, flow_of, flow_row, no_flows}

-- 2^31 is flow 1, and all ones is flow 16,383
pub edges : (flow_of (2 ^ 31) ≡ 1) × (flow_of (2 ^ 48 - 1) ≡ 16383)
edges = (refl, refl)

-- a list of n times one set has it for each flow below n
pub all_at : (n s f : ℕ) → slice_index (replicate n s) f ≡ cond (nat_lt f n) s 0
all_at n s f = grind (arith, common_steps, nat_tests)

-- set 0 for each flow is no row at all
pub none_at : (f : ℕ) → all_flows 0 f ≡ no_flows f
none_at f = grind (arith, nat_tests)

-- the row of a narrow set has a narrow set
pub row_narrow : (s : ℕ) → s < 16 → IfSome (flow_row s) (λ n. n < 16)
row_narrow s h = cond_both (s == 0) None (Some s) (λ o. IfSome o (λ n. n < 16)) (λ none. tt) (λ some. h)
