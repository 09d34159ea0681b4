-- The first place at which a test holds. Assumes nothing.
use Rattle.std.specs.Prelude.{◌≡◌, ℕ, zero, suc, ◌+◌, ◌<◌, ◌≤◌, Bool, false, is_some}
use Rattle.std.proofs.Common.{ap, ◌∙◌, ⊎_elim, arith}
use Rattle.std.proofs.lemmas.Bool.{cases_eq}
use Rattle.gates.specs.GateLists.{first_from}

-- where no place is found, the test fails at each
pub none_found : (test : ℕ → Bool) (n i : ℕ) → is_some (first_from test i n) ≡ false → (k : ℕ) → i ≤ k → k < i + n → test k ≡ false
none_found test zero i e k low high = absurd (omega arith)
none_found test (suc n) i e k low high =
    let fails : test i ≡ false = grind arith in
    let later : is_some (first_from test (i + 1) n) ≡ false = grind arith in
    ⊎_elim (λ here. ap test here ∙ fails) (λ away. none_found test n (i + 1) later k (omega arith) (omega arith)) (cases_eq k i)
