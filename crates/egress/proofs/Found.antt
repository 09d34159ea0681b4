-- The copy that a ticket is for, where it is found. Assumes nothing.
use Rattle.std.proofs.Common.{◌≡◌, ℕ, Bool, true, false, cond, eqb, ltb, Some, None, Option, refl}
use Rattle.std.proofs.lemmas.Bool.{true≢false}
use Rattle.rules.specs.Copies.{Copy, Egress}
use Rattle.rules.specs.Switch.{if_numbered, not_out}
use Rattle.egress.specs.Sendings.{out_at}

some_found : (b : Bool) (c : Copy) (p : ℕ) → (not_out (cond b (Some c) None) p).fails ≡ false → cond b (Some c) None ≡ Some c
some_found true c p e = refl
some_found false c p e = absurd (true≢false e)

any_found : (b : Bool) (o : Option Copy) (p n : ℕ) → (not_out (cond b (if_numbered n o) None) p).fails ≡ false → cond b (if_numbered n o) None ≡ o
any_found true None p n e = absurd (true≢false e)
any_found true (Some c) p n e = some_found (eqb c.number n) c p e
any_found false o p n e = absurd (true≢false e)

-- what is found is the copy that is out
pub found_out : (ports : ℕ → Egress) (p n : ℕ) → (not_out (out_at ports p n) p).fails ≡ false → out_at ports p n ≡ (ports p).out
found_out ports p n e = any_found (ltb p 4) (ports p).out p n e
