-- Proper ways. What is asked of sets of the four ports is computed for each of them. Assumes nothing.
use Rattle.std.specs.Prelude.{◌≡◌, ℕ, ◌<◌, Bool, true, false, not, ◌&&◌, ◌||◌, IfSome, Some, None, Option, ◌==◌, nat_lt, refl}
use Rattle.std.proofs.lemmas.Bool.{agree_below, agree_below_at, and_parts, cond_both, ltb-true, not-true}
use Rattle.frame.specs.Numbers.{in_set, others, with_port, without}
use Rattle.forwarding.specs.Ways.{Proper, Way, to, unknown, tap, formed, tapped}

-- a test of a set and a port that holds of each of them holds of them all
of_all : (test : ℕ → ℕ → Bool) → agree_below (λ s. agree_below (test s) (λ _. true) 4) (λ _. true) 16 ≡ true → (s p : ℕ) → s < 16 → p < 4 → test s p ≡ true
of_all test e s p hs hp = agree_below_at (test s) (λ _. true) 4 p (agree_below_at (λ s. agree_below (test s) (λ _. true) 4) (λ _. true) 16 s e hs) hp

-- the test whether a set is a proper way
abbrev proper : ℕ → ℕ → Bool
proper p s = nat_lt 0 s && (nat_lt s 16 && not (in_set s p))

-- a set that passes it is one
proper_from : (p s : ℕ) → proper p s ≡ true → Proper p (to s)
proper_from p s e =
    let some = and_parts (nat_lt 0 s) _ e in
    let rest = and_parts (nat_lt s 16) _ some.1 in
    (ltb-true _ _ some.0, ltb-true _ _ rest.0, not-true _ rest.1)

-- one of two tests holds, and it is not the first
second : (a b : Bool) → (a || b) ≡ true → a ≡ false → b ≡ true
second a b e no-a = rw no-a at e

-- a set with a port taken out is empty or proper for it
out : (s p : ℕ) → s < 16 → p < 4 → (without s p == 0 || proper p (without s p)) ≡ true
out = of_all (λ s p. (without s p == 0) || proper p (without s p)) refl

-- the answer that a row's set gives is proper
pub formed_proper : (row : Option ℕ) (p : ℕ) → p < 4 → IfSome row (λ s. s < 16) → Proper p (formed row p)
formed_proper None p hp hs = tt
formed_proper (Some s) p hp hs =
    cond_both (without s p == 0) unknown (to (without s p)) (Proper p) (λ none. tt) (λ some. proper_from p _ (second _ _ (out s p hs hp) some))

-- the answer to all other ports is proper
pub others_proper : (p : ℕ) → p < 4 → Proper p (to (others p))
others_proper p hp = proper_from p _ (agree_below_at (λ p. proper p (others p)) (λ _. true) 4 p refl hp)

-- a set without the port where the frame came in, with port 3 put in, is proper for it, unless that is port 3
joined : (s p : ℕ) → s < 16 → p < 4 → (p == 3 || (in_set s p || proper p (with_port (without s 3) 3))) ≡ true
joined = of_all (λ s p. (p == 3) || (in_set s p || proper p (with_port (without s 3) 3))) refl

-- what the tap layer makes of a proper way is proper
pub tapped_proper : (w : Way) (p : ℕ) → p < 4 → Proper p w → Proper p (tapped w p)
tapped_proper unknown p hp h = cond_both (p == 3) tap unknown (Proper p) (λ _. tt) (λ _. tt)
tapped_proper tap p hp h = cond_both (p == 3) tap tap (Proper p) (λ _. tt) (λ _. tt)
tapped_proper (to s) p hp h =
    cond_both (p == 3) tap _ (Proper p)
    (λ at-tap. tt)
    (λ not-tap.
    cond_both (without s 3 == 0) unknown (to (with_port (without s 3) 3)) (Proper p)
    (λ none. tt)
    (λ some. proper_from p _ (second _ _ (second _ _ (joined s p h.1 hp) not-tap) h.2)))
