-- Checks that hold or fail, and what an accepted number is. Assumes nothing.
use Rattle.std.proofs.Common.{◌≡◌, ℕ, ◌+◌, ◌^◌, ◌<◌, Bool, true, false, cond, ltb, List, [], ◌∷◌, ◌++◌, is_some, Some, None, sym, refl, ap, ◌∙◌, ⊎_elim, arith}
use Rattle.std.proofs.lemmas.Bool.{cases_Bool, cond-false, cond-true, le-ltb, ltb-true, true≢false}
use Rattle.frame.specs.Numbers.{below, port_named, slot_after}
use Rattle.frame.specs.Refusals.{Told, accepted, refused}
use Rattle.rules.specs.Switch.{Check, State, judged, leaves, no_such_port}

-- what is found below a bound is the number itself
pub below_is : (bound n x : ℕ) → Some x ≡ below bound n → (n < bound) × (x ≡ n)
below_is bound n x e =
    ⊎_elim
    (λ fit. let same : Some x ≡ Some n = e ∙ cond-true (ltb n bound) _ _ fit in (ltb-true n bound fit, cc))
    (λ unfit. absurd (true≢false (ap is_some (e ∙ cond-false (ltb n bound) (Some n) None unfit))))
    (cases_Bool (ltb n bound))

-- an answer and a refusal are two things
pub never_both : {A : Type 0} (x : A) (n v : ℕ) → accepted x ≡ refused n v → ⊥
never_both x n v e = cc

-- one check decides alike whatever the answer is
module _ {A B : Type 0} where
  by_fails : (f : Bool) (m w n v : ℕ) (y : A) (x : B) → refused n v ≡ cond f (refused m w) (accepted y) → refused n v ≡ cond f (refused m w) (accepted x)
  by_fails true m w n v y x e = let a : n ≡ m = cc in let b : v ≡ w = cc in λ i. refused (a i) (b i)
  by_fails false m w n v y x e = absurd (never_both y n v (sym e))

  pub one_refused : (k : Check) (n v : ℕ) (y : A) (x : B) → refused n v ≡ judged (k ∷ []) y → refused n v ≡ judged (k ∷ []) x
  one_refused k n v y x e = by_fails k.fails k.number k.value n v y x e

  by_passes : (f : Bool) (m w : ℕ) (y z : A) (x : B) → accepted z ≡ cond f (refused m w) (accepted y) → (f ≡ false) × (z ≡ y) × (cond f (refused m w) (accepted x) ≡ accepted x)
  by_passes true m w y z x e = absurd (never_both z m w e)
  by_passes false m w y z x e = (refl, cc, refl)

  pub one_accepted : (k : Check) (y z : A) (x : B) → accepted z ≡ judged (k ∷ []) y → (k.fails ≡ false) × (z ≡ y) × (judged (k ∷ []) x ≡ accepted x)
  one_accepted k y z x e = by_passes k.fails k.number k.value y z x e

-- what a call leaves, by its answer
pub leaves_state : {A : Type 0} (t : Told A) (x : A) (before after : State) → t ≡ accepted x → after ≡ leaves t before after
leaves_state t x before after e = sym (ap (λ a. leaves a before after) e)

pub leaves_kept : {A : Type 0} (t : Told A) (n v : ℕ) (before after : State) → refused n v ≡ t → before ≡ leaves t before after
leaves_kept t n v before after e = ap (λ a. leaves a before after) e

-- a port that was accepted is one, and the check for it passes
pub named_is : (n x : ℕ) → accepted x ≡ port_named n → (n < 4) × (x ≡ n)
named_is n x e =
    ⊎_elim
    (λ low. let same : accepted x ≡ accepted n = e ∙ cond-true (ltb n 4) _ _ low in (ltb-true n 4 low, cc))
    (λ high. absurd (never_both x 1 n (e ∙ cond-false (ltb n 4) _ _ high)))
    (cases_Bool (ltb n 4))

pub port_passes : {A : Type 0} (n : ℕ) (cs : List Check) (x : A) → n < 4 → judged (no_such_port n ∷ cs) x ≡ judged cs x
port_passes n cs x low = cond-false (ltb 3 n) _ _ (le-ltb 3 n (omega arith))

-- the slot that follows, where there is one
pub next_is : (s x : ℕ) → accepted x ≡ slot_after s → (s + 1 < 2 ^ 48) × (x ≡ s + 1)
next_is s x e =
    ⊎_elim
    (λ fit. let same : accepted x ≡ accepted (s + 1) = e ∙ cond-true (ltb (s + 1) (2 ^ 48)) _ _ fit in (ltb-true (s + 1) (2 ^ 48) fit, cc))
    (λ none. absurd (never_both x 3 0 (e ∙ cond-false (ltb (s + 1) (2 ^ 48)) _ _ none)))
    (cases_Bool (ltb (s + 1) (2 ^ 48)))

-- checks that an answer came through are passed, whatever follows them
module _ {A B : Type 0} where
  past_one : (f : Bool) (n v : ℕ) (z : A) (t : Told A) (u : Told B) → accepted z ≡ cond f (refused n v) t → (accepted z ≡ t) × (cond f (refused n v) u ≡ u)
  past_one true n v z t u e = absurd (never_both z n v e)
  past_one false n v z t u e = (e, refl)

  stop_one : (f : Bool) (m w n v : ℕ) (t : Told A) (u : Told B) → (refused n v ≡ t → refused n v ≡ u) → refused n v ≡ cond f (refused m w) t → refused n v ≡ cond f (refused m w) u
  stop_one true m w n v t u on e = let a : n ≡ m = cc in let b : v ≡ w = cc in λ i. refused (a i) (b i)
  stop_one false m w n v t u on e = on e

  pub passed : (cs ds : List Check) (z y : A) (x : B) → accepted z ≡ judged cs y → (z ≡ y) × (judged (cs ++ ds) x ≡ judged ds x)
  passed [] ds z y x e = (cc, refl)
  passed (c ∷ cs) ds z y x e =
      let one = past_one c.fails c.number c.value z (judged cs y) (judged (cs ++ ds) x) e in
      let rest = passed cs ds z y x one.0 in
      (rest.0, one.1 ∙ rest.1)

  -- and a refusal stays one
  pub stopped : (cs : List Check) (n v : ℕ) (y : A) (x : B) → refused n v ≡ judged cs y → refused n v ≡ judged cs x
  stopped [] n v y x e = absurd (never_both y n v (sym e))
  stopped (c ∷ cs) n v y x e = stop_one c.fails c.number c.value n v (judged cs y) (judged cs x) (stopped cs n v y x) e

-- the first of the checks that an answer came through holds
pub first_passed : {A : Type 0} (c : Check) (cs : List Check) (z y : A) → accepted z ≡ judged (c ∷ cs) y → (c.fails ≡ false) × (accepted z ≡ judged cs y)
first_passed {A} c cs z y e = by c.fails e
  where
    by : (f : Bool) → accepted z ≡ cond f (refused c.number c.value) (judged cs y) → (f ≡ false) × (accepted z ≡ judged cs y)
    by true e = absurd (never_both z c.number c.value e)
    by false e = (refl, e)
