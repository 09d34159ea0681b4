-- Totals and counts over lists, and what holds of each copy in one. Assumes nothing.
use Rattle.std.proofs.Common.{◌≡◌, ℕ, zero, suc, ◌+◌, ◌<◌, ◌≤◌, ◌&&◌, eqb, ltb, ◌⊎◌, List, [], ◌∷◌, ◌++◌, length, sym, refl, ap, ◌∙◌, inl, inr, ⊎_elim, arith}
use Rattle.std.specs.List.{AllByRecursion as All}
use Rattle.std.proofs.lemmas.Bool.{cases_Bool, eqb-true, eqb-false, eq-eqb, ne_eqb, lt-ltb}
use Rattle.std.proofs.lemmas.List.Sums.{sum_by-cons}
use Rattle.rules.specs.Copies.{Copy}
use Rattle.rules.specs.Runs.{total, count, bit, numbered, sum_below}

pub total_one : {A : Type 0} (xs : List A) → total (λ x. 1) xs ≡ length xs
total_one [] = refl
total_one (x ∷ xs) = omega (arith, sum_by-cons (λ y. 1) x xs, total_one xs)

pub zero_or : (n : ℕ) → (n ≡ 0) ⊎ (0 < n)
zero_or zero = inl refl
zero_or (suc n) = inr (omega arith)

-- what holds of both parts of a list, and what of the whole
pub all_parts : {A : Type 0} (P : A → Type 0) (xs ys : List A) → All P (xs ++ ys) → All P xs × All P ys
all_parts P [] ys h = (tt, h)
all_parts P (x ∷ xs) ys h = let r = all_parts P xs ys h.1 in ((h.0, r.0), r.1)

pub all_both : {A : Type 0} (P Q : A → Type 0) (xs : List A) → All P xs → All Q xs → All (λ x. P x × Q x) xs
all_both P Q [] a b = tt
all_both P Q (x ∷ xs) a b = ((a.0, b.0), all_both P Q xs a.1 b.1)

-- a number that is counted in a list is that of some copy there
pub counted : (P : Copy → Type 0) (n : ℕ) (cs : List Copy) → All P cs → 0 < count (numbered n) cs → (c : Copy) × (c.number ≡ n) × P c
counted P n [] a h = absurd (omega arith)
counted P n (c ∷ cs) a h =
    ⊎_elim
    (λ e. (c, eqb-true c.number n e, a.0))
    (λ e. counted P n cs a.1 (omega (arith, sum_by-cons (λ d. bit (numbered n d)) c cs, ap bit e)))
    (cases_Bool (eqb c.number n))

-- what holds of each copy whose number is counted in the list
pub all_counted : (P : Copy → Type 0) (cs : List Copy) → ((c : Copy) → 0 < count (numbered c.number) cs → P c) → All P cs
all_counted P [] g = tt
all_counted P (c ∷ cs) g =
    let more : (n : ℕ) → count (numbered n) (c ∷ cs) ≡ bit (numbered n c) + count (numbered n) cs = λ n. sum_by-cons (λ d. bit (numbered n d)) c cs in
    (g c (omega (arith, more c.number, ap bit (eq-eqb c.number c.number refl))), all_counted P cs (λ d l. g d (omega (arith, more d.number))))

-- a copy that ends is there before and gone after: l of the x copies before end, and y are there after
pub ended_bit : (x l y : ℕ) → x ≤ 1 → l ≤ x → (1 ≤ x → l + y ≡ 1) → bit (ltb 0 x && eqb y 0) ≡ l
ended_bit zero l y h k f = let e : l ≡ 0 = omega arith in sym e
ended_bit (suc x) zero y h k f = ap (λ t. bit (t && eqb y 0)) (lt-ltb 0 (suc x) (omega arith)) ∙ ap bit (ne_eqb y 0 (λ e. omega (arith, f (omega arith))))
ended_bit (suc x) (suc l) y h k f = ap (λ t. bit (t && eqb y 0)) (lt-ltb 0 (suc x) (omega arith)) ∙ ap bit (eq-eqb y 0 (omega (arith, f (omega arith)))) ∙ omega arith

-- sums over numbers
pub sum_below_same : (f g : ℕ → ℕ) (n : ℕ) → ((k : ℕ) → f k ≡ g k) → sum_below f n ≡ sum_below g n
sum_below_same f g zero h = refl
sum_below_same f g (suc n) h = omega (arith, h n, sum_below_same f g n h)

pub sum_below_add : (f g : ℕ → ℕ) (n : ℕ) → sum_below (λ k. f k + g k) n ≡ sum_below f n + sum_below g n
sum_below_add f g zero = refl
sum_below_add f g (suc n) = omega (arith, sum_below_add f g n)

sum_below_none : (x n : ℕ) → n ≤ x → sum_below (λ k. bit (eqb x k)) n ≡ 0
sum_below_none x zero h = refl
sum_below_none x (suc n) h = omega (arith, ap bit (ne_eqb x n (λ e. omega arith)), sum_below_none x n (omega arith))

sum_below_one : (x n : ℕ) → x < n → sum_below (λ k. bit (eqb x k)) n ≡ 1
sum_below_one x zero h = absurd (omega arith)
sum_below_one x (suc n) h =
    ⊎_elim
    (λ e. omega (arith, ap bit e, sum_below_none x n (omega (arith, eqb-true x n e))))
    (λ e. omega (arith, ap bit e, sum_below_one x n (let d = eqb-false x n e in omega arith)))
    (cases_Bool (eqb x n))

sum_below_zero : (n : ℕ) → sum_below (λ k. 0) n ≡ 0
sum_below_zero zero = refl
sum_below_zero (suc n) = omega (arith, sum_below_zero n)

-- each copy is counted under its own number
pub sum_below_count : (n : ℕ) (cs : List Copy) → All (λ c. c.number < n) cs → sum_below (λ k. count (numbered k) cs) n ≡ length cs
sum_below_count n [] h = sum_below_zero n
sum_below_count n (c ∷ cs) h =
    omega (arith, sum_below_same (λ k. count (numbered k) (c ∷ cs)) (λ k. bit (eqb c.number k) + count (numbered k) cs) n (λ k. sum_by-cons (λ d. bit (numbered k d)) c cs), sum_below_add (λ k. bit (eqb c.number k)) (λ k. count (numbered k) cs) n, sum_below_one c.number n h.0, sum_below_count n cs h.1)
