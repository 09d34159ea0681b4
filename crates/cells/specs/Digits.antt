-- The digits of a mask: reading, clearing, setting and counting them. Assumes nothing.
use Rattle.std.specs.Prelude.{◌≡◌, ℕ, zero, suc, ◌+◌, ◌-◌, ◌/◌, ◌%◌, ◌^◌, ◌<◌, ◌≤◌, Bool, true, false, cond, ◌∷◌, length, ◌==◌, nat_eq, set, slice_set, refl}
use Rattle.std.proofs.Common.{◌≢◌, get_or, sym, ap, ◌∙◌, ⊎_elim, length-set, get_or-set_other, get_or-set_same, ext_get_or, div-one, pow-suc, one-add, arith}
use Rattle.std.specs.Int.Count.{ones, ones_step}
use Rattle.std.proofs.lemmas.Nat.{shr-shr, pow_pos, ones-le}
use Rattle.std.specs.Int.{bit_at}
use Rattle.std.proofs.lemmas.Bool.{cases_eq, eqb-true, eqb-false, eq-eqb, ne_eqb, false≢true}
use Rattle.cells.specs.Masks.{digits}
use Rattle.cells.specs.Stores.{all_free, free_at, free_count}

pub length_digits : (w n : ℕ) → length (digits w n) ≡ w
unfolding digits
length_digits zero n = refl
length_digits (suc w) n = ap suc (length_digits w (n / 2))

pub digit_is : (w n c : ℕ) → c < w → free_at (digits w n) c ≡ (n / 2 ^ c % 2 == 1)
unfolding digits
digit_is zero n c h = absurd (omega arith)
digit_is (suc w) n zero h = ap (λ x. nat_eq (x % 2) 1) (sym (div-one n))
digit_is (suc w) n (suc c) h =
    digit_is w (n / 2) c (omega arith) ∙ ap (λ x. nat_eq (x % 2) 1) (shr-shr n 1 c ∙ ap (λ k. n / 2 ^ k) (one-add c))

-- a number that differs in digit c only
pub digits_but_one : (w n m c : ℕ) (b : Bool) → c < w → (bit_at m c == 1) ≡ b → ((i : ℕ) → i < w → i ≢ c → bit_at m i ≡ bit_at n i) → digits w m ≡ slice_set (digits w n) c b
digits_but_one w n m c b within here others =
    ext_get_or false (digits w m) (set (digits w n) c b) (length_digits w m ∙ sym (length-set (digits w n) c b ∙ length_digits w n)) (λ i l.
    let in-range : i < w = omega (arith, length_digits w m) in
    digit_is w m i in-range
    ∙ ⊎_elim
    (λ same.
    let kept : get_or (set (digits w n) c b) i false ≡ b =
    ap (λ j. get_or (set (digits w n) c b) j false) same ∙ get_or-set_same (digits w n) c b false (omega (arith, length_digits w n)) in
    ap (λ j. bit_at m j == 1) same ∙ here ∙ sym kept)
    (λ other.
    ap (λ x. x == 1) (others i in-range other) ∙ sym (get_or-set_other (digits w n) c i b false other ∙ digit_is w n i in-range))
    (cases_eq i c))

-- a digit that is 1 counts 2^c
pub digit_counts : (w n c : ℕ) → free_at (digits w n) c ≡ true → 2 ^ c ≤ n
unfolding digits
digit_counts zero n c e = absurd (false≢true e)
digit_counts (suc w) n zero e = omega (arith, eqb-true (n % 2) 1 e)
digit_counts (suc w) n (suc c) e = omega (arith, pow-suc 2 c, digit_counts w (n / 2) c e)

-- and for one that is 0 there is room
pub digit_fits : (w n c : ℕ) → n < 2 ^ w → c < w → free_at (digits w n) c ≡ false → n + 2 ^ c < 2 ^ w
unfolding digits
digit_fits zero n c h l e = absurd (omega arith)
digit_fits (suc w) n zero h l e = omega (arith, pow-suc 2 w, eqb-false (n % 2) 1 e)
digit_fits (suc w) n (suc c) h l e =
    let up = pow-suc 2 w in omega (arith, up, pow-suc 2 c, digit_fits w (n / 2) c (omega arith) (omega arith) e)

-- taking 2^c out clears digit c and no other
pub digits_cleared : (w n c : ℕ) → free_at (digits w n) c ≡ true → digits w (n - 2 ^ c) ≡ slice_set (digits w n) c false
unfolding digits
digits_cleared zero n c e = refl
digits_cleared (suc w) n zero e =
    let odd = eqb-true (n % 2) 1 e in
    let low : nat_eq ((n - 1) % 2) 1 ≡ false = ne_eqb _ _ (omega arith) in
    let rest : (n - 1) / 2 ≡ n / 2 = omega arith in
    λ i. low i ∷ digits w (rest i)
digits_cleared (suc w) n (suc c) e =
    let up = pow-suc 2 c in
    let counts = digit_counts w (n / 2) c e in
    let low : (n - 2 ^ suc c) % 2 ≡ n % 2 = omega arith in
    let rest : (n - 2 ^ suc c) / 2 ≡ n / 2 - 2 ^ c = omega arith in
    λ i. (low i == 1) ∷ (ap (digits w) rest ∙ digits_cleared w (n / 2) c e) i

-- adding 2^c sets digit c and no other
pub digits_set : (w n c : ℕ) → free_at (digits w n) c ≡ false → digits w (n + 2 ^ c) ≡ slice_set (digits w n) c true
unfolding digits
digits_set zero n c e = refl
digits_set (suc w) n zero e =
    let even = eqb-false (n % 2) 1 e in
    let low : nat_eq ((n + 1) % 2) 1 ≡ true = eq-eqb _ _ (omega arith) in
    let rest : (n + 1) / 2 ≡ n / 2 = omega arith in
    λ i. low i ∷ digits w (rest i)
digits_set (suc w) n (suc c) e =
    let up = pow-suc 2 c in
    let low : (n + 2 ^ suc c) % 2 ≡ n % 2 = omega arith in
    let rest : (n + 2 ^ suc c) / 2 ≡ n / 2 + 2 ^ c = omega arith in
    λ i. (low i == 1) ∷ (ap (digits w) rest ∙ digits_set w (n / 2) c e) i

-- the highest digit
pub digit_top : (w n j : ℕ) → j < w → 2 ^ j ≤ n → n < 2 ^ suc j → free_at (digits w n) j ≡ true
unfolding digits
digit_top zero n j l h t = absurd (omega arith)
digit_top (suc w) n zero l h t = eq-eqb (n % 2) 1 (omega arith)
digit_top (suc w) n (suc j) l h t =
    let up = pow-suc 2 j in let upper = pow-suc 2 (suc j) in digit_top w (n / 2) j (omega arith) (omega arith) (omega arith)

pub digit_above : (w n k : ℕ) → n < 2 ^ k → free_at (digits w n) k ≡ false
unfolding digits
digit_above zero n k h = refl
digit_above (suc w) n zero h = ne_eqb (n % 2) 1 (omega arith)
digit_above (suc w) n (suc k) h = let up = pow-suc 2 k in digit_above w (n / 2) k (omega arith)

digit_value : (b : ℕ) → b < 2 → b ≡ cond (b == 1) 1 0
digit_value zero h = refl
digit_value (suc zero) h = refl
digit_value (suc (suc b)) h = absurd (omega arith)

pub digits_count : (w n : ℕ) → n < 2 ^ w → ones n ≡ free_count (digits w n)
unfolding digits
digits_count zero n h = omega (arith, ones-le 0 n h)
digits_count (suc w) n h =
    let up = pow-suc 2 w in
    let value = digit_value (n % 2) (omega arith) in
    ones_step n ∙ (λ i. value i + digits_count w (n / 2) (omega arith) i)

pub digits_none : (w : ℕ) → free_count (digits w 0) ≡ 0
unfolding ones
digits_none w = sym (digits_count w 0 (pow_pos w))

pub digits_all : digits 32 (2 ^ 32 - 1) ≡ all_free
unfolding digits all_free
digits_all = refl
