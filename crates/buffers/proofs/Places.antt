-- Lists read as functions of the place. Assumes nothing.
use Rattle.std.proofs.Common.{◌≡◌, ℕ, ◌+◌, ◌<◌, eqb, List, map, length, get_or, take, drop, set, replicate, sym, ap, ◌∙◌, ⊎_elim, arith}
use Rattle.std.proofs.lemmas.List.{get_or-drop, get_or_past, get_or-replicate, get_or-set_other, get_or-set_same, get_or-take, length-map, length-replicate, length-take, map-set}
use Rattle.std.proofs.lemmas.Bool.{cases_eq, cases_lt, cond-false, cond-true, eq-eqb, ne_eqb}
use Rattle.rules.specs.Copies.{put}

-- a write at one place
pub set_put : {B : Type 0} (ys : List B) (d : B) (i : ℕ) (y : B) → i < length ys → (q : ℕ) → get_or (set ys i y) q d ≡ put (λ j. get_or ys j d) i y q
set_put ys d i y within q =
    ⊎_elim
    (λ same. ap (λ j. get_or (set ys i y) j d) same ∙ get_or-set_same ys i y d within ∙ sym (cond-true (eqb q i) y (get_or ys q d) (eq-eqb q i same)))
    (λ other. get_or-set_other ys i q y d other ∙ sym (cond-false (eqb q i) y (get_or ys q d) (ne_eqb q i other)))
    (cases_eq q i)

module _ {A B : Type 0} (f : A → B) (d : B) (xs : List A) (i : ℕ) (within : i < length xs) where
  -- the same of a list that is seen through f
  pub map_put : (x : A) → ◌≡◌ {A = ℕ → B} (λ q. get_or (map f (set xs i x)) q d) (put (λ q. get_or (map f xs) q d) i (f x))
  map_put x =
      (λ j q. get_or (map-set f xs i x j) q d)
      ∙ (λ j q. set_put (map f xs) d i (f x) (omega (arith, within, length-map xs f)) q j)

-- a list of one thing has it everywhere
pub same_everywhere : {B : Type 0} (n : ℕ) (d : B) (q : ℕ) → get_or (replicate n d) q d ≡ d
same_everywhere n d q =
    ⊎_elim
    (λ within. get_or-replicate n q d d within)
    (λ past. get_or_past (replicate n d) q d (omega (arith, past, length-replicate n d)))
    (cases_lt q n)

-- the same of any part of such a list
pub same_in_part : {B : Type 0} (d : B) (n m k i : ℕ) → get_or (take n (drop m (replicate k d))) i d ≡ d
same_in_part d n m k i =
    ⊎_elim
    (λ within. get_or-take n (drop m (replicate k d)) i d within ∙ get_or-drop m (replicate k d) i d ∙ same_everywhere k d (m + i))
    (λ past. get_or_past (take n (drop m (replicate k d))) i d (omega (arith, past, length-take n (drop m (replicate k d)))))
    (cases_lt i n)
