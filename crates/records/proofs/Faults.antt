-- The record at place p of bs, by what the code sees of it. Assumes nothing.
use Rattle.std.proofs.Common.{◌≡◌, ◌≢◌, ℕ, ◌+◌, ◌-◌, ◌*◌, ◌<◌, ◌≤◌, Bool, true, false, cond, not, eqb, List, length, get_or, take, drop, Some, None, Option, sym, refl, ap, ◌∙◌, add-zero, ⊎_elim, arith, length-drop}
use mathlib.Core.Bool.{beq}
use Rattle.std.specs.Option.{option_map}
use Rattle.std.proofs.lemmas.List.{get_or-drop, drop-drop}
use Rattle.std.proofs.lemmas.Bool.{cases_lt, le-ltb, lt-leb, lt-ltb, cond-true, cond-false}
use Rattle.std.proofs.lemmas.Bool.Decides.{nat_tests}
use Rattle.frame.specs.Numbers.{below, number_at}
use Rattle.frame.specs.Refusals.{accepted, refused}
use Rattle.records.specs.Format.{Asked, length_at, version_at, kind_at, body_at, asked_by, asked_at, cut_at, place_behind, misplaced, fits, broken, unless, record_at, is_record, place_after}
use Rattle.records.proofs.Places.{number_of_two, number_drop}

unless_pair : {A : Type 0} (f : Bool) (x : A) (q : ℕ) → option_map {U = A × ℕ} (λ a. (a, q)) (unless f x) ≡ unless f (x, q)
unless_pair true x q = refl
unless_pair false x q = refl

-- s is what stands in bs from place p on
pub record Stands (bs : List ℕ) (p : ℕ) (s : List ℕ) : Type 0 where
  pub from : s ≡ drop p bs

module _ {bs : List ℕ} {p : ℕ} {s : List ℕ} (stands : Stands bs p s) where
  byte : (i : ℕ) → get_or s i 0 ≡ get_or bs (p + i) 0
  byte i = ap (λ l. get_or l i 0) stands.from ∙ get_or-drop p bs i 0

  room : length s ≡ length bs - p
  room = ap length stands.from ∙ length-drop p bs

  fault : broken bs p ≡ true → None ≡ cut_at bs p
  fault is = sym (cond-true _ _ _ is)

  pub too_short : length s < 4 → None ≡ cut_at bs p
  too_short few = fault (let n = room in grind (arith, nat_tests))

  pub other_version : get_or s 2 0 ≢ 1 → None ≡ cut_at bs p
  other_version other =
      let at : version_at bs p ≢ 1 = λ e. other (byte 2 ∙ e) in
      fault (grind (arith, nat_tests))

  -- the kind, by its number
  kind_low : (n : ℕ) → Some n ≡ below 5 (get_or s 3 0) → n ≡ kind_at bs p
  kind_low n is =
      let k = get_or s 3 0 in
      ⊎_elim (λ low. (let z : Some n ≡ Some k = is ∙ cond-true _ _ _ (lt-ltb k 5 low) in cc) ∙ byte 3) (λ high. absurd (let z : Some n ≡ None = is ∙ cond-false _ _ _ (le-ltb k 5 high) in cc)) (cases_lt k 5)

  kind_high : None ≡ below 5 (get_or s 3 0) → 5 ≤ kind_at bs p
  kind_high none =
      let k = get_or s 3 0 in
      ⊎_elim (λ low. absurd (let z : ◌≡◌ {A = Option ℕ} None (Some k) = none ∙ cond-true _ _ _ (lt-ltb k 5 low) in cc)) (λ high. omega (arith, byte 3)) (cases_lt k 5)

  pub other_kind : None ≡ below 5 (get_or s 3 0) → None ≡ cut_at bs p
  other_kind none = fault (let high = kind_high none in grind (arith, nat_tests))

  misplaced_is : (kind : ℕ) → misplaced kind p ≡ not (beq (eqb kind 0) (eqb p 0))
  misplaced_is kind = grind (arith, nat_tests)

  pub out_of_place : (kind : ℕ) → Some kind ≡ below 5 (get_or s 3 0) → not (beq (eqb kind 0) (eqb p 0)) ≡ true → None ≡ cut_at bs p
  out_of_place kind is wrong =
      let at : misplaced (kind_at bs p) p ≡ true = ap (λ k. misplaced k p) (sym (kind_low kind is)) ∙ misplaced_is kind ∙ wrong in
      fault (grind (arith, nat_tests))

  -- the number of bytes that the record counts
  module _ {l : ℕ} (counted : l ≡ get_or s 0 0 * 256 + get_or s 1 0) where
    counts : l ≡ length_at bs p
    counts =
        counted ∙ number_of_two s 0 ∙ ap (λ l. number_at l 0 2) stands.from ∙ number_drop bs p 0 2 ∙ ap (λ q. number_at bs q 2) (add-zero p)

    pub small : l < 2 → None ≡ cut_at bs p
    small few = fault (let n = counts in grind (arith, nat_tests))

    pub cut_off : 4 ≤ length s → length s < 2 + l → None ≡ cut_at bs p
    cut_off four more =
        let n = counts in
        let g : length bs < place_behind bs p = omega (arith, room) in
        fault (grind (arith, nat_tests))

    -- no fault in front of the body: what the body says of the record is all that is left to say
    pub by_body : (kind : ℕ) (body : List ℕ) (asked : Option Asked) → get_or s 2 0 ≡ 1 → 2 ≤ l → 2 + l ≤ length s → Some kind ≡ below 5 (get_or s 3 0) → not (beq (eqb kind 0) (eqb p 0)) ≡ false → body ≡ take (l - 2) (drop 4 s) → asked ≡ unless (not (fits kind body)) (asked_by kind body) → option_map {U = Asked × ℕ} (λ a. (a, p + 2 + l)) asked ≡ cut_at bs p
    by_body kind body asked version two whole is right cut says =
        let n = counts in
        let long : 2 ≤ length_at bs p = omega arith in
        let all : place_behind bs p ≤ length bs = omega (arith, room) in
        let v : version_at bs p ≡ 1 = sym (byte 2) ∙ version in
        let same_kind = kind_low kind is in
        let m : misplaced (kind_at bs p) p ≡ false = ap (λ k. misplaced k p) (sym same_kind) ∙ misplaced_is kind ∙ right in
        let e : broken bs p ≡ not (fits (kind_at bs p) (body_at bs p)) = grind (arith, nat_tests) in
        let same_body : body ≡ body_at bs p = cut ∙ (λ j. take (n j - 2) (drop 4 (stands.from j))) ∙ ap (take (length_at bs p - 2)) (drop-drop 4 p bs) in
        let told : asked ≡ unless (broken bs p) (asked_at bs p) = says ∙ (λ j. unless (not (fits (same_kind j) (same_body j))) (asked_by (same_kind j) (same_body j))) ∙ ap (λ f. unless f (asked_at bs p)) (sym e) in
        ap (option_map {U = Asked × ℕ} (λ a. (a, p + 2 + l))) told ∙ unless_pair (broken bs p) (asked_at bs p) (p + 2 + l) ∙ ap (λ n. unless (broken bs p) (asked_at bs p, p + 2 + n)) n

sound : {A : Type 0} (f : Bool) (x y : A) → Some x ≡ unless f y → (f ≡ false) × (x ≡ y)
sound true x y is = (cc, cc)
sound false x y is = (refl, cc)

faulty : {A : Type 0} (f : Bool) (y : A) → None ≡ unless f y → f ≡ true
faulty true y is = refl
faulty false y is = cc

-- what `next` answers, and where it goes on
module _ (bs : List ℕ) (p : ℕ) (short : length bs ≤ 65536) (before-end : p < length bs) where
  judged : record_at bs p ≡ cond (broken bs p) (refused 12 p) (accepted (Some (asked_at bs p)))
  judged = cond-false _ _ _ (le-ltb 65536 (length bs) short) ∙ cond-false _ _ _ (lt-leb (length bs) p before-end)

  pub read_on : (a : Asked) (q : ℕ) → Some (a, q) ≡ cut_at bs p → (accepted (Some a) ≡ record_at bs p) × (q ≡ place_after bs p)
  read_on a q is =
      let same = sound (broken bs p) (a, q) (asked_at bs p, place_behind bs p) is in
      let at : record_at bs p ≡ accepted (Some (asked_at bs p)) = judged ∙ cond-false _ _ _ same.0 in
      let goes : place_after bs p ≡ place_behind bs p = ap (λ t. cond (is_record t) (place_behind bs p) p) at in
      (ap (λ t. accepted (Some t.0)) same.1 ∙ sym at, ap (λ t. t.1) same.1 ∙ sym goes)

  pub refuse : None ≡ cut_at bs p → (refused 12 p ≡ record_at bs p) × (p ≡ place_after bs p)
  refuse is =
      let at : record_at bs p ≡ refused 12 p = judged ∙ cond-true _ _ _ (faulty (broken bs p) _ is) in
      (sym at, sym (ap (λ t. cond (is_record t) (place_behind bs p) p) at))
