-- The entries of a ring of 32 places, from its head on: the first one taken out, and one more put in. Assumes nothing.
use Rattle.std.specs.Prelude.{◌≡◌, ℕ, suc, ◌+◌, ◌-◌, ◌%◌, ◌<◌, ◌≤◌, List, [], ◌∷◌, ◌++◌, length, take, drop, slice_index_or, slice_set}
use Rattle.std.proofs.Common.{sym, ap, ◌∙◌, ⊎_elim, append_assoc, arith, length-append, length-drop, length-set, drop_at, drop-cons, drop-set-lt, length-take-le}
use Rattle.std.proofs.Math.Seq.{take-append-add}
use Rattle.std.proofs.lemmas.List.{get_or_append_left, take_more_set, drop-append-le, drop-set-add, take-append-le}
use Rattle.std.proofs.lemmas.Bool.{cases_lt}
use Rattle.cells.specs.Rings.{turn}

module _ {E : Type 0} (es : List E) (long : length es ≡ 32) where
  doubled : length (es ++ es) ≡ 64
  doubled = omega (arith, length-append es es)

  pub length_turn : (h n : ℕ) → h < 32 → n ≤ 32 → length (turn es h n) ≡ n
  length_turn h n l m = length-take-le n (drop h (es ++ es)) (omega (arith, doubled, length-drop h (es ++ es)))

  -- up to the last place, and past it
  turn_short : (h n : ℕ) → h + n ≤ 32 → turn es h n ≡ take n (drop h es)
  turn_short h n l =
      ap (take n) (drop-append-le h es es (omega arith)) ∙ take-append-le n (drop h es) es (omega (arith, length-drop h es))

  turn_long : (h n t : ℕ) → h ≤ 32 → h + n ≡ 32 + t → turn es h n ≡ drop h es ++ take t es
  turn_long h n t l e =
      let back = length-drop h es in
      let is : n ≡ length (drop h es) + t = omega arith in
      ap (take n) (drop-append-le h es es (omega arith)) ∙ ap (λ k. take k (drop h es ++ es)) is ∙ take-append-add (drop h es) es t

  turn_on : (h n : ℕ) → h < 32 → n ≤ 32 → take n (drop (suc h) (es ++ es)) ≡ turn es ((h + 1) % 32) n
  turn_on h n l m =
      ⊎_elim
      (λ lt. let is : suc h ≡ (h + 1) % 32 = omega arith in ap (λ k. turn es k n) is)
      (λ ge.
      let last : suc h ≡ 32 = omega arith in
      let is : 0 ≡ (h + 1) % 32 = omega arith in
      ap (λ k. turn es k n) last ∙ ap (take n) (drop_at es es 32 long) ∙ sym (take-append-le n es es (omega arith)) ∙ ap (λ k. turn es k n) is)
      (cases_lt (suc h) 32)

  -- what stands at the head is first, and the others follow it; d stands for any default
  pub turn_first : (d : E) (h n : ℕ) → h < 32 → n ≤ 32 → 0 < n → turn es h n ≡ slice_index_or es h d ∷ turn es ((h + 1) % 32) (n - 1)
  turn_first d h n l m some =
      let n-is : n ≡ suc (n - 1) = omega arith in
      ap (turn es h) n-is
      ∙ ap (take (suc (n - 1))) (drop-cons (es ++ es) h d (omega (arith, doubled)))
      ∙ (λ i. get_or_append_left es es d h (omega arith) i ∷ turn_on h (n - 1) l (omega arith) i)

module _ {E : Type 0} (es : List E) (long : length es ≡ 32) (h n : ℕ) (e : E) (in-ring : h < 32) (room : n < 32) where
  abbrev put : List E
  put = slice_set es ((h + n) % 32) e

  put_long : length put ≡ 32
  put_long = length-set es _ e ∙ long

  -- what is put at the place behind the last is last
  pub turn_put : turn put h (n + 1) ≡ turn es h n ++ e ∷ []
  turn_put =
      ⊎_elim
      (λ lt.
      let at : (h + n) % 32 ≡ h + n = omega arith in
      turn_short put put_long h (n + 1) (omega arith)
      ∙ ap (λ k. take (n + 1) (drop h (slice_set es k e))) at
      ∙ ap (take (n + 1)) (drop-set-add h es n e)
      ∙ take_more_set (drop h es) n e (omega (arith, length-drop h es))
      ∙ ap (λ l. l ++ e ∷ []) (sym (turn_short es long h n (omega arith))))
      (λ ge.
      let t = (h + n) % 32 in
      turn_long put put_long h (n + 1) (t + 1) (omega arith) (omega arith)
      ∙ (λ i. drop-set-lt h es t e (omega arith) i ++ take_more_set es t e (omega arith) i)
      ∙ sym (append_assoc (drop h es) (take t es) (e ∷ []))
      ∙ ap (λ l. l ++ e ∷ []) (sym (turn_long es long h n t (omega arith) (omega arith))))
      (cases_lt (h + n) 32)
