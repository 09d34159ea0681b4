-- An opening's body `b`, of which `s` is what stands behind the two numbers. Assumes nothing.
use Rattle.std.proofs.Common.{◌≡◌, ℕ, ◌+◌, ◌-◌, ◌*◌, ◌/◌, ◌≤◌, true, not, eqb, List, length, get_or, take, drop, Some, ap, ◌∙◌, arith, length-drop}
use Rattle.std.proofs.lemmas.List.{get_or-drop, drop-drop, take_rest}
use Rattle.std.proofs.lemmas.Bool.{eq-eqb, le-leb, and_from}
use Rattle.frame.specs.Numbers.{number_at}
use Rattle.records.specs.Format.{Opened, rows_at, opening_in, opening_fits, unless}
use Rattle.records.proofs.Places.{number_of_two, number_drop, rows_drop}

module _ (b s : List ℕ) (behind : s ≡ drop 12 b) where
  byte : (i : ℕ) → get_or s i 0 ≡ get_or b (12 + i) 0
  byte i = ap (λ l. get_or l i 0) behind ∙ get_or-drop 12 b i 0

  -- the rows as the code cuts them off
  abbrev pub rows_of_settings : List ℕ
  rows_of_settings = take (length s - 10) (drop 10 s)

  module _ (long : 10 ≤ length s) (tap : get_or s 8 0 ≤ 1) (whole : length rows_of_settings ≡ 7 * get_or s 9 0) where
    the_rows : rows_of_settings ≡ drop 22 b
    the_rows = take_rest s 10 ∙ ap (drop 10) behind ∙ drop-drop 10 12 b

    fits : opening_fits b ≡ true
    fits =
        let exact : length b ≡ 22 + 7 * get_or b 21 0 = omega (arith, ap length the_rows, length-drop 22 b, ap length behind, length-drop 12 b, byte 9) in
        let flag : get_or b 20 0 ≤ 1 = omega (arith, byte 8) in
        and_from _ _ (eq-eqb _ _ exact) (le-leb _ _ flag)

    same_rows : rows_at rows_of_settings 0 (length rows_of_settings / 7) ≡ rows_at b 22 (get_or b 21 0)
    same_rows =
        let n : length rows_of_settings / 7 ≡ get_or b 21 0 = omega (arith, byte 9) in
        (λ j. rows_at (the_rows j) 0 (n j)) ∙ rows_drop b 22 0 (get_or b 21 0)

    two : (i : ℕ) → get_or s i 0 * 256 + get_or s (i + 1) 0 ≡ number_at b (12 + i) 2
    two i = number_of_two s i ∙ ap (λ l. number_at l i 2) behind ∙ number_drop b 12 i 2

    pub stands : (o : Opened) → o.slot ≡ number_at b 0 6 → o.number ≡ number_at b 6 6 → o.rate ≡ get_or s 0 0 * 256 + get_or s 1 0 → o.depth ≡ get_or s 2 0 * 256 + get_or s 3 0 → o.reserved ≡ get_or s 4 0 * 256 + get_or s 5 0 → o.best_effort ≡ get_or s 6 0 * 256 + get_or s 7 0 → o.tap ≡ eqb (get_or s 8 0) 1 → o.rows ≡ rows_at rows_of_settings 0 (length rows_of_settings / 7) → Some o ≡ unless (not (opening_fits b)) (opening_in b)
    stands o slot number rate depth reserved best_effort flag rows =
        rw fits (λ j. Some (record {
          slot = slot j;
          number = number j;
          rate = (rate ∙ two 0) j;
          depth = (depth ∙ two 2) j;
          reserved = (reserved ∙ two 4) j;
          best_effort = (best_effort ∙ two 6) j;
          tap = (flag ∙ ap (λ n. eqb n 1) (byte 8)) j;
          rows = (rows ∙ same_rows) j;
        }))
