-- Rows that an address table takes one by one. Assumes nothing.
use Rattle.std.proofs.Common.{◌≡◌, ℕ, ◌%◌, ◌^◌, ◌<◌, Bool, true, false, cond, List, [], ◌∷◌, ◌++◌, length, is_some, Some, sym, refl, ap, ◌∙◌, append_assoc, zero-add, arith}
use Rattle.std.proofs.Math.Bridge.{le_prop}
use mathlib.Core.HLevel.{is_prop→PathP}
use Rattle.std.proofs.lemmas.Bool.{cond-false}
use Rattle.forwarding.specs.AddressTables.{row_put, table_loaded}
use Rattle.forwarding.specs.Rows.{first_wrong, fits_at, table_way}
use Rattle.forwarding.specs.Searches.{wrong_behind}
use Rattle.forwarding.specs.declared.rows.Row.{Row}
use Rattle.frame.specs.Refusals.{Told, accepted, refused, unless_wrong}
use Rattle.frame.specs.declared.numbers.Address.{Address}
use Rattle.records.specs.Format.{row_of}
use Rattle.records.specs.Tables.{address_of, low_bits, rows_in}

-- an address is the one of its number
same_address : (a : Address) → address_of a.bits ≡ a
same_address a =
    let e : a.bits % 2 ^ 48 ≡ a.bits = omega (arith, a.within) in
    λ i. record { bits = e i; within = is_prop→PathP (λ j. e j < 2 ^ 48) (λ j. le_prop) (low_bits a.bits) a.within i }

-- the table has these rows, and these are left of all
module _ (used : List Row) (row : Row) (pairs rest : List (ℕ × ℕ)) (all : List Row) (first : pairs ≡ row_of row ∷ rest) (left : used ++ rows_in pairs ≡ all) where
  taken : used ++ row ∷ rows_in rest ≡ all
  taken = sym (ap (λ l. used ++ rows_in l) first ∙ (λ i. used ++ record { address = same_address row.address i; ports = row.ports } ∷ rows_in rest)) ∙ left

  pub row_taken : (after : List Row) → ◌≡◌ {A = Told (Unit {0}) × List Row} (accepted tt, after) (row_put used row) → after ++ rows_in rest ≡ all
  row_taken after put = go (fits_at (length used) row) put
    where
      go : (fits : Bool) → ◌≡◌ {A = Told (Unit {0}) × List Row} (accepted tt, after) (cond fits (accepted tt, used ++ row ∷ []) (refused 10 (length used), used)) → after ++ rows_in rest ≡ all
      go true put = ap (λ l. l.1 ++ rows_in rest) put ∙ append_assoc used (row ∷ []) (rows_in rest) ∙ taken
      go false put = let said = ap (λ l. l.0) put in cc

  pub row_refused : is_some (first_wrong 0 used) ≡ false → (n v : ℕ) (after : List Row) → ◌≡◌ {A = Told (Unit {0}) × List Row} (refused n v, after) (row_put used row) → refused n v ≡ table_loaded all
  row_refused right n v after put = go (fits_at (length used) row) refl put
    where
      go : (fits : Bool) → fits_at (length used) row ≡ fits → ◌≡◌ {A = Told (Unit {0}) × List Row} (refused n v, after) (cond fits (accepted tt, used ++ row ∷ []) (refused 10 (length used), used)) → refused n v ≡ table_loaded all
      go true fits put = let said = ap (λ l. l.0) put in cc
      go false fits put =
          let said = ap (λ l. l.0) put in
          let number : n ≡ 10 = cc in
          let value : v ≡ length used = cc in
          let wrong : first_wrong 0 all ≡ Some (length used) = ap (first_wrong 0) (sym taken) ∙ wrong_behind 0 used (row ∷ rows_in rest) right ∙ ap (λ k. first_wrong k (row ∷ rows_in rest)) (zero-add (length used)) ∙ cond-false _ _ _ fits in
          (λ i. refused (number i) (value i)) ∙ ap (λ o. unless_wrong o (table_way all)) (sym wrong)
